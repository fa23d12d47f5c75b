use Rattle.std.proofs.Common.{◌≡◌, ℕ, Bool, true, false, List, length, drop, leb, refl}
use lib.ListN.{drop_of_length-le}
use lib.Seq.{drop-cons}
use borrow.Author.Tests.{leb-true, leb-false}
use Rattle.definition_instructions.specs.Channel.{none_left}
use Rattle.channel_row.specs.Row.{channel_at}
use Rattle.channel_row.proofs.Channel.is_typing_full.Goals as goal

none_by : (n : ℕ) (xs : List ℕ) (b : Bool) → leb (length xs) n ≡ b → b ≡ none_left (drop n xs)
none_by n xs true e = rw (drop_of_length-le xs (leb-true _ _ e))
none_by n xs false e = rw (drop-cons xs n 0 (leb-false _ _ e))

pub returns : goal.returns
unfolding channel_at
returns c = none_by _ _ _ refl
