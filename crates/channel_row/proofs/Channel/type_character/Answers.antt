use native.Mathlib.Numerals.{add-one}
use Rattle.std.proofs.Common.{◌≡◌, ℕ, suc, ◌+◌, ◌%◌, ◌<◌, List, length, take, drop, set, arith}
use lib.Seq.{drop-cons, drop-set-lt, take-suc-set}
use Rattle.definition_instructions.specs.Channel.{typing_on}
use Rattle.channel_row.specs.Row.{channel_at}
use Rattle.channel_row.proofs.Channel.type_character.Goals as goal

typed_on : (n v r w : ℕ) (cs t : List ℕ) → n < length t
    → (record { reader = r; typewriter = v; characters = cs; typed = take (n + 1) (set t n (v % 256)); space = drop (n + 1) (set t n (v % 256)) })
    ≡ typing_on v (drop n t) (record { reader = r; typewriter = w; characters = cs; typed = take n t; space = drop n t })
typed_on n v r w cs t l = rw (add-one n, take-suc-set t n (v % 256) l, drop-set-lt (suc n) t n (v % 256) (omega arith), drop-cons t n 0 l)

pub returns-then-self-clause-value : goal.returns-then-self-clause-value
unfolding channel_at
returns-then-self-clause-value c = typed_on _ _ _ _ _ _ c.if-self.true
