-- The first record that a tape yields is the tape, with a header; the others are those of the tape after it. Assumes nothing.
use Prim.Native.Nat.{ℕ, ◌≤◌}
use mathlib.Core.Path.{◌≡◌, refl, sym, ◌∙◌}
use mathlib.Core.Bool.{Bool, true, false}
use mathlib.Core.List.{List, [], ◌∷◌}
use borrow.Author.Tests.{ltb-true, ltb-false}
use lib.ListN.{length}
use lib.Dec.{ltb}
use Rattle.definition_tape.specs.Layout.{rest_of, records_of}
use Rattle.definition_tape.proofs.Records.{records_none, records_more}

-- the record t is the tape s
pub record First (s t : List ℕ) (rest : List (List ℕ)) : Type 0 where
  pub header : 6 ≤ length s
  pub is : t ≡ s
  pub others : rest ≡ records_of (rest_of s)

pub first : (s t : List ℕ) (rest : List (List ℕ)) → records_of s ≡ t ∷ rest → First s t rest
first s t rest e = by (ltb (length s) 6) refl
  where
    by : (b : Bool) → ltb (length s) 6 ≡ b → First s t rest
    by true q = let n = sym (records_none s (ltb-true (length s) 6 q)) ∙ e in cc
    by false q =
        let l = ltb-false (length s) 6 q in
        let m = sym (records_more s l) ∙ e in
        record { header = l; is = cc; others = cc }

pub header : (s t : List ℕ) (rest : List (List ℕ)) → records_of s ≡ t ∷ rest → 6 ≤ length t
header s t rest e = let f = first s t rest e in rw f.is f.header
