-- A tape as a row of records, whatever the bound on their number: its first record, then the records of what is left. Assumes nothing.
use Prim.Native.Nat.{ℕ, zero, suc, ◌+◌, ◌-◌, ◌≤◌, ◌<◌}
use mathlib.Core.Path.{◌≡◌, refl, ap}
use mathlib.Core.Bool.{Bool, true, false, cond}
use mathlib.Core.List.{List, [], ◌∷◌}
use native.Mathlib.Omega.{arith}
use borrow.Author.Tests.{lt-ltb, le-ltb, ltb-false}
use lib.ListN.{length, length-drop, length-take}
use lib.Dec.{ltb}
use Rattle.definition_tape.specs.Layout.{length_of, payload_of, rest_of, records_within, records_of}

pub length_rest : (t : List ℕ) → length (rest_of t) ≡ length t - (6 + length_of t)
unfolding rest_of
length_rest t = length-drop (6 + length_of t) t

pub length_payload : (t : List ℕ) → 6 + length_of t ≤ length t → length (payload_of t) ≡ length_of t
unfolding payload_of
length_payload t h = simp (length-take, length-drop) (omega arith)

enough : (f g : ℕ) (t : List ℕ) → length t < f → length t < g → records_within f t ≡ records_within g t
unfolding records_within
enough zero g t hf hg = let no : ⊥ = omega arith in absurd no
enough (suc f) zero t hf hg = let no : ⊥ = omega arith in absurd no
enough (suc f) (suc g) t hf hg = at (ltb (length t) 6) refl (enough f g (rest_of t))
  where
    at : (b : Bool) → ltb (length t) 6 ≡ b
        → (length (rest_of t) < f → length (rest_of t) < g → records_within f (rest_of t) ≡ records_within g (rest_of t))
        → cond b [] (t ∷ records_within f (rest_of t)) ≡ cond b [] (t ∷ records_within g (rest_of t))
    at true e ih = refl
    at false e ih =
        let h = ltb-false (length t) 6 e in
        ap (◌∷◌ t) (ih (omega (arith, length_rest t)) (omega (arith, length_rest t)))

-- no header is left
pub records_none : (t : List ℕ) → length t < 6 → records_of t ≡ []
unfolding records_of records_within
records_none t h = rw (lt-ltb (length t) 6 h)

pub records_more : (t : List ℕ) → 6 ≤ length t → records_of t ≡ t ∷ records_of (rest_of t)
unfolding records_of records_within
records_more t h =
    rw (le-ltb (length t) 6 h)
    (ap (◌∷◌ t) (enough (length t) (suc (length (rest_of t))) (rest_of t) (omega (arith, length_rest t)) (omega arith)))
