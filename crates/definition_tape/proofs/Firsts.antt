-- The first record of a kind: where it stands on a tape. Assumes nothing.
use Prim.Native.Nat.{ℕ, zero, suc, ◌+◌, ◌-◌, ◌≤◌, ◌<◌}
use mathlib.Core.Path.{◌≡◌, refl, sym, ap, ◌∙◌}
use mathlib.Core.Bool.{Bool, true, false}
use mathlib.Core.List.{List, []}
use native.Mathlib.Omega.{arith}
use native.Mathlib.Decide.{ℕ_discrete}
use native.Mathlib.Nat.{add-sub_cancel_left}
use borrow.Author.Tests.{eq-eqb, ne_eqb, ltb-true, ltb-false, leb-true, leb-false}
use lib.ListN.{length, take, drop, length-drop, drop_of_length-le}
use lib.Seq.{drop-drop}
use lib.Dec.{ltb, leb}
use Rattle.definition_tape.specs.Layout.{length_of, kind_of, payload_of, rest_of, records_of, first_of}
use Rattle.definition_tape.proofs.Records.{length_rest, records_none, records_more}

pub first_none : (k : ℕ) (t : List ℕ) → length t < 6 → first_of k (records_of t) ≡ []
unfolding first_of
first_none k t h = rw (records_none t h)

pub first_here : (k : ℕ) (t : List ℕ) → 6 ≤ length t → kind_of t ≡ k → first_of k (records_of t) ≡ t
unfolding first_of
first_here k t h e = rw (records_more t h, eq-eqb (kind_of t) k e)

pub first_next : (k : ℕ) (t : List ℕ) → 6 ≤ length t → (kind_of t ≡ k → ⊥) → first_of k (records_of t) ≡ first_of k (records_of (rest_of t))
unfolding first_of
first_next k t h e = rw (records_more t h, ne_eqb (kind_of t) k e)

-- ---- it is the tape from a place on
pub record Suffix (m t : List ℕ) : Type 0 where
  pub size : length m ≤ length t
  pub is : m ≡ drop (length t - length m) t
  pub header : 0 < length m → 6 ≤ length m

suffix_none : (t : List ℕ) → Suffix [] t
suffix_none t = record { size = omega arith; is = sym (drop_of_length-le t {i = length t - 0} (omega arith)); header = λ h. let no : ⊥ = omega arith in absurd no }

suffix_all : (t : List ℕ) → 6 ≤ length t → Suffix t t
suffix_all t h = let z : length t - length t ≡ 0 = omega arith in record { size = omega arith; is = rw z; header = λ l. h }

suffix_drop : (n : ℕ) (m t : List ℕ) → n ≤ length t → Suffix m (drop n t) → Suffix m t
suffix_drop n m t h s =
    let l = length-drop n t in
    let z : n + (length (drop n t) - length m) ≡ length t - length m = omega (arith, s.size) in
    record {
      size = omega (arith, s.size);
      is = s.is ∙ drop-drop (length (drop n t) - length m) n t ∙ ap (λ (j : ℕ). drop j t) z;
      header = s.header;
    }

-- what is left after a record, if it is whole
suffix_rest : (k : ℕ) (t : List ℕ) (b : Bool) → leb (6 + length_of t) (length t) ≡ b
    → Suffix (first_of k (records_of (rest_of t))) (rest_of t) → Suffix (first_of k (records_of (rest_of t))) t
unfolding rest_of
suffix_rest k t true e s = suffix_drop (6 + length_of t) _ t (leb-true (6 + length_of t) (length t) e) s
suffix_rest k t false e s =
    let l = leb-false (6 + length_of t) (length t) e in
    rw (first_none k (rest_of t) (omega (arith, length_rest t))) (suffix_none t)

suffix_at : (k : ℕ) (t : List ℕ) (b : Bool) → ltb (length t) 6 ≡ b → (6 ≤ length t → Suffix (first_of k (records_of (rest_of t))) (rest_of t)) → Suffix (first_of k (records_of t)) t
suffix_at k t true e ih = rw (first_none k t (ltb-true (length t) 6 e)) (suffix_none t)
suffix_at k t false e ih = at (ℕ_discrete (kind_of t) k) (ltb-false (length t) 6 e)
  where
    at : Dec (kind_of t ≡ k) → 6 ≤ length t → Suffix (first_of k (records_of t)) t
    at (yes y) h = rw (first_here k t h y) (suffix_all t h)
    at (no y) h = rw (first_next k t h y) (suffix_rest k t (leb (6 + length_of t) (length t)) refl (ih h))

suffix_within : (f k : ℕ) (t : List ℕ) → length t < f → Suffix (first_of k (records_of t)) t
suffix_within zero k t h = let no : ⊥ = omega arith in absurd no
suffix_within (suc f) k t h = suffix_at k t (ltb (length t) 6) refl (λ l. suffix_within f k (rest_of t) (omega (arith, length_rest t)))

pub suffix : (k : ℕ) (t : List ℕ) → Suffix (first_of k (records_of t)) t
suffix k t = suffix_within (suc (length t)) k t (omega arith)

-- the bytes between the payload's start and end are the payload
pub part_is : (m t : List ℕ) → Suffix m t → take (length t - length m + 6 + length_of m - (length t - length m + 6)) (drop (length t - length m + 6) t) ≡ payload_of m
unfolding payload_of
part_is m t s =
    rw add-sub_cancel_left
    (ap (take (length_of m)) (sym (drop-drop 6 (length t - length m) t) ∙ ap (drop 6) (sym s.is)))
