-- How often records name a cell, and the cells that one of them names. Assumes nothing.
use Prim.Native.Nat.{ℕ, zero, suc, ◌+◌, ◌≤◌, ◌<◌}
use mathlib.Core.Path.{◌≡◌, refl, sym, ◌∙◌}
use mathlib.Core.Bool.{Bool, true, false, cond, false≢true}
use mathlib.Core.List.{List, [], ◌∷◌, ◌++◌}
use mathlib.Core.Logic.{◌⊎◌, inl, inr}
use native.Mathlib.Omega.{arith}
use borrow.Author.Tests.{lt-ltb, le-ltb, le-leb, ltb-true, ltb-false, leb-true, leb-false}
use lib.ListN.{length, take}
use lib.Dec.{eqb, ltb, leb}
use Rattle.definition_tape.specs.Layout.{length_of, kind_of, payload_of, rest_of, records_of, first_cell, cell_count}
use Rattle.definition_tape.specs.Judge.{names, times_named}
use Rattle.definition_tape.proofs.Records.{length_rest, length_payload, records_none, records_more}
use Rattle.tape_overlap.specs.declared.Cells.{Cells}
use Rattle.tape_overlap.specs.Again.{is_whole, cells_of}

-- ---- how often

pub times_more : (ts : List (List ℕ)) (t : List ℕ) (i : ℕ) → times_named (ts ++ (t ∷ [])) i ≡ times_named ts i + cond (names t i) 1 0
unfolding times_named
times_more [] t i = omega arith
times_more (u ∷ ts) t i = let more = times_more ts t i in omega arith

pub times_less : (r n : ℕ) (ts : List (List ℕ)) (i : ℕ) → r ≤ n → times_named (take r ts) i ≤ times_named (take n ts) i
unfolding times_named
times_less zero n ts i h = omega arith
times_less (suc r) zero ts i h = let no : ⊥ = omega arith in absurd no
times_less (suc r) (suc n) [] i h = omega arith
times_less (suc r) (suc n) (t ∷ ts) i h = let less = times_less r n ts i (omega arith) in omega arith

-- ---- the records of a tape are no more than its bytes

count_within : (f : ℕ) (t : List ℕ) → length t < f → length (records_of t) ≤ length t
count_within zero t h = let no : ⊥ = omega arith in absurd no
count_within (suc f) t h = at (ltb (length t) 6) refl (λ l. count_within f (rest_of t) (omega (arith, length_rest t)))
  where
    at : (b : Bool) → ltb (length t) 6 ≡ b → (6 ≤ length t → length (records_of (rest_of t)) ≤ length (rest_of t)) → length (records_of t) ≤ length t
    at true e less = rw (records_none t (ltb-true (length t) 6 e)) (omega arith)
    at false e less =
        let l = ltb-false (length t) 6 e in
        rw (records_more t l) (omega (arith, less l, length_rest t))

pub records_count : (t : List ℕ) → length (records_of t) ≤ length t
records_count t = count_within (suc (length t)) t (omega arith)

-- ---- the cells of one record

pub whole_fits : (t : List ℕ) → is_whole t ≡ true → 6 + length_of t ≤ length t
unfolding is_whole
whole_fits t w = leb-true (6 + length_of t) (length t) (at (ltb (length t) 6) w)
  where
    at : (b : Bool) → cond b false (leb (6 + length_of t) (length t)) ≡ true → leb (6 + length_of t) (length t) ≡ true
    at true e = absurd (false≢true e)
    at false e = e

-- the cell i is one of them
abbrev among : Cells → ℕ → Bool
among c i = cond (leb c.from i) (ltb i c.to) false

none_among : (f k i : ℕ) → k ≤ f → cond (leb f i) (ltb i k) false ≡ false
none_among f k i h = at (leb f i) refl
  where
    at : (b : Bool) → leb f i ≡ b → cond b (ltb i k) false ≡ false
    at true e = let l = leb-true f i e in le-ltb i k (omega arith)
    at false e = refl

names_is : (t : List ℕ) (i : ℕ) → is_whole t ≡ true → names t i ≡ among (cells_of t) i
unfolding names cells_of
names_is t i w = at (eqb (kind_of t) 1) (leb 8 (length_of t)) refl
  where
    at : (k b : Bool) → leb 8 (length_of t) ≡ b
        → cond k (cond (leb (first_cell (payload_of t)) i) (ltb i (first_cell (payload_of t) + cell_count (payload_of t))) false) false
        ≡ among (cond k (cond b (record { from = first_cell (payload_of t); to = first_cell (payload_of t) + cell_count (payload_of t) }) (record { from = 0; to = 0 })) (record { from = 0; to = 0 })) i
    at false b e = sym (none_among 0 0 i (omega arith))
    at true true e = refl
    at true false e =
        let l = leb-false 8 (length_of t) e in
        none_among (first_cell (payload_of t)) (first_cell (payload_of t) + cell_count (payload_of t)) i (omega (arith, length_payload t (whole_fits t w)))
        ∙ sym (none_among 0 0 i (omega arith))

inside : (f k i : ℕ) → cond (leb f i) (ltb i k) false ≡ true → (f ≤ i) × (i < k)
inside f k i h = at (leb f i) refl h
  where
    at : (b : Bool) → leb f i ≡ b → cond b (ltb i k) false ≡ true → (f ≤ i) × (i < k)
    at true e l = (leb-true f i e, ltb-true i k l)
    at false e l = absurd (false≢true l)

outside : (f k i : ℕ) → cond (leb f i) (ltb i k) false ≡ false → (i < f) ⊎ (k ≤ i)
outside f k i h = at (leb f i) refl h
  where
    at : (b : Bool) → leb f i ≡ b → cond b (ltb i k) false ≡ false → (i < f) ⊎ (k ≤ i)
    at true e l = inr (ltb-false i k l)
    at false e l = inl (leb-false f i e)

module _ (t : List ℕ) (i : ℕ) (w : is_whole t ≡ true) where
  pub named : names t i ≡ true → ((cells_of t).from ≤ i) × (i < (cells_of t).to)
  named e = inside (cells_of t).from (cells_of t).to i (sym (names_is t i w) ∙ e)

  pub unnamed : names t i ≡ false → (i < (cells_of t).from) ⊎ ((cells_of t).to ≤ i)
  unnamed e = outside (cells_of t).from (cells_of t).to i (sym (names_is t i w) ∙ e)

  pub named_in : (cells_of t).from ≤ i → i < (cells_of t).to → names t i ≡ true
  named_in f l = names_is t i w ∙ rw (le-leb (cells_of t).from i f, lt-ltb i (cells_of t).to l)
