-- The cells that the records of a tape name. Assumes nothing.
use Prim.Native.Nat.{ℕ, zero, suc, ◌+◌, ◌≤◌, ◌<◌}
use mathlib.Core.Path.{◌≡◌, refl, sym}
use mathlib.Core.Bool.{true, false}
use mathlib.Core.List.{List}
use native.Mathlib.Omega.{arith}
use native.Mathlib.Decide.{ℕ_discrete}
use borrow.Author.Tests.{eq-eqb, ne_eqb, le-leb, lt-ltb, eqb-true, leb-true, ltb-true}
use lib.Dec.{eqb, leb}
use Rattle.acceptance.proofs.Tests.{both}
use Rattle.definition_tape.specs.Layout.{kind_of, payload_of, first_cell, cell_count, NamesCell}
use Rattle.definition_tape.specs.Judge.{names, times_named, unnamed_from}

-- ---- one record

pub names_cell : (t : List ℕ) (i : ℕ) → names t i ≡ true → NamesCell t i
unfolding names
names_cell t i e =
    let a = both (eqb (kind_of t) 1) _ e in
    let b = both (leb (first_cell (payload_of t)) i) _ a.1 in
    record { kind = eqb-true (kind_of t) 1 a.0; from = leb-true (first_cell (payload_of t)) i b.0; below = ltb-true i (first_cell (payload_of t) + cell_count (payload_of t)) b.1 }

pub cell_named : (t : List ℕ) (i : ℕ) → NamesCell t i → names t i ≡ true
unfolding names
cell_named t i n =
    rw (eq-eqb (kind_of t) 1 n.kind, le-leb (first_cell (payload_of t)) i n.from, lt-ltb i (first_cell (payload_of t) + cell_count (payload_of t)) n.below)

pub not_block : (t : List ℕ) (i : ℕ) → (kind_of t ≡ 1 → ⊥) → names t i ≡ false
unfolding names
not_block t i o = rw (ne_eqb (kind_of t) 1 o)

-- ---- several

pub unnamed_true : (ts : List (List ℕ)) (i k : ℕ) → unnamed_from ts i k ≡ true → (j : ℕ) → i ≤ j → j < i + k → times_named ts j ≡ 0
unfolding unnamed_from
unnamed_true ts i zero e j a b = let no : ⊥ = omega arith in absurd no
unnamed_true ts i (suc k) e j a b =
    let h = both (eqb (times_named ts i) 0) (unnamed_from ts (i + 1) k) e in
    at (ℕ_discrete i j) (eqb-true (times_named ts i) 0 h.0) (λ l. unnamed_true ts (i + 1) k h.1 j l (omega arith))
  where
    at : Dec (i ≡ j) → times_named ts i ≡ 0 → (i + 1 ≤ j → times_named ts j ≡ 0) → times_named ts j ≡ 0
    at (yes q) z ih = rw (sym q) z
    at (no q) z ih = ih (omega arith)

pub unnamed_back : (ts : List (List ℕ)) (i k : ℕ) → ((j : ℕ) → i ≤ j → j < i + k → times_named ts j ≡ 0) → unnamed_from ts i k ≡ true
unfolding unnamed_from
unnamed_back ts i zero h = refl
unnamed_back ts i (suc k) h =
    rw (eq-eqb (times_named ts i) 0 (h i (omega arith) (omega arith)))
    (unnamed_back ts (i + 1) k (λ j a b. h j (omega arith) (omega arith)))

-- the first of the cells that is named
pub record FirstNamed (ts : List (List ℕ)) (i k : ℕ) : Type 0 where
  pub cell : ℕ
  pub from : i ≤ cell
  pub below : cell < i + k
  pub named : 0 < times_named ts cell

pub unnamed_false : (ts : List (List ℕ)) (i k : ℕ) → unnamed_from ts i k ≡ false → FirstNamed ts i k
unfolding unnamed_from
unnamed_false ts i zero e = absurd (let z : ◌≡◌ {A = ℕ} 0 1 = cc in omega arith)
unnamed_false ts i (suc k) e = at (ℕ_discrete (times_named ts i) 0) (unnamed_false ts (i + 1) k)
  where
    at : Dec (times_named ts i ≡ 0) → (unnamed_from ts (i + 1) k ≡ false → FirstNamed ts (i + 1) k) → FirstNamed ts i (suc k)
    at (yes z) ih =
        let f = ih (rw (eq-eqb (times_named ts i) 0 z) at e) in
        record { cell = f.cell; from = omega (arith, f.from); below = omega (arith, f.below); named = f.named }
    at (no z) ih = record { cell = i; from = omega arith; below = omega arith; named = omega arith }
