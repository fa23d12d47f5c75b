-- A block's cells as the code tests them, the judge of a record whose kind is known by name, and the judge's loop. Assumes nothing.
use Prim.Native.Nat.{ℕ, suc, ◌+◌, ◌*◌, ◌-◌, ◌≤◌, ◌<◌}
use mathlib.Core.Path.{◌≡◌, refl, sym, ap, ◌∙◌}
use mathlib.Core.Bool.{Bool, true, false, not, cond, ◌&&◌, true≢false}
use mathlib.Core.List.{List, [], ◌∷◌, map}
use mathlib.Core.Logic.{◌⊎◌, inl, inr}
use native.Mathlib.Omega.{arith}
use native.Mathlib.Decide.{ℕ_discrete}
use borrow.Author.Tests.{leb-true, eqb-true, le-ltb, le-leb, eq-eqb, ne_eqb}
use lib.ListN.{length, take, drop, get_or, length-drop}
use lib.Dec.{ltb, leb, eqb}
use Rattle.std.specs.Int.{w32, from_le_bytes}
use Rattle.std.specs.List.{list_all}
use Rattle.std.specs.Prelude.{Option, None, Some}
use Rattle.std.specs.Option.{option_eq, unwrap_or}
use Rattle.machine.specs.declared.Refusal.{Refusal}
use Rattle.machine.specs.declared.Refusal.TheVariants.{TapeEnds, RecordLength, RecordOrder, BlockCell, BlockOverlap}
use Rattle.machine.specs.Verdicts.{Verdict, Accepted, Rejected}
use Rattle.acceptance.specs.Accept.{cell_fits, cells_fit}
use Rattle.definition_tape.specs.Layout.{number_at, length_of, kind_of, payload_of, first_cell, cell_count, cells_from, block_cells}
use Rattle.definition_tape.specs.Judge.{kind_known, in_order, length_fits, judge_block, judge_payload, judge_record, names, times_named, unnamed_cells, judge_after, judge_records}
use Rattle.definition_tape.proofs.Records.{length_payload}
use Rattle.definition_tape.proofs.Named.{names_cell, cell_named, unnamed_true, unnamed_back, FirstNamed}
use Rattle.definition_tape.proofs.Judged.{Good, good, block_payload}
use Rattle.tape_records.specs.declared.RecordKind.{RecordKind}
use Rattle.tape_records.specs.declared.RecordKind.TheVariants.{Block, Remark}
use Rattle.tape_records.specs.Kinds.{kind_number}
use Rattle.tape_records.proofs.Numbers.{known}
use Rattle.tape_overlap.specs.Again.{is_whole, Stop, FirstAgain}
use Rattle.tape_overlap.specs.Again.Stop.{after as behind, broken, again}
use Rattle.tape_overlap.proofs.Names.{times_less}
use Rattle.tape_overlap.proofs.Passes.{below, is, left, times, Passed}

both : (a b : Bool) → (a && b) ≡ cond a b false
both true b = refl
both false b = refl

pub fit_all : (xs : List (List ℕ)) → list_all (λ b. ltb (from_le_bytes w32 b) 134217728) xs ≡ cells_fit (map (from_le_bytes w32) xs)
unfolding cell_fits cells_fit
fit_all [] = refl
fit_all (x ∷ xs) = rw (fit_all xs) (both (ltb (from_le_bytes w32 x) 134217728) (cells_fit (map (from_le_bytes w32) xs)))

-- past the last cell nothing is left to fit
pub fit_none : (p : List ℕ) (at k i : ℕ) → k ≤ i → true ≡ cells_fit (cells_from p at (k - i))
unfolding cells_fit cells_from
fit_none p at k i h = let e : k - i ≡ 0 = omega arith in rw e

-- the cells from cell i on: that cell, then those from the next on
pub fit_step : (p : List ℕ) (k i : ℕ) → i < k
    → cells_fit (cells_from p (4 + 4 * i) (k - i)) ≡ cond (ltb (number_at p (4 + 4 * i)) 134217728) (cells_fit (cells_from p (4 + 4 * (i + 1)) (k - (i + 1)))) false
unfolding cells_fit cells_from
fit_step p k i h =
    let e : k - i ≡ suc (k - (i + 1)) = omega arith in
    let a : 4 + 4 * (i + 1) ≡ 4 + 4 * i + 4 = omega arith in
    rw (e, a)

-- the test of the length that was read, for the payload itself
pub payload_fits : (t p : List ℕ) (k l : ℕ) (b : Bool) → 6 + l ≤ length t → l ≡ length_of t → p ≡ payload_of t → b ≡ length_fits k l → b ≡ true → length_fits k (length p) ≡ true
payload_fits t p k l b h e q f o =
    let w : 6 + length_of t ≤ length t = omega (arith, e) in
    rw (q, length_payload t w, ← e) (sym f ∙ o)

pub judge_known : (n : ℕ) (after u : Bool) (t : List ℕ) (k : RecordKind) → kind_number k ≡ kind_of t
    → judge_record n after u t
    ≡ cond (in_order after (kind_number k))
    (cond (length_fits (kind_number k) (length_of t))
    (cond (leb (6 + length_of t) (length t)) (judge_payload n u (kind_number k) (payload_of t)) (Rejected TapeEnds)) (Rejected RecordLength)) (Rejected RecordOrder)
unfolding judge_record
judge_known n after u t k e = rw (← e, known k)

-- ---- `unnamed` matters for a whole block within the store alone

cond_same : (b : Bool) (x y z : Verdict) → (b ≡ true → x ≡ y) → cond b x z ≡ cond b y z
cond_same true x y z h = h refl
cond_same false x y z h = refl

module _ (n : ℕ) (after a b : Bool) (t : List ℕ) (h : 6 + length_of t ≤ length t → kind_of t ≡ 1 → first_cell (payload_of t) + cell_count (payload_of t) ≤ n → a ≡ b) where
  record_same : judge_record n after a t ≡ judge_record n after b t
  unfolding judge_record judge_payload judge_block
  record_same =
      cond_same (kind_known (kind_of t)) _ _ _
      (λ x. cond_same (in_order after (kind_of t)) _ _ _
      (λ x. cond_same (length_fits (kind_of t) (length_of t)) _ _ _
      (λ x. cond_same (leb (6 + length_of t) (length t)) _ _ _
      (λ w. cond_same (eqb (kind_of t) 1) _ _ _
      (λ k. cond_same (leb (first_cell (payload_of t) + cell_count (payload_of t)) n) _ _ _
      (λ p. ap (λ (u : Bool). cond u (cond (cells_fit (block_cells (payload_of t))) Accepted (Rejected BlockCell)) (Rejected BlockOverlap))
      (h (leb-true (6 + length_of t) (length t) w) (eqb-true (kind_of t) 1 k) (leb-true (first_cell (payload_of t) + cell_count (payload_of t)) n p))))))))

-- ---- the judge's loop

-- after the first n records of the row ts, all good, those of `more` are left; `first` is the number of the one that names a cell again
pub record Judging (cells : ℕ) (ts more : List (List ℕ)) (first n : ℕ) (after : Bool) : Type 0 where
  pub passed : Passed ts more n
  pub below : n ≤ first
  pub earlier : List (List ℕ)
  pub times : (i : ℕ) → times_named earlier i ≡ times_named (take n ts) i
  pub same : judge_records cells after earlier more ≡ judge_records cells false [] ts

pub judging_start : (cells : ℕ) (ts : List (List ℕ)) (first : ℕ) → Judging cells ts ts first 0 false
judging_start cells ts first = record { passed = record { rest = refl }; below = omega arith; earlier = []; times = λ i. refl; same = refl }

pub judging_end : (cells : ℕ) (ts more : List (List ℕ)) (first n : ℕ) (after : Bool) → Judging cells ts more first n after → more ≡ [] → Rejected TapeEnds ≡ judge_records cells false [] ts
unfolding judge_records
judging_end cells ts more first n after j e = rw e at j.same

module _ (cells : ℕ) (ts more rest : List (List ℕ)) (t : List ℕ) (first n : ℕ) (after u : Bool) (f : FirstAgain cells ts first) (j : Judging cells ts more first n after)
    (e : more ≡ t ∷ rest) (q : u ≡ not (eqb n first)) where
  here : drop n ts ≡ t ∷ rest
  here = sym j.passed.rest ∙ e

  -- where n is `first` the search stopped at this record, and it names a cell again
  abbrev Again : Type 0
  Again = FirstNamed j.earlier (first_cell (payload_of t)) (cell_count (payload_of t)) × (kind_of t ≡ 1)

  names_again : n ≡ first → 6 + length_of t ≤ length t → Again
  unfolding is_whole
  names_again d w = by f.stop
    where
      this : get_or ts first [] ≡ t
      this = rw (← d) (is ts n t rest here)

      by : Stop ts first → Again
      by (behind l) = let h = below ts n t rest here in (let no : ⊥ = omega arith in absurd no)
      by (broken b) = absurd (true≢false (sym (rw (le-ltb (length t) 6 (omega arith)) (le-leb (6 + length_of t) (length t) w)) ∙ rw this at b))
      by (again i m p) =
          let c = names_cell t i (rw this at m) in
          let l : 0 < times_named (take n ts) i = rw d p in
          (record { cell = i; from = c.from; below = c.below; named = omega (arith, j.times i) }, c.kind)

  unnamed_is : 6 + length_of t ≤ length t → kind_of t ≡ 1 → first_cell (payload_of t) + cell_count (payload_of t) ≤ cells
      → unnamed_cells j.earlier (payload_of t) ≡ not (eqb n first)
  unnamed_is w k p = by (ℕ_discrete n first)
    where
      no_one : (n ≡ first → ⊥) → (i : ℕ) → first_cell (payload_of t) ≤ i → i < first_cell (payload_of t) + cell_count (payload_of t) → times_named j.earlier i ≡ 0
      no_one o i a b =
          let l = j.below in
          let x = times_less (n + 1) first ts i (omega arith) in
          let y = f.once i (omega arith) in
          let z = times ts n t rest here i in
          let c : ◌≡◌ {A = ℕ} (cond (names t i) 1 0) 1 = rw (cell_named t i (record { kind = k; from = a; below = b })) in
          omega (arith, j.times i)

      some : (b : Bool) → unnamed_cells j.earlier (payload_of t) ≡ b → Again → b ≡ false
      some false d g = refl
      some true d g =
          let z = unnamed_true j.earlier (first_cell (payload_of t)) (cell_count (payload_of t)) d g.0.cell g.0.from g.0.below in
          let h = g.0.named in
          let no : ⊥ = omega arith in absurd no

      by : Dec (n ≡ first) → unnamed_cells j.earlier (payload_of t) ≡ not (eqb n first)
      by (yes d) = rw (eq-eqb n first d) (some (unnamed_cells j.earlier (payload_of t)) refl (names_again d w))
      by (no o) = rw (ne_eqb n first o) (unnamed_back j.earlier (first_cell (payload_of t)) (cell_count (payload_of t)) (no_one o))

  judged : (v : Verdict) → judge_record cells after u t ≡ v → judge_after v t (judge_records cells (eqb (kind_of t) 2) (t ∷ j.earlier) rest) ≡ judge_records cells false [] ts
  unfolding judge_records
  judged v d =
      let a = record_same cells after (unnamed_cells j.earlier (payload_of t)) u t (λ w k p. unnamed_is w k p ∙ sym q) ∙ d in
      let s = rw e at j.same in
      rw a at s

  pub judged_refused : (r : Refusal) → judge_record cells after u t ≡ Rejected r → Rejected r ≡ judge_records cells false [] ts
  judged_refused r d = judged (Rejected r) d

  pub judged_end : judge_record cells after u t ≡ Accepted → kind_of t ≡ 3 → cond (leb (length t) (6 + length_of t)) Accepted (Rejected RecordOrder) ≡ judge_records cells false [] ts
  judged_end d k = rw (eq-eqb (kind_of t) 3 k) at (judged Accepted d)

  not_first : Good cells after u t → n < first
  not_first g = by (ℕ_discrete n first)
    where
      by : Dec (n ≡ first) → n < first
      by (yes z) =
          let k = (names_again z g.whole).1 in
          absurd (true≢false (sym (block_payload cells u (payload_of t) (rw k at g.payload)).1 ∙ q ∙ rw (eq-eqb n first z)))
      by (no z) = omega (arith, j.below)

  pub judged_on : (b : Bool) → judge_record cells after u t ≡ Accepted → (kind_of t ≡ 3 → ⊥) → b ≡ eqb (kind_of t) 2 → Judging cells ts rest first (n + 1) b
  unfolding times_named
  judged_on b d k c =
      let m = not_first (good cells after u t d) in
      record {
        passed = record { rest = sym (left ts n t rest here) };
        below = omega arith;
        earlier = t ∷ j.earlier;
        times = λ i. omega (arith, j.times i, times ts n t rest here i);
        same = rw (c, ← judged Accepted d, ne_eqb (kind_of t) 3 k);
      }

-- the code's test of the number n of a record
test_is : (o : Option ℕ) (n l : ℕ) → n < l → not (option_eq eqb o (Some n)) ≡ not (eqb n (unwrap_or o l))
test_is None n l h = rw (ne_eqb n l (λ e. omega arith))
test_is (Some m) n l h = by (ℕ_discrete n m)
  where
    by : Dec (n ≡ m) → not (eqb m n) ≡ not (eqb n m)
    by (yes e) = rw e
    by (no o) = rw (ne_eqb n m o, ne_eqb m n (λ e. o (sym e)))

pub told : (ts more rest : List (List ℕ)) (t : List ℕ) (o : Option ℕ) (n m : ℕ) (u : Bool) → Passed ts more n → more ≡ t ∷ rest → m ≡ n → u ≡ not (option_eq eqb o (Some m))
    → u ≡ not (eqb n (unwrap_or o (length ts)))
told ts more rest t o n m u p e d q = rw d at q ∙ test_is o n (length ts) (below ts n t rest (sym p.rest ∙ e))

pub records_left : (ts more rest : List (List ℕ)) (t : List ℕ) (n : ℕ) → Passed ts more n → more ≡ t ∷ rest → n + 1 + length rest ≡ length ts
records_left ts more rest t n p e = omega (arith, length-drop n ts, ap length (sym p.rest ∙ e))

pub neither : (k : RecordKind) (n : ℕ) → kind_number k ≡ n → (k ≡ Block) ⊎ (k ≡ Remark) → (n ≡ 3 → ⊥) × (false ≡ eqb n 2)
neither k n e (inl b) = let q = rw b at e in (λ z. omega arith, sym (ne_eqb n 2 (λ z. omega arith)))
neither k n e (inr b) = let q = rw b at e in (λ z. omega arith, sym (ne_eqb n 2 (λ z. omega arith)))
