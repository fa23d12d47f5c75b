-- The records of an accepted tape are as the loader relies on: each block lies within the store, the control record comes, then only the end.
-- Assumes nothing.
use Prim.Native.Nat.{ℕ, ◌+◌, ◌≤◌, ◌<◌}
use mathlib.Core.Path.{◌≡◌, refl, ◌∙◌}
use mathlib.Core.Bool.{Bool, true, false}
use mathlib.Core.List.{List, [], ◌∷◌}
use native.Mathlib.Omega.{arith}
use borrow.Author.Tests.{eq-eqb, ne_eqb, eqb-true}
use lib.ListN.{length}
use lib.Dec.{eqb}
use Rattle.machine.specs.Verdicts.{Accepted}
use Rattle.definition_tape.specs.Layout.{length_of, kind_of, payload_of, rest_of, records_of, first_cell, cell_count}
use Rattle.definition_tape.specs.Judge.{in_order, judge_tape}
use Rattle.definition_tape.specs.Load.{load_record, load_records}
use Rattle.definition_tape.proofs.Records.{length_rest}
use Rattle.definition_tape.proofs.Loads.{load_more, load_none}
use Rattle.definition_tape.proofs.Judged.{Good, Judged, last, more, block_length, block_payload, control_least, tape_judged, no_end}

-- a whole record whose block, if it is one, lies within n cells
pub record RecordFits (n : ℕ) (t : List ℕ) : Type 0 where
  pub whole : 6 + length_of t ≤ length t
  pub block : kind_of t ≡ 1 → (4 ≤ length_of t) × (first_cell (payload_of t) + cell_count (payload_of t) ≤ n)

record_fits : {n : ℕ} {after u : Bool} {t : List ℕ} → Good n after u t → RecordFits n t
record_fits {n} {after} {u} {t} g =
    record {
      whole = g.whole;
      block =
          λ e.
          let l = block_length (length_of t) (rw e at g.size) in
          let p = block_payload n u (payload_of t) (rw e at g.payload) in
          (omega arith, p.0);
    }

-- ---- from a record on, with the control record ahead

pub record Ahead (n : ℕ) (t : List ℕ) : Type 0 where
  pub earlier : List (List ℕ)
  pub judged : Judged n false earlier t

pub ahead : (n : ℕ) (t : List ℕ) → judge_tape n t ≡ Accepted → Ahead n t
ahead n t e = record { earlier = []; judged = (tape_judged n t e).1 }

judged_fits : {n : ℕ} {after : Bool} {earlier : List (List ℕ)} {t : List ℕ} → Judged n after earlier t → RecordFits n t
judged_fits (last g k h) = record_fits g
judged_fits (more g k j) = record_fits g

pub ahead_fits : (n : ℕ) (t : List ℕ) → Ahead n t → RecordFits n t
ahead_fits n t a = judged_fits a.judged

-- the end does not come before the control record
judged_on : {n : ℕ} {after : Bool} {earlier : List (List ℕ)} {t : List ℕ} → Judged n after earlier t → after ≡ false → Judged n (eqb (kind_of t) 2) (t ∷ earlier) (rest_of t)
judged_on {n} {after} {earlier} {t} (last g k h) a = absurd (no_end n after _ t g k a)
judged_on (more g k j) a = j

pub ahead_on : (n : ℕ) (t : List ℕ) → Ahead n t → (kind_of t ≡ 2 → ⊥) → Ahead n (rest_of t)
ahead_on n t a o = record { earlier = t ∷ a.earlier; judged = rw (ne_eqb (kind_of t) 2 o) at (judged_on a.judged refl) }

-- ---- the control record

judged_control : {n : ℕ} {after : Bool} {earlier : List (List ℕ)} {t : List ℕ} → Judged n after earlier t → kind_of t ≡ 2 → 20 ≤ length_of t
judged_control {n} {after} {earlier} {t} (last g k h) e = control_least (length_of t) (rw e at g.size)
judged_control {n} {after} {earlier} {t} (more g k j) e = control_least (length_of t) (rw e at g.size)

pub ahead_control : (n : ℕ) (t : List ℕ) → Ahead n t → kind_of t ≡ 2 → 20 ≤ length_of t
ahead_control n t a e = judged_control a.judged e

pub passed_by : (s t : List ℕ) → (kind_of t ≡ 1 → ⊥) → load_record s t ≡ s
unfolding load_record
passed_by s t o = rw (ne_eqb (kind_of t) 1 o)

-- only the end follows it
end_alone : {n : ℕ} {after : Bool} {earlier : List (List ℕ)} {t : List ℕ} (s : List ℕ) → Judged n after earlier t → after ≡ true → load_records s (records_of t) ≡ s
unfolding in_order
end_alone {n} {after} {earlier} {t} s (last g k h) a =
    let w = g.whole in
    let none : length (rest_of t) < 6 = omega (arith, length_rest t) in
    load_more s t (omega arith) ∙ rw (passed_by s t (λ e. omega arith)) (load_none s (rest_of t) none)
end_alone {n} {after} {earlier} {t} s (more g k j) a = absurd (k (eqb-true (kind_of t) 3 (rw a at g.order)))

pub control_last : (n : ℕ) (s t : List ℕ) → Ahead n t → kind_of t ≡ 2 → load_records s (records_of t) ≡ s
control_last n s t a e =
    let w = (ahead_fits n t a).whole in
    load_more s t (omega arith) ∙ rw (passed_by s t (λ o. omega arith)) (end_alone s (judged_on a.judged refl) (eq-eqb (kind_of t) 2 e))
