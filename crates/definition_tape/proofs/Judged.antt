-- What the judge's verdict says of the records. Assumes nothing.
use Prim.Native.Nat.{ℕ, zero, suc, ◌+◌, ◌%◌, ◌≤◌, ◌<◌}
use mathlib.Core.Path.{◌≡◌, refl, sym, ◌∙◌}
use mathlib.Core.Bool.{Bool, true, false, cond}
use mathlib.Core.List.{List, [], ◌∷◌}
use native.Mathlib.Omega.{arith}
use mathlib.Core.Logic.{◌⊎◌, inl, inr, ⊎_elim}
use borrow.Author.Tests.{le-leb, eq-eqb, ne_eqb, ltb-true, ltb-false, leb-true, eqb-true, eqb-false}
use lib.ListN.{length}
use lib.Dec.{ltb, leb, eqb}
use Rattle.machine.specs.declared.Refusal.TheVariants.{StoreSize, ControlField, TimerField, TapeEnds, RecordOrder}
use Rattle.machine.specs.Verdicts.{Verdict, Accepted, Rejected}
use Rattle.acceptance.specs.Accept.{size_fits, cells_fit, timer_fits, judge_store, judge_timer}
use Rattle.acceptance.proofs.Tests.{refused, passed, both}
use Rattle.definition_tape.specs.Layout.{length_of, kind_of, payload_of, rest_of, records_of, first_cell, cell_count, block_cells, timer_of}
use Rattle.definition_tape.specs.Judge.{kind_known, in_order, length_fits, judge_block, control_good, judge_control, judge_payload, judge_record, unnamed_cells, judge_after, judge_records, judge_tape}
use Rattle.definition_tape.specs.Load.{judge_then, judge_load}
use Rattle.definition_tape.specs.Remark.{judge_reading}
use Rattle.definition_tape.proofs.Records.{length_rest, records_none, records_more}

-- ---- an accepted record passed every test

pub record Good (n : ℕ) (after unnamed : Bool) (t : List ℕ) : Type 0 where
  pub known : kind_known (kind_of t) ≡ true
  pub order : in_order after (kind_of t) ≡ true
  pub size : length_fits (kind_of t) (length_of t) ≡ true
  pub whole : 6 + length_of t ≤ length t
  pub payload : judge_payload n unnamed (kind_of t) (payload_of t) ≡ Accepted

pub good : (n : ℕ) (after u : Bool) (t : List ℕ) → judge_record n after u t ≡ Accepted → Good n after u t
unfolding judge_record
good n after u t e =
    let a = passed _ _ _ e in
    let b = passed _ _ _ a.1 in
    let c = passed _ _ _ b.1 in
    let d = passed _ _ _ c.1 in
    record { known = a.0; order = b.0; size = c.0; whole = leb-true (6 + length_of t) (length t) d.0; payload = d.1 }

good_back : (n : ℕ) (after u : Bool) (t : List ℕ) → Good n after u t → judge_record n after u t ≡ Accepted
unfolding judge_record
good_back n after u t g = rw (g.known, g.order, g.size, le-leb (6 + length_of t) (length t) g.whole) g.payload

-- ---- what the tests say of each kind

pub block_length : (l : ℕ) → length_fits 1 l ≡ true → (l % 4 ≡ 0) × (8 ≤ l)
unfolding length_fits
block_length l e = let h = both _ _ e in (eqb-true (l % 4) 0 h.0, leb-true 8 l h.1)

pub control_length : (l : ℕ) → length_fits 2 l ≡ true → (l ≡ 20) ⊎ (l ≡ 33)
unfolding length_fits
control_length l e = at (eqb l 20) refl e
  where
    at : (b : Bool) → eqb l 20 ≡ b → cond b true (eqb l 33) ≡ true → (l ≡ 20) ⊎ (l ≡ 33)
    at true f e = inl (eqb-true l 20 f)
    at false f e = inr (eqb-true l 33 e)

pub control_least : (l : ℕ) → length_fits 2 l ≡ true → 20 ≤ l
control_least l e = ⊎_elim (λ z. omega arith) (λ z. omega arith) (control_length l e)

pub end_length : (l : ℕ) → length_fits 3 l ≡ true → l ≡ 0
unfolding length_fits
end_length l e = eqb-true l 0 e

pub remark_length_lem : (l : ℕ) → length_fits 4 l ≡ true → l ≤ 255
unfolding length_fits
remark_length_lem l e = leb-true l 255 e

pub block_payload : (n : ℕ) (u : Bool) (p : List ℕ) → judge_payload n u 1 p ≡ Accepted → (first_cell p + cell_count p ≤ n) × (u ≡ true) × (cells_fit (block_cells p) ≡ true)
unfolding judge_payload judge_block
block_payload n u p e =
    let a = passed _ _ _ e in
    let b = passed _ _ _ a.1 in
    let c = passed _ _ _ b.1 in
    (leb-true (first_cell p + cell_count p) n a.0, b.0, c.0)

-- 18 behind 3
pub control_judged : (p : List ℕ) → judge_control p ≡ cond (control_good p) (cond (timer_fits (timer_of p)) Accepted (Rejected TimerField)) (Rejected ControlField)
unfolding judge_control
control_judged p = at (control_good p)
  where
    at : (b : Bool) → judge_timer (cond b Accepted (Rejected ControlField)) (timer_of p) ≡ cond b (cond (timer_fits (timer_of p)) Accepted (Rejected TimerField)) (Rejected ControlField)
    at true = refl
    at false = refl

pub control_payload_lem : (n : ℕ) (u : Bool) (p : List ℕ) → judge_payload n u 2 p ≡ Accepted → (control_good p ≡ true) × (timer_fits (timer_of p) ≡ true)
unfolding judge_payload
control_payload_lem n u p e =
    let a = passed _ _ _ (sym (control_judged p) ∙ e) in
    let b = passed _ _ _ a.1 in
    (a.0, b.0)

-- ---- an accepted tape, from a record on

pub data Judged (n : ℕ) : Bool → List (List ℕ) → List ℕ → Type 0 where
  last : {after : Bool} {earlier : List (List ℕ)} {t : List ℕ} → Good n after (unnamed_cells earlier (payload_of t)) t → kind_of t ≡ 3 → length t ≤ 6 + length_of t
      → Judged n after earlier t
  more : {after : Bool} {earlier : List (List ℕ)} {t : List ℕ} → Good n after (unnamed_cells earlier (payload_of t)) t → (kind_of t ≡ 3 → ⊥)
      → Judged n (eqb (kind_of t) 2) (t ∷ earlier) (rest_of t) → Judged n after earlier t

after_good : (n : ℕ) (after u : Bool) (t : List ℕ) (rest v : Verdict) → judge_record n after u t ≡ v → judge_after v t rest ≡ Accepted
    → Good n after u t × (judge_after Accepted t rest ≡ Accepted)
after_good n after u t rest (Rejected r) e h = refused h
after_good n after u t rest Accepted e h = (good n after u t e, h)

ending : (t : List ℕ) (rest : Verdict) (b : Bool) → eqb (kind_of t) 3 ≡ b
    → cond b (cond (leb (length t) (6 + length_of t)) Accepted (Rejected RecordOrder)) rest ≡ Accepted
    → ((kind_of t ≡ 3) × (length t ≤ 6 + length_of t)) ⊎ ((kind_of t ≡ 3 → ⊥) × (rest ≡ Accepted))
ending t rest true e h = inl (eqb-true (kind_of t) 3 e, leb-true (length t) (6 + length_of t) (passed _ _ _ h).0)
ending t rest false e h = inr (eqb-false (kind_of t) 3 e, h)

pub no_records : (n : ℕ) (after : Bool) (earlier : List (List ℕ)) (t : List ℕ) → length t < 6 → judge_records n after earlier (records_of t) ≡ Rejected TapeEnds
unfolding judge_records
no_records n after earlier t h = rw (records_none t h)

pub a_record : (n : ℕ) (after : Bool) (earlier : List (List ℕ)) (t : List ℕ) → 6 ≤ length t
    → judge_records n after earlier (records_of t)
    ≡ judge_after (judge_record n after (unnamed_cells earlier (payload_of t)) t) t (judge_records n (eqb (kind_of t) 2) (t ∷ earlier) (records_of (rest_of t)))
unfolding judge_records
a_record n after earlier t h = rw (records_more t h)

judged_at : (n : ℕ) (after : Bool) (earlier : List (List ℕ)) (t : List ℕ) (b : Bool) → ltb (length t) 6 ≡ b
    → (6 ≤ length t → judge_records n (eqb (kind_of t) 2) (t ∷ earlier) (records_of (rest_of t)) ≡ Accepted → Judged n (eqb (kind_of t) 2) (t ∷ earlier) (rest_of t))
    → judge_records n after earlier (records_of t) ≡ Accepted → Judged n after earlier t
judged_at n after earlier t true e ih h = refused (sym (no_records n after earlier t (ltb-true (length t) 6 e)) ∙ h)
judged_at n after earlier t false e ih h =
    let l = ltb-false (length t) 6 e in
    let u = unnamed_cells earlier (payload_of t) in
    let g = after_good n after u t _ (judge_record n after u t) refl (sym (a_record n after earlier t l) ∙ h) in
    ⊎_elim (λ z. last g.0 z.0 z.1) (λ z. more g.0 z.0 (ih l z.1)) (ending t _ (eqb (kind_of t) 3) refl g.1)

judged_within : (f n : ℕ) (after : Bool) (earlier : List (List ℕ)) (t : List ℕ) → length t < f → judge_records n after earlier (records_of t) ≡ Accepted → Judged n after earlier t
judged_within zero n after earlier t l h = let no : ⊥ = omega arith in absurd no
judged_within (suc f) n after earlier t l h =
    judged_at n after earlier t (ltb (length t) 6) refl
    (λ k. judged_within f n (eqb (kind_of t) 2) (t ∷ earlier) (rest_of t) (omega (arith, length_rest t)))
    h

judged : (n : ℕ) (after : Bool) (earlier : List (List ℕ)) (t : List ℕ) → judge_records n after earlier (records_of t) ≡ Accepted → Judged n after earlier t
judged n after earlier t = judged_within (suc (length t)) n after earlier t (omega arith)

pub judged_back : {n : ℕ} {after : Bool} {earlier : List (List ℕ)} {t : List ℕ} → Judged n after earlier t → judge_records n after earlier (records_of t) ≡ Accepted
judged_back {n} {after} {earlier} {t} (last g k h) =
    let w = g.whole in
    let six : 6 ≤ length t = omega arith in
    a_record n after earlier t six ∙ rw (good_back n after _ t g, eq-eqb (kind_of t) 3 k, le-leb (length t) (6 + length_of t) h)
judged_back {n} {after} {earlier} {t} (more g k j) =
    let w = g.whole in
    let six : 6 ≤ length t = omega arith in
    a_record n after earlier t six ∙ rw (good_back n after _ t g, ne_eqb (kind_of t) 3 k) (judged_back j)

pub no_end : (n : ℕ) (after u : Bool) (t : List ℕ) → Good n after u t → kind_of t ≡ 3 → after ≡ false → ⊥
unfolding in_order
no_end n after u t g k a = let h = rw (k, a) at g.order in (let z : ◌≡◌ {A = ℕ} 0 1 = cc in omega arith)

-- ---- whole tapes
pub tape_judged : (n : ℕ) (t : List ℕ) → judge_tape n t ≡ Accepted → (length t ≤ 65536) × Judged n false [] t
unfolding judge_tape
tape_judged n t e = let a = passed _ _ _ e in (leb-true (length t) 65536 a.0, judged n false [] t a.1)

pub passed_then : (v w : Verdict) → judge_then v w ≡ Accepted → (v ≡ Accepted) × (w ≡ Accepted)
passed_then (Rejected r) w e = refused e
passed_then Accepted w e = (refl, e)

pub load_accepts : (t s : List ℕ) → judge_load t s ≡ Accepted → judge_tape (length s) t ≡ Accepted
unfolding judge_load
load_accepts t s e = (passed_then (judge_store s) _ e).1

pub reading_judged : (t : List ℕ) (n : ℕ) → judge_reading t n ≡ Accepted → Judged n false [] t
unfolding judge_reading
reading_judged t n e = (tape_judged n t (passed (size_fits n) (judge_tape n t) StoreSize e).1).1
