-- The judge gives the number that is due. Assumes nothing.
use Prim.Native.Nat.{ℕ, zero, suc, ◌+◌, ◌%◌, ◌≤◌, ◌<◌}
use mathlib.Core.Path.{◌≡◌, refl, sym, ap, ◌∙◌}
use mathlib.Core.Bool.{Bool, true, false, cond, true≢false}
use mathlib.Core.List.{List, [], ◌∷◌}
use mathlib.Core.Logic.{◌⊎◌, inl, inr, ⊎_elim}
use native.Mathlib.Omega.{arith}
use native.Mathlib.Decide.{ℕ_discrete}
use borrow.Author.Tests.{le-leb, eq-eqb, ne_eqb, ltb-true, ltb-false, leb-true, leb-false, eqb-true, eqb-false, not-true, not-false}
use lib.ListN.{length, get_or}
use lib.Dec.{ltb, leb, eqb}
use Rattle.machine.specs.Answers.{refusal_number, verdict_number}
use Rattle.machine.specs.declared.Timer.{Timer}
use Rattle.machine.specs.declared.Record.{Record}
use Rattle.machine.specs.declared.Refusal.{Refusal}
use Rattle.machine.specs.declared.Refusal.TheVariants.{StoreSize, CellValue, ControlField, Lines, Budget, TapeEnds, RecordKind, RecordLength, BlockPlace, BlockCell, RecordOrder, TapeLength, Device, RemarkLength, WrittenLength, BufferLength, BlockOverlap, TimerField, LineGrammar, LineDepth, LineValue}
use Rattle.machine.specs.Verdicts.{Verdict, Accepted, Rejected}
use Rattle.acceptance.proofs.Tests.{refused}
use Rattle.acceptance.specs.Accept.{size_fits, cells_fit, timer_fits, judge_store}
use Rattle.definition_tape.specs.Layout.{length_of, kind_of, payload_of, rest_of, records_of, first_of, first_cell, cell_count, block_cells, timer_of}
use Rattle.definition_tape.specs.Judge.{kind_known, in_order, length_fits, judge_block, control_good, judge_control, judge_payload, judge_record, names, times_named, unnamed_cells, judge_after, judge_records, judge_tape}
use Rattle.definition_tape.specs.Load.{judge_then, judge_load, loaded_by}
use Rattle.definition_tape.specs.Remark.{judge_reading, no_span, span_at, span_by, remark_span, text_by, remark_text}
use Rattle.definition_tape.proofs.Records.{length_rest}
use Rattle.definition_tape.proofs.Judged.{block_length, control_length, control_judged, end_length, remark_length_lem, no_records, a_record}
use Rattle.definition_tape.proofs.Named.{names_cell, cell_named, unnamed_true, unnamed_false}
use Rattle.tape_promises.specs.Grammar.{RegistersPayload, TimerRules}
use Rattle.tape_promises.specs.Numbers.{Test, met, unmet, Passed, OutOfOrder, LengthFor, SomeNames, NamesAgain, RecordRefused, RecordsRefused, this_one, later_one, TapeRefused, SizeRefused, LoadRefused, ReadingRefused}
use Rattle.tape_promises.specs.Claims.{Call, called, TapeNumbers, LoadNumbers, ReadingNumbers}
use Rattle.tape_promises.proofs.Claims.{under, called_is}
use Rattle.tape_promises.proofs.Grammars.{registers_of_lem, registers_good, timer_rules, timer_good, control_fits_lem}

-- m is the number that P allows, 0 where it allows none
abbrev pub Gives : ℕ → (ℕ → Type 0) → Type 0
Gives m P = (k : ℕ) → (P k → (m ≡ k) × (0 < k)) × (0 < k → m ≡ k → P k)

pub gives_none : Gives 0 Passed
gives_none k = (λ z. absurd z, λ l e. let no : ⊥ = omega arith in absurd no)

-- a test that is passed
skip : {m r : ℕ} {C : Type 0} {P : ℕ → Type 0} → (C → ⊥) → Gives m P → Gives m (Test r C P)
skip {m} {r} {C} {P} o g k = (at, λ l e. unmet o ((g k).1 l e))
  where
    at : Test r C P k → (m ≡ k) × (0 < k)
    at (met c e) = absurd (o c)
    at (unmet x p) = (g k).0 p

-- the test b of the code fails exactly if the condition C is met
pub record Decides (b : Bool) (C : Type 0) : Type 0 where
  pub passes : b ≡ true → C → ⊥
  pub fails : b ≡ false → C

-- a test, of a verdict with what follows it
pub tested : (F : Verdict → ℕ) (b : Bool) (v : Verdict) (q : Refusal) {r : ℕ} {C : Type 0} {P : ℕ → Type 0} → F (Rejected q) ≡ r → 0 < r → Decides b C
    → (b ≡ true → Gives (F v) P) → Gives (F (cond b v (Rejected q))) (Test r C P)
tested F true v q f z d g = skip (d.passes refl) (g refl)
tested F false v q {r} {C} {P} f z d g = λ k. (at k, λ l e. met (d.fails refl) (sym e ∙ f))
  where
    at : (k : ℕ) → Test r C P k → (F (Rejected q) ≡ k) × (0 < k)
    at k (met c e) = (f ∙ sym e, omega arith)
    at k (unmet x p) = absurd (x (d.fails refl))

pub not_both : {A : Type 0} {b : Bool} → b ≡ true → b ≡ false → A
not_both e f = absurd (true≢false (sym e ∙ f))

-- ---- the code's tests

within : (low high k : ℕ) → Decides (cond (ltb k low) false (leb k high)) ((k < low) ⊎ (high < k))
within low high k = at (ltb k low) refl (leb k high) refl
  where
    at : (a : Bool) → ltb k low ≡ a → (b : Bool) → leb k high ≡ b → Decides (cond a false b) ((k < low) ⊎ (high < k))
    at true p b q = record { passes = λ e. not_both e refl; fails = λ e. inl (ltb-true k low p) }
    at false p true q =
        let l = ltb-false k low p in
        let h = leb-true k high q in
        record { passes = λ e. ⊎_elim (λ z. omega arith) (λ z. omega arith); fails = λ e. not_both refl e }
    at false p false q = record { passes = λ e. not_both e refl; fails = λ e. inr (leb-false k high q) }

pub above : (a b : ℕ) → Decides (leb a b) (b < a)
above a b = record { passes = λ e l. let h = leb-true a b e in omega arith; fails = leb-false a b }

kind_decides : (k : ℕ) → Decides (kind_known k) ((k < 1) ⊎ (4 < k))
unfolding kind_known
kind_decides k = within 1 4 k

order_decides : (after : Bool) (k : ℕ) → Decides (in_order after k) (OutOfOrder after k)
unfolding in_order
order_decides true k = record { passes = λ e o. o (eqb-true k 3 e); fails = eqb-false k 3 }
order_decides false k = record { passes = λ e o. eqb-false k 3 (not-true (eqb k 3) e) o; fails = λ e. eqb-true k 3 (not-false (eqb k 3) e) }

length_fits_lem : (k l : ℕ) → 1 ≤ k → k ≤ 4 → LengthFor k l → length_fits k l ≡ true
unfolding length_fits
length_fits_lem k l a b f = at (ℕ_discrete k 1) (ℕ_discrete k 2) (ℕ_discrete k 3)
  where
    at : Dec (k ≡ 1) → Dec (k ≡ 2) → Dec (k ≡ 3) → length_fits k l ≡ true
    at (yes e) x y = let h = f.block e in rw (e, eq-eqb (l % 4) 0 h.0, le-leb 8 l h.1)
    at (no o) (yes e) y = rw e (control_fits_lem l (f.control e))
    at (no o) (no x) (yes e) = rw (e, eq-eqb l 0 (f.end e))
    at (no o) (no x) (no y) = let e : k ≡ 4 = omega arith in rw (e, le-leb l 255 (f.remark e))

length_for : (k l : ℕ) → length_fits k l ≡ true → LengthFor k l
length_for k l e =
    record {
      block = λ z. block_length l (rw z at e);
      control = λ z. control_length l (rw z at e);
      end = λ z. end_length l (rw z at e);
      remark = λ z. remark_length_lem l (rw z at e);
    }

length_decides : (k l : ℕ) → ((k < 1) ⊎ (4 < k) → ⊥) → Decides (length_fits k l) (LengthFor k l → ⊥)
length_decides k l o =
    let a : k < 1 → ⊥ = λ z. o (inl z) in
    let b : 4 < k → ⊥ = λ z. o (inr z) in
    record { passes = λ e f. f (length_for k l e); fails = λ e f. not_both (length_fits_lem k l (omega arith) (omega arith) f) e }

pub timer_decides : (t : Timer) → Decides (timer_fits t) (TimerRules t → ⊥)
timer_decides t = record { passes = λ e o. o (timer_rules t e); fails = λ e r. not_both (timer_good t r) e }

-- ---- one record

num : List ℕ → Verdict → ℕ
num t v = verdict_number (judge_after v t Accepted)

abbrev BytesAfter : List ℕ → ℕ → Type 0
BytesAfter t = Test 11 ((kind_of t ≡ 3) × (6 + length_of t < length t)) Passed

end_gives : (t : List ℕ) → Gives (num t Accepted) (BytesAfter t)
unfolding num
end_gives t = at (eqb (kind_of t) 3) refl
  where
    at : (b : Bool) → eqb (kind_of t) 3 ≡ b → Gives (verdict_number (cond b (cond (leb (length t) (6 + length_of t)) Accepted (Rejected RecordOrder)) Accepted)) (BytesAfter t)
    at true e =
        let d = above (length t) (6 + length_of t) in
        tested verdict_number (leb (length t) (6 + length_of t)) Accepted RecordOrder refl (omega arith)
        (record { passes = λ x c. d.passes x c.1; fails = λ x. (eqb-true (kind_of t) 3 e, d.fails x) })
        (λ x. gives_none)
    at false e = skip (λ c. eqb-false (kind_of t) 3 e c.0) gives_none

-- ---- the cells that earlier records name

some_names : (ts : List (List ℕ)) (i : ℕ) → 0 < times_named ts i → SomeNames ts i
unfolding times_named SomeNames
some_names [] i h = let no : ⊥ = omega arith in absurd no
some_names (t ∷ ts) i h = at (names t i) refl (some_names ts i) h
  where
    at : (b : Bool) → names t i ≡ b → (0 < times_named ts i → SomeNames ts i) → 0 < cond b 1 0 + times_named ts i → SomeNames (t ∷ ts) i
    at true e ih h = inl (names_cell t i e)
    at false e ih h = inr (ih (omega arith))

names_some : (ts : List (List ℕ)) (i : ℕ) → SomeNames ts i → 0 < times_named ts i
unfolding times_named SomeNames
names_some [] i n = absurd n
names_some (t ∷ ts) i (inl n) = rw (cell_named t i n) (omega arith)
names_some (t ∷ ts) i (inr n) = let h = names_some ts i n in omega arith

again_decides : (earlier : List (List ℕ)) (t : List ℕ) → kind_of t ≡ 1 → Decides (unnamed_cells earlier (payload_of t)) (NamesAgain earlier t)
again_decides earlier t k =
    record {
      passes =
          λ e a.
          let z = unnamed_true earlier (first_cell (payload_of t)) (cell_count (payload_of t)) e a.cell a.here.from a.here.below in
          let h = names_some earlier a.cell a.before in
          omega arith;
      fails =
          λ e.
          let f = unnamed_false earlier (first_cell (payload_of t)) (cell_count (payload_of t)) e in
          record { cell = f.cell; here = record { kind = k; from = f.from; below = f.below }; before = some_names earlier f.cell f.named };
    }

module _ (n : ℕ) (earlier : List (List ℕ)) (t : List ℕ) (w : 6 + length_of t ≤ length t) (f : LengthFor (kind_of t) (length_of t)) where
  abbrev PayloadRefused : ℕ → Type 0
  PayloadRefused =
      Test 9 ((kind_of t ≡ 1) × (n < first_cell (payload_of t) + cell_count (payload_of t)))
      (Test 17 (NamesAgain earlier t)
      (Test 10 ((kind_of t ≡ 1) × (cells_fit (block_cells (payload_of t)) ≡ false)) (Test 3 ((kind_of t ≡ 2) × (RegistersPayload (payload_of t) → ⊥))
      (Test 18 ((kind_of t ≡ 2) × (TimerRules (timer_of (payload_of t)) → ⊥)) (BytesAfter t)))))

  abbrev unnamed : Bool
  unnamed = unnamed_cells earlier (payload_of t)

  block_gives : kind_of t ≡ 1 → Gives (num t (judge_block n unnamed (payload_of t))) PayloadRefused
  unfolding judge_block num
  block_gives e =
      let d = above (first_cell (payload_of t) + cell_count (payload_of t)) n in
      tested (num t) (leb (first_cell (payload_of t) + cell_count (payload_of t)) n) _ BlockPlace refl (omega arith)
      (record { passes = λ x c. d.passes x c.1; fails = λ x. (e, d.fails x) })
      (λ x. tested (num t) unnamed _ BlockOverlap refl (omega arith) (again_decides earlier t e)
      (λ y. tested (num t) (cells_fit (block_cells (payload_of t))) Accepted BlockCell refl (omega arith)
      (record { passes = λ z c. not_both z c.1; fails = λ z. (e, z) })
      (λ z. skip (λ c. let q = c.0 in omega arith) (skip (λ c. let q = c.0 in omega arith) (end_gives t)))))

  control_gives : kind_of t ≡ 2 → Gives (num t (judge_control (payload_of t))) PayloadRefused
  unfolding num
  control_gives e =
      rw (control_judged (payload_of t))
      (skip (λ c. let z = c.0 in omega arith)
      (skip (λ a. let z = a.here.kind in omega arith)
      (skip (λ c. let z = c.0 in omega arith)
      (tested (num t) (control_good (payload_of t)) _ ControlField refl (omega arith)
      (record { passes = λ x c. c.1 (registers_of_lem (payload_of t) x); fails = λ x. (e, λ c. not_both (registers_good (payload_of t) c) x) })
      (λ x. tested (num t) (timer_fits (timer_of (payload_of t))) Accepted TimerField refl (omega arith)
      (record { passes = λ y c. (timer_decides (timer_of (payload_of t))).passes y c.1; fails = λ y. (e, (timer_decides (timer_of (payload_of t))).fails y) })
      (λ y. end_gives t))))))

  payload_gives : Gives (num t (judge_payload n unnamed (kind_of t) (payload_of t))) PayloadRefused
  unfolding judge_payload
  payload_gives = at (ℕ_discrete (kind_of t) 1) (ℕ_discrete (kind_of t) 2)
    where
      at : Dec (kind_of t ≡ 1) → Dec (kind_of t ≡ 2) → Gives (num t (judge_payload n unnamed (kind_of t) (payload_of t))) PayloadRefused
      at (yes e) x = rw (eq-eqb (kind_of t) 1 e) (block_gives e)
      at (no o) (yes e) = rw (ne_eqb (kind_of t) 1 o, eq-eqb (kind_of t) 2 e) (control_gives e)
      at (no o) (no x) =
          rw (ne_eqb (kind_of t) 1 o, ne_eqb (kind_of t) 2 x)
          (skip (λ c. o c.0) (skip (λ a. o a.here.kind) (skip (λ c. o c.0) (skip (λ c. x c.0) (skip (λ c. x c.0) (end_gives t))))))

-- the verdict on a record after the records `earlier`
abbrev judged_record : ℕ → Bool → List (List ℕ) → List ℕ → Verdict
judged_record n after earlier t = judge_record n after (unnamed_cells earlier (payload_of t)) t

record_judged : ℕ → Bool → List (List ℕ) → List ℕ → ℕ
record_judged n after earlier t = num t (cond (leb 6 (length t)) (judged_record n after earlier t) (Rejected TapeEnds))

record_gives : (n : ℕ) (after : Bool) (earlier : List (List ℕ)) (t : List ℕ) → Gives (record_judged n after earlier t) (RecordRefused n after earlier t)
unfolding record_judged judge_record num
record_gives n after earlier t =
    tested (num t) (leb 6 (length t)) _ TapeEnds refl (omega arith) (above 6 (length t))
    (λ s. tested (num t) (kind_known (kind_of t)) _ RecordKind refl (omega arith) (kind_decides (kind_of t))
    (λ a. tested (num t) (in_order after (kind_of t)) _ RecordOrder refl (omega arith) (order_decides after (kind_of t))
    (λ b. tested (num t) (length_fits (kind_of t) (length_of t)) _ RecordLength refl (omega arith) (length_decides (kind_of t) (length_of t) ((kind_decides (kind_of t)).passes a))
    (λ c. tested (num t) (leb (6 + length_of t) (length t)) _ TapeEnds refl (omega arith) (above (6 + length_of t) (length t))
    (λ d. payload_gives n earlier t (leb-true (6 + length_of t) (length t) d) (length_for (kind_of t) (length_of t) c))))))

-- ---- a number tells its verdict

verdicts : List Verdict
verdicts =
    Accepted ∷ Rejected StoreSize ∷ Rejected CellValue ∷ Rejected ControlField ∷ Rejected Lines ∷ Rejected Budget ∷ Rejected TapeEnds ∷ Rejected RecordKind
    ∷ Rejected RecordLength ∷ Rejected BlockPlace ∷ Rejected BlockCell ∷ Rejected RecordOrder ∷ Rejected TapeLength ∷ Rejected Device
    ∷ Rejected RemarkLength ∷ Rejected WrittenLength ∷ Rejected BufferLength ∷ Rejected BlockOverlap ∷ Rejected TimerField
    ∷ Rejected LineGrammar ∷ Rejected LineDepth ∷ Rejected LineValue ∷ []

told : (v : Verdict) → get_or verdicts (verdict_number v) Accepted ≡ v
unfolding verdicts
told Accepted = refl
told (Rejected StoreSize) = refl
told (Rejected CellValue) = refl
told (Rejected ControlField) = refl
told (Rejected Lines) = refl
told (Rejected Budget) = refl
told (Rejected TapeEnds) = refl
told (Rejected RecordKind) = refl
told (Rejected RecordLength) = refl
told (Rejected BlockPlace) = refl
told (Rejected BlockCell) = refl
told (Rejected RecordOrder) = refl
told (Rejected TapeLength) = refl
told (Rejected Device) = refl
told (Rejected RemarkLength) = refl
told (Rejected WrittenLength) = refl
told (Rejected BufferLength) = refl
told (Rejected BlockOverlap) = refl
told (Rejected TimerField) = refl
told (Rejected LineGrammar) = refl
told (Rejected LineDepth) = refl
told (Rejected LineValue) = refl

same_number : (v w : Verdict) → verdict_number v ≡ verdict_number w → v ≡ w
same_number v w e = sym (told v) ∙ ap (λ (k : ℕ). get_or verdicts k Accepted) e ∙ told w

pub positive : (q : Refusal) → 0 < refusal_number q
positive q = let o : refusal_number q ≡ 0 → ⊥ = λ e. refused (same_number (Rejected q) Accepted e) in omega arith

-- ---- record by record

-- the number is this record's; or the record is good and not the end, and what is left is judged
data Goes (n : ℕ) (after : Bool) (earlier : List (List ℕ)) (t : List ℕ) : Type 0 where
  stops : verdict_number (judge_records n after earlier (records_of t)) ≡ record_judged n after earlier t → (kind_of t ≡ 3) ⊎ (0 < record_judged n after earlier t) → Goes n after earlier t
  goes_on_lem : 6 ≤ length t → (kind_of t ≡ 3 → ⊥) → record_judged n after earlier t ≡ 0
      → judge_records n after earlier (records_of t) ≡ judge_records n (eqb (kind_of t) 2) (t ∷ earlier) (records_of (rest_of t)) → Goes n after earlier t

goes : (n : ℕ) (after : Bool) (earlier : List (List ℕ)) (t : List ℕ) → Goes n after earlier t
unfolding record_judged num
goes n after earlier t = at (leb 6 (length t)) refl
  where
    good : 6 ≤ length t → leb 6 (length t) ≡ true → judged_record n after earlier t ≡ Accepted → Dec (kind_of t ≡ 3) → Goes n after earlier t
    good h b e (yes k) = stops (ap verdict_number (a_record n after earlier t h) ∙ rw (b, e, eq-eqb (kind_of t) 3 k)) (inl k)
    good h b e (no k) = goes_on_lem h k (rw (b, e, ne_eqb (kind_of t) 3 k)) (a_record n after earlier t h ∙ rw (e, ne_eqb (kind_of t) 3 k))

    by : (v : Verdict) → 6 ≤ length t → leb 6 (length t) ≡ true → judged_record n after earlier t ≡ v → Goes n after earlier t
    by (Rejected q) h b e = stops (ap verdict_number (a_record n after earlier t h) ∙ rw (b, e)) (inr (rw (b, e) (positive q)))
    by Accepted h b e = good h b e (ℕ_discrete (kind_of t) 3)

    at : (b : Bool) → leb 6 (length t) ≡ b → Goes n after earlier t
    at true e = by (judged_record n after earlier t) (leb-true 6 (length t) e) e refl
    at false e = stops (ap verdict_number (no_records n after earlier t (leb-false 6 (length t) e)) ∙ rw e) (inr (rw e (omega arith)))

refused_number_lem : {n : ℕ} {after : Bool} {earlier : List (List ℕ)} {t : List ℕ} {k : ℕ} → RecordsRefused n after earlier t k → (verdict_number (judge_records n after earlier (records_of t)) ≡ k) × (0 < k)
refused_number_lem {n} {after} {earlier} {t} {k} (this_one d) = at (goes n after earlier t) ((record_gives n after earlier t k).0 d)
  where
    at : Goes n after earlier t → (record_judged n after earlier t ≡ k) × (0 < k) → (verdict_number (judge_records n after earlier (records_of t)) ≡ k) × (0 < k)
    at (stops e z) g = (e ∙ g.0, g.1)
    at (goes_on_lem h o e f) g = let x = g.0 in let y = g.1 in let no : ⊥ = omega arith in absurd no
refused_number_lem {n} {after} {earlier} {t} {k} (later_one o x r) = at (goes n after earlier t) (refused_number_lem r)
  where
    at : Goes n after earlier t → (verdict_number (judge_records n (eqb (kind_of t) 2) (t ∷ earlier) (records_of (rest_of t))) ≡ k) × (0 < k)
        → (verdict_number (judge_records n after earlier (records_of t)) ≡ k) × (0 < k)
    at (stops e (inl z)) g = absurd (x z)
    at (stops e (inr z)) g = absurd (o (record_judged n after earlier t) ((record_gives n after earlier t (record_judged n after earlier t)).1 z refl))
    at (goes_on_lem h y e f) g = (ap verdict_number f ∙ g.0, g.1)

number_refused : (f n : ℕ) (after : Bool) (earlier : List (List ℕ)) (t : List ℕ) (k : ℕ) → length t < f → 0 < k → verdict_number (judge_records n after earlier (records_of t)) ≡ k → RecordsRefused n after earlier t k
number_refused zero n after earlier t k l z e = let no : ⊥ = omega arith in absurd no
number_refused (suc f) n after earlier t k l z e = at (goes n after earlier t) (number_refused f n (eqb (kind_of t) 2) (t ∷ earlier) (rest_of t) k)
  where
    at : Goes n after earlier t
        → (length (rest_of t) < f → 0 < k → verdict_number (judge_records n (eqb (kind_of t) 2) (t ∷ earlier) (records_of (rest_of t))) ≡ k → RecordsRefused n (eqb (kind_of t) 2) (t ∷ earlier) (rest_of t) k)
        → RecordsRefused n after earlier t k
    at (stops x y) ih = this_one ((record_gives n after earlier t k).1 z (sym x ∙ e))
    at (goes_on_lem h o x y) ih =
        let good : (j : ℕ) → RecordRefused n after earlier t j → ⊥ = λ j d. let g = (record_gives n after earlier t j).0 d in let a = g.0 in let b = g.1 in omega arith in
        later_one good o (ih (omega (arith, length_rest t)) z (sym (ap verdict_number y) ∙ e))

-- ---- whole tapes

tape_gives : (n : ℕ) (t : List ℕ) → Gives (verdict_number (judge_tape n t)) (TapeRefused n t)
unfolding judge_tape
tape_gives n t =
    tested verdict_number (leb (length t) 65536) _ TapeLength refl (omega arith) (above (length t) 65536)
    (λ e k. (refused_number_lem, number_refused (suc (length t)) n false [] t k (omega arith)))

pub size_decides : (n : ℕ) → Decides (size_fits n) (SizeRefused n)
unfolding size_fits
size_decides n = within 8 8388608 n

load_gives : (t s : List ℕ) → Gives (verdict_number (judge_load t s)) (LoadRefused s t)
unfolding judge_load judge_store
load_gives t s =
    let F : Verdict → ℕ = λ v. verdict_number (judge_then v (judge_tape (length s) t)) in
    tested F (size_fits (length s)) _ StoreSize refl (omega arith) (size_decides (length s))
    (λ a. tested F (cells_fit s) _ CellValue refl (omega arith) (record { passes = not_both; fails = λ e. e }) (λ b. tape_gives (length s) t))

reading_gives : (t : List ℕ) (n : ℕ) → Gives (verdict_number (judge_reading t n)) (ReadingRefused n t)
unfolding judge_reading
reading_gives t n = tested verdict_number (size_fits n) _ StoreSize refl (omega arith) (size_decides n) (λ a. tape_gives n t)

-- a verdict's number is q's exactly if the verdict is q
pub exactly : (v : Verdict) (P : ℕ → Type 0) (q : Refusal) → Gives (verdict_number v) P → (v ≡ Rejected q → P (refusal_number q)) × (P (refusal_number q) → v ≡ Rejected q)
exactly v P q g = (λ e. (g (refusal_number q)).1 (positive q) (ap verdict_number e), λ p. same_number v (Rejected q) ((g (refusal_number q)).0 p).0)

pub tape_numbers : TapeNumbers
tape_numbers n t q = exactly (judge_tape n t) (TapeRefused n t) q (tape_gives n t)

verdict_by : (v : Verdict) (t u s : List ℕ) (c : Record) → (loaded_by v t u s c).state.verdict ≡ v
verdict_by (Rejected q) t u s c = refl
verdict_by Accepted t u s c = refl

verdict_is : (k : Call) (t s : List ℕ) (c : Record) → (called k t s c).state.verdict ≡ judge_load t s
verdict_is k t s c = rw (called_is k t s c) (verdict_by (judge_load t s) t (under k s) s c)

pub load_numbers : LoadNumbers
load_numbers k t s c q = rw (verdict_is k t s c) (exactly (judge_load t s) (LoadRefused s t) q (load_gives t s))

module _ (t m : List ℕ) where
  span_number : (v : Verdict) → (span_by v t m).refusal ≡ verdict_number v
  span_number (Rejected q) = refl
  span_number Accepted = at (eqb (length m) 0)
    where
      at : (b : Bool) → (cond b (no_span 0) (span_at t m)).refusal ≡ 0
      at true = refl
      at false = refl

  not_shown : (v : Verdict) (k : ℕ) → verdict_number v ≡ k → 0 < k → (span_by v t m ≡ no_span k) × (text_by v m ≡ [])
  not_shown (Rejected q) k e l = (ap no_span e, refl)
  not_shown Accepted k e l = let no : ⊥ = omega arith in absurd no

pub reading_numbers : ReadingNumbers
unfolding remark_span remark_text
reading_numbers t n k =
    let m = first_of 4 (records_of t) in
    let g = reading_gives t n k in
    (λ l e. g.1 l (sym (span_number t m (judge_reading t n)) ∙ e), λ r. let x = g.0 r in not_shown t m (judge_reading t n) k x.0 x.1)
