-- The claims of specs/Claims.antt. `rising_blocks` stands in Stretches, `fewest_blocks` in Fewest, `tape_records` in Records; the others here.
-- Assumes nothing.
use Prim.Native.Nat.{ℕ, zero, suc, ◌+◌, ◌*◌}
use mathlib.Core.Path.{◌≡◌, refl, sym, ap, ◌∙◌}
use mathlib.Core.Bool.{Bool, true, false, cond}
use native.Mathlib.Omega.{arith}
use mathlib.Core.Option.{Option, none, some}
use mathlib.Core.List.{List, [], ◌∷◌}
use borrow.Author.Tests.{leb-true, le-leb}
use lib.ListN.{length, drop, length-append, length-drop}
use lib.Dec.{leb}
use store.Seg.{take-pre, drop-pre}
use Rattle.machine.specs.declared.Record.{Record}
use Rattle.machine.specs.Answers.{verdict_number}
use Rattle.machine.specs.declared.Refusal.TheVariants.{StoreSize, CellValue, ControlField, TimerField, RemarkLength, WrittenLength, BufferLength}
use Rattle.machine.specs.Verdicts.{Verdict, Accepted, Rejected}
use Rattle.acceptance.specs.Accept.{size_fits, cells_fit, control_fits, timer_fits, judge_store, judge_registers, judge_timer, judge_machine}
use Rattle.definition_tape.specs.Load.{Loaded, tape_cells, judge_then, judge_load, cleared, loading}
use Rattle.definition_tape.specs.Remark.{judge_reading, remark_span, remark_text}
use Rattle.acceptance.proofs.Tests.{passed}
use Rattle.definition_tape.proofs.Judged.{passed_then}
use Rattle.definition_tape.proofs.Machines.{Machine, machine}
use Rattle.definition_tape.proofs.Stretches.{front}
use Rattle.definition_tape.proofs.Lengths.{length_tape}
use Rattle.tape_promises.proofs.Claims.{accepted_tapes}
use Rattle.tape_promises.proofs.Once.{once_blocks}
use Rattle.tape_promises.proofs.Numbers.{Gives, gives_none, Decides, tested, not_both, above, size_decides, timer_decides, exactly}
use Rattle.definition_tape.specs.Blocks.{stretch, blocks_from, store_blocks}
use Rattle.definition_tape.specs.Bytes.{record_bytes, block_bytes, blocks_bytes, remark_record, TimerWidths, tape_of}
use Rattle.definition_tape.specs.Writing.{remark_of, remark_fits, Writable, judge_size, judge_parts, judge_writing, writing}
use Rattle.writer_promises.specs.Claims.{occupied, ReadNumbers, ReadControl, WrittenTapeLength, GoodTape, RoundTrip, EqualTapes, WrittenTapes, TapeInBuffer, BufferAsGiven, remark_length, tape_size, LongRemark, WritingRefused, WritingNumbers}
use Rattle.definition_tape.proofs.Bytes.{four_bytes, control_back, length_record, length_block}
use Rattle.writer_promises.proofs.Records.{tape_once}
use Rattle.writer_promises.proofs.Tapes.{RecordFits, tape_grammar, load_tape, tape_control, tape_remark}

-- ---- numbers and control records are read back

pub read_numbers : ReadNumbers
read_numbers n h = four_bytes n h

pub read_control : ReadControl
read_control c e w = control_back c e w

-- ---- the length

length_blocks : (inside : Bool) (i : ℕ) (s : List ℕ) → length (blocks_bytes (blocks_from inside i s)) + 4 * length (front inside s) ≡ 10 * length (blocks_from inside i s) + 4 * occupied s
unfolding stretch blocks_from blocks_bytes occupied
length_blocks true i [] = refl
length_blocks false i [] = refl
length_blocks true i (zero ∷ s) = length_blocks false (i + 1) s
length_blocks false i (zero ∷ s) = length_blocks false (i + 1) s
length_blocks true i (suc x ∷ s) = let e = length_blocks true (i + 1) s in omega arith
length_blocks false i (suc x ∷ s) =
    let b = block_bytes (record { first = i; cells = suc x ∷ stretch s }) in
    let e = length_blocks true (i + 1) s in
    let f = length-append (record_bytes 1 b) (blocks_bytes (blocks_from true (i + 1) s)) in
    let g = length_record 1 b in
    let h = length_block (record { first = i; cells = suc x ∷ stretch s }) in
    omega arith

remark_size : (m : Option (List ℕ)) → length (remark_record m) ≡ remark_length m
unfolding remark_record
remark_size none = refl
remark_size (some r) = length_record 4 r

pub written_tape_length : WrittenTapeLength
unfolding store_blocks
written_tape_length s c m =
    let e = length_blocks false 0 s in
    let f = length_tape s c m in
    let g = remark_size m in
    omega arith

-- ---- the judge

record_fits : (s : List ℕ) (c : Record) → Machine s c → TimerWidths c.timer → RecordFits c
record_fits s c h x = record { control = h.control; timer = h.timer; widths = x }

pub good_tape : GoodTape
good_tape s c m w x =
    let h = machine s c w.machine in
    let r = tape_grammar s c m h.size h.cells (record_fits s c h x) w.remark in
    (accepted_tapes (length s) (tape_of s c m)).1 (record { size = w.size; layout = r; once = once_blocks r (tape_once s c m w x) })

load_accepted : (s u : List ℕ) (c : Record) (m : Option (List ℕ)) → Writable s c m → TimerWidths c.timer → length u ≡ length s → cells_fit u ≡ true
    → judge_load (tape_of s c m) u ≡ Accepted
unfolding judge_load judge_store
load_accepted s u c m w x l f = let h = machine s c w.machine in rw (l, h.fits, f) (good_tape s c m w x)

reading_accepted : (s : List ℕ) (c : Record) (m : Option (List ℕ)) → Writable s c m → TimerWidths c.timer → judge_reading (tape_of s c m) (length s) ≡ Accepted
unfolding judge_reading
reading_accepted s c m w x = let h = machine s c w.machine in rw h.fits (good_tape s c m w x)

-- ---- there and back

pub same_machine : (s u : List ℕ) (c d : Record) (m : Option (List ℕ)) → Writable s c m → TimerWidths c.timer → length u ≡ length s → cells_fit u ≡ true
    → loading (tape_of s c m) u d ≡ record { cells = s; state = record { control = c; verdict = Accepted } }
unfolding loading cleared tape_cells
same_machine s u c d m w x l f =
    let h = machine s c w.machine in
    let r = record_fits s c h x in
    rw (
      load_accepted s u c m w x l f,
      l,
      load_tape s c m h.size h.cells r w.remark,
      tape_control s c m h.size h.cells r w.remark,
    )

pub same_remark : (s : List ℕ) (c : Record) (m : Option (List ℕ)) → Writable s c m → TimerWidths c.timer
    → remark_of (remark_span (tape_of s c m) (length s)).found (remark_text (tape_of s c m) (length s)) ≡ m
unfolding remark_span remark_text
same_remark s c m w x =
    let h = machine s c w.machine in
    rw (reading_accepted s c m w x) (tape_remark s c m h.size h.cells w.remark)

pub round_trip : RoundTrip
round_trip s u c d m w x l f = (same_machine s u c d m w x l f, same_remark s c m w x)

-- ---- equal tapes

abbrev remark_in : ℕ → List ℕ → Option (List ℕ)
remark_in n t = remark_of (remark_span t n).found (remark_text t n)

pub equal_tapes : EqualTapes
equal_tapes s₁ s₂ c₁ c₂ m₁ m₂ l w₁ x₁ w₂ x₂ = (
  λ e.
      let f = (machine s₁ c₁ w₁.machine).cells in
      let x = same_machine s₂ s₁ c₂ c₁ m₂ w₂ x₂ l f in
      let y : remark_in (length s₁) (tape_of s₂ c₂ m₂) ≡ m₂ = rw l (same_remark s₂ c₂ m₂ w₂ x₂) in
      let a = sym (same_machine s₁ s₁ c₁ c₁ m₁ w₁ x₁ refl f) ∙ ap (λ (t : List ℕ). loading t s₁ c₁) e ∙ x in
      let b = sym (same_remark s₁ c₁ m₁ w₁ x₁) ∙ ap (remark_in (length s₁)) e ∙ y in
      (ap (λ (r : Loaded). r.cells) a, ap (λ (r : Loaded). r.state.control) a, b),
  λ h. rw (h.0, h.1, h.2),
)

-- ---- what is written

pub written_tapes : WrittenTapes
unfolding judge_writing judge_parts judge_size
written_tapes s c m n = (
  λ e.
      let l = length (tape_of s c m) in
      let a = passed_then (judge_machine s c) (judge_parts s c m n) e in
      let b = passed (remark_fits m) (judge_size l n) RemarkLength a.1 in
      let d = passed (leb l 65536) (cond (leb l n) Accepted (Rejected BufferLength)) WrittenLength b.1 in
      let f = passed (leb l n) Accepted BufferLength d.1 in
      (record { machine = a.0; remark = b.0; size = leb-true l 65536 d.0 }, leb-true l n f.0),
  λ w. rw (w.0.machine, w.0.remark, le-leb (length (tape_of s c m)) 65536 w.0.size, le-leb (length (tape_of s c m)) n w.1),
)

-- ---- the buffer

pub tape_in_buffer : TapeInBuffer
unfolding writing
tape_in_buffer s c m out e =
    let t = tape_of s c m in
    let l = written_tape_length s c m in
    let h = ((written_tapes s c m (length out)).0 e).1 in
    let f = length-append t (drop (length t) out) in
    let g = length-drop (length t) out in
    rw (e, sym l) (refl, omega arith, take-pre t (drop (length t) out), drop-pre t (drop (length t) out))

pub buffer_as_given : BufferAsGiven
unfolding writing
buffer_as_given s c m out q e = rw e refl

-- ---- the numbers

remark_decides : (m : Option (List ℕ)) → Decides (remark_fits m) (LongRemark m)
unfolding remark_fits
remark_decides none = record { passes = λ e z. absurd z; fails = λ e. not_both refl e }
remark_decides (some r) = above (length r) 255

writing_gives : (s : List ℕ) (c : Record) (m : Option (List ℕ)) (n : ℕ) → Gives (verdict_number (judge_writing s c m n)) (WritingRefused s c m n)
unfolding judge_writing judge_registers judge_machine judge_parts judge_size
writing_gives s c m n =
    let l = written_tape_length s c m in
    let G : Verdict → ℕ = λ v. verdict_number (judge_then v (judge_parts s c m n)) in
    let F : Verdict → ℕ = λ v. G (judge_timer v c.timer) in
    tested F (size_fits (length s)) _ StoreSize refl (omega arith) (size_decides (length s))
    (λ a. tested F (cells_fit s) _ CellValue refl (omega arith) (record { passes = not_both; fails = λ e. e })
    (λ b. tested F (control_fits c.registers) Accepted ControlField refl (omega arith) (record { passes = not_both; fails = λ e. e })
    (λ d. tested G (timer_fits c.timer) Accepted TimerField refl (omega arith) (timer_decides c.timer)
    (λ x. tested verdict_number (remark_fits m) _ RemarkLength refl (omega arith) (remark_decides m)
    (λ e. rw l
    (tested verdict_number (leb (tape_size s m) 65536) _ WrittenLength refl (omega arith) (above (tape_size s m) 65536)
    (λ f. tested verdict_number (leb (tape_size s m) n) Accepted BufferLength refl (omega arith) (above (tape_size s m) n) (λ g. gives_none))))))))

pub writing_numbers : WritingNumbers
writing_numbers s c m n q = exactly (judge_writing s c m n) (WritingRefused s c m n) q (writing_gives s c m n)
