-- The proofs of specs/Claims.antt. Assumes nothing.
use Prim.Native.Nat.{ℕ}
use native.Mathlib.Omega.{arith}
use mathlib.Core.Path.{◌≡◌, refl, ap, ◌∙◌}
use mathlib.Core.Bool.{Bool, true, false, not, cond}
use mathlib.Core.Option.{Option}
use mathlib.Core.List.{List, []}
use lib.Dec.{eqb, ltb, leb}
use lib.ListN.{length}
use Rattle.machine.specs.declared.Timer.{Timer}
use Rattle.machine.specs.declared.Record.{Record}
use Rattle.machine.specs.declared.Devices.{Devices}
use Rattle.machine.specs.declared.Run.{Run}
use Rattle.machine.specs.declared.Autoloaded.{Autoloaded}
use Rattle.machine.specs.declared.Kind.TheVariants.{Exception, Line}
use Rattle.machine.specs.declared.Outcome.TheVariants.{Spent, Interrupted, Reset}
use Rattle.machine.specs.declared.Refusal.TheVariants.{StoreSize, CellValue, ControlField, RemarkLength, WrittenLength, BufferLength}
use Rattle.machine.specs.Verdicts.{Verdict, Accepted, Rejected, Answer, Refused, Ended}
use Rattle.machine.specs.Answers.{verdict_number}
use Rattle.acceptance.proofs.Tests.{refused}
use Rattle.acceptance.specs.Accept.{size_fits, cells_fit, control_fits, timer_fits, judge_store, judge_registers, judge_timer, judge_machine}
use Rattle.definition_runs.specs.Timed.{TimedComputer, timed_computer, keeping_timer, TimedMachine, untimed, timed}
use Rattle.definition_runs.specs.Run.{run_machine}
use Rattle.definition_runs.specs.Keys.{pressed_by, reset_key, start_key, autoload_key, pressing_reset, pressing_start, judge_autoload_of, pressing_autoload}
use Rattle.definition_runs.specs.Lent as Lent
use Rattle.definition_runs.specs.Lent.{machine_lent, handed_back, run_lent, KeyReturned, key_handed_back, autoload_lent}
use Rattle.definition_runs.specs.GenericRun.{refused_number}
use Rattle.run_promises.proofs.Promises.{refused_run_lem, refused_only, refusal_numbers}
use Rattle.cycle_promises.proofs.Claims as keys
use Rattle.definition_tape.specs.Load.{judge_then, judge_load, loaded_by, cleared, loading, overlaying}
use Rattle.definition_tape.specs.Bytes.{tape_of}
use Rattle.definition_tape.specs.Writing.{remark_of, remark_fits, judge_size, judge_parts, judge_writing, Writing, writing_by, writing}
use Rattle.tape_promises.proofs.Numbers.{positive}
use Rattle.writer_promises.specs.Claims.{tape_size}
use Rattle.writer_promises.proofs.Claims.{written_tape_length}
use Rattle.capi_records.specs.declared.ControlRecord.{ControlRecord}
use Rattle.capi_records.specs.Results.{flags_fit, registers_in, timer_in, record_in, record_of, judge_flags, returned, run_returned, result_by, state_by, autoloaded_by, run_by, key_by, autoload_by, load_by, write_result_by, write_by, run_call, reset_call, start_call, autoload_call, load_call, overlay_call, write_call, assemble_result, assemble_call}
use Rattle.capi_promises.specs.Claims.{number_of, fits_lent, RunNumbers, AutoloadCallNumbers, WriteNumbers, WriteAccepted, HandsBack, LoadCalls, KeyCalls, AutoloadCalls, RunCalls, RunAsGiven, StateAsGiven, AutoloadAsGiven, WriteAsGiven, RefusedAsGiven, AssembleCalls}

-- ---- the numbers of a run

result_number : (a : Answer) (r : ControlRecord) (d : Devices) (x : Run) → number_of (result_by a r d x) ≡ refused_number a
result_number (Refused q) r d x = refl
result_number (Ended Spent) r d x = refl
result_number (Ended Reset) r d x = refl
result_number (Ended (Interrupted Exception)) r d x = refl
result_number (Ended (Interrupted (Line n))) r d x = refl

-- a bad flag byte, by the store's tests
bad_number : (z c : Bool) (r : ControlRecord) (d : Devices) (s t : List ℕ) (x : Lent.Returned)
    → number_of (run_by (judge_then (cond z (cond c Accepted (Rejected CellValue)) (Rejected StoreSize)) (Rejected ControlField)) r d s t x).result
    ≡ cond z (cond c 3 2) 1
bad_number true true r d s t x = refl
bad_number true false r d s t x = refl
bad_number false c r d s t x = refl

-- due_number with f in the place of the flag bytes' test
by_flags : (f : Bool) (l b : ℕ) (s : List ℕ) (r : ControlRecord) (d : Devices) (cs t : List ℕ)
    → number_of (run_by (cond f Accepted (judge_then (judge_store s) (Rejected ControlField))) r d s t (run_lent l b s (record_in r) d cs t)).result
    ≡ cond (size_fits (length s))
    (cond (cells_fit s) (cond f (cond (control_fits (registers_in r)) (cond (timer_fits (timer_in r)) (cond (ltb l 2097152) (cond (ltb b 65536) (cond (fits_lent d cs) 0 13) 5) 4) 18) 3) 3) 2) 1
unfolding judge_store run_lent handed_back record_in
by_flags true l b s r d cs t =
    result_number (run_machine l b (machine_lent s (record_in r) d cs t)).answer r d (run_lent l b s (record_in r) d cs t).run
    ∙ refusal_numbers l b (machine_lent s (record_in r) d cs t)
by_flags false l b s r d cs t = bad_number (size_fits (length s)) (cells_fit s) r d s t (run_lent l b s (record_in r) d cs t)

pub run_numbers : RunNumbers
unfolding run_call judge_flags
run_numbers l b s r d cs t = by_flags (flags_fit r) l b s r d cs t

-- ---- the numbers of the autoload key

key_number : (v : Verdict) (r : ControlRecord) (d : Devices) (x : Autoloaded) → (autoloaded_by v r d x).refusal ≡ verdict_number v
key_number Accepted r d x = refl
key_number (Rejected q) r d x = refl

bad_key : (z c : Bool) (r : ControlRecord) (d : Devices) (s : List ℕ) (x : KeyReturned)
    → (autoload_by (judge_then (cond z (cond c Accepted (Rejected CellValue)) (Rejected StoreSize)) (Rejected ControlField)) r d s x).result.refusal ≡ cond z (cond c 3 2) 1
bad_key true true r d s x = refl
bad_key true false r d s x = refl
bad_key false c r d s x = refl

key_flags : (f : Bool) (s : List ℕ) (r : ControlRecord) (d : Devices) (cs : List ℕ)
    → (autoload_by (cond f Accepted (judge_then (judge_store s) (Rejected ControlField))) r d s (autoload_lent s (record_in r) d cs)).result.refusal
    ≡ cond (size_fits (length s)) (cond (cells_fit s) (cond f (cond (control_fits (registers_in r)) (cond (timer_fits (timer_in r)) (cond (fits_lent d cs) 0 13) 18) 3) 3) 2) 1
unfolding judge_store autoload_lent key_handed_back record_in
key_flags true s r d cs =
    let m = machine_lent s (record_in r) d cs [] in
    key_number (pressing_autoload m).verdict r d (autoload_lent s (record_in r) d cs).key ∙ keys.autoload_numbers m
key_flags false s r d cs = bad_key (size_fits (length s)) (cells_fit s) r d s (autoload_lent s (record_in r) d cs)

pub autoload_call_numbers : AutoloadCallNumbers
unfolding autoload_call judge_flags
autoload_call_numbers s r d cs = key_flags (flags_fit r) s r d cs

-- ---- the numbers of a written tape

write_number : (v : Verdict) (t o : List ℕ) → let x = writing_by v t o in (write_result_by x.answer.verdict x.answer).refusal ≡ verdict_number v
write_number Accepted t o = refl
write_number (Rejected q) t o = refl

bad_write : (z c : Bool) (o : List ℕ) (x : Writing)
    → (write_by (judge_then (cond z (cond c Accepted (Rejected CellValue)) (Rejected StoreSize)) (Rejected ControlField)) o x).result.refusal ≡ cond z (cond c 3 2) 1
bad_write true true o x = refl
bad_write true false o x = refl
bad_write false c o x = refl

-- the number of `judge_writing`, by its tests
tests_number : (z c f k m a b : Bool) (t : Timer) → timer_fits t ≡ k
    → verdict_number (judge_then (judge_timer (cond z (cond c (cond f Accepted (Rejected ControlField)) (Rejected CellValue)) (Rejected StoreSize)) t)
    (cond m (cond a (cond b Accepted (Rejected BufferLength)) (Rejected WrittenLength)) (Rejected RemarkLength)))
    ≡ cond z (cond c (cond f (cond k (cond m (cond a (cond b 0 16) 15) 14) 18) 3) 2) 1
tests_number true true true true true true true t e = rw e
tests_number true true true true true true false t e = rw e
tests_number true true true true true false b t e = rw e
tests_number true true true true false a b t e = rw e
tests_number true true true false m a b t e = rw e
tests_number true true false k m a b t e = refl
tests_number true false f k m a b t e = refl
tests_number false c f k m a b t e = refl

writing_number : (s : List ℕ) (r : Record) (m : Option (List ℕ)) (n : ℕ)
    → verdict_number (judge_writing s r m n)
    ≡ cond (size_fits (length s))
    (cond (cells_fit s) (cond (control_fits r.registers) (cond (timer_fits r.timer) (cond (remark_fits m) (cond (leb (tape_size s m) 65536) (cond (leb (tape_size s m) n) 0 16) 15) 14) 18) 3) 2) 1
unfolding judge_writing judge_machine judge_registers judge_parts judge_size
writing_number s r m n =
    rw (written_tape_length s r m)
    (tests_number (size_fits (length s)) (cells_fit s) (control_fits r.registers) (timer_fits r.timer) (remark_fits m) (leb (tape_size s m) 65536) (leb (tape_size s m) n) r.timer refl)

write_flags : (f : Bool) (s : List ℕ) (r : ControlRecord) (m : Option (List ℕ)) (o : List ℕ)
    → (write_by (cond f Accepted (judge_then (judge_store s) (Rejected ControlField))) o (writing s (record_in r) m o)).result.refusal
    ≡ cond (size_fits (length s))
    (cond (cells_fit s)
    (cond f
    (cond (control_fits (registers_in r)) (cond (timer_fits (timer_in r)) (cond (remark_fits m) (cond (leb (tape_size s m) 65536) (cond (leb (tape_size s m) (length o)) 0 16) 15) 14) 18) 3) 3) 2) 1
unfolding judge_store writing record_in
write_flags true s r m o = write_number (judge_writing s (record_in r) m (length o)) (tape_of s (record_in r) m) o ∙ writing_number s (record_in r) m (length o)
write_flags false s r m o = bad_write (size_fits (length s)) (cells_fit s) o (writing s (record_in r) m o)

pub write_numbers : WriteNumbers
unfolding write_call judge_flags
write_numbers s r g m o = write_flags (flags_fit r) s r (remark_of (not (eqb g 0)) m) o

accepted_by : (v w : Verdict) (t o : List ℕ) → let x = write_by v o (writing_by w t o) in
    x.result.refusal ≡ 0 → (x.result.length ≡ (writing_by w t o).answer.length) × (x.bytes ≡ (writing_by w t o).bytes)
accepted_by (Rejected q) w t o = λ e. let p = positive q in absurd (omega (arith, e))
accepted_by Accepted (Rejected q) t o = λ e. let p = positive q in absurd (omega (arith, e))
accepted_by Accepted Accepted t o = λ e. (refl, refl)

pub write_accepted : WriteAccepted
unfolding write_call writing
write_accepted s r g m o =
    let given = remark_of (not (eqb g 0)) m in
    accepted_by (judge_flags s r) (judge_writing s (record_in r) given (length o)) (tape_of s (record_in r) given) o

-- ---- what is handed back

state_back : (v : Verdict) (s : List ℕ) (r : ControlRecord) (c : Record) → HandsBack s v c (returned (state_by v r c) s)
state_back (Rejected q) s r c = record { cells = refl; number = refl; control = λ e. refused e }
state_back Accepted s r c = record { cells = refl; number = refl; control = λ e. refl }

pub load_calls : LoadCalls
unfolding load_call overlay_call
load_calls t s r =
    let x = loading t s (record_in r) in
    let y = overlaying t s (record_in r) in
    (state_back x.state.verdict x.cells r x.state.control, state_back y.state.verdict y.cells r y.state.control)

pub key_calls : KeyCalls
unfolding reset_call start_call judge_flags
key_calls s r e =
    let x = pressing_reset s (record_in r) in
    let y = pressing_start s (record_in r) in
    rw e (state_back x.verdict x.machine.cells r x.machine.control, state_back y.verdict y.machine.cells r y.machine.control)

autoload_back : (v : Verdict) (r : ControlRecord) (d : Devices) (x : Autoloaded)
    → let y = autoloaded_by v r d x in
    (y.refusal ≡ verdict_number v) × (v ≡ Accepted → (y.control ≡ record_of x.control) × (y.devices ≡ x.devices) × (y.taken ≡ x.taken))
autoload_back (Rejected q) r d x = (refl, λ e. refused e)
autoload_back Accepted r d x = (refl, λ e. (refl, refl, refl))

pub autoload_calls : AutoloadCalls
unfolding autoload_call judge_flags
autoload_calls s r d cs e =
    let x = autoload_lent s (record_in r) d cs in
    let b = autoload_back x.key.verdict r d x.key in
    rw e (refl, b.0, b.1)

pub run_calls : RunCalls
unfolding run_call judge_flags
run_calls l b s r d cs t e = rw e (refl, refl, λ o h. rw h refl)

-- ---- a refusal changes nothing

-- an accepted call whose answer is a refusal left everything as it was
run_as_given : (a : Answer) (l b : ℕ) (s : List ℕ) (r : ControlRecord) (d : Devices) (cs t : List ℕ)
    → (run_machine l b (machine_lent s (record_in r) d cs t)).answer ≡ a
    → let x = run_lent l b s (record_in r) d cs t in RunAsGiven s r d t (run_returned (result_by a r d x.run) x.cells x.typing)
unfolding run_lent handed_back
run_as_given (Refused q) l b s r d cs t h =
    let m = machine_lent s (record_in r) d cs t in
    let kept = refused_run_lem l b m q (refused_only l b m q h) in
    λ _. (refl, refl, refl, ap (λ x. (handed_back cs x).cells) kept, refl, refl, refl, ap (λ x. (handed_back cs x).typing) kept)
run_as_given (Ended Spent) l b s r d cs t h = λ z. absurd (omega (arith, z))
run_as_given (Ended Reset) l b s r d cs t h = λ z. absurd (omega (arith, z))
run_as_given (Ended (Interrupted Exception)) l b s r d cs t h = λ z. absurd (omega (arith, z))
run_as_given (Ended (Interrupted (Line n))) l b s r d cs t h = λ z. absurd (omega (arith, z))

run_by_lem : (v : Verdict) (l b : ℕ) (s : List ℕ) (r : ControlRecord) (d : Devices) (cs t : List ℕ) → RunAsGiven s r d t (run_by v r d s t (run_lent l b s (record_in r) d cs t))
unfolding run_lent handed_back
run_by_lem (Rejected q) l b s r d cs t = λ _. (refl, refl, refl, refl, refl, refl, refl, refl)
run_by_lem Accepted l b s r d cs t = run_as_given _ l b s r d cs t refl

-- v: the flag bytes' test; w: the key's tests
key_by_lem : (v w : Verdict) (s : List ℕ) (r : ControlRecord) (c : Record) (n : TimedComputer) → StateAsGiven s r (key_by v r s (pressed_by w (timed_computer s c) n))
key_by_lem (Rejected q) w s r c n = λ _. (refl, refl)
key_by_lem Accepted (Rejected q) s r c n = λ _. (refl, refl)
key_by_lem Accepted Accepted s r c n = λ z. absurd (z refl)

autoload_by_lem : (v w : Verdict) (s : List ℕ) (r : ControlRecord) (d : Devices) (cs : List ℕ) (n : TimedMachine)
    → AutoloadAsGiven s r d (autoload_by v r d s (key_handed_back cs (pressed_by w (machine_lent s (record_in r) d cs []) n)))
unfolding key_handed_back
autoload_by_lem (Rejected q) w s r d cs n = λ _. (refl, refl, refl, refl)
autoload_by_lem Accepted (Rejected q) s r d cs n = λ _. (refl, refl, refl, refl)
autoload_by_lem Accepted Accepted s r d cs n = λ z. absurd (z refl)

load_by_lem : (v : Verdict) (tape u s : List ℕ) (r : ControlRecord) (c : Record) → StateAsGiven s r (load_by r (loaded_by v tape u s c))
load_by_lem (Rejected q) tape u s r c = λ _. (refl, refl)
load_by_lem Accepted tape u s r c = λ z. absurd (z refl)

write_by_lem : (v w : Verdict) (t o : List ℕ) → WriteAsGiven o (write_by v o (writing_by w t o))
write_by_lem (Rejected q) w t o = λ _. (refl, refl)
write_by_lem Accepted (Rejected q) t o = λ _. (refl, refl)
write_by_lem Accepted Accepted t o = λ z. absurd (z refl)

pub refused_as_given : RefusedAsGiven
unfolding run_call reset_call start_call autoload_call load_call overlay_call write_call pressing_reset pressing_start pressing_autoload autoload_lent loading overlaying writing
refused_as_given l b g tape s r d cs t m o = (
  run_by_lem (judge_flags s r) l b s r d cs t,
  let c = record_in r in key_by_lem (judge_flags s r) (judge_machine s c) s r c (keeping_timer c.timer (reset_key s c.registers)),
  let c = record_in r in key_by_lem (judge_flags s r) (judge_machine s c) s r c (keeping_timer c.timer (start_key s c.registers)),
  let m = machine_lent s (record_in r) d cs [] in autoload_by_lem (judge_flags s r) (judge_autoload_of m) s r d cs (timed m.control.timer (autoload_key (untimed m))),
  load_by_lem (judge_load tape s) tape (cleared (length s)) s r (record_in r),
  load_by_lem (judge_load tape s) tape s s r (record_in r),
  write_by_lem (judge_flags s r) (judge_writing s (record_in r) (remark_of (not (eqb g 0)) m) (length o)) (tape_of s (record_in r) (remark_of (not (eqb g 0)) m)) o,
)

-- ---- assemble
pub assemble_calls : AssembleCalls
unfolding assemble_call
assemble_calls t = (λ v e. ap assemble_result e, λ q e. ap assemble_result e)
