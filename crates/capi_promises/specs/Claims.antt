-- What is proved of the C calls besides the contracts. The proofs stand in proofs/Claims.antt, under the names given.
-- Assumes nothing.
use Rattle.std.specs.Prelude.{ℕ, ◌≡◌, Bool, true, not, cond, List, eqb, ltb, leb, length}
use Rattle.machine.specs.declared.Devices.{Devices}
use Rattle.machine.specs.declared.Record.{Record}
use Rattle.machine.specs.declared.Run.{Run}
use Rattle.machine.specs.declared.Outcome.{Outcome}
use Rattle.machine.specs.Verdicts.{Ended, Verdict, Accepted}
use Rattle.machine.specs.declared.Refusal.{Refusal}
use Rattle.machine.specs.Answers.{refusal_number, verdict_number}
use Rattle.acceptance.specs.Accept.{size_fits, cells_fit, control_fits, timer_fits, devices_fit}
use Rattle.definition_runs.specs.Timed.{TimedComputer}
use Rattle.definition_runs.specs.Keys.{Pressed, pressing_reset, pressing_start}
use Rattle.definition_runs.specs.Lent.{run_lent, autoload_lent}
use Rattle.definition_tape.specs.Load.{Loaded, loading, overlaying}
use Rattle.definition_tape.specs.Writing.{remark_of, remark_fits, writing}
use Rattle.writer_promises.specs.Claims.{tape_size}
use Rattle.definition_assembler.specs.Answers.{Refused, Word}
use Rattle.definition_assembler.specs.Assembling.{assembling}
use Rattle.capi_records.specs.declared.ControlRecord.{ControlRecord}
use Rattle.capi_records.specs.declared.CallResult.{CallResult}
use Rattle.capi_records.specs.declared.StateResult.{StateResult}
use Rattle.capi_records.specs.declared.AutoloadResult.{AutoloadResult}
use Rattle.capi_records.specs.Results.{flags_fit, registers_in, timer_in, record_in, record_of, outcome_code, outcome_number, Returned, RunReturned, WriteReturned, run_call, reset_call, start_call, autoload_call, load_call, overlay_call, write_call, assemble_call}

-- the number of a run's refusal, 0 where the run is not refused
abbrev pub number_of : CallResult → ℕ
number_of x = cond (eqb x.outcome 0) x.number 0

-- refusal 13 does not apply
abbrev pub fits_lent : Devices → List ℕ → Bool
fits_lent d cs = devices_fit d.reader d.typewriter cs

-- the first of the numbers 1, 2, 3, 18, 4, 5 and 13, in this order, whose condition is met, 0 for none; a flag byte over 1 is 3
abbrev pub due_number : ℕ → ℕ → List ℕ → ControlRecord → Devices → List ℕ → ℕ
due_number l b s r d cs =
    cond (size_fits (length s))
    (cond (cells_fit s)
    (cond (flags_fit r)
    (cond (control_fits (registers_in r))
    (cond (timer_fits (timer_in r))
    (cond (ltb l 2097152)
    (cond (ltb b 65536)
    (cond (fits_lent d cs) 0 13) 5) 4) 18) 3) 3) 2) 1

-- `run_numbers`: a run is refused exactly under these conditions, for all bytes
abbrev pub RunNumbers : Type 0
RunNumbers =
    (l b : ℕ) (s : List ℕ) (r : ControlRecord) (d : Devices) (cs t : List ℕ) → number_of (run_call l b s r d cs t).result ≡ due_number l b s r d cs

-- the first of the numbers 1, 2, 3, 18 and 13 whose condition is met, 0 for none
abbrev pub due_of_autoload_call : List ℕ → ControlRecord → Devices → List ℕ → ℕ
due_of_autoload_call s r d cs =
    cond (size_fits (length s))
    (cond (cells_fit s)
    (cond (flags_fit r)
    (cond (control_fits (registers_in r))
    (cond (timer_fits (timer_in r))
    (cond (fits_lent d cs) 0 13) 18) 3) 3) 2) 1

-- `autoload_call_numbers`: the autoload key is refused exactly under these conditions
abbrev pub AutoloadCallNumbers : Type 0
AutoloadCallNumbers = (s : List ℕ) (r : ControlRecord) (d : Devices) (cs : List ℕ) → (autoload_call s r d cs).result.refusal ≡ due_of_autoload_call s r d cs

-- the first of the numbers 1, 2, 3, 18 and 14 to 16 whose condition is met, 0 for none: the text m is the remark if the byte g is not 0, o is the buffer
abbrev pub due_of_write : List ℕ → ControlRecord → ℕ → List ℕ → List ℕ → ℕ
due_of_write s r g m o =
    let given = remark_of (not (eqb g 0)) m in
    cond (size_fits (length s))
    (cond (cells_fit s)
    (cond (flags_fit r)
    (cond (control_fits (registers_in r))
    (cond (timer_fits (timer_in r))
    (cond (remark_fits given)
    (cond (leb (tape_size s given) 65536)
    (cond (leb (tape_size s given) (length o)) 0 16) 15) 14) 18) 3) 3) 2) 1

-- `write_numbers`: the writing of a tape is refused exactly under these conditions
abbrev pub WriteNumbers : Type 0
WriteNumbers = (s : List ℕ) (r : ControlRecord) (g : ℕ) (m o : List ℕ) → (write_call s r g m o).result.refusal ≡ due_of_write s r g m o

-- `write_accepted`: a call that is not refused hands back the length and the buffer of `writing`
abbrev pub WriteAccepted : Type 0
WriteAccepted =
    (s : List ℕ) (r : ControlRecord) (g : ℕ) (m o : List ℕ) → (write_call s r g m o).result.refusal ≡ 0
    → let w = writing s (record_in r) (remark_of (not (eqb g 0)) m) o in
    ((write_call s r g m o).result.length ≡ w.answer.length) × ((write_call s r g m o).bytes ≡ w.bytes)

-- ---- what a call hands back that its flag bytes do not refuse

-- a key or a tape: the cells s, the refusal's number or 0, and the control record c where the call is accepted
pub record HandsBack (s : List ℕ) (v : Verdict) (c : Record) (y : Returned StateResult) : Type 0 where
  pub cells : y.cells ≡ s
  pub number : y.result.refusal ≡ verdict_number v
  pub control : v ≡ Accepted → y.result.control ≡ record_of c

abbrev pub HandsBackLoaded : Loaded → Returned StateResult → Type 0
HandsBackLoaded x y = HandsBack x.cells x.state.verdict x.state.control y

-- `load_calls`: load and overlay hand back what `loading` and `overlaying` do, with any flag bytes
abbrev pub LoadCalls : Type 0
LoadCalls =
    (t s : List ℕ) (r : ControlRecord)
    → HandsBackLoaded (loading t s (record_in r)) (load_call t s r) × HandsBackLoaded (overlaying t s (record_in r)) (overlay_call t s r)

abbrev pub HandsBackPressed : Pressed TimedComputer → Returned StateResult → Type 0
HandsBackPressed x y = HandsBack x.machine.cells x.verdict x.machine.control y

-- `key_calls`: the reset key and the start key hand back what `pressing_reset` and `pressing_start` do
abbrev pub KeyCalls : Type 0
KeyCalls =
    (s : List ℕ) (r : ControlRecord) → flags_fit r ≡ true
    → HandsBackPressed (pressing_reset s (record_in r)) (reset_call s r) × HandsBackPressed (pressing_start s (record_in r)) (start_call s r)

-- `autoload_calls`: the autoload key hands back what `autoload_lent` does
abbrev pub AutoloadCalls : Type 0
AutoloadCalls =
    (s : List ℕ) (r : ControlRecord) (d : Devices) (cs : List ℕ) → flags_fit r ≡ true
    → let x = autoload_lent s (record_in r) d cs in
    let y = autoload_call s r d cs in
    (y.cells ≡ x.cells) × (y.result.refusal ≡ verdict_number x.key.verdict)
    × (x.key.verdict ≡ Accepted → (y.result.control ≡ record_of x.key.control) × (y.result.devices ≡ x.key.devices) × (y.result.taken ≡ x.key.taken))

-- the struct of a run x that ended with the outcome o
abbrev pub ended_run : Outcome → Run → CallResult
ended_run o x =
    record {
      control = record_of x.control;
      outcome = outcome_code o;
      number = outcome_number o;
      executed = x.executed;
      entries = x.entries;
      devices = x.devices;
      taken = x.taken;
      typed = x.typed;
    }

-- `run_calls`: a run hands back what `run_lent` does
abbrev pub RunCalls : Type 0
RunCalls =
    (l b : ℕ) (s : List ℕ) (r : ControlRecord) (d : Devices) (cs t : List ℕ) → flags_fit r ≡ true
    → let x = run_lent l b s (record_in r) d cs t in
    let y = run_call l b s r d cs t in
    (y.cells ≡ x.cells) × (y.typing ≡ x.typing) × ((o : Outcome) → x.run.answer ≡ Ended o → y.result ≡ ended_run o x.run)

-- ---- a refusal changes nothing

-- a refused run: the control record byte for byte, every cell, the device buffer registers and every byte of the typing buffer as they came; counts,
-- taken and typed zero
abbrev pub RunAsGiven : List ℕ → ControlRecord → Devices → List ℕ → RunReturned → Type 0
RunAsGiven s r d t x =
    x.result.outcome ≡ 0
    → (x.result.control ≡ r) × (x.result.executed ≡ 0) × (x.result.entries ≡ 0) × (x.cells ≡ s)
    × (x.result.devices ≡ d) × (x.result.taken ≡ 0) × (x.result.typed ≡ 0) × (x.typing ≡ t)

-- a refused key or tape: the same, with no counts
abbrev pub StateAsGiven : List ℕ → ControlRecord → Returned StateResult → Type 0
StateAsGiven s r x = (x.result.refusal ≡ 0 → ⊥) → (x.result.control ≡ r) × (x.cells ≡ s)

-- the autoload key too, with the registers, and none taken
abbrev pub AutoloadAsGiven : List ℕ → ControlRecord → Devices → Returned AutoloadResult → Type 0
AutoloadAsGiven s r d x = (x.result.refusal ≡ 0 → ⊥) → (x.result.control ≡ r) × (x.cells ≡ s) × (x.result.devices ≡ d) × (x.result.taken ≡ 0)

-- a machine that is refused a tape: the length is 0, and every byte of the buffer as it came
abbrev pub WriteAsGiven : List ℕ → WriteReturned → Type 0
WriteAsGiven o x = (x.result.refusal ≡ 0 → ⊥) → (x.result.length ≡ 0) × (x.bytes ≡ o)

-- `refused_as_given`: a refusal changes nothing, for all bytes
abbrev pub RefusedAsGiven : Type 0
RefusedAsGiven =
    (l b g : ℕ) (tape s : List ℕ) (r : ControlRecord) (d : Devices) (cs t m o : List ℕ)
    → RunAsGiven s r d t (run_call l b s r d cs t)
    × StateAsGiven s r (reset_call s r)
    × StateAsGiven s r (start_call s r)
    × AutoloadAsGiven s r d (autoload_call s r d cs)
    × StateAsGiven s r (load_call tape s r)
    × StateAsGiven s r (overlay_call tape s r)
    × WriteAsGiven o (write_call s r g m o)

-- `assemble_calls`: refusal 0 and the word, or the refusal's number and the word 0
abbrev pub AssembleCalls : Type 0
AssembleCalls =
    (t : List ℕ)
    → ((v : ℕ) → assembling t ≡ Word v → assemble_call t ≡ record { refusal = 0; word = v })
    × ((q : Refusal) → assembling t ≡ Refused q → assemble_call t ≡ record { refusal = refusal_number q; word = 0 })
