-- The C calls (host/include/rc4000.h): the control record as it crosses, its tests, and what each call hands back.
-- Assumes nothing.
use Rattle.std.specs.Prelude.{ℕ, Bool, false, not, cond, List, eqb, ltb, Ok, Err}
use Rattle.machine.specs.declared.Control.{Control}
use Rattle.machine.specs.declared.Timer.{Timer}
use Rattle.machine.specs.declared.Record.{Record}
use Rattle.machine.specs.declared.Devices.{Devices}
use Rattle.machine.specs.declared.Run.{Run}
use Rattle.machine.specs.declared.Autoloaded.{Autoloaded}
use Rattle.machine.specs.declared.Kind.TheVariants.{Exception, Line}
use Rattle.machine.specs.declared.Outcome.{Outcome}
use Rattle.machine.specs.declared.Outcome.TheVariants.{Reset, Interrupted, Spent}
use Rattle.machine.specs.declared.Refusal.{Refusal}
use Rattle.machine.specs.declared.Refusal.TheVariants.{ControlField}
use Rattle.machine.specs.Verdicts.{Verdict, Accepted, Rejected, Answer, Refused, Ended}
use Rattle.machine.specs.Answers.{refusal_number, kind_number}
use Rattle.acceptance.specs.Accept.{judge_store}
use Rattle.definition_runs.specs.Timed.{TimedComputer}
use Rattle.definition_runs.specs.Keys.{Pressed, pressing_reset, pressing_start}
use Rattle.definition_runs.specs.Lent as Lent
use Rattle.definition_runs.specs.Lent.{run_lent, KeyReturned, autoload_lent}
use Rattle.definition_tape.specs.Load.{judge_then, Loaded, loading, overlaying}
use Rattle.definition_tape.specs.Writing.{remark_of, Writing, writing}
use Rattle.definition_tape.specs.Remark.{Span}
use Rattle.definition_tape.specs.Writing.{Written}
use Rattle.capi_records.specs.declared.ControlRecord.{ControlRecord}
use Rattle.capi_records.specs.declared.CallResult.{CallResult}
use Rattle.capi_records.specs.declared.StateResult.{StateResult}
use Rattle.capi_records.specs.declared.AutoloadResult.{AutoloadResult}
use Rattle.capi_records.specs.declared.TextResult.{TextResult}
use Rattle.definition_assembler.specs.Answers.{Assembled}
use Rattle.definition_assembler.specs.Assembling.{assembling}
use Rattle.capi_records.specs.declared.WriteResult.{WriteResult}
use Rattle.capi_records.specs.declared.AssembleResult.{AssembleResult}

-- ---- the control record: a flag crosses as a byte

-- a flag byte is 0 or 1
abbrev pub flag_fits : ℕ → Bool
flag_fits b = ltb b 2

unfoldable pub flags_fit : ControlRecord → Bool
flags_fit r = cond (flag_fits r.monitor) (cond (flag_fits r.enabled) (flag_fits r.reset) false) false

-- 1 is yes
abbrev pub flag_of : ℕ → Bool
flag_of b = eqb b 1

unfoldable pub flag_byte : Bool → ℕ
flag_byte f = cond f 1 0

-- the control registers that bytes stand for
unfoldable pub registers_in : ControlRecord → Control
registers_in r =
    record { ic = r.ic; ir = r.ir; im = r.im; pending = r.pending; pr = r.pr; ex = r.ex; monitor = flag_of r.monitor; enabled = flag_of r.enabled; reset = flag_of r.reset }

-- and the timer, field by field
unfoldable pub timer_in : ControlRecord → Timer
timer_in r = record { elapsed = r.elapsed; period = r.period; phase = r.phase; line = r.line }

-- the control record that bytes stand for
unfoldable pub record_in : ControlRecord → Record
record_in r = record { registers = registers_in r; timer = timer_in r }

-- the bytes of a control record
unfoldable pub record_of : Record → ControlRecord
record_of x =
    let c = x.registers in
    let t = x.timer in
    record {
      ic = c.ic;
      ir = c.ir;
      im = c.im;
      pending = c.pending;
      pr = c.pr;
      ex = c.ex;
      monitor = flag_byte c.monitor;
      enabled = flag_byte c.enabled;
      reset = flag_byte c.reset;
      elapsed = t.elapsed;
      period = t.period;
      phase = t.phase;
      line = t.line;
    }

-- a flag byte over 1: 3, where the store gives neither 1 nor 2; with bytes of 0 and 1 the call makes its own tests, from 1 on
unfoldable pub judge_flags : List ℕ → ControlRecord → Verdict
judge_flags s r = cond (flags_fit r) Accepted (judge_then (judge_store s) (Rejected ControlField))

-- ---- what a call hands back

-- the store beside the struct
pub record Returned (R : Type 0) : Type 0 where
  pub result : R
  pub cells : List ℕ

abbrev pub returned : {R : Type 0} → R → List ℕ → Returned R
returned r s = record { result = r; cells = s }

-- store and typing buffer beside the struct
pub record RunReturned : Type 0 where
  pub result : CallResult
  pub cells : List ℕ
  pub typing : List ℕ

abbrev pub run_returned : CallResult → List ℕ → List ℕ → RunReturned
run_returned r s t = record { result = r; cells = s; typing = t }

-- the output buffer beside the struct
pub record WriteReturned : Type 0 where
  pub result : WriteResult
  pub bytes : List ℕ

abbrev pub write_returned : WriteResult → List ℕ → WriteReturned
write_returned r o = record { result = r; bytes = o }

-- 1 spent, 2 reset, 3 interrupted by an exception, 4 interrupted by a line
abbrev pub outcome_code : Outcome → ℕ
outcome_code Spent = 1
outcome_code Reset = 2
outcome_code (Interrupted Exception) = 3
outcome_code (Interrupted (Line n)) = 4

-- the number stored by a line's entry, else 0
abbrev pub outcome_number : Outcome → ℕ
outcome_number Spent = 0
outcome_number Reset = 0
outcome_number (Interrupted k) = kind_number k

-- a refused run: outcome 0 and the refusal's number, the record r and the device buffer registers d as given; counts, taken and typed zero
abbrev pub refused_run : Refusal → ControlRecord → Devices → CallResult
refused_run q r d = record { control = r; outcome = 0; number = refusal_number q; executed = 0; entries = 0; devices = d; taken = 0; typed = 0 }

-- a refused key or tape: the record r as given
abbrev pub refused_state : Refusal → ControlRecord → StateResult
refused_state q r = record { control = r; refusal = refusal_number q }

-- what the run x handed back, by its answer
abbrev pub result_by : Answer → ControlRecord → Devices → Run → CallResult
result_by (Refused q) r d x = refused_run q r d
result_by (Ended o) r d x =
    record {
      control = record_of x.control;
      outcome = outcome_code o;
      number = outcome_number o;
      executed = x.executed;
      entries = x.entries;
      devices = x.devices;
      taken = x.taken;
      typed = x.typed;
    }

abbrev pub state_by : Verdict → ControlRecord → Record → StateResult
state_by (Rejected q) r c = refused_state q r
state_by Accepted r c = record { control = record_of c; refusal = 0 }

-- a refused autoload key: the record r and the registers d as given, none taken
abbrev pub refused_autoload : Refusal → ControlRecord → Devices → AutoloadResult
refused_autoload q r d = record { control = r; refusal = refusal_number q; devices = d; taken = 0 }

-- what the autoload key x handed back, by its verdict
abbrev pub autoloaded_by : Verdict → ControlRecord → Devices → Autoloaded → AutoloadResult
autoloaded_by (Rejected q) r d x = refused_autoload q r d
autoloaded_by Accepted r d x = record { control = record_of x.control; refusal = 0; devices = x.devices; taken = x.taken }

-- a refused machine, remark or buffer: the length is 0
abbrev pub refused_write : Refusal → WriteResult
refused_write q = record { refusal = refusal_number q; length = 0 }

abbrev pub write_result_by : Verdict → Written → WriteResult
write_result_by (Rejected q) x = refused_write q
write_result_by Accepted x = record { refusal = 0; length = x.length }

-- ---- the calls

-- 3 for a flag byte, then the run; the typing buffer t is handed back beside the store
abbrev pub run_by : Verdict → ControlRecord → Devices → List ℕ → List ℕ → Lent.Returned → RunReturned
run_by (Rejected q) r d s t x = run_returned (refused_run q r d) s t
run_by Accepted r d s t x = run_returned (result_by x.run.answer r d x.run) x.cells x.typing

unfoldable pub run_call : ℕ → ℕ → List ℕ → ControlRecord → Devices → List ℕ → List ℕ → RunReturned
run_call l b s r d cs t = run_by (judge_flags s r) r d s t (run_lent l b s (record_in r) d cs t)

-- 3 for a flag byte, then the key
abbrev pub key_by : Verdict → ControlRecord → List ℕ → Pressed TimedComputer → Returned StateResult
key_by (Rejected q) r s x = returned (refused_state q r) s
key_by Accepted r s x = returned (state_by x.verdict r x.machine.control) x.machine.cells

unfoldable pub reset_call : List ℕ → ControlRecord → Returned StateResult
reset_call s r = key_by (judge_flags s r) r s (pressing_reset s (record_in r))

unfoldable pub start_call : List ℕ → ControlRecord → Returned StateResult
start_call s r = key_by (judge_flags s r) r s (pressing_start s (record_in r))

abbrev pub autoload_by : Verdict → ControlRecord → Devices → List ℕ → KeyReturned → Returned AutoloadResult
autoload_by (Rejected q) r d s x = returned (refused_autoload q r d) s
autoload_by Accepted r d s x = returned (autoloaded_by x.key.verdict r d x.key) x.cells

unfoldable pub autoload_call : List ℕ → ControlRecord → Devices → List ℕ → Returned AutoloadResult
autoload_call s r d cs = autoload_by (judge_flags s r) r d s (autoload_lent s (record_in r) d cs)

-- a load and an overlay do not test the given record (docs/DECISIONS.md, decision E4)
abbrev pub load_by : ControlRecord → Loaded → Returned StateResult
load_by r x = returned (state_by x.state.verdict r x.state.control) x.cells

unfoldable pub load_call : List ℕ → List ℕ → ControlRecord → Returned StateResult
load_call t s r = load_by r (loading t s (record_in r))

unfoldable pub overlay_call : List ℕ → List ℕ → ControlRecord → Returned StateResult
overlay_call t s r = load_by r (overlaying t s (record_in r))

-- the first remark's place in the tape
unfoldable pub text_of : Span → TextResult
text_of x = record { refusal = x.refusal; found = x.found; start = x.start; end = x.end }

-- 3 for a flag byte, then the tape of the machine
abbrev pub write_by : Verdict → List ℕ → Writing → WriteReturned
write_by (Rejected q) o x = write_returned (refused_write q) o
write_by Accepted o x = write_returned (write_result_by x.answer.verdict x.answer) x.bytes

-- the byte g is 0 where no remark is given
unfoldable pub write_call : List ℕ → ControlRecord → ℕ → List ℕ → List ℕ → WriteReturned
write_call s r g m o = write_by (judge_flags s r) o (writing s (record_in r) (remark_of (not (eqb g 0)) m) o)

-- refusal 0: the word; else the word is 0
abbrev pub assemble_result : Assembled → AssembleResult
assemble_result (Err q) = record { refusal = refusal_number q; word = 0 }
assemble_result (Ok v) = record { refusal = 0; word = v }

unfoldable pub assemble_call : List ℕ → AssembleResult
assemble_call t = assemble_result (assembling t)
