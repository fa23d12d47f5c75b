-- What is promised of every run: mission demand 3, and what it rests on. Each statement is a type; proofs/Promises.antt has the proofs under like names.
-- All are about `run_machine`, the definition that the contracts of the code cite.
-- Assumes nothing.
use Rattle.std.specs.Prelude.{ℕ, zero, suc, ◌+◌, ◌*◌, ◌/◌, ◌%◌, ◌^◌, ◌≤◌, ◌<◌, ◌≡◌, ◌≢◌, Bool, true, false, cond, List, ◌++◌, ltb, length, drop}
use Rattle.machine.specs.declared.Timer.{Timer}
use Rattle.machine.specs.declared.Record.{Record}
use Rattle.machine.specs.declared.Devices.{Devices}
use Rattle.machine.specs.declared.Kind.{Kind}
use Rattle.machine.specs.declared.Outcome.TheVariants.{Spent, Interrupted, Reset}
use Rattle.machine.specs.declared.Refusal.{Refusal}
use Rattle.machine.specs.Verdicts.{Answer, Refused, Ended, Accepted, Rejected}
use Rattle.machine.specs.Store.{word}
use Rattle.machine.specs.Records.{interrupt_number, interruption_program}
use Rattle.machine.specs.Fields.{raised}
use Rattle.machine.specs.Format.{instruction_fields}
use Rattle.machine.specs.Answers.{kind_number}
use Rattle.acceptance.specs.Accept.{size_fits, cells_fit, control_fits, timer_fits, judge_machine}
use Rattle.registers.specs.Reg.{iter}
use Rattle.definition_instructions.specs.Machine.{Computer, computer, Channel, Machine}
use Rattle.definition_instructions.specs.Protected.{forbidden_in, InTaskMode, EqualProtected}
use Rattle.definition_times.specs.Timer.{interval_ends, line_bit}
use Rattle.definition_runs.specs.GenericRun.{CycleResult, instruction, entry, RunResult, refused_number, refused, total}
use Rattle.definition_runs.specs.Cycle.{bit_from_left, fetched, cycle}
use Rattle.definition_runs.specs.Timed.{TimedComputer, TimedMachine, timed_computer_of, untimed, cycle_time, timed_cycle}
use Rattle.definition_runs.specs.Run.{in_reset, judge_of, devices_fit_of, judge_run_of, joined, run_machine, run_list}
use Rattle.definition_runs.specs.Keys.{pressing_reset, pressing_start, judge_autoload_of, pressing_autoload}
use Rattle.definition_runs.specs.Lent.{Returned, run_lent}
use Rattle.cycle_promises.specs.Claims.{takes_line}

-- the address from which words are kept: all from 8 up, save words 8 and 10 if an interruption was entered
abbrev pub kept_from : Answer → ℕ
kept_from (Refused q) = 8
kept_from (Ended Reset) = 8
kept_from (Ended (Interrupted k)) = 12
kept_from (Ended Spent) = 8

-- the computer without its timer
abbrev pub computer_in : TimedComputer → Computer
computer_in m = computer m.cells m.control.registers

-- period and line number of the timers r and q are equal
pub record SameTimer (r q : Timer) : Type 0 where
  pub period : q.period ≡ r.period
  pub line : q.line ≡ r.line

-- equal protected parts, the timer's period and line number among them (document 02, E6)
pub record EqualParts (first : ℕ) (m n : TimedComputer) : Type 0 where
  pub computer : EqualProtected first (computer_in m) (computer_in n)
  pub timer : SameTimer m.control.timer n.control.timer

-- a run begun at m in task mode that answers a and leaves n keeps the protected part, save words 8 and 10 at an entry
abbrev pub KeepsProtected : TimedComputer → Answer → TimedComputer → Type 0
KeepsProtected m a n = InTaskMode (computer_in m) → EqualParts (kept_from a) m n

-- (a) isolation, for every budget
abbrev pub Isolation : Type 0
Isolation =
    (lines budget : ℕ) (m : TimedMachine) → let r = run_machine lines budget m in KeepsProtected (timed_computer_of m) r.answer (timed_computer_of r.machine)

-- a task can change neither the period nor the line number; no more can the monitor
abbrev pub TaskKeepsTimer : Type 0
TaskKeepsTimer = (lines budget : ℕ) (m : TimedMachine) → SameTimer m.control.timer (run_machine lines budget m).machine.control.timer

-- a run begun in task mode, wherever it ends, leaves devices as they were: registers, characters, bytes typed and typing space
abbrev pub TaskTouchesNoDevice : Type 0
TaskTouchesNoDevice = (lines budget : ℕ) (m : TimedMachine) → InTaskMode (computer_in (timed_computer_of m)) → (run_machine lines budget m).machine.channel ≡ m.channel

-- the same of a call, handed back x: the registers d and the typing buffer t as they came, taken and typed zero
abbrev pub TouchesNoDevice : Record → Devices → List ℕ → Returned → Type 0
TouchesNoDevice c d t x = c.registers.monitor ≡ false → (x.run.devices ≡ d) × (x.run.taken ≡ 0) × (x.run.typed ≡ 0) × (x.typing ≡ t)

abbrev pub TaskCallTouchesNoDevice : Type 0
TaskCallTouchesNoDevice =
    (lines budget : ℕ) (s : List ℕ) (c : Record) (d : Devices) (cs t : List ℕ) → TouchesNoDevice c d t (run_lent lines budget s c d cs t)

-- two computers after an entry: protected parts equal save words 8 and 10, monitor mode, interrupts disabled, nothing pending, not in the reset
-- state, and one IC, the address in word 12 with bit 23 cleared
pub record EqualEntries (m n : TimedComputer) : Type 0 where
  pub equal : EqualProtected 12 (computer_in m) (computer_in n)
  pub monitor : (m.control.registers.monitor ≡ true) × (n.control.registers.monitor ≡ true)
  pub disabled : (m.control.registers.enabled ≡ false) × (n.control.registers.enabled ≡ false)
  pub pending : (m.control.registers.pending ≡ 0) × (n.control.registers.pending ≡ 0)
  pub reset : (m.control.registers.reset ≡ false) × (n.control.registers.reset ≡ false)
  pub same : m.control.registers.ic ≡ n.control.registers.ic
  pub starts :
      (m.control.registers.ic ≡ word m.cells (interruption_program / 2) / 2 * 2) × (n.control.registers.ic ≡ word n.cells (interruption_program / 2) / 2 * 2)

-- (b) two such runs, each with its own lines, budget, devices and timer, on equal protected parts with word 12 forbidden: if both end interrupted, they end
-- in EqualEntries, and with the same period and line number where they began with the same
abbrev pub TwoRuns : Type 0
TwoRuns =
    (m n : TimedMachine) (lines₁ budget₁ lines₂ budget₂ : ℕ) (k₁ k₂ : Kind)
    → InTaskMode (computer_in (timed_computer_of m)) → InTaskMode (computer_in (timed_computer_of n)) → EqualProtected 8 (computer_in (timed_computer_of m)) (computer_in (timed_computer_of n))
    → forbidden_in (computer_in (timed_computer_of m)) (interruption_program / 2) ≡ true
    → (run_machine lines₁ budget₁ m).answer ≡ Ended (Interrupted k₁) → (run_machine lines₂ budget₂ n).answer ≡ Ended (Interrupted k₂)
    → EqualEntries (timed_computer_of (run_machine lines₁ budget₁ m).machine) (timed_computer_of (run_machine lines₂ budget₂ n).machine)
    × (SameTimer m.control.timer n.control.timer
    → SameTimer (run_machine lines₁ budget₁ m).machine.control.timer (run_machine lines₂ budget₂ n).machine.control.timer)

-- (c) runs with the list of budgets b ∷ bs equal one run with the total: cells, control record, device buffer registers, characters left, bytes typed and
-- typing space, outcome or refusal, and summed counts
abbrev pub BudgetList : Type 0
BudgetList = (lines b : ℕ) (bs : List ℕ) (m : TimedMachine) → total b bs ≤ 65535 → run_list lines b bs m ≡ run_machine lines (total b bs) m

-- one entry where the run ended interrupted, else none
abbrev pub entries_of : Answer → ℕ
entries_of (Refused q) = 0
entries_of (Ended Reset) = 0
entries_of (Ended (Interrupted k)) = 1
entries_of (Ended Spent) = 0

-- executed and entries are the cycles done: the budget where the run ends spent, and never more
pub record Counts {M : Type 0} (budget : ℕ) (r : RunResult M) : Type 0 where
  pub most : r.executed + r.entries ≤ budget
  pub all : r.answer ≡ Ended Spent → r.executed + r.entries ≡ budget
  pub entry : r.entries ≡ entries_of r.answer

-- (d) the counts of every run
abbrev pub CountsOfRun : Type 0
CountsOfRun = (lines budget : ℕ) (m : TimedMachine) → Counts budget (run_machine lines budget m)

-- the machine after a cycle, an executed instruction or an entry
abbrev pub machine_of : {M : Type 0} → CycleResult M → M
machine_of (instruction m) = m
machine_of (entry k m) = m

-- 1 for an entry, 0 for an executed instruction
abbrev pub entry_count : {M : Type 0} → CycleResult M → ℕ
entry_count (instruction m) = 0
entry_count (entry k m) = 1

module _ {M : Type 0} (cycle : M → CycleResult M) where
  -- the machine after n cycles from m
  abbrev pub cycles : ℕ → M → M
  cycles n m = iter (λ k. machine_of (cycle k)) n m

  -- the entries among these n cycles
  unfoldable pub entries_among : ℕ → M → ℕ
  entries_among zero m = 0
  entries_among (suc n) m = entries_among n m + entry_count (cycle (cycles n m))

-- (d) a run that is accepted hands back the machine after executed + entries cycles, made from the machine with the lines joined; so many of them
-- are entries, and the others executed instructions
abbrev pub ThatManyCycles : Type 0
ThatManyCycles =
    (lines budget : ℕ) (m : TimedMachine) → judge_run_of lines budget m ≡ Accepted → let r = run_machine lines budget m in
    (r.machine ≡ cycles timed_cycle (r.executed + r.entries) (joined lines m))
    × (r.entries ≡ entries_among timed_cycle (r.executed + r.entries) (joined lines m))

-- a run from m ends as: reset state; interrupted, the last cycle being an entry of that kind; spent, the budget being used
abbrev pub EndsAs : {M : Type 0} → (M → Bool) → (M → CycleResult M) → ℕ → M → RunResult M → Answer → Type 0
EndsAs in_reset cycle budget m r (Refused q) = ⊥
EndsAs in_reset cycle budget m r (Ended Reset) = in_reset r.machine ≡ true
EndsAs in_reset cycle budget m r (Ended (Interrupted k)) = cycle (cycles cycle r.executed m) ≡ entry k r.machine
EndsAs in_reset cycle budget m r (Ended Spent) = (in_reset r.machine ≡ false) × (r.executed ≡ budget)

-- a run that is accepted ends so, and none of its cycles begins in the reset state
abbrev pub OutcomeOfRun : Type 0
OutcomeOfRun =
    (lines budget : ℕ) (m : TimedMachine) → judge_run_of lines budget m ≡ Accepted → let r = run_machine lines budget m in
    EndsAs in_reset timed_cycle budget (joined lines m) r r.answer
    × ((i : ℕ) → i < r.executed + r.entries → in_reset (cycles timed_cycle i (joined lines m)) ≡ false)

-- (e) a machine that the tests 1 to 3 and 18 accept stays one that they accept, by a run and by the panel keys; and so with 13
abbrev pub StaysAccepted : Type 0
StaysAccepted =
    (lines budget : ℕ) (m : TimedMachine) → let n = (run_machine lines budget m).machine in
    (judge_of m ≡ Accepted → judge_of n ≡ Accepted) × (judge_autoload_of m ≡ Accepted → judge_autoload_of n ≡ Accepted)

abbrev pub KeysStayAccepted : Type 0
KeysStayAccepted =
    (m : TimedComputer) → judge_machine m.cells m.control ≡ Accepted
    → (judge_machine (pressing_reset m.cells m.control).machine.cells (pressing_reset m.cells m.control).machine.control ≡ Accepted)
    × (judge_machine (pressing_start m.cells m.control).machine.cells (pressing_start m.cells m.control).machine.control ≡ Accepted)

abbrev pub AutoloadStaysAccepted : Type 0
AutoloadStaysAccepted = (m : TimedMachine) → judge_autoload_of m ≡ Accepted → judge_autoload_of (pressing_autoload m).machine ≡ Accepted

-- a run is refused exactly as the tests 1 to 5, 13 and 18 say, and a refusal leaves everything as it came, counts zero
abbrev pub RefusedRun : Type 0
RefusedRun = (lines budget : ℕ) (m : TimedMachine) (q : Refusal) → judge_run_of lines budget m ≡ Rejected q → run_machine lines budget m ≡ refused q m

abbrev pub RefusedOnly : Type 0
RefusedOnly = (lines budget : ℕ) (m : TimedMachine) (q : Refusal) → (run_machine lines budget m).answer ≡ Refused q → judge_run_of lines budget m ≡ Rejected q

-- the first of the numbers 1, 2, 3, 18, 4, 5 and 13, in this order, whose condition is met, 0 for none
abbrev pub due_refusal : ℕ → ℕ → TimedMachine → ℕ
due_refusal lines budget m =
    cond (size_fits (length m.cells))
    (cond (cells_fit m.cells)
    (cond (control_fits m.control.registers)
    (cond (timer_fits m.control.timer)
    (cond (ltb lines 2097152)
    (cond (ltb budget 65536)
    (cond (devices_fit_of m) 0 13) 5) 4) 18) 3) 2) 1

abbrev pub RefusalNumbers : Type 0
RefusalNumbers = (lines budget : ℕ) (m : TimedMachine) → refused_number (run_machine lines budget m).answer ≡ due_refusal lines budget m

-- word 8 holds the number of the interruption that ended the run
abbrev pub StoredNumber : Type 0
StoredNumber =
    (lines budget : ℕ) (m : TimedMachine) (k : Kind) → (run_machine lines budget m).answer ≡ Ended (Interrupted k)
    → word (run_machine lines budget m).machine.cells (interrupt_number / 2) ≡ kind_number k

-- ---- devices

-- the code of the instruction at IC
abbrev pub code_at : TimedMachine → ℕ
code_at m = (instruction_fields (fetched m.cells m.control.registers.ic)).code

-- a cycle at whose IC there is neither AW (0) nor IO (1) leaves devices as they were
abbrev pub OthersTouchNoDevice : Type 0
OthersTouchNoDevice = (m : TimedMachine) → code_at m ≢ 0 → code_at m ≢ 1 → (machine_of (timed_cycle m)).channel ≡ m.channel

-- and so does a cycle whose IC is in a cell that PR allows: its instruction is executed in task mode, also the first one after the monitor
abbrev pub AllowedTouchesNoDevice : Type 0
AllowedTouchesNoDevice = (m : TimedMachine) → forbidden_in (computer_in (timed_computer_of m)) (m.control.registers.ic / 2) ≡ false → (machine_of (timed_cycle m)).channel ≡ m.channel

-- the channel goes on from g to h: characters were taken from the front; bytes were typed behind those typed before, into as many bytes at the front of
-- the typing space, whose rest is as it came
pub record GoesOn (g h : Channel) : Type 0 where
  pub taken : List ℕ
  pub characters : g.characters ≡ taken ++ h.characters
  pub written : List ℕ
  pub typed : h.typed ≡ g.typed ++ written
  pub used : List ℕ
  pub space : g.space ≡ used ++ h.space
  pub as_many : length used ≡ length written

abbrev pub ChannelGoesOn : Type 0
ChannelGoesOn = (lines budget : ℕ) (m : TimedMachine) → GoesOn m.channel (run_machine lines budget m).machine.channel

-- of a call: no more is taken or typed than was lent; the typing buffer keeps its length, and its bytes behind the typed ones are as they came
pub record WithinLent (cs t : List ℕ) (x : Returned) : Type 0 where
  pub taken : x.run.taken ≤ length cs
  pub typed : x.run.typed ≤ length t
  pub size : length x.typing ≡ length t
  pub rest : drop x.run.typed x.typing ≡ drop x.run.typed t

abbrev pub CallWithinLent : Type 0
CallWithinLent =
    (lines budget : ℕ) (s : List ℕ) (c : Record) (d : Devices) (cs t : List ℕ) → WithinLent cs t (run_lent lines budget s c d cs t)

-- ---- the timer

-- the time of the first n cycles from m
unfoldable pub time_among : ℕ → TimedMachine → ℕ
time_among zero m = 0
time_among (suc n) m = time_among n m + cycle_time (untimed (cycles timed_cycle n m))

-- elapsed time after a run is the sum of its cycles' times, 32 bits of it
abbrev pub Elapsed : Type 0
Elapsed =
    (lines budget : ℕ) (m : TimedMachine) → judge_run_of lines budget m ≡ Accepted → m.control.timer.elapsed < 2 ^ 32 → let r = run_machine lines budget m in
    r.machine.control.timer.elapsed ≡ (m.control.timer.elapsed + time_among (r.executed + r.entries) (joined lines m)) % 2 ^ 32

-- the end of a cycle begun at a, which took the time t and left b by 14.5: what stands then is z
pub record CycleEnds (t : ℕ) (a : TimedMachine) (b : Machine) (z : TimedMachine) : Type 0 where
  -- where the sum of phase and time reaches or passes the period, the line's bit joins IR
  pub reached :
      0 < a.control.timer.period → a.control.timer.period ≤ a.control.timer.phase + t
      → z.control.registers ≡ raised b.control (line_bit a.control.timer.line)
  -- elsewhere nothing is raised
  pub before : a.control.timer.phase + t < a.control.timer.period → z.control.registers ≡ b.control
  pub off : a.control.timer.period ≡ 0 → (z.control.registers ≡ b.control) × (z.control.timer.phase ≡ a.control.timer.phase)
  -- the phase keeps the remainder
  pub phase : 0 < a.control.timer.period → z.control.timer.phase ≡ (a.control.timer.phase + t) % a.control.timer.period
  pub cells : z.cells ≡ b.cells
  pub channel : z.channel ≡ b.channel

-- over a run the line is raised at the end of exactly those cycles in which the sum of phase and time reaches or passes the period
abbrev pub TimerLine : Type 0
TimerLine =
    (lines budget : ℕ) (m : TimedMachine) (i : ℕ) → judge_run_of lines budget m ≡ Accepted → i < (run_machine lines budget m).executed + (run_machine lines budget m).entries
    → let a = cycles timed_cycle i (joined lines m) in CycleEnds (cycle_time (untimed a)) a (machine_of (cycle (untimed a))) (cycles timed_cycle (suc i) (joined lines m))

-- a run keeps the phase below a period that is not 0
abbrev pub PhaseBelowPeriod : Type 0
PhaseBelowPeriod =
    (lines budget : ℕ) (m : TimedMachine) → judge_of m ≡ Accepted → let r = (run_machine lines budget m).machine.control.timer in 0 < r.period → r.phase < r.period

-- the timer's line counts as a raised line: where an interval ends in a cycle that leaves interrupts enabled, nothing pending and the line masked in, the next
-- cycle takes a line
abbrev pub TimerLineTaken : Type 0
TimerLineTaken =
    (m : TimedMachine) → timer_fits m.control.timer ≡ true → interval_ends (cycle_time (untimed m)) m.control.timer ≡ true
    → let n = machine_of (timed_cycle m) in n.control.registers.enabled ≡ true → n.control.registers.pending ≡ 0
    → bit_from_left n.control.registers.im m.control.timer.line ≡ 1 → takes_line (cycle (untimed n)) ≡ true

-- an entry takes 7.5 microseconds in all, by a line or by an exception
abbrev pub EntryTime : Type 0
EntryTime = (m n : Machine) (k : Kind) → cycle m ≡ entry k n → cycle_time m ≡ 75
