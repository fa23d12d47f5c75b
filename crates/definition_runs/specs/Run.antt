-- The run of the RC 4000: lines, budget, machine (document 01, "A run").
-- Assumes nothing.
use Rattle.std.specs.Prelude.{ℕ, Bool, List}
use Rattle.machine.specs.Verdicts.{Verdict}
use Rattle.machine.specs.Fields.{raised}
use Rattle.machine.specs.Records.{timer_off}
use Rattle.acceptance.specs.Accept.{judge_machine, devices_fit, judge_run}
use Rattle.definition_instructions.specs.Machine.{Machine, machine}
use Rattle.definition_runs.specs.GenericRun.{RunResult, run, call, calls}
use Rattle.definition_runs.specs.Timed.{TimedMachine, untimed, timed, timed_cycle}

-- the reset state, in which no cycle is made
abbrev pub in_reset : TimedMachine → Bool
in_reset m = m.control.registers.reset

-- the refusals 1 to 3 and 18
abbrev pub judge_of : TimedMachine → Verdict
judge_of m = judge_machine m.cells m.control

-- refusal 13 does not apply
abbrev pub devices_fit_of : TimedMachine → Bool
devices_fit_of m = devices_fit m.channel.reader m.channel.typewriter m.channel.characters

-- all refusals of a run: 1 to 5, 13 and 18
abbrev pub judge_run_of : ℕ → ℕ → TimedMachine → Verdict
judge_run_of l b m = judge_run m.cells m.control l b m.channel.reader m.channel.typewriter m.channel.characters

-- the lines join IR
abbrev pub joined : ℕ → TimedMachine → TimedMachine
joined l m = timed m.control.timer (machine m.cells (raised m.control.registers l) m.channel)

-- the cycles of a budget
unfoldable pub run_cycles : ℕ → TimedMachine → RunResult TimedMachine
run_cycles b m = run in_reset timed_cycle b m

-- a run with the raised lines l and the budget b
unfoldable pub run_machine : ℕ → ℕ → TimedMachine → RunResult TimedMachine
run_machine l b m = call in_reset timed_cycle judge_of devices_fit_of joined l b m

-- runs with the budgets b ∷ bs, one after the other
unfoldable pub run_list : ℕ → ℕ → List ℕ → TimedMachine → RunResult TimedMachine
run_list l b bs m = calls in_reset timed_cycle judge_of devices_fit_of joined l b bs m

-- a run without the timer that it leaves
abbrev pub without_timer : RunResult TimedMachine → RunResult Machine
without_timer r = record { machine = untimed r.machine; answer = r.answer; executed = r.executed; entries = r.entries }

-- the run of a machine whose interval timer is off, without the time that elapsed
abbrev pub run_untimed : ℕ → ℕ → Machine → RunResult Machine
run_untimed l b m = without_timer (run_machine l b (timed timer_off m))
