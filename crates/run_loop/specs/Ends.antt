-- For the functions inside the crate. Whether a run goes on after a cycle, and what it hands back where it does not (document 01, "A run"): an entry ends it interrupted, the reset state reset.
-- Assumes nothing.
use Rattle.std.specs.Prelude.{ℕ, ◌+◌, ◌-◌, Bool, true, false, List, length}
use Rattle.machine.specs.declared.Control.{Control}
use Rattle.machine.specs.declared.Devices.{Devices}
use Rattle.machine.specs.declared.Record.{Record}
use Rattle.machine.specs.declared.Outcome.TheVariants.{Reset, Interrupted, Spent}
use Rattle.machine.specs.Verdicts.{Answer, Refused, Ended}
use Rattle.machine.specs.declared.Run.{Run}
use Rattle.machine.specs.Records.{reset_control}
use Rattle.definition_instructions.specs.Machine.{Channel}
use Rattle.definition_instructions.specs.Channel.{registers_of}
use Rattle.definition_runs.specs.GenericRun.{RunResult}
use Rattle.definition_runs.specs.Timed.{TimedMachine, timed_machine}
use Rattle.cycle.specs.declared.CycleEnd.{CycleEnd}
use Rattle.cycle.specs.declared.CycleEnd.TheVariants as cycleEnd
use Rattle.run_loop.specs.declared.RunEnd.{RunEnd}

unfoldable pub goes_on : CycleEnd → Bool
goes_on cycleEnd.Executed = true
goes_on cycleEnd.Reset = false
goes_on (cycleEnd.Entered k) = false

-- the run that ends with this cycle, n instructions before it
unfoldable pub stopped : CycleEnd → ℕ → RunEnd
stopped cycleEnd.Executed n = record { answer = Ended Spent; executed = n + 1; entries = 0 }
stopped cycleEnd.Reset n = record { answer = Ended Reset; executed = n + 1; entries = 0 }
stopped (cycleEnd.Entered k) n = record { answer = Ended (Interrupted k); executed = n; entries = 1 }

-- the row stands for a machine outside the reset state: the answer tells where the cycles ended in it
abbrev pub control_after : Answer → Control → Control
control_after (Refused q) c = c
control_after (Ended Reset) c = reset_control c
control_after (Ended (Interrupted k)) c = c
control_after (Ended Spent) c = c

-- the control record then
abbrev pub record_after : Answer → Record → Record
record_after a r = record { registers = control_after a r.registers; timer = r.timer }

-- what is handed back of the run, the characters cs having been lent
unfoldable pub run_of : List ℕ → RunEnd → Record → Channel → Run
run_of cs e r h =
    record {
      control = record_after e.answer r;
      answer = e.answer;
      executed = e.executed;
      entries = e.entries;
      devices = registers_of h;
      taken = length cs - length h.characters;
      typed = length h.typed;
    }

-- how the cycles ended, with cells, control record and channel
abbrev pub run_end_of : RunEnd → List ℕ → Record → Channel → RunResult TimedMachine
run_end_of e s r h = record { machine = timed_machine s (record_after e.answer r) h; answer = e.answer; executed = e.executed; entries = e.entries }

-- a run begun in the reset state: no cycle is made
abbrev pub begun_in_reset : Record → Devices → Run
begun_in_reset r d = record { control = r; answer = Ended Reset; executed = 0; entries = 0; devices = d; taken = 0; typed = 0 }
