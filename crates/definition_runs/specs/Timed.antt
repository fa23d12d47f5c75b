-- The machine with its timer, and its cycle: that of 14.5 as it stands, then its time (A.3), then the timer (document 02, E6).
-- Assumes nothing.
use Rattle.std.specs.Prelude.{ℕ, ◌+◌, List}
use Rattle.machine.specs.declared.Timer.{Timer}
use Rattle.machine.specs.declared.Record.{Record}
use Rattle.machine.specs.Format.{instruction_fields}
use Rattle.definition_instructions.specs.Machine.{Computer, Channel, Machine, machine}
use Rattle.definition_times.specs.Times.{modification_time, indirect_time, execution_time, entry_time}
use Rattle.definition_times.specs.Timer.{timer_after, line_raised}
use Rattle.definition_runs.specs.GenericRun.{CycleResult, instruction, entry, cycle_mapped}
use Rattle.definition_runs.specs.Cycle.{fetched, address, effective_address, cycle}

-- cells and control record: what the reset key and the start key take
pub record TimedComputer : Type 0 where
  pub cells : List ℕ
  pub control : Record

abbrev pub timed_computer : List ℕ → Record → TimedComputer
timed_computer s r = record { cells = s; control = r }

-- the computer k with the timer r
abbrev pub keeping_timer : Timer → Computer → TimedComputer
keeping_timer r k = timed_computer k.cells (record { registers = k.control; timer = r })

pub record TimedMachine : Type 0 where
  pub cells : List ℕ
  pub control : Record
  pub channel : Channel

abbrev pub timed_machine : List ℕ → Record → Channel → TimedMachine
timed_machine s r h = record { cells = s; control = r; channel = h }

abbrev pub timed_computer_of : TimedMachine → TimedComputer
timed_computer_of m = timed_computer m.cells m.control

-- the machine without its timer: all that the cycle of 14.5 reads and changes
abbrev pub untimed : TimedMachine → Machine
untimed m = machine m.cells m.control.registers m.channel

-- the machine m with the timer r
abbrev pub timed : Timer → Machine → TimedMachine
timed r m = timed_machine m.cells (record { registers = m.control; timer = r }) m.channel

-- the time of the instruction at IC, by its own fields and the machine as the cycle begins, whose cells and channel are those that its operation begins with
unfoldable pub instruction_time : Machine → ℕ
instruction_time m =
    let i = instruction_fields (fetched m.cells m.control.ic) in
    let sb = effective_address m.cells i.m (address m.cells m.control i) in
    modification_time i.m i.x + (indirect_time i.code i.m + execution_time i.code i.w sb m)

-- an entry takes its own time alone, also one by an exception: the instruction that failed adds nothing
abbrev pub time_of : Machine → CycleResult Machine → ℕ
time_of m (instruction n) = instruction_time m
time_of m (entry k n) = entry_time

unfoldable pub cycle_time : Machine → ℕ
cycle_time m = time_of m (cycle m)

-- the end of a cycle that took the time t, after all else of it
unfoldable pub cycle_ended : ℕ → Timer → Machine → TimedMachine
cycle_ended t r m = timed (timer_after t r) (machine m.cells (line_raised t r m.control) m.channel)

unfoldable pub timed_cycle : TimedMachine → CycleResult TimedMachine
timed_cycle m = cycle_mapped (cycle_ended (cycle_time (untimed m)) m.control.timer) (cycle (untimed m))
