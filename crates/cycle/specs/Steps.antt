-- What the code's answers of a cycle stand for. Assumes nothing.
use Rattle.std.specs.Prelude.{ℕ, List}
use Rattle.machine.specs.declared.Control.{Control}
use Rattle.machine.specs.Records.{reset_control}
use Rattle.definition_instructions.specs.Machine.{Channel, Machine, machine}
use Rattle.definition_runs.specs.GenericRun.{CycleResult, instruction, entry}
use Rattle.cycle.specs.declared.CycleEnd.{CycleEnd}
use Rattle.cycle.specs.declared.CycleEnd.TheVariants.{Executed, Reset, Entered}

-- a cycle's answer, with cells, control record and channel
abbrev pub cycle_of : CycleEnd → List ℕ → Control → Channel → CycleResult Machine
cycle_of Executed s c h = instruction (machine s c h)
cycle_of Reset s c h = instruction (machine s (reset_control c) h)
cycle_of (Entered k) s c h = entry k (machine s c h)
