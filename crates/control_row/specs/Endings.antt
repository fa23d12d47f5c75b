-- What the code's answers stand for: how an instruction ended, with cells and control record. The cause of a fault is not told.
-- Assumes nothing.
use Rattle.std.specs.Prelude.{ℕ, List}
use Rattle.machine.specs.declared.Control.{Control}
use Rattle.machine.specs.Records.{reset_control}
use Rattle.definition_instructions.specs.Machine.{Computer, computer, Channel, Machine, connected, Effect, ok, fault}
use Rattle.control_row.specs.declared.End.{End}
use Rattle.control_row.specs.declared.End.TheVariants.{Done, Reset, Faulted}

pub data Ending (M : Type 0) : Type 0 where
  completed : M → Ending M
  faulted : M → Ending M

abbrev pub ending : {M : Type 0} → Effect M → Ending M
ending (ok m) = completed m
ending (fault f m) = faulted m

abbrev pub ending_of : End → List ℕ → Control → Ending Computer
ending_of Done s c = completed (computer s c)
ending_of Reset s c = completed (computer s (reset_control c))
ending_of Faulted s c = faulted (computer s c)

-- with the channel h
abbrev pub ending_with : Channel → Ending Computer → Ending Machine
ending_with h (completed k) = completed (connected h k)
ending_with h (faulted k) = faulted (connected h k)
