-- An instruction without devices in a machine with a channel.
-- Assumes nothing.
use Prim.Native.Nat.{ℕ}
use mathlib.Core.Path.{◌≡◌, refl, ◌∙◌, ap}
use mathlib.Core.List.{List}
use Rattle.machine.specs.declared.Control.{Control}
use Rattle.definition_instructions.specs.Machine.{Computer, Channel, Effect, ok, fault, lifted}
use Rattle.definition_instructions.specs.Meaning.{Op}
use Rattle.definition_instructions.specs.Codes.{execute}
use Rattle.control_row.specs.Endings.{Ending, ending, ending_with}

ending_lifted : (h : Channel) (e : Effect Computer) → ending_with h (ending e) ≡ ending (lifted h e)
ending_lifted h (ok k) = refl
ending_lifted h (fault f k) = refl

-- how it ends for the computer is how it ends for the machine, which keeps its channel
pub with_channel : (o : Op) (w sb : ℕ) (s : List ℕ) (c : Control) (h : Channel) (x : Ending Computer) → x ≡ ending (execute o w sb s c)
    → ending_with h x ≡ ending (lifted h (execute o w sb s c))
with_channel o w sb s c h x e = ap (ending_with h) e ∙ ending_lifted h (execute o w sb s c)
