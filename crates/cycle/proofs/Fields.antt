-- The displacement field has 12 bits; and the fields that the code sets one by one are the record that the definition names.
-- Assumes nothing.
use Prim.Native.Nat.{ℕ, ◌+◌, ◌%◌, ◌<◌}
use native.Mathlib.Omega.{arith}
use mathlib.Core.Path.{◌≡◌}
use mathlib.Core.Bool.{Bool}
use Rattle.machine.specs.declared.Control.{Control}
use Rattle.machine.specs.Format.{instruction_fields}
use Rattle.machine.specs.Fields.{with_ic, with_pending}
use Rattle.integer.specs.Sums.{sum24}
use Rattle.definition_runs.specs.Cycle.{fetch_control}
use Rattle.control_row.specs.Row.{with_monitor}

pub displacement_fits : (v : ℕ) → (instruction_fields v).d < 4096
unfolding instruction_fields
displacement_fits v = omega arith

pub fetch_fields : (c : Control) (b : Bool) → with_pending (with_ic (with_monitor c b) (sum24 (with_monitor c b).ic 2)) 0 ≡ fetch_control c b
unfolding with_pending with_ic with_monitor fetch_control sum24
fetch_fields c b = let e : (c.ic + 2) % 16777216 % 16777216 ≡ (c.ic + 2) % 16777216 = omega arith in rw e
