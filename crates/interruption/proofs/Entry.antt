-- The fields that the code sets one by one are the record of the entry that the definition names. Assumes nothing.
use Prim.Native.Nat.{ℕ, ◌*◌, ◌/◌, ◌%◌, ◌<◌}
use native.Mathlib.Omega.{arith}
use mathlib.Core.Path.{◌≡◌}
use mathlib.Core.Bool.{true, false}
use Rattle.machine.specs.declared.Control.{Control}
use Rattle.machine.specs.Fields.{with_ic, with_pending, with_enabled}
use Rattle.definition_runs.specs.Cycle.{entry_control}
use Rattle.control_row.specs.Row.{with_monitor}

pub entry_fields : (c : Control) (a : ℕ) → a < 16777216 → with_enabled (with_monitor (with_pending (with_ic c (a / 2 * 2)) 0) true) false ≡ entry_control c a
unfolding with_enabled with_monitor with_pending with_ic entry_control
entry_fields c a h = let e : a / 2 * 2 % 16777216 ≡ a / 2 * 2 = omega arith in rw e
