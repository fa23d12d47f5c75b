-- What the row of the control registers has beside them, a mask that PR and the mode determine, and what is said of it.
-- Assumes nothing.
use Rattle.std.specs.Prelude.{ℕ, ◌-◌, Bool, not, cond}
use Rattle.machine.specs.declared.Control.{Control}
use Rattle.machine.specs.Store.{forbids}

-- PR in monitor mode, its complement in task mode
unfoldable pub mode_mask : ℕ → Bool → ℕ
mode_mask pr monitor = cond monitor pr (255 - pr)

-- monitor mode := PR(PK) = 1 changes nothing, of a cell with the key q
unfoldable pub keeps_mode : Control → ℕ → Bool
keeps_mode c q = cond c.monitor (forbids c.pr q) (not (forbids c.pr q))

-- monitor mode := m
unfoldable pub with_monitor : Control → Bool → Control
with_monitor c m = record { ic = c.ic; ir = c.ir; im = c.im; pending = c.pending; pr = c.pr; ex = c.ex; monitor = m; enabled = c.enabled; reset = c.reset }
