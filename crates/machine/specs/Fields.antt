-- The control registers, a field at a time. Each value is reduced to the field's width.
-- Assumes nothing.
use Rattle.std.specs.Prelude.{ℕ, ◌+◌, ◌*◌, ◌/◌, ◌%◌, Bool, not, cond, eqb}
use Rattle.std.specs.Int.Bits.{bit_or}
use Rattle.registers.specs.Reg.{word_range}
use Rattle.machine.specs.declared.Control.{Control}

-- not monitor mode: task mode
unfoldable pub in_task : Control → Bool
in_task c = not c.monitor

-- IC := v, and so on for the other fields
unfoldable pub with_ic : Control → ℕ → Control
with_ic c v = record { ic = v % word_range; ir = c.ir; im = c.im; pending = c.pending; pr = c.pr; ex = c.ex; monitor = c.monitor; enabled = c.enabled; reset = c.reset }

unfoldable pub with_ir : Control → ℕ → Control
with_ir c v = record { ic = c.ic; ir = v % word_range; im = c.im; pending = c.pending; pr = c.pr; ex = c.ex; monitor = c.monitor; enabled = c.enabled; reset = c.reset }

unfoldable pub with_im : Control → ℕ → Control
with_im c v = record { ic = c.ic; ir = c.ir; im = v % word_range; pending = c.pending; pr = c.pr; ex = c.ex; monitor = c.monitor; enabled = c.enabled; reset = c.reset }

unfoldable pub with_pending : Control → ℕ → Control
with_pending c v = record { ic = c.ic; ir = c.ir; im = c.im; pending = v % word_range; pr = c.pr; ex = c.ex; monitor = c.monitor; enabled = c.enabled; reset = c.reset }

-- PR(0) := 1
unfoldable pub with_pr : Control → ℕ → Control
with_pr c v = record { ic = c.ic; ir = c.ir; im = c.im; pending = c.pending; pr = 128 + v % 128; ex = c.ex; monitor = c.monitor; enabled = c.enabled; reset = c.reset }

unfoldable pub with_ex : Control → ℕ → Control
with_ex c v = record { ic = c.ic; ir = c.ir; im = c.im; pending = c.pending; pr = c.pr; ex = v % 8; monitor = c.monitor; enabled = c.enabled; reset = c.reset }

unfoldable pub with_enabled : Control → Bool → Control
with_enabled c v = record { ic = c.ic; ir = c.ir; im = c.im; pending = c.pending; pr = c.pr; ex = c.ex; monitor = c.monitor; enabled = v; reset = c.reset }

-- bits join IR
unfoldable pub raised : Control → ℕ → Control
raised c v = with_ir c (bit_or c.ir v)

-- EX(22:23) := 0
unfoldable pub flags_cleared : Control → Control
flags_cleared c = with_ex c (c.ex / 4 * 4)

-- if overflow then EX(22) := IR(bit) := 1, where b is the weight of the bit
unfoldable pub overflowed : Control → ℕ → ℕ → Control
overflowed c o b = cond (eqb o 0) c (raised (with_ex c (c.ex / 4 * 4 + 2 + c.ex % 2)) b)

-- EX(23) := carry
unfoldable pub carry_set : Control → ℕ → Control
carry_set c k = with_ex c (c.ex / 2 * 2 + k % 2)
