-- The four addresses that are constants of the machine, the control registers after power on and in the reset state, the timer that is off.
-- Assumes nothing.
use Rattle.std.specs.Prelude.{ℕ, true, false}
use Rattle.machine.specs.declared.Control.{Control}
use Rattle.machine.specs.declared.Timer.{Timer}
use Rattle.machine.specs.declared.Record.{Record}

-- A.1: interrupt number, address of the interrupted program, address of the interruption program, start address
abbrev pub interrupt_number : ℕ
interrupt_number = 8

abbrev pub return_address : ℕ
return_address = 10

abbrev pub interruption_program : ℕ
interruption_program = 12

abbrev pub start_address : ℕ
start_address = 14

-- 14.4, Power On: monitor mode := interrupt disabled := true, in the reset state
abbrev pub fresh_control : Control
fresh_control = record { ic = 0; ir = 0; im = 0; pending = 0; pr = 128; ex = 0; monitor = true; enabled = false; reset = true }

-- no time elapsed, the interval timer off
abbrev pub timer_off : Timer
timer_off = record { elapsed = 0; period = 0; phase = 0; line = 0 }

-- the control record after power on
abbrev pub fresh_record : Record
fresh_record = record { registers = fresh_control; timer = timer_off }

-- the reset state: monitor mode, interrupts disabled, nothing pending
unfoldable pub reset_control : Control → Control
reset_control c = record { ic = c.ic; ir = c.ir; im = c.im; pending = 0; pr = c.pr; ex = c.ex; monitor = true; enabled = false; reset = true }
