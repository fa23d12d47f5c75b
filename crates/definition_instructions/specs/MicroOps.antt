-- What an instruction does, as a list of micro-operations in the order of 14.8. A `MicroOp` may stand in any instruction, and none can change what
-- is protected in task mode: a store tests protection itself. A `MonitorOp` may stand in a privileged instruction alone, a `DeviceOp` in one that
-- reaches devices: IO and AW. The first two see the computer alone. A value is computed from the computer as it is when the micro-operation is done.
-- Assumes nothing.
use Rattle.std.specs.Prelude.{ℕ, ◌/◌, Bool, cond, List, [], ◌∷◌}
use Rattle.machine.specs.declared.Control.{Control}
use Rattle.machine.specs.declared.Fault.TheVariants.{Unassigned, Absent, Privileged, Store, Jump}
use Rattle.machine.specs.Store.{word, put_word, put_key, put_byte, put_link, absent, violation, previous}
use Rattle.machine.specs.Fields.{in_task, with_ic, with_ir, with_im, with_pending, with_pr, with_ex, with_enabled, flags_cleared, overflowed, carry_set}
use Rattle.integer.specs.Sums.{sum24}
use Rattle.definition_instructions.specs.Machine.{Computer, computer, Machine, machine, computer_of, connected, Effect, ok, fault, bind, lifted, reset_system}
use Rattle.definition_instructions.specs.Channel.{device_buffer, read_from, write_to}

abbrev pub Value : Type 0
Value = Computer → ℕ

pub data MicroOp : Type 0 where
  -- Test Address
  test_address : ℕ → MicroOp
  -- Test Protection, of a jump
  test_jump : ℕ → MicroOp
  -- W := v, Wpre := v, by the instruction's own field: not a store
  set_w : Value → MicroOp
  set_wpre : Value → MicroOp
  -- if FR(6:7) <> 0 then W := IC
  link : MicroOp
  -- Test Protection; word(a) := v, byte(a) := v
  store_word : ℕ → Value → MicroOp
  store_byte : ℕ → Value → MicroOp
  -- IC := v
  set_ic : Value → MicroOp
  -- if test then IC := IC + 2
  skip_if : (Computer → Bool) → MicroOp
  -- EX(22:23) := 0
  clear_flags : MicroOp
  -- if v = 1 then EX(22) := IR(bit) := 1, where the weight of the bit is given
  overflow : ℕ → Value → MicroOp
  -- EX(23) := v
  set_carry : Value → MicroOp
  -- EX := v
  set_ex : Value → MicroOp
  -- the modification of the next address
  modify : Value → MicroOp

pub data MonitorOp : Type 0 where
  plain : MicroOp → MonitorOp
  -- protection key(a) := v
  set_key : ℕ → Value → MonitorOp
  -- PR := v; PR(0) := 1
  set_pr : Value → MonitorOp
  -- IM := v
  set_im : Value → MonitorOp
  -- IR := v
  set_ir : Value → MonitorOp
  -- interrupt disabled := not e
  set_enabled : Bool → MonitorOp
  -- word(a) := v, with no Test Protection
  set_word : ℕ → Value → MonitorOp

pub data DeviceOp : Type 0 where
  monitor : MonitorOp → DeviceOp
  -- 8.7: W := device buffer(device)
  sense_device : ℕ → DeviceOp
  -- 8.9, which does nothing at these devices
  control_device : ℕ → DeviceOp
  -- 8.6
  read_device : ℕ → DeviceOp
  -- 8.8: device buffer(device) := W, and the output operation
  write_device : ℕ → DeviceOp

pub data Operation : Type 0 where
  unprivileged : List MicroOp → Operation
  -- Test Mode; then the list
  privileged : List MonitorOp → Operation
  unassigned : Operation

pub data DeviceOperation : Type 0 where
  -- Test Mode; then the list
  peripheral : List DeviceOp → DeviceOperation
  -- Test Mode; then goto Reset System
  resetting : DeviceOperation

-- if test then IC := IC + 2
unfoldable pub skipped : Control → Bool → Control
skipped c t = cond t (with_ic c (sum24 c.ic 2)) c

-- one micro-operation of an instruction whose register is w
unfoldable pub micro_step : ℕ → MicroOp → Computer → Effect Computer
micro_step w (test_address a) m = cond (absent m.cells a) (fault (Absent a) m) (ok m)
micro_step w (test_jump a) m = cond (violation m.cells m.control (a / 2)) (fault (Jump a) m) (ok m)
micro_step w (set_w v) m = ok (computer (put_word m.cells w (v m)) m.control)
micro_step w (set_wpre v) m = ok (computer (put_word m.cells (previous w) (v m)) m.control)
micro_step w link m = ok (computer (put_link m.cells w m.control.ic) m.control)
micro_step w (store_word a v) m =
    cond (violation m.cells m.control (a / 2)) (fault (Store a) m) (ok (computer (put_word m.cells (a / 2) (v m)) m.control))
micro_step w (store_byte a v) m =
    cond (violation m.cells m.control (a / 2)) (fault (Store a) m) (ok (computer (put_byte m.cells a (v m)) m.control))
micro_step w (set_ic v) m = ok (computer m.cells (with_ic m.control (v m)))
micro_step w (skip_if t) m = ok (computer m.cells (skipped m.control (t m)))
micro_step w clear_flags m = ok (computer m.cells (flags_cleared m.control))
micro_step w (overflow b v) m = ok (computer m.cells (overflowed m.control (v m) b))
micro_step w (set_carry v) m = ok (computer m.cells (carry_set m.control (v m)))
micro_step w (set_ex v) m = ok (computer m.cells (with_ex m.control (v m)))
micro_step w (modify v) m = ok (computer m.cells (with_pending m.control (v m)))

-- a list of them: the first fault ends it
unfoldable pub micro_steps : ℕ → List MicroOp → Computer → Effect Computer
micro_steps w [] m = ok m
micro_steps w (d ∷ ds) m = bind (micro_step w d m) (λ n. micro_steps w ds n)

unfoldable pub monitor_step : ℕ → MonitorOp → Computer → Effect Computer
monitor_step w (plain d) m = micro_step w d m
monitor_step w (set_key a v) m = ok (computer (put_key m.cells (a / 2) (v m)) m.control)
monitor_step w (set_pr v) m = ok (computer m.cells (with_pr m.control (v m)))
monitor_step w (set_im v) m = ok (computer m.cells (with_im m.control (v m)))
monitor_step w (set_ir v) m = ok (computer m.cells (with_ir m.control (v m)))
monitor_step w (set_enabled e) m = ok (computer m.cells (with_enabled m.control e))
monitor_step w (set_word a v) m = ok (computer (put_word m.cells (a / 2) (v m)) m.control)

unfoldable pub monitor_steps : ℕ → List MonitorOp → Computer → Effect Computer
monitor_steps w [] m = ok m
monitor_steps w (d ∷ ds) m = bind (monitor_step w d m) (λ n. monitor_steps w ds n)

-- an operation; the privileged ones begin with Test Mode: if not monitor mode then goto Instruction Exception
unfoldable pub execute_operation : ℕ → Operation → Computer → Effect Computer
execute_operation w (unprivileged ds) m = micro_steps w ds m
execute_operation w (privileged ds) m = cond (in_task m.control) (fault Privileged m) (monitor_steps w ds m)
execute_operation w unassigned m = fault Unassigned m

-- a micro-operation of an instruction that reaches devices
unfoldable pub device_step : ℕ → DeviceOp → Machine → Effect Machine
device_step w (monitor d) m = lifted m.channel (monitor_step w d (computer_of m))
device_step w (sense_device n) m = ok (machine (put_word m.cells w (device_buffer n m.channel)) m.control m.channel)
device_step w (control_device n) m = ok m
device_step w (read_device n) m = ok (machine m.cells m.control (read_from n m.channel))
device_step w (write_device n) m = ok (machine m.cells m.control (write_to n (word m.cells w) m.channel))

unfoldable pub device_steps : ℕ → List DeviceOp → Machine → Effect Machine
device_steps w [] m = ok m
device_steps w (d ∷ ds) m = bind (device_step w d m) (λ n. device_steps w ds n)

unfoldable pub execute_device_operation : ℕ → DeviceOperation → Machine → Effect Machine
execute_device_operation w (peripheral ds) m = cond (in_task m.control) (fault Privileged m) (device_steps w ds m)
execute_device_operation w resetting m = cond (in_task m.control) (fault Privileged m) (ok (connected m.channel (reset_system m.cells m.control)))
