-- The panel keys (14.4; document 01, "Panel keys"; document 02, E1), with the refusals 1 to 3 and 18, for the autoload key 13 too. They take no time. The reset key and the start
-- key take no devices.
-- Assumes nothing.
use Rattle.std.specs.Prelude.{ℕ, ◌/◌, false, cond, List}
use Rattle.machine.specs.declared.Control.{Control}
use Rattle.machine.specs.declared.Record.{Record}
use Rattle.machine.specs.Verdicts.{Verdict, Accepted, Rejected}
use Rattle.machine.specs.Store.{word, even_address}
use Rattle.machine.specs.Records.{start_address}
use Rattle.acceptance.specs.Accept.{judge_machine, judge_autoload}
use Rattle.definition_instructions.specs.Machine.{Computer, computer, Machine, machine, reached, reset_system}
use Rattle.definition_instructions.specs.Channel.{four_left}
use Rattle.definition_instructions.specs.MicroOps.{device_steps}
use Rattle.definition_instructions.specs.Meaning.{autoloading}
use Rattle.definition_runs.specs.Timed.{TimedComputer, timed_computer, keeping_timer, TimedMachine, untimed, timed}

-- what a key hands back: cells and control record or, from the autoload key, the machine, and whether the call was accepted
pub record Pressed (M : Type 0) : Type 0 where
  pub machine : M
  pub verdict : Verdict

-- 14.4, Reset System; in the reset state it changes nothing
unfoldable pub reset_key : List ℕ → Control → Computer
reset_key s c = cond c.reset (computer s c) (reset_system s c)

-- IC := 0; the reset state is left
unfoldable pub autoload_control : Control → Control
autoload_control c = record { ic = 0; ir = c.ir; im = c.im; pending = c.pending; pr = c.pr; ex = c.ex; monitor = c.monitor; enabled = c.enabled; reset = false }

-- 14.4, After Reset: if autoload key then IC := SB := 0; goto Autoload Word. Outside the reset state it changes nothing, and so where fewer than four
-- characters are left (document 02)
unfoldable pub autoload_key : Machine → Machine
autoload_key m =
    cond m.control.reset
    (cond (four_left m.channel.characters)
    (reached (device_steps 0 (autoloading 0 m.channel.characters) (machine m.cells (autoload_control m.control) m.channel))) m)
    m

-- IC := a; IC(23) := 0; the reset state is left
unfoldable pub start_control : Control → ℕ → Control
start_control c a = record { ic = even_address a; ir = c.ir; im = c.im; pending = c.pending; pr = c.pr; ex = c.ex; monitor = c.monitor; enabled = c.enabled; reset = false }

-- 14.4, After Reset: if start key then IC := word(14); IC(23) := 0; outside the reset state it changes nothing
unfoldable pub start_key : List ℕ → Control → Computer
start_key s c = cond c.reset (computer s (start_control c (word s (start_address / 2)))) (computer s c)

-- a refused key changes nothing
abbrev pub pressed_by : {M : Type 0} → Verdict → M → M → Pressed M
pressed_by Accepted m n = record { machine = n; verdict = Accepted }
pressed_by (Rejected q) m n = record { machine = m; verdict = Rejected q }

-- the refusals 1 to 3 and 18, then the key
unfoldable pub pressing_reset : List ℕ → Record → Pressed TimedComputer
pressing_reset s r = pressed_by (judge_machine s r) (timed_computer s r) (keeping_timer r.timer (reset_key s r.registers))

unfoldable pub pressing_start : List ℕ → Record → Pressed TimedComputer
pressing_start s r = pressed_by (judge_machine s r) (timed_computer s r) (keeping_timer r.timer (start_key s r.registers))

-- the refusals 1 to 3, 18 and 13, then the key
abbrev pub judge_autoload_of : TimedMachine → Verdict
judge_autoload_of m = judge_autoload m.cells m.control m.channel.reader m.channel.typewriter m.channel.characters

unfoldable pub pressing_autoload : TimedMachine → Pressed TimedMachine
pressing_autoload m = pressed_by (judge_autoload_of m) m (timed m.control.timer (autoload_key (untimed m)))
