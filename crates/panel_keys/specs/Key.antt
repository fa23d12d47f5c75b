-- For functions inside the crate: the autoload key pressed, and in the reset state with four characters left.
-- Assumes nothing.
use Rattle.machine.specs.Verdicts.{Accepted}
use Rattle.definition_instructions.specs.Machine.{machine, reached}
use Rattle.definition_instructions.specs.MicroOps.{device_steps}
use Rattle.definition_instructions.specs.Meaning.{autoloading}
use Rattle.definition_runs.specs.Timed.{TimedMachine, untimed, timed}
use Rattle.definition_runs.specs.Keys.{Pressed, autoload_control, autoload_key}

abbrev pub autoload_pressed : TimedMachine → Pressed TimedMachine
autoload_pressed m = record { machine = timed m.control.timer (autoload_key (untimed m)); verdict = Accepted }

abbrev pub autoloaded : TimedMachine → Pressed TimedMachine
autoloaded m =
    record {
      machine = timed m.control.timer (reached (device_steps 0 (autoloading 0 m.channel.characters) (machine m.cells (autoload_control m.control.registers) m.channel)));
      verdict = Accepted;
    }
