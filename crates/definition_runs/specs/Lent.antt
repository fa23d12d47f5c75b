-- What the host lends to a call and what it gets back (document 02, E1): cells, control record, the device buffer registers, the reader's characters
-- and the typing buffer.
-- Assumes nothing.
use Rattle.std.specs.Prelude.{ℕ, ◌-◌, List, [], ◌++◌, length}
use Rattle.machine.specs.declared.Record.{Record}
use Rattle.machine.specs.declared.Devices.{Devices}
use Rattle.machine.specs.declared.Run.{Run}
use Rattle.machine.specs.declared.State.{State}
use Rattle.machine.specs.declared.Autoloaded.{Autoloaded}
use Rattle.definition_instructions.specs.Machine.{Channel}
use Rattle.definition_instructions.specs.Channel.{lent, registers_of}
use Rattle.definition_runs.specs.GenericRun.{RunResult}
use Rattle.definition_runs.specs.Timed.{TimedComputer, timed_computer, TimedMachine, timed_machine}
use Rattle.definition_runs.specs.Run.{run_machine}
use Rattle.definition_runs.specs.Keys.{Pressed, pressing_autoload}

-- the machine at the beginning of a call: nothing is typed yet, and all of the typing buffer t is space
abbrev pub machine_lent : List ℕ → Record → Devices → List ℕ → List ℕ → TimedMachine
machine_lent s r d cs t = timed_machine s r (lent d.reader d.typewriter cs t)

-- the characters taken of those lent
abbrev pub taken_of : List ℕ → Channel → ℕ
taken_of cs h = length cs - length h.characters

-- the typing buffer: the bytes typed, then the space that is left, as it came
abbrev pub buffer_of : Channel → List ℕ
buffer_of h = h.typed ++ h.space

-- ---- a run

-- what a run hands back, with the store and the typing buffer
pub record Returned : Type 0 where
  pub run : Run
  pub cells : List ℕ
  pub typing : List ℕ

abbrev pub returned : Run → List ℕ → List ℕ → Returned
returned r s t = record { run = r; cells = s; typing = t }

-- what is handed back of the run x, the characters cs having been lent
unfoldable pub handed_back : List ℕ → RunResult TimedMachine → Returned
handed_back cs x =
    let h = x.machine.channel in
    returned
    (record {
      control = x.machine.control;
      answer = x.answer;
      executed = x.executed;
      entries = x.entries;
      devices = registers_of h;
      taken = taken_of cs h;
      typed = length h.typed;
    })
    x.machine.cells
    (buffer_of h)

-- a run with the raised lines l and the budget b
unfoldable pub run_lent : ℕ → ℕ → List ℕ → Record → Devices → List ℕ → List ℕ → Returned
run_lent l b s c d cs t = handed_back cs (run_machine l b (machine_lent s c d cs t))

-- the answer and the counts of a run that hands back r and the store s
abbrev pub run_result_of : Run → List ℕ → RunResult TimedComputer
run_result_of r s = record { machine = timed_computer s r.control; answer = r.answer; executed = r.executed; entries = r.entries }

-- ---- the panel keys

-- what the reset key or the start key hands back, with the store
abbrev pub pressed_of : State → List ℕ → Pressed TimedComputer
pressed_of r s = record { machine = timed_computer s r.control; verdict = r.verdict }

-- what the autoload key hands back, with the store
pub record KeyReturned : Type 0 where
  pub key : Autoloaded
  pub cells : List ℕ

abbrev pub key_returned : Autoloaded → List ℕ → KeyReturned
key_returned r s = record { key = r; cells = s }

-- what is handed back of the key x, the characters cs having been lent
unfoldable pub key_handed_back : List ℕ → Pressed TimedMachine → KeyReturned
key_handed_back cs x =
    let h = x.machine.channel in
    key_returned (record { control = x.machine.control; verdict = x.verdict; devices = registers_of h; taken = taken_of cs h }) x.machine.cells

-- no typing buffer is lent
unfoldable pub autoload_lent : List ℕ → Record → Devices → List ℕ → KeyReturned
autoload_lent s c d cs = key_handed_back cs (pressing_autoload (machine_lent s c d cs []))
