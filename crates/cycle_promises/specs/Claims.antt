-- What a panel key and an interruption entry change, field by field, and that nothing else changes. The proofs stand in proofs/Claims.antt.
-- Assumes nothing.
use Rattle.std.specs.Prelude.{ℕ, ◌+◌, ◌-◌, ◌*◌, ◌/◌, ◌^◌, ◌≤◌, ◌<◌, ◌≡◌, ◌≢◌, Bool, true, false, cond, List, ◌∷◌, length, get_or, drop}
use Rattle.machine.specs.declared.Control.{Control}
use Rattle.machine.specs.declared.Fault.{Fault}
use Rattle.machine.specs.declared.Kind.{Kind}
use Rattle.machine.specs.declared.Kind.TheVariants.{Exception, Line}
use Rattle.machine.specs.declared.Refusal.{Refusal}
use Rattle.machine.specs.Verdicts.{Accepted, Rejected}
use Rattle.machine.specs.Store.{word, key}
use Rattle.machine.specs.Records.{interrupt_number, return_address, interruption_program, start_address}
use Rattle.machine.specs.Answers.{verdict_number}
use Rattle.acceptance.specs.Accept.{size_fits, cells_fit, control_fits, judge_registers, timer_fits, judge_machine}
use Rattle.definition_instructions.specs.Machine.{Machine, fault}
use Rattle.definition_instructions.specs.Channel.{assembled}
use Rattle.definition_runs.specs.GenericRun.{CycleResult, instruction, entry}
use Rattle.definition_runs.specs.Cycle.{bit_from_left, fetch, cycle}
use Rattle.definition_runs.specs.Timed.{TimedComputer, TimedMachine}
use Rattle.definition_runs.specs.Run.{in_reset, devices_fit_of}
use Rattle.definition_runs.specs.Keys.{pressing_reset, pressing_start, judge_autoload_of, pressing_autoload}

-- the store t has the size and the keys of s, and its words in all cells but those of the addresses a and b
pub record SameCells (a b : ℕ) (s t : List ℕ) : Type 0 where
  pub size : length t ≡ length s
  pub keys : (i : ℕ) → key t i ≡ key s i
  pub words : (i : ℕ) → i ≢ a / 2 → i ≢ b / 2 → word t i ≡ word s i

-- IM, PR and EX stay
pub record SameRegisters (c d : Control) : Type 0 where
  pub im : d.im ≡ c.im
  pub pr : d.pr ≡ c.pr
  pub ex : d.ex ≡ c.ex

-- monitor mode, interrupts disabled, no pending modification
pub record InMonitor (c : Control) : Type 0 where
  pub monitor : c.monitor ≡ true
  pub disabled : c.enabled ≡ false
  pub pending : c.pending ≡ 0

-- ---- Panel keys

-- reset stores IC in word 10, clears the pending modification and sets the reset state; no key takes time: the timer stays
pub record ResetPressed (m n : TimedComputer) : Type 0 where
  pub word10 : word n.cells (return_address / 2) ≡ m.control.registers.ic
  pub state : (n.control.registers.reset ≡ true) × InMonitor n.control.registers
  pub cells : SameCells return_address return_address m.cells n.cells
  pub kept :
      (n.control.registers.ic ≡ m.control.registers.ic) × (n.control.registers.ir ≡ m.control.registers.ir)
      × SameRegisters m.control.registers n.control.registers
  pub timer : n.control.timer ≡ m.control.timer

-- start takes IC from word 14, bit 23 cleared, and leaves the reset state; the timer stays
pub record StartPressed (m n : TimedComputer) : Type 0 where
  pub ic : n.control.registers.ic ≡ word m.cells (start_address / 2) / 2 * 2
  pub state : n.control.registers.reset ≡ false
  pub cells : n.cells ≡ m.cells
  pub kept :
      (n.control.registers.ir ≡ m.control.registers.ir) × (n.control.registers.pending ≡ m.control.registers.pending)
      × SameRegisters m.control.registers n.control.registers
  pub modes : (n.control.registers.monitor ≡ m.control.registers.monitor) × (n.control.registers.enabled ≡ m.control.registers.enabled)
  pub timer : n.control.timer ≡ m.control.timer

-- the reset key outside the reset state does that, and in the reset state it changes nothing
abbrev pub ResetKey : Type 0
ResetKey =
    (m : TimedComputer) → judge_machine m.cells m.control ≡ Accepted
    → (m.control.registers.reset ≡ false → ResetPressed m (pressing_reset m.cells m.control).machine)
    × (m.control.registers.reset ≡ true → (pressing_reset m.cells m.control).machine ≡ m)

-- the start key in the reset state does that, and elsewhere it changes nothing
abbrev pub StartKey : Type 0
StartKey =
    (m : TimedComputer) → judge_machine m.cells m.control ≡ Accepted
    → (m.control.registers.reset ≡ true → StartPressed m (pressing_start m.cells m.control).machine)
    × (m.control.registers.reset ≡ false → (pressing_start m.cells m.control).machine ≡ m)

-- a refused key changes nothing, and says why
abbrev pub RefusedKeys : Type 0
RefusedKeys =
    (m : TimedComputer) (q : Refusal) → judge_machine m.cells m.control ≡ Rejected q
    → (pressing_reset m.cells m.control ≡ record { machine = m; verdict = Rejected q })
    × (pressing_start m.cells m.control ≡ record { machine = m; verdict = Rejected q })

-- the first of the numbers 1, 2, 3 and 18 whose condition is met, 0 for none
abbrev pub due_of_key : TimedComputer → ℕ
due_of_key m =
    cond (size_fits (length m.cells)) (cond (cells_fit m.cells) (cond (control_fits m.control.registers) (cond (timer_fits m.control.timer) 0 18) 3) 2) 1

-- a key is refused by these numbers, and by no others
abbrev pub KeyNumbers : Type 0
KeyNumbers =
    (m : TimedComputer)
    → (verdict_number (pressing_reset m.cells m.control).verdict ≡ due_of_key m)
    × (verdict_number (pressing_start m.cells m.control).verdict ≡ due_of_key m)

-- ---- Autoload key

-- four characters go into W0, the first one left-most, and its key is zero; the fourth stands in the reader's register; EX(22:23) and IC are zero, and the
-- reset state is left; the timer stays
pub record AutoloadPressed (m n : TimedMachine) : Type 0 where
  pub loaded : word n.cells 0 ≡ assembled 4 0 m.channel.characters
  pub unprotected : key n.cells 0 ≡ 0
  pub size : length n.cells ≡ length m.cells
  pub cells : (i : ℕ) → i ≢ 0 → (word n.cells i ≡ word m.cells i) × (key n.cells i ≡ key m.cells i)
  pub ic : n.control.registers.ic ≡ 0
  pub ex : n.control.registers.ex ≡ m.control.registers.ex / 4 * 4
  pub state : n.control.registers.reset ≡ false
  pub kept :
      (n.control.registers.ir ≡ m.control.registers.ir) × (n.control.registers.im ≡ m.control.registers.im)
      × (n.control.registers.pr ≡ m.control.registers.pr) × (n.control.registers.pending ≡ m.control.registers.pending)
  pub modes : (n.control.registers.monitor ≡ m.control.registers.monitor) × (n.control.registers.enabled ≡ m.control.registers.enabled)
  pub timer : n.control.timer ≡ m.control.timer
  pub characters : n.channel.characters ≡ drop 4 m.channel.characters
  pub register : n.channel.reader ≡ get_or m.channel.characters 3 0
  pub typewriter : (n.channel.typewriter ≡ m.channel.typewriter) × (n.channel.typed ≡ m.channel.typed) × (n.channel.space ≡ m.channel.space)

-- the autoload key in the reset state, with four characters left, does that; in another state, or with fewer characters, it changes nothing
abbrev pub AutoloadKey : Type 0
AutoloadKey =
    (m : TimedMachine) → judge_autoload_of m ≡ Accepted
    → (in_reset m ≡ true → 4 ≤ length m.channel.characters → AutoloadPressed m (pressing_autoload m).machine)
    × (in_reset m ≡ false → (pressing_autoload m).machine ≡ m)
    × (length m.channel.characters < 4 → (pressing_autoload m).machine ≡ m)

-- refused, it changes nothing, and says why
abbrev pub RefusedAutoload : Type 0
RefusedAutoload = (m : TimedMachine) (q : Refusal) → judge_autoload_of m ≡ Rejected q → pressing_autoload m ≡ record { machine = m; verdict = Rejected q }

-- the first of the numbers 1, 2, 3, 18 and 13 whose condition is met, 0 for none
abbrev pub due_of_autoload : TimedMachine → ℕ
due_of_autoload m =
    cond (size_fits (length m.cells))
    (cond (cells_fit m.cells) (cond (control_fits m.control.registers) (cond (timer_fits m.control.timer) (cond (devices_fit_of m) 0 13) 18) 3) 2) 1

abbrev pub AutoloadNumbers : Type 0
AutoloadNumbers = (m : TimedMachine) → verdict_number (pressing_autoload m).verdict ≡ due_of_autoload m

-- the word of four characters
abbrev pub AssembledWord : Type 0
AssembledWord = (a b c d : ℕ) (cs : List ℕ) → a < 64 → b < 64 → c < 64 → d < 64 → assembled 4 0 (a ∷ b ∷ c ∷ d ∷ cs) ≡ a * 262144 + b * 4096 + c * 64 + d

-- ---- Interruption entry

-- the number v in word 8, IC in word 10, IC taken from word 12, bit 23 cleared, monitor mode, interrupts disabled, no pending modification
pub record Entered (v : ℕ) (m n : Machine) : Type 0 where
  pub number : word n.cells (interrupt_number / 2) ≡ v
  pub returns : word n.cells (return_address / 2) ≡ m.control.ic
  pub ic : n.control.ic ≡ word m.cells (interruption_program / 2) / 2 * 2
  pub state : InMonitor n.control
  pub cells : SameCells interrupt_number return_address m.cells n.cells
  pub kept : (n.control.reset ≡ m.control.reset) × SameRegisters m.control n.control
  pub channel : n.channel ≡ m.channel

-- line p, looked at where interrupts are enabled and nothing is pending, is the left-most raised one with mask bit one; only its bit is cleared; the
-- number stored is twice its position
pub record LineTaken (p : ℕ) (m n : Machine) : Type 0 where
  pub place : p < 24
  pub enabled : m.control.enabled ≡ true
  pub none : m.control.pending ≡ 0
  pub raised : bit_from_left m.control.ir p ≡ 1
  pub masked : bit_from_left m.control.im p ≡ 1
  pub leftmost : (i : ℕ) → i < p → bit_from_left m.control.ir i ≡ 1 → bit_from_left m.control.im i ≡ 1 → ⊥
  pub cleared : n.control.ir + 2 ^ (23 - p) ≡ m.control.ir
  pub entered : Entered (p * 2) m n

-- an instruction of m met a fault; the entry, number 0, is made from the machine that it left, and IR stays
pub record ExceptionMet (m n : Machine) : Type 0 where
  pub cause : Fault
  pub left : Machine
  pub met : fetch m.cells m.control m.channel ≡ fault cause left
  pub ir : n.control.ir ≡ left.control.ir
  pub entered : Entered 0 left n

abbrev pub EntryBy : Kind → Machine → Machine → Type 0
EntryBy Exception m n = ExceptionMet m n
EntryBy (Line v) m n = (v ≡ v / 2 * 2) × LineTaken (v / 2) m n

-- what a cycle does that is an entry
abbrev pub EntryOfCycle : Type 0
EntryOfCycle = (m n : Machine) (k : Kind) → judge_registers m.cells m.control ≡ Accepted → m.control.reset ≡ false → cycle m ≡ entry k n → EntryBy k m n

abbrev pub takes_line : CycleResult Machine → Bool
takes_line (instruction m) = false
takes_line (entry Exception m) = false
takes_line (entry (Line v) m) = true

-- where interrupts are enabled, nothing is pending and a raised line has its mask bit one, the cycle takes a line
abbrev pub LinesTaken : Type 0
LinesTaken =
    (m : Machine) (p : ℕ) → p < 24 → m.control.enabled ≡ true → m.control.pending ≡ 0 → bit_from_left m.control.ir p ≡ 1 → bit_from_left m.control.im p ≡ 1
    → takes_line (cycle m) ≡ true
