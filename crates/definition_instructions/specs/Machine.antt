-- The machine: the computer, which is a row of cells and the control record, and the devices of its low-speed data channel.
-- Assumes nothing.
use Rattle.std.specs.Prelude.{ℕ, ◌/◌, List}
use Rattle.machine.specs.declared.Control.{Control}
use Rattle.machine.specs.declared.Fault.{Fault}
use Rattle.machine.specs.Store.{put_word}
use Rattle.machine.specs.Records.{return_address, reset_control}

-- all that an instruction without devices reads and changes
pub record Computer : Type 0 where
  pub cells : List ℕ
  pub control : Control

abbrev pub computer : List ℕ → Control → Computer
computer s c = record { cells = s; control = c }

-- device 0, a tape reader, and device 1, a typewriter: the device buffer registers, the reader's characters still there, the bytes typed so far, and
-- the typing space left, with the bytes that it holds
pub record Channel : Type 0 where
  pub reader : ℕ
  pub typewriter : ℕ
  pub characters : List ℕ
  pub typed : List ℕ
  pub space : List ℕ

pub record Machine : Type 0 where
  pub cells : List ℕ
  pub control : Control
  pub channel : Channel

abbrev pub machine : List ℕ → Control → Channel → Machine
machine s c h = record { cells = s; control = c; channel = h }

abbrev pub computer_of : Machine → Computer
computer_of m = computer m.cells m.control

-- the computer k with the channel h
abbrev pub connected : Channel → Computer → Machine
connected h k = machine k.cells k.control h

-- what an instruction leaves, or what it had left where it met a fault: what was written before stays
pub data Effect (M : Type 0) : Type 0 where
  ok : M → Effect M
  fault : Fault → M → Effect M

module _ {M : Type 0} where
  abbrev pub bind : Effect M → (M → Effect M) → Effect M
  bind (ok m) k = k m
  bind (fault f m) k = fault f m

  -- what is left in either case
  abbrev pub reached : Effect M → M
  reached (ok m) = m
  reached (fault f m) = m

-- an instruction without devices leaves the channel as it was
abbrev pub lifted : Channel → Effect Computer → Effect Machine
lifted h (ok k) = ok (connected h k)
lifted h (fault f k) = fault f (connected h k)

-- 14.4, Reset System: word(10) := IC; then the reset state
unfoldable pub reset_system : List ℕ → Control → Computer
reset_system s c = computer (put_word s (return_address / 2) c.ic) (reset_control c)
