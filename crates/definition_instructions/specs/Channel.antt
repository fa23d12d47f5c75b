-- Chapter 8: the low-speed data channel, with a tape reader as device 0 and a typewriter as device 1 (document 02, E1). An operation ends in its
-- cycle, raises no line and sets no status bit.
-- Assumes nothing.
use Rattle.std.specs.Prelude.{ℕ, zero, suc, ◌*◌, ◌/◌, ◌%◌, Bool, true, false, cond, List, [], ◌∷◌, ◌++◌, eqb, leb, length}
use Rattle.registers.specs.Reg.{word_range}
use Rattle.machine.specs.declared.Devices.{Devices}
use Rattle.integer.specs.Bitwise.{logical_or}
use Rattle.definition_instructions.specs.Machine.{Channel}

-- a channel at the beginning of a call: the registers of reader and typewriter, the characters and the typing buffer that are lent
abbrev pub lent : ℕ → ℕ → List ℕ → List ℕ → Channel
lent r t cs space = record { reader = r; typewriter = t; characters = cs; typed = []; space = space }

-- the device buffer registers
unfoldable pub registers_of : Channel → Devices
registers_of h = record { reader = h.reader; typewriter = h.typewriter }

-- 8.2: device := SB(0:17)
abbrev pub device_of : ℕ → ℕ
device_of sb = sb / 64

-- 8.5: the basic command is SB(22:23); the modifier SB(18:21) is not looked at
abbrev pub command_of : ℕ → ℕ
command_of sb = sb % 4

abbrev pub sense_command : ℕ
sense_command = 0

abbrev pub control_command : ℕ
control_command = 1

abbrev pub read_command : ℕ
read_command = 2

abbrev pub write_command : ℕ
write_command = 3

abbrev pub none_left : List ℕ → Bool
none_left [] = true
none_left (x ∷ xs) = false

-- disconnected(device), for a command: a read finds the reader so where no characters are left, a write the typewriter where no typing space is left;
-- of the other devices none is connected
unfoldable pub disconnected : ℕ → ℕ → Channel → Bool
disconnected device command h =
    cond (eqb device 0) (cond (eqb command read_command) (none_left h.characters) false)
    (cond (eqb device 1) (cond (eqb command write_command) (none_left h.space) false) true)

-- busy(device): an operation has ended with its cycle
abbrev pub busy : Bool
busy = false

-- device buffer(device)
unfoldable pub device_buffer : ℕ → Channel → ℕ
device_buffer device h = cond (eqb device 0) h.reader h.typewriter

-- the first character that is left, if any, goes into the reader's buffer register
abbrev pub taking : List ℕ → Channel → Channel
taking [] h = h
taking (c ∷ cs) h = record { reader = c; typewriter = h.typewriter; characters = cs; typed = h.typed; space = h.space }

-- 8.6, Read: the next character from the external medium into the buffer register; a read of the typewriter gives zero
unfoldable pub read_from : ℕ → Channel → Channel
read_from device h =
    cond (eqb device 0) (taking h.characters h)
    (record { reader = h.reader; typewriter = 0; characters = h.characters; typed = h.typed; space = h.space })

-- if there is space, v goes into the typewriter's buffer register, and its right-most 8 bits are typed
abbrev pub typing_on : ℕ → List ℕ → Channel → Channel
typing_on v [] h = h
typing_on v (x ∷ xs) h = record { reader = h.reader; typewriter = v; characters = h.characters; typed = h.typed ++ (v % 256 ∷ []); space = xs }

-- 8.8, Write: device buffer(device) := v, followed by the output operation; a write to the reader is dropped, its register kept
unfoldable pub write_to : ℕ → ℕ → Channel → Channel
write_to device v h = cond (eqb device 0) h (typing_on v h.space h)

-- ---- what Autoload Word reads from device 0

-- AW finds four characters
unfoldable pub four_left : List ℕ → Bool
four_left cs = leb 4 (length cs)

-- AR(0:17) := AR(6:23); AR(18:23) := 0; AR := AR or SB, bit by bit
unfoldable pub shifted_in : ℕ → ℕ → ℕ
shifted_in ar sb = logical_or (ar * 64 % word_range) sb

-- AR after n characters more, from ar on
unfoldable pub assembled : ℕ → ℕ → List ℕ → ℕ
assembled zero ar cs = ar
assembled (suc n) ar [] = ar
assembled (suc n) ar (c ∷ cs) = assembled n (shifted_in ar c) cs
