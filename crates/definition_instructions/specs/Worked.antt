-- Worked instructions, by computation: document 01's "Likely errors", what stays after a fault, operands and flags, and IO and AW on both devices.
-- Assumes nothing.
use Rattle.std.specs.Prelude.{ℕ, ◌≡◌, refl, Bool, true, false, List, [], ◌∷◌}
use Rattle.machine.specs.declared.Control.{Control}
use Rattle.machine.specs.declared.Fault.TheVariants.{Unassigned, Absent, Privileged, Store, Jump}
use Rattle.definition_instructions.specs.Machine.{computer, Channel, machine, ok, fault, reset_system}
use Rattle.machine.specs.Records.{reset_control}
use Rattle.machine.specs.Fields.{in_task, with_ic, with_ir, with_im, with_pending, with_pr, with_ex, with_enabled, raised, flags_cleared, overflowed, carry_set}
use Rattle.machine.specs.Store.{word, pair, key, put_word, put_key, byte, with_byte, put_byte, put_link, absent, forbids, forbidden, violation, first_word}
use Rattle.registers.specs.Reg.{iter, until, signed_byte}
use Rattle.integer.specs.Bitwise.{each, logical_and, logical_or, logical_xor, cleared}
use Rattle.integer.specs.Skip.{is_high, is_low, is_equal, is_not_equal, bits_one, bits_zero}
use Rattle.integer.specs.Sums.{sum, difference, sum_with_carry, difference_with_carry, sum24}
use Rattle.multiply.specs.Wm.{wm_step, wm_last, wm}
use Rattle.divide.specs.Wd.{wd_step, wd_loop, abs24, wd_sign, wd_correction, wd_end, wd}
use Rattle.floating.specs.Convert.{cf_end, cf_by_places, cf}
use Rattle.floating.specs.Operands.{fetch_floating}
use Rattle.definition_instructions.specs.Channel.{disconnected, device_buffer, read_from, write_to, four_left, shifted_in, assembled}
use Rattle.definition_instructions.specs.Codes.{execute, execute_device}
use Rattle.definition_instructions.specs.Meaning.{HL, DS, RS, RX, WM, WD, CF, JL, JE, JD, PL, None, IO, AW, meaning, commanded, rejection, autoloading, device_meaning}
use Rattle.definition_instructions.specs.MicroOps.{skipped, micro_step, micro_steps, monitor_step, monitor_steps, execute_operation, device_step, device_steps, execute_device_operation}

-- `unfolding opened` unfolds the instructions used here
unfoldable opened : ℕ
unfolding in_task with_ic with_ir with_im with_pending with_pr with_ex with_enabled raised flags_cleared overflowed carry_set word pair key put_word put_key byte with_byte put_byte put_link absent forbids forbidden violation first_word iter until each logical_and logical_or logical_xor cleared is_high is_low is_equal is_not_equal bits_one bits_zero sum difference sum_with_carry difference_with_carry sum24 wm_step wm_last wm wd_step wd_loop abs24 wd_sign wd_correction wd_end wd cf_end cf_by_places cf fetch_floating execute reset_system meaning skipped micro_step micro_steps monitor_step monitor_steps execute_operation signed_byte reset_control disconnected device_buffer read_from write_to four_left shifted_in assembled execute_device commanded rejection autoloading device_meaning device_step device_steps execute_device_operation
opened = 0

-- task mode, EX given, key 7 forbidden
abbrev task : ℕ → Control
task ex = record { ic = 16; ir = 0; im = 0; pending = 0; pr = 129; ex = ex; monitor = false; enabled = false; reset = false }

-- DS with its second word allowed and its first, of key 7, forbidden: the second is written, and the fault tells the first's address
ds_halfway :
    execute DS 1 10 (16777220 ∷ 16777221 ∷ 16777222 ∷ 16777223 ∷ 117440520 ∷ 16777225 ∷ []) (task 0)
    ≡ fault (Store 8) (computer (16777220 ∷ 16777221 ∷ 16777222 ∷ 16777223 ∷ 117440520 ∷ 16777221 ∷ []) (task 0))
unfolding opened
ds_halfway = refl

-- key 0 is always forbidden
ds_at_0 : execute DS 2 0 (10 ∷ 11 ∷ 12 ∷ 13 ∷ 14 ∷ []) (task 0) ≡ fault (Store 0) (computer (10 ∷ 11 ∷ 12 ∷ 13 ∷ 14 ∷ []) (task 0))
unfolding opened
ds_at_0 = refl

-- DS of W1 and W2 at address 0: the first word is 6, W3
ds_at_0_allowed :
    execute DS 2 0 (16777226 ∷ 16777227 ∷ 16777228 ∷ 16777229 ∷ 16777230 ∷ []) (task 0)
    ≡ ok (computer (16777228 ∷ 16777227 ∷ 16777228 ∷ 16777227 ∷ 16777230 ∷ []) (task 0))
unfolding opened
ds_at_0_allowed = refl

-- at 8 it is W3 too
ds_at_8 :
    execute DS 2 8 (16777226 ∷ 16777227 ∷ 16777228 ∷ 16777229 ∷ 16777230 ∷ []) (task 0)
    ≡ ok (computer (16777226 ∷ 16777227 ∷ 16777228 ∷ 16777227 ∷ 16777228 ∷ []) (task 0))
unfolding opened
ds_at_8 = refl

-- a store by address to a register whose key is forbidden is a fault
rs_forbidden_register :
    execute RS 0 6 (16777226 ∷ 16777227 ∷ 16777228 ∷ 117440525 ∷ []) (task 0) ≡ fault (Store 6) (computer (16777226 ∷ 16777227 ∷ 16777228 ∷ 117440525 ∷ []) (task 0))
unfolding opened
rs_forbidden_register = refl

-- WM leaves EX as it is
wm_keeps_ex : execute WM 1 0 (3 ∷ 5 ∷ []) (task 7) ≡ ok (computer (0 ∷ 15 ∷ []) (task 7))
unfolding opened
wm_keeps_ex = refl

-- RX loads W before Test Protection
rx_forbidden :
    execute RX 0 8 (16777217 ∷ 16777218 ∷ 16777219 ∷ 16777220 ∷ 117440517 ∷ []) (task 0)
    ≡ fault (Store 8) (computer (16777221 ∷ 16777218 ∷ 16777219 ∷ 16777220 ∷ 117440517 ∷ []) (task 0))
unfolding opened
rx_forbidden = refl

-- a jump to a forbidden cell, an absent address, a privileged instruction in task mode, an unassigned code
jl_forbidden : execute JL 0 2 (16777217 ∷ 117440513 ∷ []) (task 0) ≡ fault (Jump 2) (computer (16777217 ∷ 117440513 ∷ []) (task 0))
unfolding opened
jl_forbidden = refl

jl_absent : execute JL 0 4 (16777217 ∷ 117440513 ∷ []) (task 0) ≡ fault (Absent 4) (computer (16777217 ∷ 117440513 ∷ []) (task 0))
unfolding opened
jl_absent = refl

pl_task : execute PL 0 9 (16777217 ∷ []) (task 0) ≡ fault Privileged (computer (16777217 ∷ []) (task 0))
unfolding opened
pl_task = refl

no_code : execute None 0 9 (16777217 ∷ []) (task 0) ≡ fault Unassigned (computer (16777217 ∷ []) (task 0))
unfolding opened
no_code = refl

-- HL w1 9: the byte goes into the right half of W1, and the left half stays
hl_right_half : execute HL 1 9 (1 ∷ 20487 ∷ 3 ∷ 4 ∷ 12297 ∷ []) (task 0) ≡ ok (computer (1 ∷ 20489 ∷ 3 ∷ 4 ∷ 12297 ∷ []) (task 0))
unfolding opened
hl_right_half = refl

-- WD of the pair W0, W1 = 0, 7 by 2: the quotient in W1, the remainder in W0
wd_pair : execute WD 1 4 (0 ∷ 7 ∷ 2 ∷ []) (task 0) ≡ ok (computer (1 ∷ 3 ∷ 2 ∷ []) (task 0))
unfolding opened
wd_pair = refl

-- CF of 2 ** 23: an integer overflow, IR(1) and EX(22), and W is kept
cf_overflow :
    execute CF 1 0 (4194304 ∷ 24 ∷ []) (task 0)
    ≡ ok
    (computer
    (4194304 ∷ 24 ∷ [])
    (record { ic = 16; ir = 4194304; im = 0; pending = 0; pr = 129; ex = 2; monitor = false; enabled = false; reset = false }))
unfolding opened
cf_overflow = refl

-- in monitor mode, IC and interrupts enabled given
abbrev interrupts : ℕ → Bool → Control
interrupts ic e = record { ic = ic; ir = 0; im = 0; pending = 0; pr = 129; ex = 0; monitor = true; enabled = e; reset = false }

-- JE enables interrupts, JD disables them; bit 23 of the address is dropped
je_jd :
    (execute JE 0 3 (1 ∷ 2 ∷ []) (interrupts 16 false) ≡ ok (computer (1 ∷ 2 ∷ []) (interrupts 2 true)))
    × (execute JD 0 3 (1 ∷ 2 ∷ []) (interrupts 16 true) ≡ ok (computer (1 ∷ 2 ∷ []) (interrupts 2 false)))
unfolding opened
je_jd = (refl, refl)

-- ---- IO

-- monitor mode, EX and the reset state given
abbrev monitor : ℕ → Bool → Control
monitor ex r = record { ic = 16; ir = 0; im = 0; pending = 0; pr = 129; ex = ex; monitor = true; enabled = false; reset = r }

-- the registers of reader and typewriter, the characters, the bytes typed and the space given
abbrev at : ℕ → ℕ → List ℕ → List ℕ → List ℕ → Channel
at r t cs ps space = record { reader = r; typewriter = t; characters = cs; typed = ps; space = space }

-- IO of W1 = 16711874 and EX 7, with the address sb and the channel g: W1, EX and the channel after it
abbrev Does : ℕ → Channel → ℕ → ℕ → Channel → Type 0
Does sb g w ex h = execute_device IO 1 sb (machine (1 ∷ 16711874 ∷ []) (monitor 7 false) g) ≡ ok (machine (1 ∷ w ∷ []) (monitor ex false) h)

-- sense finds both devices, also with nothing left; the modifier is not looked at; the devices 2 and 131072 are disconnected
sense_devices :
    Does 0 (at 5 6 [] [] []) 5 4 (at 5 6 [] [] [])
    × Does 64 (at 5 6 [] [] []) 6 4 (at 5 6 [] [] [])
    × Does 124 (at 5 16777215 [] [] []) 16777215 4 (at 5 16777215 [] [] [])
    × Does 128 (at 5 6 (9 ∷ []) [] (7 ∷ [])) 16711874 6 (at 5 6 (9 ∷ []) [] (7 ∷ []))
    × Does 8388608 (at 5 6 (9 ∷ []) [] (7 ∷ [])) 16711874 6 (at 5 6 (9 ∷ []) [] (7 ∷ []))
unfolding opened
sense_devices = (refl, refl, refl, refl, refl)

-- control does nothing
control_devices : Does 1 (at 5 6 [] [] (7 ∷ [])) 16711874 4 (at 5 6 [] [] (7 ∷ [])) × Does 65 (at 5 6 [] [] (7 ∷ [])) 16711874 4 (at 5 6 [] [] (7 ∷ []))
unfolding opened
control_devices = (refl, refl)

-- a read takes the next character; with none left the reader is disconnected; the typewriter gives zero
read_devices :
    Does 2 (at 5 6 (9 ∷ 8 ∷ []) [] []) 16711874 4 (at 9 6 (8 ∷ []) [] [])
    × Does 2 (at 5 6 [] [] []) 16711874 6 (at 5 6 [] [] [])
    × Does 66 (at 5 6 (9 ∷ []) [] []) 16711874 4 (at 5 0 (9 ∷ []) [] [])
unfolding opened
read_devices = (refl, refl, refl)

-- a write puts W1 into the register and types its right-most 8 bits; with no space left the typewriter is disconnected; to the reader it is dropped
write_devices :
    Does 67 (at 5 6 [] (1 ∷ []) (7 ∷ 8 ∷ [])) 16711874 4 (at 5 16711874 [] (1 ∷ 194 ∷ []) (8 ∷ []))
    × Does 67 (at 5 6 [] (1 ∷ []) []) 16711874 6 (at 5 6 [] (1 ∷ []) [])
    × Does 3 (at 5 6 [] [] (7 ∷ [])) 16711874 4 (at 5 6 [] [] (7 ∷ []))
unfolding opened
write_devices = (refl, refl, refl)

-- in task mode nothing is looked at
io_task : execute_device IO 1 2 (machine (1 ∷ []) (task 7) (at 5 6 (9 ∷ []) [] [])) ≡ fault Privileged (machine (1 ∷ []) (task 7) (at 5 6 (9 ∷ []) [] []))
unfolding opened
io_task = refl

-- ---- AW

-- to W3, whose key is 5, W0 to W2 being 1 to 3
abbrev Autoloads : List ℕ → ℕ → Channel → Type 0
Autoloads cs w h =
    execute_device AW 0 6 (machine (1 ∷ 2 ∷ 3 ∷ 83886084 ∷ []) (monitor 7 false) (at 5 6 cs [] [])) ≡ ok (machine (1 ∷ 2 ∷ 3 ∷ w ∷ []) (monitor 4 false) h)

-- four characters, the first one left-most, and the key becomes zero; the fifth stays
aw_four : Autoloads (1 ∷ 2 ∷ 3 ∷ 63 ∷ 9 ∷ []) 270591 (at 63 6 (9 ∷ []) [] [])
unfolding opened
aw_four = refl

-- with three it takes none, and the machine is reset: word 10 is IC
aw_three :
    execute_device AW 0 6 (machine (1 ∷ 2 ∷ 3 ∷ 4 ∷ 5 ∷ 6 ∷ []) (monitor 7 false) (at 5 6 (1 ∷ 2 ∷ 3 ∷ []) [] []))
    ≡ ok (machine (1 ∷ 2 ∷ 3 ∷ 4 ∷ 5 ∷ 16 ∷ []) (monitor 7 true) (at 5 6 (1 ∷ 2 ∷ 3 ∷ []) [] []))
unfolding opened
aw_three = refl

-- an absent address is a fault after the four are taken
aw_absent :
    execute_device AW 0 8 (machine (1 ∷ 2 ∷ 3 ∷ 4 ∷ []) (monitor 7 false) (at 5 6 (1 ∷ 2 ∷ 3 ∷ 4 ∷ []) [] []))
    ≡ fault (Absent 8) (machine (1 ∷ 2 ∷ 3 ∷ 4 ∷ []) (monitor 4 false) (at 4 6 [] [] []))
unfolding opened
aw_absent = refl

aw_task :
    execute_device AW 0 6 (machine (1 ∷ []) (task 7) (at 5 6 (1 ∷ 2 ∷ 3 ∷ []) [] [])) ≡ fault Privileged (machine (1 ∷ []) (task 7) (at 5 6 (1 ∷ 2 ∷ 3 ∷ []) [] []))
unfolding opened
aw_task = refl
