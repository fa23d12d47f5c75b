-- Times and the timer by worked examples, each a value computed from the definition.
-- Assumes nothing.
use Rattle.std.specs.Prelude.{ℕ, ◌+◌, ◌-◌, ◌*◌, ◌^◌, ◌≡◌, refl, true, false, [], ◌∷◌}
use Rattle.machine.specs.declared.Timer.{Timer}
use Rattle.machine.specs.Store.{word, pair}
use Rattle.machine.specs.Records.{fresh_control}
use Rattle.registers.specs.Reg.{until, signed_byte}
use Rattle.shift.specs.Shift.{places, shifts_made}
use Rattle.normalize.specs.Norm.{normalize, normalizing_shifts}
use Rattle.rounding.specs.Round.{af_left}
use Rattle.rounding.specs.Convert.{integer_shifts}
use Rattle.floating.specs.Convert.{cf_shifts, fraction_shifts}
use Rattle.definition_instructions.specs.Machine.{Machine, machine}
use Rattle.definition_instructions.specs.Channel.{lent, disconnected}
use Rattle.definition_instructions.specs.Codes.{codes, lookup}
use Rattle.definition_times.specs.Times.{modification_time, indirect_time, operation_time, io_time, device_time, execution_time}
use Rattle.definition_times.specs.Timer.{elapsed_after, phase_after, timer_after, interval_ends, line_bit}

-- ---- address modification: M 2 is relative, 1 indirect, 3 both

-- direct, indexed, relative, relative and indexed; indirection does not enter
modified :
    (modification_time 0 0 ≡ 0) × (modification_time 1 0 ≡ 0) × (modification_time 0 1 ≡ 5) × (modification_time 1 3 ≡ 5) × (modification_time 2 0 ≡ 5) × (modification_time 3 0 ≡ 5)
    × (modification_time 2 1 ≡ 15) × (modification_time 3 1 ≡ 15)
unfolding modification_time
modified = (refl, refl, refl, refl, refl, refl, refl, refl)

-- by code: 0 to 31 and 48 to 63, 32 to 47
indirect :
    (indirect_time 31 1 ≡ 15) × (indirect_time 32 1 ≡ 10) × (indirect_time 47 3 ≡ 10) × (indirect_time 48 3 ≡ 15) × (indirect_time 32 2 ≡ 0) × (indirect_time 20 2 ≡ 0)
    × (indirect_time 0 0 ≡ 0)
unfolding indirect_time
indirect = (refl, refl, refl, refl, refl, refl, refl)

-- ---- operations, by their codes

-- W0 to W3 given
abbrev four : ℕ → ℕ → ℕ → ℕ → Machine
four a b c d = machine (a ∷ b ∷ c ∷ d ∷ []) fresh_control (lent 0 0 [] [])

-- the time of the operation with this code, W1 and the effective address sb
abbrev takes : ℕ → ℕ → ℕ → ℕ
takes f w₁ sb = execution_time f 1 sb (four 0 w₁ 0 0)

-- all codes of A.2 in their order, W1 and the effective address zero: IO is a sense of the reader, CF makes 23 shifts; 58 to 63 are not used
by_code :
    (takes 0 0 0 ≡ 0) × (takes 1 0 0 ≡ 70) × (takes 2 0 0 ≡ 30) × (takes 3 0 0 ≡ 30) × (takes 4 0 0 ≡ 30) × (takes 5 0 0 ≡ 30)
    × (takes 6 0 0 ≡ 40) × (takes 7 0 0 ≡ 30) × (takes 8 0 0 ≡ 30) × (takes 9 0 0 ≡ 20) × (takes 10 0 0 ≡ 155) × (takes 11 0 0 ≡ 15)
    × (takes 12 0 0 ≡ 30) × (takes 13 0 0 ≡ 30) × (takes 14 0 0 ≡ 30) × (takes 15 0 0 ≡ 30) × (takes 16 0 0 ≡ 30) × (takes 17 0 0 ≡ 35)
    × (takes 18 0 0 ≡ 35) × (takes 19 0 0 ≡ 30) × (takes 20 0 0 ≡ 30) × (takes 21 0 0 ≡ 30) × (takes 22 0 0 ≡ 30) × (takes 23 0 0 ≡ 40)
    × (takes 24 0 0 ≡ 170) × (takes 25 0 0 ≡ 45) × (takes 26 0 0 ≡ 40) × (takes 27 0 0 ≡ 40) × (takes 28 0 0 ≡ 30) × (takes 29 0 0 ≡ 40)
    × (takes 30 0 0 ≡ 40) × (takes 31 0 0 ≡ 40) × (takes 32 0 0 ≡ 40) × (takes 33 0 0 ≡ 25) × (takes 34 0 0 ≡ 50) × (takes 35 0 0 ≡ 55)
    × (takes 36 0 0 ≡ 30) × (takes 37 0 0 ≡ 35) × (takes 38 0 0 ≡ 30) × (takes 39 0 0 ≡ 35) × (takes 40 0 0 ≡ 30) × (takes 41 0 0 ≡ 30)
    × (takes 42 0 0 ≡ 30) × (takes 43 0 0 ≡ 30) × (takes 44 0 0 ≡ 35) × (takes 45 0 0 ≡ 30) × (takes 46 0 0 ≡ 30) × (takes 47 0 0 ≡ 25)
    × (takes 48 0 0 ≡ 110) × (takes 49 0 0 ≡ 110) × (takes 50 0 0 ≡ 260) × (takes 51 0 0 ≡ 40) × (takes 52 0 0 ≡ 270) × (takes 53 0 0 ≡ 165)
    × (takes 54 0 0 ≡ 50) × (takes 55 0 0 ≡ 70) × (takes 56 0 0 ≡ 50) × (takes 57 0 0 ≡ 50) × (takes 58 0 0 ≡ 0) × (takes 63 0 0 ≡ 0)
unfolding execution_time operation_time device_time io_time disconnected lookup codes shifts_made places normalizing_shifts integer_shifts fraction_shifts cf_shifts signed_byte word pair
by_code = (refl, refl, refl, refl, refl, refl, refl, refl, refl, refl, refl, refl, refl, refl, refl, refl, refl, refl, refl, refl, refl, refl, refl, refl, refl, refl, refl, refl, refl, refl, refl, refl, refl, refl, refl, refl, refl, refl, refl, refl, refl, refl, refl, refl, refl, refl, refl, refl, refl, refl, refl, refl, refl, refl, refl, refl, refl, refl, refl, refl)

-- JL, JD and JE without a link, W 0: the upper end too
no_link : (execution_time 13 0 0 (four 0 0 0 0) ≡ 30) × (execution_time 14 0 0 (four 0 0 0 0) ≡ 30) × (execution_time 15 0 0 (four 0 0 0 0) ≡ 30)
unfolding execution_time operation_time lookup codes
no_link = (refl, refl, refl)

-- LS, AD by 3 and by -3; by 63, and by 64 or more: 48
shifts :
    (takes 38 1 3 ≡ 45) × (takes 37 1 (2 ^ 24 - 3) ≡ 50) × (takes 38 1 63 ≡ 345) × (takes 36 1 64 ≡ 270) × (takes 39 1 (2 ^ 24 - 64) ≡ 275)
    × (takes 36 1 (2 ^ 24 - 63) ≡ 345) × (takes 36 1 (2 ^ 23) ≡ 270)
unfolding execution_time operation_time lookup codes shifts_made places
shifts = (refl, refl, refl, refl, refl, refl, refl)

-- NS of 1: 22 shifts, of -1: 23; of zero none, though the byte stored is -2048. ND of W0, W1 = 0, 1: 46
normalizing : (takes 34 1 0 ≡ 160) × (takes 34 16777215 0 ≡ 165) × (takes 34 0 0 ≡ 50) × (takes 35 1 0 ≡ 285) × (takes 35 0 0 ≡ 55)
unfolding execution_time operation_time lookup codes normalizing_shifts normalize until word pair
normalizing = (refl, refl, refl, refl, refl)

-- CI of 1: 22 shifts; of zero none
integers : (takes 32 1 5 ≡ 150) × (takes 32 0 5 ≡ 40)
unfolding execution_time operation_time lookup codes integer_shifts af_left until word
integers = (refl, refl)

-- CF, 23 - SB - Wexp: by the exponents 23, 1, -40 and -41: none, 22, 63, none for 64 or more; by 24: none for an overflow; by SB -1 24; the fraction does
-- not enter
fractions :
    (takes 53 23 0 ≡ 50) × (takes 53 1 0 ≡ 160) × (takes 53 4056 0 ≡ 365) × (takes 53 4055 0 ≡ 50) × (takes 53 24 0 ≡ 50) × (takes 53 0 (2 ^ 24 - 1) ≡ 170)
    × (takes 53 (5 * 4096 + 1) 0 ≡ 160)
unfolding execution_time operation_time lookup codes word fraction_shifts cf_shifts signed_byte
fractions = (refl, refl, refl, refl, refl, refl, refl)

-- IO to the typewriter and the reader: sense, control, read with no character left, write with no space left, a device that is not there; AW
input_output :
    (takes 1 0 64 ≡ 70) × (takes 1 0 65 ≡ 65) × (takes 1 0 66 ≡ 50) × (takes 1 0 2 ≡ 40) × (takes 1 0 67 ≡ 40) × (takes 1 0 3 ≡ 65) × (takes 1 0 128 ≡ 40) × (takes 0 0 8 ≡ 0)
unfolding execution_time device_time io_time disconnected lookup codes
input_output = (refl, refl, refl, refl, refl, refl, refl, refl)

-- ---- the timer: elapsed time, period, phase given, line 9

abbrev running : ℕ → ℕ → ℕ → Timer
running e p q = record { elapsed = e; period = p; phase = q; line = 9 }

-- the phase grows; where it reaches the period nothing remains; several periods leave the remainder
phases :
    (timer_after 30 (running 5 100 7) ≡ running 35 100 37) × (timer_after 93 (running 5 100 7) ≡ running 98 100 0) × (timer_after 70 (running 5 3 2) ≡ running 75 3 0)
    × (timer_after 71 (running 5 3 2) ≡ running 76 3 1) × (timer_after 75 (running 0 1 0) ≡ running 75 1 0)
    × (timer_after 30 (running 0 (2 ^ 32 - 1) (2 ^ 32 - 2)) ≡ running 30 (2 ^ 32 - 1) 29)
unfolding timer_after elapsed_after phase_after
phases = (refl, refl, refl, refl, refl, refl)

-- elapsed time drops carries out of 32 bits; with period 0 the phase stays
carries : (timer_after 30 (running (2 ^ 32 - 10) 100 7) ≡ running 20 100 37) × (timer_after 30 (running 5 0 7) ≡ running 35 0 7)
unfolding timer_after elapsed_after phase_after
carries = (refl, refl)

-- reaches, passes, is below; with period 0 never
ends :
    (interval_ends 93 (running 0 100 7) ≡ true) × (interval_ends 200 (running 0 100 7) ≡ true) × (interval_ends 92 (running 0 100 7) ≡ false)
    × (interval_ends 99 (running 0 0 7) ≡ false) × (interval_ends 30 (running 0 (2 ^ 32 - 1) (2 ^ 32 - 2)) ≡ true)
unfolding interval_ends
ends = (refl, refl, refl, refl, refl)

-- line 3 and line 23
bits : (line_bit 3 ≡ 1048576) × (line_bit 23 ≡ 1)
bits = (refl, refl)
