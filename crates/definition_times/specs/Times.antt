-- A.3: the instruction execution times, in tenths of a microsecond (document 02, E6): a range by its upper end, none given as 0. `sb` is the effective
-- address SB, `w` the number of W, `m` the computer (of IO the machine) as the operation begins.
-- Assumes nothing.
use Rattle.std.specs.Prelude.{ℕ, ◌+◌, ◌*◌, ◌%◌, Bool, cond, ◌||◌, eqb, ltb}
use Rattle.machine.specs.Store.{pair}
use Rattle.shift.specs.Shift.{shifts_made}
use Rattle.normalize.specs.Norm.{normalizing_shifts}
use Rattle.rounding.specs.Convert.{integer_shifts}
use Rattle.floating.specs.Convert.{fraction_shifts}
use Rattle.definition_instructions.specs.Machine.{Computer, Machine, computer_of}
use Rattle.definition_instructions.specs.Channel.{device_of, command_of, sense_command, control_command, read_command, disconnected, busy}
use Rattle.definition_instructions.specs.Operands.{reg_w}
use Rattle.definition_instructions.specs.Meaning.{Op, AM, AL, AC, HL, HS, RL, RS, RX, DL, DS, BZ, BL, BA, BS, WA, WS, WM, WD, AA, SS, CI, CF, FA, FS, FM, FD, LA, LO, LX, AS, AD, LS, LD, NS, ND, JL, SH, SL, SE, SN, SO, SZ, SX, SP, JE, JD, IC, IS, ML, MS, XL, XS, PL, PS, KL, KS, None, Peripheral, IO, AW}
use Rattle.definition_instructions.specs.Codes.{Mnemonic, internal, device, codes, lookup}

-- ---- address modification: M is FR(8:9), relative and indirect; X is FR(10:11)

-- relative addressing 0.5; indexing 0.5; relative addressing and indexing 1.5
unfoldable pub modification_time : ℕ → ℕ → ℕ
modification_time m x = cond (ltb m 2) (cond (eqb x 0) 0 5) (cond (eqb x 0) 5 15)

-- indirect addressing: codes 0-31, 48-63 1.5; codes 32-47 1.0
unfoldable pub indirect_time : ℕ → ℕ → ℕ
indirect_time code m = cond (eqb (m % 2) 0) 0 (cond (ltb code 32) 15 (cond (ltb code 48) 10 15))

-- ---- the table, column by column

unfoldable pub operation_time : Op → ℕ → ℕ → Computer → ℕ
operation_time AM sb w m = 20
operation_time AL sb w m = 15
operation_time AC sb w m = 25
operation_time HL sb w m = 30
operation_time HS sb w m = 40
operation_time RL sb w m = 30
operation_time RS sb w m = 40
operation_time RX sb w m = 45
operation_time DL sb w m = 50
operation_time DS sb w m = 70
operation_time BZ sb w m = 30
operation_time BL sb w m = 30
operation_time BA sb w m = 35
operation_time BS sb w m = 35
operation_time WA sb w m = 30
operation_time WS sb w m = 30
operation_time WM sb w m = 155
operation_time WD sb w m = 170
operation_time AA sb w m = 50
operation_time SS sb w m = 50
-- + 0.5*shifts: the single shifts that chapter 14 makes
operation_time CI sb w m = 40 + 5 * integer_shifts (reg_w w m)
operation_time CF sb w m = 50 + 5 * fraction_shifts (reg_w w m) sb
operation_time FA sb w m = 110
operation_time FS sb w m = 110
operation_time FM sb w m = 260
operation_time FD sb w m = 270
operation_time LA sb w m = 30
operation_time LO sb w m = 30
operation_time LX sb w m = 40
operation_time AS sb w m = 30 + 5 * shifts_made sb
operation_time AD sb w m = 35 + 5 * shifts_made sb
operation_time LS sb w m = 30 + 5 * shifts_made sb
operation_time LD sb w m = 35 + 5 * shifts_made sb
operation_time NS sb w m = 50 + 5 * normalizing_shifts 24 (reg_w w m)
operation_time ND sb w m = 55 + 5 * normalizing_shifts 48 (pair m.cells w)
-- 2.5 or 3.0 (with link): a range
operation_time JL sb w m = 30
operation_time SH sb w m = 30
operation_time SL sb w m = 30
operation_time SE sb w m = 30
operation_time SN sb w m = 30
operation_time SO sb w m = 35
operation_time SZ sb w m = 30
operation_time SX sb w m = 30
operation_time SP sb w m = 30
operation_time JE sb w m = 30
operation_time JD sb w m = 30
operation_time IC sb w m = 25
operation_time IS sb w m = 40
operation_time ML sb w m = 30
operation_time MS sb w m = 40
operation_time XL sb w m = 30
operation_time XS sb w m = 40
operation_time PL sb w m = 30
operation_time PS sb w m = 40
operation_time KL sb w m = 30
operation_time KS sb w m = 40
-- never executed: Instruction Exception
operation_time None sb w m = 0

-- IO: 4.0 (rejected), 5.0 (read), 7.0 (sense), 6.5 (write), 6.5 (control)
unfoldable pub io_time : Bool → ℕ → ℕ
io_time rejected command =
    cond rejected 40
    (cond (eqb command sense_command) 70 (cond (eqb command control_command) 65 (cond (eqb command read_command) 50 65)))

unfoldable pub device_time : Peripheral → ℕ → Machine → ℕ
device_time IO sb m = io_time (disconnected (device_of sb) (command_of sb) m.channel || busy) (command_of sb)
-- none given
device_time AW sb m = 0

abbrev pub mnemonic_time : Mnemonic → ℕ → ℕ → Machine → ℕ
mnemonic_time (internal o) w sb m = operation_time o sb w (computer_of m)
mnemonic_time (device p) w sb m = device_time p sb m

-- the time of the operation with a numeric code, with direct addressing
unfoldable pub execution_time : ℕ → ℕ → ℕ → Machine → ℕ
execution_time f w sb m = mnemonic_time (lookup f codes) w sb m

-- chapter 1, the response time to an interruption: an entry takes it in all
abbrev pub entry_time : ℕ
entry_time = 75
