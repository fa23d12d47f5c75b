-- No instruction takes more than 40 microseconds. Assumes nothing.
use Prim.Native.Nat.{ℕ, ◌-◌, ◌%◌, ◌^◌, ◌≤◌}
use native.Mathlib.Omega.{arith}
use mathlib.Core.Path.{◌≡◌, refl}
use mathlib.Core.Bool.{Bool, true, false, cond}
use lib.Dec.{eqb, ltb}
use borrow.Author.Tests.{ltb-true}
use Rattle.machine.specs.Store.{pair}
use Rattle.shift.specs.Shift.{places, shifts_made}
use Rattle.normalize.proofs.Count.{shifts_most}
use Rattle.rounding.proofs.Count.{integer_most}
use Rattle.floating.specs.Convert.{fraction_shifts}
use Rattle.floating.proofs.Shifts.{shifts_most as cf-most}
use Rattle.definition_instructions.specs.Machine.{Computer, Machine}
use Rattle.definition_instructions.specs.Operands.{reg_w}
use Rattle.definition_instructions.specs.Meaning.{Op, AM, AL, AC, HL, HS, RL, RS, RX, DL, DS, BZ, BL, BA, BS, WA, WS, WM, WD, AA, SS, CI, CF, FA, FS, FM, FD, LA, LO, LX, AS, AD, LS, LD, NS, ND, JL, SH, SL, SE, SN, SO, SZ, SX, SP, JE, JD, IC, IS, ML, MS, XL, XS, PL, PS, KL, KS, None, Peripheral, IO, AW}
use Rattle.definition_instructions.specs.Codes.{Mnemonic, internal, device, codes, lookup}
use Rattle.definition_times.specs.Times.{modification_time, indirect_time, operation_time, io_time, device_time, mnemonic_time, execution_time}

-- the greater of two values is what a choice between them is at most
choice : (b : Bool) (x y n : ℕ) → x ≤ n → y ≤ n → cond b x y ≤ n
choice true x y n h k = h
choice false x y n h k = k

below : (b : Bool) (n : ℕ) → ltb n 64 ≡ b → cond b n 48 ≤ 63
below true n e = let l = ltb-true n 64 e in omega arith
below false n e = omega arith

places_most : (m : ℕ) → places m ≤ 63
unfolding places
places_most m = below (ltb m 64) m refl

shifts_most_63 : (sb : ℕ) → shifts_made sb ≤ 63
unfolding shifts_made
shifts_most_63 sb = choice (ltb sb (2 ^ 23)) (places sb) (places (2 ^ 24 - sb)) 63 (places_most sb) (places_most (2 ^ 24 - sb))

fraction_most : (word sb : ℕ) → fraction_shifts word sb ≤ 63
unfolding fraction_shifts
fraction_most word sb = cf-most _

operation_most : (o : Op) (sb w : ℕ) (m : Computer) → operation_time o sb w m ≤ 370
unfolding operation_time
operation_most AM sb w m = omega arith
operation_most AL sb w m = omega arith
operation_most AC sb w m = omega arith
operation_most HL sb w m = omega arith
operation_most HS sb w m = omega arith
operation_most RL sb w m = omega arith
operation_most RS sb w m = omega arith
operation_most RX sb w m = omega arith
operation_most DL sb w m = omega arith
operation_most DS sb w m = omega arith
operation_most BZ sb w m = omega arith
operation_most BL sb w m = omega arith
operation_most BA sb w m = omega arith
operation_most BS sb w m = omega arith
operation_most WA sb w m = omega arith
operation_most WS sb w m = omega arith
operation_most WM sb w m = omega arith
operation_most WD sb w m = omega arith
operation_most AA sb w m = omega arith
operation_most SS sb w m = omega arith
operation_most CI sb w m = let k = integer_most (reg_w w m) in omega arith
operation_most CF sb w m = let k = fraction_most (reg_w w m) sb in omega arith
operation_most FA sb w m = omega arith
operation_most FS sb w m = omega arith
operation_most FM sb w m = omega arith
operation_most FD sb w m = omega arith
operation_most LA sb w m = omega arith
operation_most LO sb w m = omega arith
operation_most LX sb w m = omega arith
operation_most AS sb w m = let k = shifts_most_63 sb in omega arith
operation_most AD sb w m = let k = shifts_most_63 sb in omega arith
operation_most LS sb w m = let k = shifts_most_63 sb in omega arith
operation_most LD sb w m = let k = shifts_most_63 sb in omega arith
operation_most NS sb w m = let k = shifts_most 24 (reg_w w m) in omega arith
operation_most ND sb w m = let k = shifts_most 48 (pair m.cells w) in omega arith
operation_most JL sb w m = omega arith
operation_most SH sb w m = omega arith
operation_most SL sb w m = omega arith
operation_most SE sb w m = omega arith
operation_most SN sb w m = omega arith
operation_most SO sb w m = omega arith
operation_most SZ sb w m = omega arith
operation_most SX sb w m = omega arith
operation_most SP sb w m = omega arith
operation_most JE sb w m = omega arith
operation_most JD sb w m = omega arith
operation_most IC sb w m = omega arith
operation_most IS sb w m = omega arith
operation_most ML sb w m = omega arith
operation_most MS sb w m = omega arith
operation_most XL sb w m = omega arith
operation_most XS sb w m = omega arith
operation_most PL sb w m = omega arith
operation_most PS sb w m = omega arith
operation_most KL sb w m = omega arith
operation_most KS sb w m = omega arith
operation_most None sb w m = omega arith

io_most : (r : Bool) (c : ℕ) → io_time r c ≤ 370
unfolding io_time
io_most r c =
    choice r 40 _ 370 (omega arith) (choice (eqb c 0) 70 _ 370 (omega arith) (choice (eqb c 1) 65 _ 370 (omega arith) (choice (eqb c 2) 50 65 370 (omega arith) (omega arith))))

device_most : (p : Peripheral) (sb : ℕ) (m : Machine) → device_time p sb m ≤ 370
unfolding device_time
device_most IO sb m = io_most _ _
device_most AW sb m = omega arith

mnemonic_most : (n : Mnemonic) (w sb : ℕ) (m : Machine) → mnemonic_time n w sb m ≤ 370
mnemonic_most (internal o) w sb m = operation_most o sb w _
mnemonic_most (device p) w sb m = device_most p sb m

pub execution_most : (f w sb : ℕ) (m : Machine) → execution_time f w sb m ≤ 370
unfolding execution_time
execution_most f w sb m = mnemonic_most (lookup f codes) w sb m

pub modification_most : (m x : ℕ) → modification_time m x ≤ 15
unfolding modification_time
modification_most m x =
    choice (ltb m 2) _ _ 15 (choice (eqb x 0) 0 5 15 (omega arith) (omega arith)) (choice (eqb x 0) 5 15 15 (omega arith) (omega arith))

pub indirect_most : (f m : ℕ) → indirect_time f m ≤ 15
unfolding indirect_time
indirect_most f m =
    choice (eqb (m % 2) 0) 0 _ 15 (omega arith) (choice (ltb f 32) 15 _ 15 (omega arith) (choice (ltb f 48) 10 15 15 (omega arith) (omega arith)))
