-- 14.8: the instructions, in the manual's order, each as its micro-operations in the order of its statements. `sb` is the effective address SB,
-- `w` the number of W, `m` the computer (in IO and AW the machine) as the operation begins; `n` is the computer as it is at a micro-operation.
-- Assumes nothing.
use Rattle.std.specs.Prelude.{ℕ, ◌+◌, ◌*◌, ◌/◌, ◌%◌, Bool, true, false, not, cond, ◌||◌, List, [], ◌∷◌, eqb}
use Rattle.registers.specs.Reg.{word_range, signed_byte}
use Rattle.machine.specs.Store.{key, pair, forbidden, first_word, even_address}
use Rattle.integer.specs.Sums.{sum, difference, sum_with_carry, difference_with_carry}
use Rattle.integer.specs.Bitwise.{logical_and, logical_or, logical_xor, cleared}
use Rattle.integer.specs.Skip.{is_high, is_low, is_equal, is_not_equal, bits_one, bits_zero}
use Rattle.multiply.specs.Wm.{wm}
use Rattle.divide.specs.Wd.{wd}
use Rattle.shift.specs.Shift.{arithmetic, logical}
use Rattle.normalize.specs.Norm.{normalized}
use Rattle.rounding.specs.Convert.{ci}
use Rattle.floating.specs.Add.{fa, fs}
use Rattle.floating.specs.Multiply.{fm}
use Rattle.floating.specs.Divide.{fd}
use Rattle.floating.specs.Convert.{cf}
use Rattle.definition_instructions.specs.Machine.{Computer, Machine}
use Rattle.definition_instructions.specs.Channel.{device_of, command_of, sense_command, control_command, read_command, disconnected, busy, four_left, assembled}
use Rattle.definition_instructions.specs.MicroOps.{test_address, test_jump, set_w, set_wpre, link, store_word, store_byte, set_ic, skip_if, clear_flags, overflow, set_ex, modify, plain, set_key, set_pr, set_im, set_ir, set_enabled, set_word, DeviceOp, monitor, sense_device, control_device, read_device, write_device, Operation, unprivileged, privileged, unassigned, DeviceOperation, peripheral, resetting}
use Rattle.definition_instructions.specs.Operands.{reg_w, reg_pre, word_at, first_at, byte_at, always, after_w, integer_overflow, floating_overflow, test_integer, set_pair}

-- the mnemonic codes of A.2 but for IO and AW, which reach devices, and `None` for a code that is not used
pub data Op : Type 0 where
  AM AL AC HL HS RL RS RX DL DS BZ BL BA BS WA WS WM WD AA SS CI CF FA FS FM FD LA LO LX AS AD LS LD NS ND JL SH SL SE SN SO SZ SX SP JE JD IC IS ML MS XL XS PL PS KL KS None : Op

unfoldable pub meaning : Op → ℕ → ℕ → Computer → Operation
-- Modify Next Address: AR := signed SB, added to the displacement of the next instruction. The fetch that is printed here belongs to the next
-- cycle (docs/DECISIONS.md B5)
meaning AM sb w m = unprivileged (modify (always sb) ∷ [])
-- Load Address: W := SB
meaning AL sb w m = unprivileged (set_w (always sb) ∷ [])
-- Load Address Complemented: EX(22:23) := 0; AR := 0 - signed SB; W := AR(0:23); Test Integer
meaning AC sb w m =
    let r = difference 0 sb in
    unprivileged (clear_flags ∷ set_w (always r.word) ∷ test_integer r)
-- Load Half Register: Test Address; W(12:23) := byte(SB)
meaning HL sb w m = unprivileged (test_address sb ∷ set_w (λ n. reg_w w n / 4096 * 4096 + byte_at sb n) ∷ [])
-- Store Half Register: Test Address; Test Protection; byte(SB) := W(12:23)
meaning HS sb w m = unprivileged (test_address sb ∷ store_byte sb (reg_w w) ∷ [])
-- Load Register: Test Address; W := word(SB)
meaning RL sb w m = unprivileged (test_address sb ∷ set_w (word_at sb) ∷ [])
-- Store Register: Test Address; Test Protection; word(SB) := W
meaning RS sb w m = unprivileged (test_address sb ∷ store_word sb (reg_w w) ∷ [])
-- Exchange Register and Store: AR := signed W; Test Address; W := word(SB); Test Protection; word(SB) := AR(0:23)
meaning RX sb w m = unprivileged (test_address sb ∷ set_w (word_at sb) ∷ store_word sb (always (reg_w w m)) ∷ [])
-- Load Double Register: BR := if SB = 0 then 6 else SB - 2; Test Address; W := word(SB); Wpre := word(BR)
meaning DL sb w m = unprivileged (test_address sb ∷ set_w (word_at sb) ∷ set_wpre (first_at sb) ∷ [])
-- Store Double Register: Test Address; Test Protection; word(SB) := W; SB := if SB = 0 then 6 else SB - 2; Test Protection; word(SB) := Wpre
meaning DS sb w m = unprivileged (test_address sb ∷ store_word sb (reg_w w) ∷ store_word (first_word sb) (reg_pre w) ∷ [])
-- Load Byte with Zeroes: Test Address; W := positive byte(SB)
meaning BZ sb w m = unprivileged (test_address sb ∷ set_w (byte_at sb) ∷ [])
-- Load Integer Byte: Test Address; W := signed byte(SB)
meaning BL sb w m = unprivileged (test_address sb ∷ set_w (λ n. signed_byte (byte_at sb n)) ∷ [])
-- Add, Subtract Integer Byte: EX(22:23) := 0; Test Address; AR := signed W + (-) signed byte(SB); W := AR(0:23); Test Integer
meaning BA sb w m =
    let r = sum (reg_w w m) (signed_byte (byte_at sb m)) in
    unprivileged (clear_flags ∷ test_address sb ∷ set_w (always r.word) ∷ test_integer r)
meaning BS sb w m =
    let r = difference (reg_w w m) (signed_byte (byte_at sb m)) in
    unprivileged (clear_flags ∷ test_address sb ∷ set_w (always r.word) ∷ test_integer r)
-- Add, Subtract Integer Word: EX(22:23) := 0; Test Address; AR := signed W + (-) signed word(SB); W := AR(0:23); Test Integer
meaning WA sb w m =
    let r = sum (reg_w w m) (word_at sb m) in
    unprivileged (clear_flags ∷ test_address sb ∷ set_w (always r.word) ∷ test_integer r)
meaning WS sb w m =
    let r = difference (reg_w w m) (word_at sb m) in
    unprivileged (clear_flags ∷ test_address sb ∷ set_w (always r.word) ∷ test_integer r)
-- Multiply Integer Word: Test Address; ..; Wpre := AR(0:23); W := BR. EX is unchanged
meaning WM sb w m = unprivileged (test_address sb ∷ set_pair (wm (reg_w w m) (word_at sb m)) [])
-- Divide Integer Word: EX(22:23) := 0; Test Address; ..; Wpre := AR(0:23); W := BR; Quotient Overflow: IR(1) := EX(22) := 1, the pair is kept
meaning WD sb w m =
    let r = wd (reg_pre w m) (reg_w w m) (word_at sb m) in
    unprivileged (clear_flags ∷ test_address sb ∷ overflow integer_overflow (always r.over) ∷ set_wpre (always r.pre) ∷ set_w (always r.word) ∷ [])
-- Add, Subtract Integer Double Word: EX(22:23) := 0; Test Address; AR := signed W + (-) signed word(SB); W := AR(0:23);
-- SB := if SB = 0 then 6 else SB - 2; AR := signed Wpre + (-) signed word(SB), with the carry; Wpre := AR(0:23); Test Integer
meaning AA sb w m =
    let r = sum (reg_w w m) (word_at sb m) in
    let n = after_w w r.word m in
    let q = sum_with_carry (reg_pre w n) (first_at sb n) r.carry in
    unprivileged (clear_flags ∷ test_address sb ∷ set_w (always r.word) ∷ set_wpre (always q.word) ∷ test_integer q)
meaning SS sb w m =
    let r = difference (reg_w w m) (word_at sb m) in
    let n = after_w w r.word m in
    let q = difference_with_carry (reg_pre w n) (first_at sb n) r.carry in
    unprivileged (clear_flags ∷ test_address sb ∷ set_w (always r.word) ∷ set_wpre (always q.word) ∷ test_integer q)
-- Convert Integer to Floating: EX(22:23) := 0; ..; if SC(11) <> SC(12) then EX(22) := IR(2) := 1; Wfrac := AF(0:35); Wexp := SC(12:23)
meaning CI sb w m =
    let r = ci (reg_w w m) sb in
    unprivileged (clear_flags ∷ overflow floating_overflow (always r.over) ∷ set_wpre (always r.pre) ∷ set_w (always r.word) ∷ [])
-- Convert Floating to Integer: EX(22:23) := 0; ..; Integer Overflow: EX(22) := IR(1) := 1 else W := AR(0:23)
meaning CF sb w m =
    let r = cf (reg_pre w m) (reg_w w m) sb in
    unprivileged (clear_flags ∷ overflow integer_overflow (always r.over) ∷ set_w (always r.word) ∷ [])
-- Add, Subtract, Multiply, Divide Floating: EX(22:23) := 0; Test Address; Fetch Floating Operands; ..; Normalize and Round Floating;
-- Test Precision Mode and Store
meaning FA sb w m =
    let r = fa m.control.ex (reg_pre w m) (reg_w w m) (first_at sb m) (word_at sb m) in
    unprivileged (clear_flags ∷ test_address sb ∷ overflow floating_overflow (always r.over) ∷ set_wpre (always r.pre) ∷ set_w (always r.word) ∷ [])
meaning FS sb w m =
    let r = fs m.control.ex (reg_pre w m) (reg_w w m) (first_at sb m) (word_at sb m) in
    unprivileged (clear_flags ∷ test_address sb ∷ overflow floating_overflow (always r.over) ∷ set_wpre (always r.pre) ∷ set_w (always r.word) ∷ [])
meaning FM sb w m =
    let r = fm m.control.ex (reg_pre w m) (reg_w w m) (first_at sb m) (word_at sb m) in
    unprivileged (clear_flags ∷ test_address sb ∷ overflow floating_overflow (always r.over) ∷ set_wpre (always r.pre) ∷ set_w (always r.word) ∷ [])
meaning FD sb w m =
    let r = fd m.control.ex (reg_pre w m) (reg_w w m) (first_at sb m) (word_at sb m) in
    unprivileged (clear_flags ∷ test_address sb ∷ overflow floating_overflow (always r.over) ∷ set_wpre (always r.pre) ∷ set_w (always r.word) ∷ [])
-- Logical And, Or, Exclusive Or: Test Address; SB := word(SB); for bit := 0 step 1 until 23 do W(bit) := ..
meaning LA sb w m = unprivileged (test_address sb ∷ set_w (λ n. logical_and (reg_w w n) (word_at sb n)) ∷ [])
meaning LO sb w m = unprivileged (test_address sb ∷ set_w (λ n. logical_or (reg_w w n) (word_at sb n)) ∷ [])
meaning LX sb w m = unprivileged (test_address sb ∷ set_w (λ n. logical_xor (reg_w w n) (word_at sb n)) ∷ [])
-- Shift Single, Double Arithmetically: EX(22:23) := 0; for each shift left: if W(0) <> W(1) then EX(22) := IR(1) := 1
meaning AS sb w m =
    let r = arithmetic 24 sb (reg_w w m) in
    unprivileged (clear_flags ∷ overflow integer_overflow (always r.over) ∷ set_w (always r.word) ∷ [])
meaning AD sb w m =
    let r = arithmetic 48 sb (pair m.cells w) in
    unprivileged (clear_flags ∷ overflow integer_overflow (always r.over) ∷ set_pair r.word [])
-- Shift Single, Double Logically: if abs(SB) >= 64 then SB := sign(SB)*48; shiftright W, -SB times, if SB < 0, else shiftleft W, SB times
meaning LS sb w m = unprivileged (set_w (always (logical 24 sb (reg_w w m))) ∷ [])
meaning LD sb w m = unprivileged (set_pair (logical 48 sb (pair m.cells w)) [])
-- Normalize Single, Double: W is shifted; Test Address; Test Protection; byte(SB) := SC(12:23)
meaning NS sb w m =
    let r = normalized 24 (reg_w w m) in
    unprivileged (set_w (always r.word) ∷ test_address sb ∷ store_byte sb (always r.shifts) ∷ [])
meaning ND sb w m =
    let r = normalized 48 (pair m.cells w) in
    unprivileged (set_pair r.word (test_address sb ∷ store_byte sb (always r.shifts) ∷ []))
-- Jump with Register Link: Test Address; Test Protection; if FR(6:7) <> 0 then W := IC; IC := SB; IC(23) := 0
meaning JL sb w m = unprivileged (test_address sb ∷ test_jump sb ∷ link ∷ set_ic (always (even_address sb)) ∷ [])
-- Skip if Register High, Low, Equal, Not Equal: AR := signed W - signed SB; if AR > 0 (< 0, = 0, <> 0) then IC := IC + 2
meaning SH sb w m = unprivileged (skip_if (λ n. is_high (reg_w w n) sb) ∷ [])
meaning SL sb w m = unprivileged (skip_if (λ n. is_low (reg_w w n) sb) ∷ [])
meaning SE sb w m = unprivileged (skip_if (λ n. is_equal (reg_w w n) sb) ∷ [])
meaning SN sb w m = unprivileged (skip_if (λ n. is_not_equal (reg_w w n) sb) ∷ [])
-- Skip if Register Bits One, Zero, if No Exceptions: for bit := 0 step 1 until 23 do AR(bit) := if SB(bit) = 1 then not W(bit) (W(bit); EX) else 0;
-- if AR(0:23) = 0 then IC := IC + 2
meaning SO sb w m = unprivileged (skip_if (λ n. bits_one (reg_w w n) sb) ∷ [])
meaning SZ sb w m = unprivileged (skip_if (λ n. bits_zero (reg_w w n) sb) ∷ [])
meaning SX sb w m = unprivileged (skip_if (λ n. bits_zero (n.control.ex % 8) sb) ∷ [])
-- Skip if No Protection: Test Address; PK := protection key(SB); if PR(PK) = 0 then IC := IC + 2
meaning SP sb w m = unprivileged (test_address sb ∷ skip_if (λ n. not (forbidden n.cells n.control (sb / 2))) ∷ [])
-- Jump with Interrupt Enabled, Disabled: Test Mode; Test Address; interrupt disabled := ..; if FR(6:7) <> 0 then W := IC; IC := SB; IC(23) := 0
meaning JE sb w m = privileged (plain (test_address sb) ∷ set_enabled true ∷ plain link ∷ plain (set_ic (always (even_address sb))) ∷ [])
meaning JD sb w m = privileged (plain (test_address sb) ∷ set_enabled false ∷ plain link ∷ plain (set_ic (always (even_address sb))) ∷ [])
-- Clear Interrupt Bits: Test Mode; for bit := 0 step 1 until 23 do if SB(bit) = 1 then IR(bit) := 0
meaning IC sb w m = privileged (set_ir (λ n. cleared (n.control.ir % word_range) sb) ∷ [])
-- Store Interrupt Register: Test Address; Test Protection; word(SB) := IR
meaning IS sb w m = unprivileged (test_address sb ∷ store_word sb (λ n. n.control.ir) ∷ [])
-- Load Mask Register: Test Mode; Test Address; IM := word(SB); IM(0) := 1
meaning ML sb w m = privileged (plain (test_address sb) ∷ set_im (λ n. 8388608 + word_at sb n % 8388608) ∷ [])
-- Store Mask Register: Test Address; Test Protection; word(SB) := IM
meaning MS sb w m = unprivileged (test_address sb ∷ store_word sb (λ n. n.control.im) ∷ [])
-- Load Exception Register: Test Address; SB(12:23) := byte(SB); EX := SB(21:23)
meaning XL sb w m = unprivileged (test_address sb ∷ set_ex (byte_at sb) ∷ [])
-- Store Exception Register: Test Address; Test Protection; byte(SB) := positive EX
meaning XS sb w m = unprivileged (test_address sb ∷ store_byte sb (λ n. n.control.ex) ∷ [])
-- Load Protection Register: Test Mode; Test Address; SB(12:23) := byte(SB); PR := SB(16:23); PR(0) := 1
meaning PL sb w m = privileged (plain (test_address sb) ∷ set_pr (byte_at sb) ∷ [])
-- Store Protection Register: Test Address; Test Protection; AR := positive PR; byte(SB) := AR(12:23)
meaning PS sb w m = unprivileged (test_address sb ∷ store_byte sb (λ n. n.control.pr) ∷ [])
-- Load Protection Key: Test Address; W := positive protection key(SB)
meaning KL sb w m = unprivileged (test_address sb ∷ set_w (λ n. key n.cells (sb / 2)) ∷ [])
-- Store Protection Key: Test Mode; Test Address; protection key(SB) := W(21:23)
meaning KS sb w m = privileged (plain (test_address sb) ∷ set_key sb (reg_w w) ∷ [])
-- an unassigned code: Instruction Exception
meaning None sb w m = unassigned

-- ---- the instructions that reach devices, behind Test Mode

pub data Peripheral : Type 0 where
  IO AW : Peripheral

-- if SB(22:23) = 0 then W := device buffer(device); if SB(23) = 1 then device buffer(device) := W; and the device's own operation (chapter 8)
unfoldable pub commanded : ℕ → ℕ → List DeviceOp
commanded device command =
    cond (eqb command sense_command) (sense_device device ∷ [])
    (cond (eqb command control_command) (control_device device ∷ []) (cond (eqb command read_command) (read_device device ∷ []) (write_device device ∷ [])))

-- EX(22:23): if disconnected(device) then 1 else 0, if busy(device) then 1 else 0
unfoldable pub rejection : Bool → ℕ
rejection rejected = 2 * cond rejected 1 0 + cond busy 1 0

-- Start Input: a read command to device 0; EX(22:23) := 0
abbrev pub input : List DeviceOp → List DeviceOp
input ds = read_device 0 ∷ monitor (plain clear_flags) ∷ ds

-- for SC := 1 step 1 until 4 do ..; Test Address; word(SB) := AR(0:23); protection key(SB) := 0: the characters cs are left, four at least
unfoldable pub autoloading : ℕ → List ℕ → List DeviceOp
autoloading sb cs =
    input (input (input (input (monitor (plain (test_address sb)) ∷ monitor (set_word sb (always (assembled 4 0 cs))) ∷ monitor (set_key sb (always 0)) ∷ []))))

unfoldable pub device_meaning : Peripheral → ℕ → Machine → DeviceOperation
-- Input/Output: device := SB(0:17); EX(22) := if disconnected(device) then 1 else 0; EX(23) := if busy(device) then 1 else 0;
-- if EX(22:23) <> 0 then goto Next Instruction; ..
device_meaning IO sb m =
    let rejected = disconnected (device_of sb) (command_of sb) m.channel in
    peripheral (monitor (plain (set_ex (λ n. n.control.ex / 4 * 4 + rejection rejected))) ∷ cond (rejected || busy) [] (commanded (device_of sb) (command_of sb)))
-- Autoload Word: where fewer than four characters are left it takes none, and goto Reset System (document 02; the print takes those that are there)
device_meaning AW sb m = cond (four_left m.channel.characters) (peripheral (autoloading sb m.channel.characters)) resetting
