-- What instructions read, and micro-operations that several share. `w` is the instruction's register, `sb` its effective address.
-- Assumes nothing.
use Rattle.std.specs.Prelude.{ℕ, ◌/◌, List, [], ◌∷◌}
use Rattle.machine.specs.Store.{word, byte, put_word, first_word, previous}
use Rattle.registers.specs.Reg.{word_range}
use Rattle.integer.specs.declared.Sum.{Sum}
use Rattle.definition_instructions.specs.Machine.{Computer, computer}
use Rattle.definition_instructions.specs.MicroOps.{Value, MicroOp, set_w, set_wpre, overflow, set_carry}

-- W
abbrev pub reg_w : ℕ → Value
reg_w w n = word n.cells w

-- Wpre
abbrev pub reg_pre : ℕ → Value
reg_pre w n = word n.cells (previous w)

-- word(SB)
abbrev pub word_at : ℕ → Value
word_at sb n = word n.cells (sb / 2)

-- the first word of the double word: word(if SB = 0 then 6 else SB - 2)
abbrev pub first_at : ℕ → Value
first_at sb n = word n.cells (first_word sb / 2)

-- byte(SB)
abbrev pub byte_at : ℕ → Value
byte_at sb n = byte n.cells sb

abbrev pub always : ℕ → Value
always v n = v

-- the computer after W := v
abbrev pub after_w : ℕ → ℕ → Computer → Computer
after_w w v m = computer (put_word m.cells w v) m.control

-- the weights of IR(1), integer overflow, and IR(2), floating-point overflow
abbrev pub integer_overflow : ℕ
integer_overflow = 4194304

abbrev pub floating_overflow : ℕ
floating_overflow = 2097152

-- 14.7, Test Integer: if AR(-1) <> AR(0) then IR(1) := EX(22) := 1; EX(23) := carry
abbrev pub test_integer : Sum → List MicroOp
test_integer r = overflow integer_overflow (always r.over) ∷ set_carry (always r.carry) ∷ []

-- Wpre concat W := x
abbrev pub set_pair : ℕ → List MicroOp → List MicroOp
set_pair x ds = set_wpre (always (x / word_range)) ∷ set_w (always x) ∷ ds
