-- The adder (manual, 14.3): + and -, on registers R(0:j), A(0:j), B(0:j) of n = j + 1 bits. Place k is bit j - k: places are counted from the right.
use Rattle.std.specs.Prelude.{ℕ, zero, suc, ◌+◌, ◌*◌, ◌%◌, ◌^◌, ◌≡◌, refl, not, cond, eqb}
use Rattle.registers.specs.Reg.{bit_from_right, signed, complement, bits_differ}
use Rattle.integer.specs.declared.Sum.{Sum}
use Rattle.integer.specs.Bitwise.{each}
use Rattle.arithmetic_promises.specs.Elementary.{negation}
use Rattle.integer.specs.Sums.{difference, sum_with_carry, difference_with_carry}

-- R, as far as it is set, carry and next carry
pub record AdderState : Type 0 where
  pub result : ℕ
  pub carry : ℕ
  pub next_carry : ℕ

-- next carry := 0; 1 is a carry in
abbrev pub adder_start : ℕ → AdderState
adder_start c = record { result = 0; carry = 0; next_carry = c }

-- carry := next carry
abbrev pub take_carry : AdderState → AdderState
take_carry s = record { result = s.result; carry = s.next_carry; next_carry = s.next_carry }

-- R(bit) := not carry
abbrev pub bits_unequal : ℕ → AdderState → AdderState
bits_unequal k s = record { result = complement 1 s.carry * 2 ^ k + s.result; carry = s.carry; next_carry = s.next_carry }

-- R(bit) := carry; next carry := A(bit)
abbrev pub bits_equal : ℕ → ℕ → AdderState → AdderState
bits_equal a k s = record { result = s.carry * 2 ^ k + s.result; carry = s.carry; next_carry = bit_from_right k a }

-- if A(bit) <> B(bit) then .. else ..
unfoldable pub add_bits : ℕ → ℕ → ℕ → AdderState → AdderState
add_bits a b k s = cond (not (eqb (bit_from_right k a) (bit_from_right k b))) (bits_unequal k s) (bits_equal a k s)

-- for bit := j step -1 until 0 do begin carry := next carry; .. end
unfoldable pub adder_loop : ℕ → ℕ → ℕ → AdderState → AdderState
adder_loop a b zero s = s
adder_loop a b (suc k) s = add_bits a b k (take_carry (adder_loop a b k s))

-- R := A + B, with a carry in c: 0 as printed
abbrev pub addition : ℕ → ℕ → ℕ → ℕ → AdderState
addition n c a b = adder_loop a b n (adder_start c)

-- R := A - B in one pass: A + not B with a carry in of 1 (docs/DECISIONS.md A1)
abbrev pub subtraction : ℕ → ℕ → ℕ → AdderState
subtraction n a b = addition n 1 a (negation n b)

-- R := A + ((not B) + 1), as printed: two additions; carry is that of the last
abbrev pub two_additions : ℕ → ℕ → ℕ → AdderState
two_additions n a b = addition n 0 a (addition n 0 (negation n b) 1).result

-- AR(-1:23) := R; W := AR(0:23); Test Integer (14.7): if AR(-1) <> AR(0) then IR(1) := EX(22) := 1; EX(23) := carry
abbrev pub test_integer : AdderState → Sum
test_integer s = record { word = s.result % 2 ^ 24; over = bits_differ (bit_from_right 24 s.result) (bit_from_right 23 s.result); carry = s.carry }

-- 5 - 0: one pass carries, the last of the two additions does not
minus_0 : difference 5 0 ≡ record { word = 5; over = 0; carry = 1 }
unfolding difference
minus_0 = refl

minus_0_printed : test_integer (two_additions 25 5 0) ≡ record { word = 5; over = 0; carry = 0 }
unfolding add_bits adder_loop each
minus_0_printed = refl

-- AA's second sum, -1 + -1 + 1: one pass carries; of (-1 + -1) + 1 the last addition does not
plus_1 : sum_with_carry 16777215 16777215 1 ≡ record { word = 16777215; over = 0; carry = 1 }
unfolding sum_with_carry
plus_1 = refl

plus_1_printed : test_integer (addition 25 0 (addition 25 0 (signed 24 25 16777215) (signed 24 25 16777215)).result 1) ≡ record { word = 16777215; over = 0; carry = 0 }
unfolding add_bits adder_loop
plus_1_printed = refl

-- SS's second difference, 3 - 5 - 1: one pass does not carry; of (3 - 5) - 1 the last addition does
minus_1 : difference_with_carry 3 5 0 ≡ record { word = 16777213; over = 0; carry = 0 }
unfolding difference_with_carry
minus_1 = refl

minus_1_printed : test_integer (two_additions 25 (two_additions 25 3 5).result 1) ≡ record { word = 16777213; over = 0; carry = 1 }
unfolding add_bits adder_loop each
minus_1_printed = refl
