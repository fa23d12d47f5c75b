-- Integer sums (manual, 14.3; 14.7 Test Integer; 14.8 WA, WS, AC, AA, SS): AR has 25 bits, AR(-1) the left-most.
use Rattle.std.specs.Prelude.{◌≡◌, ℕ, ◌+◌, ◌/◌, ◌%◌, ◌^◌, refl}
use Rattle.registers.specs.Reg.{bit_from_right, signed, complement, bits_differ, word_range}
use Rattle.integer.specs.declared.Sum.{Sum}

-- One pass of the adder, with a carry in: AR := A + B + c; W := AR(0:23); Test Integer: if AR(-1) <> AR(0) then overflow; EX(23) := carry.
-- The carry is that out of bit 0 into bit -1 of this one pass (docs/DECISIONS.md A1).
abbrev pub adder : ℕ → ℕ → ℕ → Sum
adder a b c =
    record {
      word = (a + b + c) % 2 ^ 24;
      over = bits_differ (bit_from_right 24 (a + b + c)) (bit_from_right 23 (a + b + c));
      carry = (a % 2 ^ 24 + b % 2 ^ 24 + c) / 2 ^ 24;
    }

-- AR := signed W + signed word(SB)
unfoldable pub sum : ℕ → ℕ → Sum
sum a b = adder (signed 24 25 a) (signed 24 25 b) 0

-- AR := signed W - signed word(SB): A - B is A + not B + 1 in one pass
unfoldable pub difference : ℕ → ℕ → Sum
difference a b = adder (signed 24 25 a) (complement 25 (signed 24 25 b)) 1

-- if carry then AR := signed Wpre + signed word(SB) + 1 else AR := signed Wpre + signed word(SB)
unfoldable pub sum_with_carry : ℕ → ℕ → ℕ → Sum
sum_with_carry a b c = adder (signed 24 25 a) (signed 24 25 b) c

-- if carry then AR := signed Wpre - signed word(SB) else AR := signed Wpre - signed word(SB) - 1: A - B - 1 is A + not B
unfoldable pub difference_with_carry : ℕ → ℕ → ℕ → Sum
difference_with_carry a b c = adder (signed 24 25 a) (complement 25 (signed 24 25 b)) c

-- Address sums drop every carry out of 24 bits.
unfoldable pub sum24 : ℕ → ℕ → ℕ
sum24 a b = (a + b) % word_range

-- WA 8388607 + 1
wa_over : sum 8388607 1 ≡ record { word = 8388608; over = 1; carry = 0 }
unfolding sum
wa_over = refl

-- WA 16777215 + 1
wa_carry : sum 16777215 1 ≡ record { word = 0; over = 0; carry = 1 }
unfolding sum
wa_carry = refl

-- AC of 8388608, and of 0
ac_least : difference 0 8388608 ≡ record { word = 8388608; over = 1; carry = 0 }
unfolding difference
ac_least = refl

ac_0 : difference 0 0 ≡ record { word = 0; over = 0; carry = 1 }
unfolding difference
ac_0 = refl

-- the second difference of SS, with and without a carry
ss_carry : difference_with_carry 5 3 1 ≡ record { word = 2; over = 0; carry = 1 }
unfolding difference_with_carry
ss_carry = refl

ss_borrow : difference_with_carry 5 5 0 ≡ record { word = 16777215; over = 0; carry = 0 }
unfolding difference_with_carry
ss_borrow = refl
