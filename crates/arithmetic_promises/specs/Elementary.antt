-- Elementary operations but + and - (manual, 14.3), as printed. R := positive C leaves the number as it is; R := shiftright R is R / 2.
use Rattle.std.specs.Prelude.{ℕ, zero, suc, ◌+◌, ◌*◌, ◌%◌, ◌^◌, cond, eqb}
use Rattle.registers.specs.Reg.{sign}
use Rattle.integer.specs.Bitwise.{each}

-- R := signed C, C of n bits, R of d more: R(i:j) := C; for bit := 0 step 1 until i - 1 do R(bit) := R(i)
unfoldable pub extension : ℕ → ℕ → ℕ → ℕ
extension n zero x = x
extension n (suc d) x = sign n x * 2 ^ (n + d) + extension n d x

-- R := shiftleft R, of n + 1 bits: R(0:j-1) := R(1:j); R(j) := 0
abbrev pub left_shift : ℕ → ℕ → ℕ
left_shift n x = x % 2 ^ n * 2

-- if R(bit) = 0 then 1 else 0
abbrev pub not_bit : ℕ → ℕ → ℕ
not_bit x y = cond (eqb x 0) 1 0

-- R := not R: for bit := 0 step 1 until j do R(bit) := ..
abbrev pub negation : ℕ → ℕ → ℕ
negation n x = each not_bit n x x
