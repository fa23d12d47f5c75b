-- Two passes of the adder, the carry of the first going into the second, are one sum at 48 bits. Assumes nothing.
use mathlib.Core.Path.{◌≡◌, ap, ap₂, ◌∙◌}
use Prim.Native.Nat.{ℕ, ◌+◌, ◌-◌, ◌*◌, ◌/◌, ◌%◌, ◌^◌, ◌<◌}
use native.Mathlib.Omega.{arith}
use Rattle.registers.specs.Reg.{signed, complement}
use Rattle.integer.specs.Sums.{adder, sum, difference, sum_with_carry, difference_with_carry}
use Rattle.arithmetic_promises.specs.Claims.{DoubleSum, DoubleDifference}

-- the last 24 bits of a word and of its complement, extended
last_signed : (a : ℕ) → a < 2 ^ 24 → signed 24 25 a % 2 ^ 24 ≡ a
last_signed a h = omega arith

last_complement : (a : ℕ) → a < 2 ^ 24 → complement 25 (signed 24 25 a) % 2 ^ 24 ≡ 2 ^ 24 - 1 - a
last_complement a h = omega arith

-- the word of a pass is that of the operands' last 24 bits
pass : (x y c a b : ℕ) → x % 2 ^ 24 ≡ a → y % 2 ^ 24 ≡ b → (x + y + c) % 2 ^ 24 ≡ (a + b + c) % 2 ^ 24
pass x y c a b e f = omega arith

two : (p a q b c : ℕ) → a < 2 ^ 24 → b < 2 ^ 24
    → (p + q + (a + b + c) / 2 ^ 24) % 2 ^ 24 * 2 ^ 24 + (a + b + c) % 2 ^ 24 ≡ (p * 2 ^ 24 + a + (q * 2 ^ 24 + b + c)) % 2 ^ 48
two p a q b c ha hb = omega arith

-- both passes at once
passes : (x y u v c p a q b : ℕ) → a < 2 ^ 24 → b < 2 ^ 24 → x % 2 ^ 24 ≡ p → y % 2 ^ 24 ≡ q → u % 2 ^ 24 ≡ a → v % 2 ^ 24 ≡ b
    → (adder x y (adder u v c).carry).word * 2 ^ 24 + (adder u v c).word ≡ (p * 2 ^ 24 + a + (q * 2 ^ 24 + b + c)) % 2 ^ 48
passes x y u v c p a q b ha hb ep eq ea eb =
    ap₂ (λ (m n : ℕ). m * 2 ^ 24 + n)
    (pass x y (adder u v c).carry p q ep eq ∙ ap₂ (λ (m n : ℕ). (p + q + (m + n + c) / 2 ^ 24) % 2 ^ 24) ea eb)
    (pass u v c a b ea eb)
    ∙ two p a q b c ha hb

double_complement : (q b : ℕ) → q < 2 ^ 24 → b < 2 ^ 24 → (2 ^ 24 - 1 - q) * 2 ^ 24 + (2 ^ 24 - 1 - b) + 1 ≡ 2 ^ 48 - (q * 2 ^ 24 + b)
double_complement q b hq hb = omega arith

pub double_sum : DoubleSum
unfolding sum sum_with_carry
double_sum p a q b hp ha hq hb =
    passes (signed 24 25 p) (signed 24 25 q) (signed 24 25 a) (signed 24 25 b) 0 p a q b ha hb
    (last_signed p hp) (last_signed q hq) (last_signed a ha) (last_signed b hb)
    ∙ omega arith

pub double_difference : DoubleDifference
unfolding difference difference_with_carry
double_difference p a q b hp ha hq hb =
    passes (signed 24 25 p) (complement 25 (signed 24 25 q)) (signed 24 25 a) (complement 25 (signed 24 25 b)) 1 p a (2 ^ 24 - 1 - q) (2 ^ 24 - 1 - b) ha (omega arith)
    (last_signed p hp) (last_complement q hq) (last_signed a ha) (last_complement b hb)
    ∙ ap (λ (n : ℕ). (p * 2 ^ 24 + a + n) % 2 ^ 48) (double_complement q b hq hb)
