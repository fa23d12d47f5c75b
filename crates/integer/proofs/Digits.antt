-- An operation on binary digits is `each` of its rule for a digit. One law, for any operation. Assumes nothing.
use Rattle.std.proofs.Common.{◌≡◌, ℕ, zero, suc, ◌+◌, ◌*◌, ◌/◌, ◌%◌, ◌^◌, ◌<◌, min, max, sym, refl, ap, ◌∙◌, ap₂, mod-eq_of_lt, one-add, arith}
use native.Mathlib.Nat.{mod-one}
use lib.Bits.{bit_and, bit_or, bit_xor, differ, and_step, or_step, xor_step, and_shr, or_shr, xor_shr, and_lt, or_lt, xor_lt}
use lib.Pow.{mod-pow-add}
use Rattle.integer.specs.Bitwise.{each, and_bit, or_bit, xor_bit, clear_bit}
use Rattle.integer.specs.Skip.{zero_selected, one_selected}

module _ (op f : ℕ → ℕ → ℕ) (shr : (a b k : ℕ) → op a b / 2 ^ k ≡ op (a / 2 ^ k) (b / 2 ^ k)) (digit : (a b : ℕ) → op a b % 2 ≡ f (a % 2) (b % 2)) where
  each_is : (n a b : ℕ) → op a b % 2 ^ n ≡ each f n a b
  unfolding each
  each_is zero a b = mod-one (op a b)
  each_is (suc n) a b =
      ap (λ (k : ℕ). op a b % 2 ^ k) (sym (one-add n)) ∙ mod-pow-add (op a b) 1 n
      ∙ ap₂ (λ (x y : ℕ). x * 2 ^ n + y) (ap (λ (x : ℕ). x % 2) (shr a b n) ∙ digit (a / 2 ^ n) (b / 2 ^ n)) (each_is n a b)

  word_is : (n a b : ℕ) → op a b < 2 ^ n → op a b ≡ each f n a b
  word_is n a b h = sym (mod-eq_of_lt h) ∙ each_is n a b

-- a rule of two digits, from its four values
four : (f g : ℕ → ℕ → ℕ) → f 0 0 ≡ g 0 0 → f 0 1 ≡ g 0 1 → f 1 0 ≡ g 1 0 → f 1 1 ≡ g 1 1 → (x y : ℕ) → x < 2 → y < 2 → f x y ≡ g x y
four f g p q r s zero zero hx hy = p
four f g p q r s zero (suc zero) hx hy = q
four f g p q r s (suc zero) zero hx hy = r
four f g p q r s (suc zero) (suc zero) hx hy = s
four f g p q r s zero (suc (suc y)) hx hy = absurd (omega arith)
four f g p q r s (suc zero) (suc (suc y)) hx hy = absurd (omega arith)
four f g p q r s (suc (suc x)) y hx hy = absurd (omega arith)

-- the last digit of t * 2 + m is that of m
last : (t m : ℕ) → (t * 2 + m) % 2 ≡ m % 2
last t m = omega arith

-- from an operation's step to its rule for a digit
rule : (f g : ℕ → ℕ → ℕ) → f 0 0 % 2 ≡ g 0 0 → f 0 1 % 2 ≡ g 0 1 → f 1 0 % 2 ≡ g 1 0 → f 1 1 % 2 ≡ g 1 1 → (a b t u : ℕ) → u ≡ t * 2 + f (a % 2) (b % 2) → u % 2 ≡ g (a % 2) (b % 2)
rule f g p q r s a b t u e =
    ap (λ (x : ℕ). x % 2) e ∙ last t (f (a % 2) (b % 2))
    ∙ four (λ (x y : ℕ). f x y % 2) g p q r s (a % 2) (b % 2) (omega arith) (omega arith)

and_digit : (a b : ℕ) → bit_and a b % 2 ≡ and_bit (a % 2) (b % 2)
and_digit a b = rule min and_bit refl refl refl refl a b _ _ (and_step a b)

xor_digit : (a b : ℕ) → bit_xor a b % 2 ≡ xor_bit (a % 2) (b % 2)
xor_digit a b = rule differ xor_bit refl refl refl refl a b _ _ (xor_step a b)

pub and_is : (n a b : ℕ) → a < 2 ^ n → b < 2 ^ n → bit_and a b ≡ each and_bit n a b
and_is n a b ha hb = word_is bit_and and_bit and_shr and_digit n a b (and_lt n a b ha hb)

pub or_is : (n a b : ℕ) → a < 2 ^ n → b < 2 ^ n → bit_or a b ≡ each or_bit n a b
or_is n a b ha hb = word_is bit_or or_bit or_shr (λ x y. rule max or_bit refl refl refl refl x y _ _ (or_step x y)) n a b (or_lt n a b ha hb)

pub xor_is : (n a b : ℕ) → a < 2 ^ n → b < 2 ^ n → bit_xor a b ≡ each xor_bit n a b
xor_is n a b ha hb = word_is bit_xor xor_bit xor_shr xor_digit n a b (xor_lt n a b ha hb)

-- AR(bit) := if SB(bit) = 1 then W(bit) else 0
pub select_is : (n a b : ℕ) → a < 2 ^ n → b < 2 ^ n → bit_and a b ≡ each one_selected n a b
select_is n a b ha hb =
    word_is bit_and one_selected and_shr (λ x y. rule min one_selected refl refl refl refl x y _ _ (and_step x y)) n a b (and_lt n a b ha hb)

-- x ^ (a & b), where x is a or b: the bits of x that are not in the other
module _ (x : ℕ → ℕ → ℕ) (x-shr : (a b k : ℕ) → x a b / 2 ^ k ≡ x (a / 2 ^ k) (b / 2 ^ k)) (x-mod : (a b : ℕ) → x a b % 2 ≡ x (a % 2) (b % 2)) where
  rest : ℕ → ℕ → ℕ
  rest a b = bit_xor (x a b) (bit_and a b)

  rest_shr : (a b k : ℕ) → rest a b / 2 ^ k ≡ rest (a / 2 ^ k) (b / 2 ^ k)
  unfolding rest
  rest_shr a b k = xor_shr (x a b) (bit_and a b) k ∙ ap₂ bit_xor (x-shr a b k) (and_shr a b k)

  rest_digit : (a b : ℕ) → rest a b % 2 ≡ xor_bit (x (a % 2) (b % 2)) (and_bit (a % 2) (b % 2))
  unfolding rest
  rest_digit a b = xor_digit (x a b) (bit_and a b) ∙ ap₂ xor_bit (x-mod a b) (and_digit a b)

  rest_is : (f : ℕ → ℕ → ℕ) → ((a b : ℕ) → xor_bit (x (a % 2) (b % 2)) (and_bit (a % 2) (b % 2)) ≡ f (a % 2) (b % 2))
      → (n a b : ℕ) → x a b < 2 ^ n → a < 2 ^ n → b < 2 ^ n → bit_xor (x a b) (bit_and a b) ≡ each f n a b
  unfolding rest
  rest_is f e n a b hx ha hb = word_is rest f rest_shr (λ c d. rest_digit c d ∙ e c d) n a b (xor_lt n (x a b) (bit_and a b) hx (and_lt n a b ha hb))

-- if SB(bit) = 1 then IR(bit) := 0
pub clear_is : (n a b : ℕ) → a < 2 ^ n → b < 2 ^ n → bit_xor a (bit_and a b) ≡ each clear_bit n a b
clear_is n a b ha hb =
    rest_is (λ c d. c) (λ c d k. refl) (λ c d. refl) clear_bit
    (λ c d. four (λ x y. xor_bit x (and_bit x y)) clear_bit refl refl refl refl (c % 2) (d % 2) (omega arith) (omega arith)) n a b ha ha hb

-- AR(bit) := if SB(bit) = 1 then not W(bit) else 0
pub miss_is : (n a b : ℕ) → a < 2 ^ n → b < 2 ^ n → bit_xor b (bit_and a b) ≡ each zero_selected n a b
miss_is n a b ha hb =
    rest_is (λ c d. d) (λ c d k. refl) (λ c d. refl) zero_selected
    (λ c d. four (λ x y. xor_bit y (and_bit x y)) zero_selected refl refl refl refl (c % 2) (d % 2) (omega arith) (omega arith)) n a b hb ha hb
