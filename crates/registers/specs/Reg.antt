-- Registers. A register of n bits is a natural number below 2 ^ n; its left-most bit has the weight 2 ^ (n - 1).
use Rattle.std.specs.Prelude.{ℕ, zero, suc, ◌+◌, ◌-◌, ◌*◌, ◌/◌, ◌%◌, ◌^◌, Bool, true, false}

-- 2 ** 24: one more than the largest word, and the weight of a cell's key
abbrev pub word_range : ℕ
word_range = 16777216

-- bit k of x, counted from the right, 0 the last: R(p) of n bits is `bit_from_right (n - 1 - p) R`
abbrev pub bit_from_right : ℕ → ℕ → ℕ
bit_from_right k x = x / 2 ^ k % 2

-- the left-most bit of a register of n bits
abbrev pub sign : ℕ → ℕ → ℕ
sign n x = x / 2 ^ (n - 1)

-- R := signed C, from n bits to m: the sign's bit goes into the bits n to m - 1
abbrev pub signed : ℕ → ℕ → ℕ → ℕ
signed n m x = x + sign n x * (2 ^ m - 2 ^ n)

-- signed byte
unfoldable pub signed_byte : ℕ → ℕ
signed_byte b = signed 12 24 b

-- R := not R
abbrev pub complement : ℕ → ℕ → ℕ
complement n x = 2 ^ n - 1 - x

-- 1 where two bits differ
abbrev pub bits_differ : ℕ → ℕ → ℕ
bits_differ a b = (a + b) % 2

-- R(1:n-1) := R(0:n-2), R(0) stays: a shift to the right that keeps the sign
abbrev pub asr : ℕ → ℕ → ℕ
asr n x = x / 2 + sign n x * 2 ^ (n - 1)

-- R := shiftleft R
abbrev pub shl : ℕ → ℕ → ℕ
shl n x = x * 2 % 2 ^ n

-- AR := AR + x on ARBR, 49 bits, where x has AR's 25 bits; BR stays
abbrev pub add_ar : ℕ → ℕ → ℕ
add_ar x p = (p + x * 2 ^ 24) % 2 ^ 49

-- AR := AR - x on ARBR
abbrev pub sub_ar : ℕ → ℕ → ℕ
sub_ar x p = add_ar (2 ^ 25 - x) p

-- f applied n times
unfoldable pub iter : {A : Type 0} → (A → A) → ℕ → A → A
iter f zero x = x
iter f (suc n) x = f (iter f n x)

-- f applied until the test holds, at most n times
unfoldable pub until : {A : Type 0} → (A → Bool) → (A → A) → ℕ → A → A
until p f zero x = x
until p f (suc n) x = elim (p x) [ true ↦ x | false ↦ until p f n (f x) ]
