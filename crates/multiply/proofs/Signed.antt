-- Words as signed numbers, their product, and both as the host computes them. u and v are the numbers + 2 ^ 23. Assumes nothing.
use mathlib.Core.Path.{◌≡◌, refl, ap, ◌∙◌}
use Prim.Native.Nat.{ℕ, zero, suc, ◌+◌, ◌-◌, ◌*◌, ◌^◌, ◌≤◌, ◌<◌}
use native.Mathlib.Omega.{arith}
use native.Mathlib.Nat.{mul-le-mul_right}
use native.Mathlib.Decide.{dec_lt}
use borrow.Author.Tests.{lt-ltb, le-ltb}
use lib.IntN.{ℤ, pos, negsuc, neg_ℤ, ◌+ℤ◌, ◌-ℤ◌, ◌*ℤ◌}
use lib.Signed.{mag}
use mir.Syntax.{w32, w64}
use mir.Val.{Fits, SFits, to_z, of_z}
use mir.Facts.{to_z-of_z, to_z_pos}
use Rattle.multiply.proofs.Product.{with_offset, product_with_offset}

-- u - 2 ^ 23
abbrev pub number : ℕ → ℤ
number u = pos u -ℤ pos (2 ^ 23)

-- z is u - 2 ^ 23, of 24 bits
abbrev Is : ℕ → ℤ → Type 0
Is u (pos a) = (u ≡ a + 2 ^ 23) × (a < 2 ^ 23)
Is u (negsuc a) = u + suc a ≡ 2 ^ 23

is_number : (u : ℕ) → u < 2 ^ 24 → Is u (number u)
is_number u h =
    elim (dec_lt u (2 ^ 23)) [
      | yes l ↦ rw (lt-ltb _ _ l) (omega arith)
      | no n ↦ rw (le-ltb u (2 ^ 23) (omega arith)) (omega arith, omega arith)
    ]

mag_is : (u : ℕ) (z : ℤ) → Is u z → mag z < 2 ^ 23
mag_is u (pos a) h = h.1
mag_is u (negsuc a) h = omega arith

-- ---- the product
bound : (a b : ℕ) → a ≤ 2 ^ 23 → b ≤ 2 ^ 23 → a * b ≤ 2 ^ 46
bound a b ha hb = let k : a * b ≤ 2 ^ 23 * b = mul-le-mul_right b ha in omega arith

mag_minus : (k n : ℕ) → k ≤ n → mag (neg_ℤ (pos k)) ≤ n
mag_minus zero n h = h
mag_minus (suc k) n h = omega arith

mag_product : (u v : ℕ) (x y : ℤ) → Is u x → Is v y → mag (x *ℤ y) ≤ 2 ^ 46
mag_product u v (pos a) (pos b) e f = bound a b (omega arith) (omega arith)
mag_product u v (pos a) (negsuc b) e f = mag_minus (a * suc b) (2 ^ 46) (bound a (suc b) (omega arith) (omega arith))
mag_product u v (negsuc a) (pos b) e f = mag_minus (suc a * b) (2 ^ 46) (bound (suc a) b (omega arith) (omega arith))
mag_product u v (negsuc a) (negsuc b) e f = bound (suc a) (suc b) (omega arith) (omega arith)

minus : (k c : ℕ) → k ≤ c → neg_ℤ (pos k) +ℤ pos c ≡ pos (c - k)
minus zero c h = ap pos (omega arith)
minus (suc k) c h = rw (le-ltb c (suc k) h) refl

is_product : (u v : ℕ) (x y : ℤ) → Is u x → Is v y → x *ℤ y +ℤ pos (2 ^ 48) ≡ pos (product_with_offset u v)
is_product u v (pos a) (pos b) (e, _) (f, _) = ap pos (rw (e, f) (omega arith))
is_product u v (pos a) (negsuc b) (e, h) f =
    let m : a * (v + suc b) ≡ a * 2 ^ 23 = ap (λ (n : ℕ). a * n) f in
    minus (a * suc b) (2 ^ 48) (omega arith) ∙ ap pos (rw e (omega arith))
is_product u v (negsuc a) (pos b) e (f, h) =
    let m : (u + suc a) * b ≡ 2 ^ 23 * b = ap (λ (n : ℕ). n * b) e in
    minus (suc a * b) (2 ^ 48) (omega arith) ∙ ap pos (rw f (omega arith))
is_product u v (negsuc a) (negsuc b) e f =
    let m : (u + suc a) * suc b ≡ 2 ^ 23 * suc b = ap (λ (n : ℕ). n * suc b) e in
    let n : u * (v + suc b) ≡ u * 2 ^ 23 = ap (λ (n : ℕ). u * n) f in
    ap pos (omega arith)

-- ---- as the host computes them: a number stands in its bits, `of_z`, and is read back from them, `to_z`
fits_64 : (z : ℤ) → mag z < 2 ^ 63 → SFits w64 z
fits_64 z h = record { sfits = h }

-- read back from 64 bits
abbrev read : ℤ → ℤ
read z = to_z w64 (of_z w64 z)

-- a word, of u = the number + 2 ^ 23
module _ (u : ℕ) (h : u < 2 ^ 24) where
  mag_number : mag (number u) < 2 ^ 23
  mag_number = mag_is u (number u) (is_number u h)

  number_32 : to_z w32 u -ℤ pos (2 ^ 23) ≡ number u
  number_32 = rw (to_z_pos w32 {n = u} (omega arith)) refl

  pub less_fits : SFits w32 (to_z w32 u -ℤ pos (2 ^ 23))
  less_fits = let m = mag_number in rw number_32 (record { sfits = omega arith })

  pub cast_fits : SFits w64 (to_z w32 (of_z w32 (to_z w32 u -ℤ pos (2 ^ 23))))
  cast_fits = let m = mag_number in rw (to_z-of_z less_fits, number_32) (fits_64 (number u) (omega arith))

  pub number_read : read (to_z w32 (of_z w32 (to_z w32 u -ℤ pos (2 ^ 23)))) ≡ number u
  number_read = rw (to_z-of_z cast_fits, to_z-of_z less_fits, number_32) refl

-- the word x as a signed number
abbrev signed_word : ℕ → ℤ
signed_word x = number (with_offset x)

is_word : (x : ℕ) → Is (with_offset x) (signed_word x)
is_word x = is_number (with_offset x) (omega arith)

word_read : (x : ℕ) → read (signed_word x) ≡ signed_word x
word_read x = let m = mag_is (with_offset x) (signed_word x) (is_word x) in to_z-of_z (fits_64 (signed_word x) (omega arith))

-- the product of two words
module _ (w s : ℕ) where
  factors : read (signed_word w) *ℤ read (signed_word s) ≡ signed_word w *ℤ signed_word s
  factors = rw (word_read w, word_read s) refl

  product_fits : SFits w64 (signed_word w *ℤ signed_word s)
  product_fits = let m = mag_product _ _ (signed_word w) (signed_word s) (is_word w) (is_word s) in fits_64 _ (omega arith)

  product_sum : read (read (signed_word w) *ℤ read (signed_word s)) +ℤ pos (2 ^ 48) ≡ pos (product_with_offset (with_offset w) (with_offset s))
  product_sum = rw (factors, to_z-of_z product_fits) (is_product _ _ (signed_word w) (signed_word s) (is_word w) (is_word s))

  below : product_with_offset (with_offset w) (with_offset s) < 2 ^ 63
  below = let k : with_offset w * with_offset s ≤ 2 ^ 24 * with_offset s = mul-le-mul_right (with_offset s) (omega arith) in omega arith

  pub times_fits : SFits w64 (read (signed_word w) *ℤ read (signed_word s))
  times_fits = rw factors product_fits

  pub sum_fits : SFits w64 (read (read (signed_word w) *ℤ read (signed_word s)) +ℤ pos (2 ^ 48))
  sum_fits = rw product_sum (fits_64 _ below)

  pub sum_read : read (read (read (signed_word w) *ℤ read (signed_word s)) +ℤ pos (2 ^ 48)) ≡ pos (product_with_offset (with_offset w) (with_offset s))
  sum_read = rw product_sum (to_z-of_z (fits_64 (pos (product_with_offset (with_offset w) (with_offset s))) below))

  pub product_below : Fits w64 (product_with_offset (with_offset w) (with_offset s))
  product_below = let h = below in record { fits = omega arith }
