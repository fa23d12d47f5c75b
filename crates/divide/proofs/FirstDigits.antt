-- WD's first two digits, which its first test for Quotient Overflow compares: equal where the dividend is at least c 2 ** 23, or below - c 2 ** 23, c the divisor's
-- magnitude. Later passes of such a division may leave the register's range: only these two digits are looked at. Assumes nothing.
use mathlib.Core.Path.{◌≡◌, refl, sym, ap, ◌∙◌}
use mathlib.Core.Logic.{◌⊎◌, inl, inr, ⊎_elim}
use Prim.Native.Nat.{ℕ, zero, suc, ◌+◌, ◌-◌, ◌*◌, ◌/◌, ◌%◌, ◌^◌, ◌≤◌, ◌<◌}
use native.Mathlib.Omega.{arith}
use native.Mathlib.Decide.{dec_lt, ℕ_discrete}
use borrow.Author.Tests.{lt-ltb, le-ltb, eq-eqb, ne_eqb}
use Rattle.registers.specs.Reg.{iter}
use Rattle.registers.proofs.NonRestoring.{twice}
use Rattle.divide.specs.Wd.{wd_step}
use Rattle.divide.proofs.Passes.{Divisor, step_pass}

-- ---- what is shifted in goes left
record Left (n p x : ℕ) : Type 0 where
  pub more : ℕ
  pub few : more < 2 ^ n
  pub bits : x % 2 ^ 24 ≡ (2 ^ n * p + more) % 2 ^ 24

-- BR after a step: AR's sum does not reach it
low_bits : (p k d : ℕ) → (p * 2 % 2 ^ 49 + d + k * 2 ^ 24) % 2 ^ 49 % 2 ^ 24 ≡ (p * 2 + d) % 2 ^ 24
low_bits p k d = omega arith

record Digit (p x : ℕ) : Type 0 where
  pub digit : ℕ
  pub bit : digit < 2
  pub low : x % 2 ^ 24 ≡ (p * 2 + digit) % 2 ^ 24

one_digit : (s p : ℕ) → Digit p (wd_step s p)
unfolding wd_step
one_digit s p =
    elim (ℕ_discrete (p / 2 ^ 48) (s / 2 ^ 23)) [
      | yes e ↦ rw (eq-eqb _ _ e) (record { digit = 1; bit = omega arith; low = low_bits p _ 1 })
      | no n ↦ rw (ne_eqb _ _ n) (record { digit = 0; bit = omega arith; low = omega arith })
    ]

doubled : (x m r d : ℕ) → x % 2 ^ 24 ≡ (m + r) % 2 ^ 24 → (x * 2 + d) % 2 ^ 24 ≡ (2 * m + (2 * r + d)) % 2 ^ 24
doubled x m r d e = omega arith

left_step_lem : (n p x y : ℕ) → Left n p x → Digit x y → Left (suc n) p y
left_step_lem n p x y l d =
    record {
      more = 2 * l.more + d.digit;
      few = omega (arith, l.few, d.bit);
      bits = d.low ∙ doubled x (2 ^ n * p) l.more d.digit l.bits ∙ ap (λ (m : ℕ). (m + (2 * l.more + d.digit)) % 2 ^ 24) (sym (twice n p));
    }

left : (s n p : ℕ) → Left n p (iter (wd_step s) n p)
unfolding iter
left s zero p = record { more = 0; few = omega arith; bits = omega arith }
left s (suc n) p = left_step_lem n p _ _ (left s n p) (one_digit s _)

two_first : (f : ℕ → ℕ) (n x : ℕ) → iter f (suc (suc n)) x ≡ iter f n (f (f x))
unfolding iter
two_first f zero x = refl
two_first f (suc n) x = ap f (two_first f n x)

-- ---- the two digits
-- BR of 24 bits whose first two are equal: AR(23) = BR(0) after the last shift
pub Overflows : ℕ → Type 0
Overflows b = (b < 2 ^ 22) ⊎ (3 * 2 ^ 22 ≤ b)

-- the first two digits are both d
both : (s p d : ℕ) → d < 2 → wd_step s p % 2 ≡ d → wd_step s (wd_step s p) % 4 ≡ (wd_step s p * 2 + d) % 4 → Overflows (iter (wd_step s) 24 p % 2 ^ 24)
unfolding Overflows
both s p d l e f =
    let k = left s 22 (wd_step s (wd_step s p)) in
    let g = two_first (wd_step s) 22 p in
    let m : ℕ = wd_step s (wd_step s p) in
    let h : iter (wd_step s) 24 p % 2 ^ 24 ≡ (2 ^ 22 * m + k.more) % 2 ^ 24 = ap (λ (n : ℕ). n % 2 ^ 24) g ∙ k.bits in
    let q : m % 4 ≡ 3 * d = omega arith in
    let r : iter (wd_step s) 24 p % 2 ^ 24 / 2 ^ 22 ≡ 3 * d = omega (arith, k.few) in
    elim (dec_lt d 1) [ yes z ↦ inl (omega arith) | no n ↦ inr (omega arith) ]

last_two : (x y d c : ℕ) → x ≡ (2 * y + d + c * 2 ^ 24) % 2 ^ 49 → x % 4 ≡ (y * 2 + d) % 4
last_two x y d c e = omega arith

module _ (s c set clear : ℕ) (l : s < 2 ^ 24) (d : Divisor s c set clear) where
  bits : (set < 2) × (clear < 2)
  bits = ⊎_elim (λ f. (omega arith, omega arith)) (λ f. (omega arith, omega arith)) d.sign

  subtracts : (p : ℕ) → p < 2 ^ 48 → wd_step s p ≡ (2 * p + set + (2 ^ 49 - c * 2 ^ 24)) % 2 ^ 49
  subtracts p h = step_pass l d p (omega arith) ∙ rw (lt-ltb p (2 ^ 48) h) refl

  adds : (p : ℕ) → 2 ^ 48 ≤ p → p < 2 ^ 49 → wd_step s p ≡ (2 * p + clear + c * 2 ^ 24) % 2 ^ 49
  adds p h k = step_pass l d p (omega arith) ∙ rw (le-ltb p (2 ^ 48) h) refl

  -- the dividend is p, at least c 2 ** 23
  pub overflows_above : (p : ℕ) → p < 2 ^ 47 → c * 2 ^ 23 ≤ p → Overflows (iter (wd_step s) 24 p % 2 ^ 24)
  overflows_above p h g =
      let b = bits.0 in
      let m = d.magnitude in
      let e = subtracts p (omega arith) in
      let f : wd_step s p + c * 2 ^ 24 ≡ 2 * p + set = omega arith in
      let k = subtracts (wd_step s p) (omega arith) in
      both s p set b (omega arith) (omega arith)

  -- the dividend is p - 2 ** 49, below - c 2 ** 23
  pub overflows_below : (p : ℕ) → p < 2 ^ 49 → 2 ^ 49 ≤ p + 2 ^ 47 → p + c * 2 ^ 23 < 2 ^ 49 → Overflows (iter (wd_step s) 24 p % 2 ^ 24)
  overflows_below p h n g =
      let b = bits.1 in
      let m = d.magnitude in
      let e = adds p (omega arith) h in
      let f : wd_step s p + 2 ^ 49 ≡ 2 * p + clear + c * 2 ^ 24 = omega arith in
      let k = adds (wd_step s p) (omega arith) (omega arith) in
      both s p clear b (omega arith) (last_two _ (wd_step s p) clear c k)
