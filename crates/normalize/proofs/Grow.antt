-- Why normalizing ends: each shift doubles the distance of the register from 0 and from 2 ^ n, and it starts at 1. Assumes nothing.
use mathlib.Core.Path.{◌≡◌, ap, ◌∙◌, sym, subst}
use Prim.Native.Nat.{ℕ, suc, ◌+◌, ◌-◌, ◌*◌, ◌/◌, ◌%◌, ◌^◌, ◌≤◌, ◌<◌}
use mathlib.Core.Logic.{◌⊎◌, inl, inr, ⊎_elim}
use native.Mathlib.Omega.{arith}
use native.Mathlib.Nat.{div-add-mod, mod-lt, mod-eq_of_lt, mod-eq-sub-mod, mul-le-mul_left}
use native.Mathlib.Decide.{dec_le, dec_lt}
use native.Mathlib.Numerals.{add-one}
use lib.Pow.{pow-lt, pow_pos, shr-shr}
use Rattle.registers.specs.Reg.{bit_from_right, sign, shl}

-- 2 ^ i ≤ 2 ^ k only where i ≤ k
pub exponent_le : (i k : ℕ) → 2 ^ i ≤ 2 ^ k → i ≤ k
exponent_le i k h = elim (dec_le i k) [ yes l ↦ l | no n ↦ absurd (let l : k < i = omega arith in let q : 2 ^ k < 2 ^ i = pow-lt l in omega arith) ]

-- a distance of at least 2 ^ i from 0 and from 2 ^ n
pub record Apart (n i x : ℕ) : Type 0 where
  pub low : 2 ^ i ≤ x
  pub high : x + 2 ^ i ≤ 2 ^ n

pub double : (i : ℕ) → 2 ^ (i + 1) ≡ 2 * 2 ^ i
double i = rw add-one (omega arith)

-- q is 2 ^ (n - 2). The two left-most bits are equal: the register is in the first or in the last quarter.
quarter : (q x : ℕ) → 0 < q → x < 4 * q → x / q / 2 ≡ x / q % 2 → (x < q) ⊎ (3 * q ≤ x)
quarter q x p h e =
    let s : q * (x / q) + x % q ≡ x = div-add-mod x q in
    let m : x % q < q = mod-lt x p in
    elim (dec_lt (x / q) 1) [
      | yes l ↦ inl (let z : q * (x / q) ≡ q * 0 = ap (λ (n : ℕ). q * n) (omega arith) in omega arith)
      | no a ↦ inr (elim (dec_lt (x / q) 3) [
        | yes l ↦ absurd (omega arith)
        | no b ↦ (let g : q * 3 ≤ q * (x / q) = mul-le-mul_left q (omega arith) in omega arith)
      ])
    ]

near_0 : (q p x : ℕ) → p ≤ x → x + p ≤ 4 * q → x < q → (p ≤ q) × (2 * p ≤ x * 2 % (4 * q)) × (x * 2 % (4 * q) + 2 * p ≤ 4 * q)
near_0 q p x l h a = let m : x * 2 % (4 * q) ≡ x * 2 = mod-eq_of_lt (omega arith) in (omega arith, omega arith, omega arith)

near_top : (q p x : ℕ) → 0 < p → p ≤ x → x + p ≤ 4 * q → 3 * q ≤ x → (p ≤ q) × (2 * p ≤ x * 2 % (4 * q)) × (x * 2 % (4 * q) + 2 * p ≤ 4 * q)
near_top q p x z l h a =
    let m : x * 2 % (4 * q) ≡ x * 2 - 4 * q = mod-eq-sub-mod (omega arith) ∙ mod-eq_of_lt (omega arith) in
    (omega arith, omega arith, omega arith)

-- a register whose two left-most bits are equal is at a distance of at most 2 ^ (n - 2), and the shift doubles the distance
pub grow : (n i x : ℕ) → 2 ≤ n → Apart n i x → sign n x ≡ bit_from_right (n - 2) x → (i ≤ n - 2) × Apart n (i + 1) (shl n x)
grow n i x g a e =
    let w : 2 ^ n ≡ 4 * 2 ^ (n - 2) = (let k : n ≡ suc (suc (n - 2)) = omega arith in ap (λ (m : ℕ). 2 ^ m) k ∙ omega arith) in
    let d : x / 2 ^ (n - 1) ≡ x / 2 ^ (n - 2) / 2 = (let k : n - 1 ≡ n - 2 + 1 = omega arith in ap (λ (m : ℕ). x / 2 ^ m) k ∙ sym (shr-shr x (n - 2) 1)) in
    let l : 2 ^ i ≤ x = a.low in
    let h : x + 2 ^ i ≤ 4 * 2 ^ (n - 2) = subst (λ (m : ℕ). x + 2 ^ i ≤ m) w a.high in
    let b : x < 4 * 2 ^ (n - 2) = omega (arith, pow_pos i) in
    let t = ⊎_elim (near_0 (2 ^ (n - 2)) (2 ^ i) x l h) (near_top (2 ^ (n - 2)) (2 ^ i) x (pow_pos i) l h) (quarter (2 ^ (n - 2)) x (pow_pos (n - 2)) b (sym d ∙ e)) in
    let s : shl n x ≡ x * 2 % (4 * 2 ^ (n - 2)) = ap (λ (m : ℕ). x * 2 % m) w in
    (exponent_le i (n - 2) t.0, record { low = omega (arith, double i, t.1, s); high = omega (arith, double i, t.2, s, w) })

-- the distance bounds the count
pub apart_lt : (n i x : ℕ) → Apart n i x → i < n
apart_lt n i x a = let l : 2 ^ suc i ≤ 2 ^ n = omega (arith, a.low, a.high) in let g = exponent_le (suc i) n l in omega arith
