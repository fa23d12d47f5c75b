-- WD's steps as passes of non-restoring division, of the divisor's magnitude c at the place of AR. For a positive divisor the digits shifted in are those
-- of the quotient, for a negative one their complement. Assumes nothing.
use mathlib.Core.Path.{◌≡◌, ap, ◌∙◌}
use mathlib.Core.Logic.{◌⊎◌, inl, inr, ⊎_elim}
use Prim.Native.Nat.{ℕ, ◌+◌, ◌-◌, ◌*◌, ◌/◌, ◌%◌, ◌^◌, ◌≤◌, ◌<◌}
use native.Mathlib.Omega.{arith}
use native.Mathlib.Decide.{dec_lt}
use native.Mathlib.Nat.{mod-add-mod}
use lib.Pow.{pow-add}
use borrow.Author.Tests.{lt-ltb, le-ltb, eq-eqb, ne_eqb}
use Rattle.registers.specs.Reg.{iter}
use Rattle.registers.proofs.NonRestoring.{pass, Passed, begun, passes, apart_whole}
use Rattle.divide.specs.Wd.{wd_step}

-- the divisor s with its magnitude c, and the digits that are shifted in
pub record Divisor (s c set clear : ℕ) : Type 0 where
  pub magnitude : c ≤ 2 ^ 23
  pub sign : ((s ≡ c) × ((s < 2 ^ 23) × ((set ≡ 1) × (clear ≡ 0)))) ⊎ ((s + c ≡ 2 ^ 24) × ((2 ^ 23 ≤ s) × ((set ≡ 0) × (clear ≡ 1))))

-- ---- one step
-- k added to the shifted register
shifted : (p k x y : ℕ) → x ≡ p * 2 % 2 ^ 49 + k → p * 2 + k ≡ y → x % 2 ^ 49 ≡ y % 2 ^ 49
shifted p k x y e f = ap (λ (n : ℕ). n % 2 ^ 49) e ∙ mod-add-mod (p * 2) (2 ^ 49) k ∙ ap (λ (n : ℕ). n % 2 ^ 49) f

positive_pass : (s p : ℕ) → s < 2 ^ 23 → p < 2 ^ 49 → wd_step s p ≡ pass (2 ^ 48) (s * 2 ^ 24) 1 0 p
unfolding wd_step
positive_pass s p l h =
    let z : s / 2 ^ 23 ≡ 0 = omega arith in
    elim (dec_lt p (2 ^ 48)) [
      | yes m ↦
          (let e : p / 2 ^ 48 ≡ 0 = omega arith in
          rw (eq-eqb (p / 2 ^ 48) (s / 2 ^ 23) (omega arith), lt-ltb _ _ m) (shifted p (1 + (2 ^ 49 - s * 2 ^ 24)) _ _ (omega arith) (omega arith)))
      | no n ↦
          (let e : p / 2 ^ 48 ≡ 1 = omega arith in
          rw (ne_eqb (p / 2 ^ 48) (s / 2 ^ 23) (omega arith), le-ltb p (2 ^ 48) (omega arith)) (shifted p (s * 2 ^ 24) _ _ (omega arith) (omega arith)))
    ]

negative_pass : (s c p : ℕ) → s + c ≡ 2 ^ 24 → 2 ^ 23 ≤ s → s < 2 ^ 24 → p < 2 ^ 49 → wd_step s p ≡ pass (2 ^ 48) (c * 2 ^ 24) 0 1 p
unfolding wd_step
negative_pass s c p f k l h =
    let z : s / 2 ^ 23 ≡ 1 = omega arith in
    elim (dec_lt p (2 ^ 48)) [
      | yes m ↦
          (let e : p / 2 ^ 48 ≡ 0 = omega arith in
          rw (ne_eqb (p / 2 ^ 48) (s / 2 ^ 23) (omega arith), lt-ltb _ _ m) (shifted p (2 ^ 49 - c * 2 ^ 24) _ _ (omega arith) (omega arith)))
      | no n ↦
          (let e : p / 2 ^ 48 ≡ 1 = omega arith in
          rw (eq-eqb (p / 2 ^ 48) (s / 2 ^ 23) (omega arith), le-ltb p (2 ^ 48) (omega arith)) (shifted p (1 + c * 2 ^ 24) _ _ (omega arith) (omega arith)))
    ]

pub step_pass : {s c set clear : ℕ} → s < 2 ^ 24 → Divisor s c set clear → (p : ℕ) → p < 2 * 2 ^ 48 → wd_step s p ≡ pass (2 ^ 48) (c * 2 ^ 24) set clear p
step_pass {s} l d p h =
    ⊎_elim
    (λ e. rw (← e.0, e.1.1.0, e.1.1.1) (positive_pass s p e.1.0 (omega arith)))
    (λ e. rw (e.1.1.0, e.1.1.1) (negative_pass s _ p e.0 e.1.0 l (omega arith)))
    d.sign

-- ---- the 24 steps, from p on
-- T is the quotient's digits, as a number, b what is shifted into BR, v - c what is in AR; a is the dividend + c 2 ** 24
pub record Stepped (s c a p : ℕ) : Type 0 where
  pub quotient : ℕ
  pub low : ℕ
  pub rest : ℕ
  pub product : a ≡ quotient * (2 * c) + rest
  pub below : rest < 2 * c
  pub digits : ((s < 2 ^ 23) × (low ≡ quotient)) ⊎ ((2 ^ 23 ≤ s) × (low + quotient + 1 ≡ 2 ^ 24))
  pub range : (quotient < 2 ^ 24) × (low < 2 ^ 24)
  pub held : (p + c * 2 ^ 24 ≡ rest * 2 ^ 24 + low) ⊎ (p + c * 2 ^ 24 ≡ rest * 2 ^ 24 + low + 2 ^ 49)

-- what the passes leave, with the place of AR taken out
from_passes : {s c set clear a p : ℕ} → Divisor s c set clear → Passed (2 ^ 48) (c * 2 ^ 24) set clear a 24 p → Stepped s c a p
from_passes {s} {c} {set} {clear} {a} {p} d q =
    let n : ℕ = q.ones in
    let m : ℕ = q.zeros in
    let g : n + m + 1 ≡ 2 ^ 24 = q.digits in
    let e : 2 ^ 24 * a ≡ n * (2 * (c * 2 ^ 24)) + q.rest = q.product in
    let v : ℕ = q.rest / 2 ^ 24 in
    let r : q.rest ≡ v * 2 ^ 24 = omega arith in
    let h : (p + c * 2 ^ 24 ≡ v * 2 ^ 24 + (set * n + clear * m)) ⊎ (p + c * 2 ^ 24 ≡ v * 2 ^ 24 + (set * n + clear * m) + 2 ^ 49) = ⊎_elim (λ k. inl (omega arith)) (λ k. inr (omega arith)) q.held in
    let low : ((s < 2 ^ 23) × (set * n + clear * m ≡ n)) ⊎ ((2 ^ 23 ≤ s) × (set * n + clear * m + n + 1 ≡ 2 ^ 24)) =
    ⊎_elim (λ f. inl (f.1.0, rw (f.1.1.0, f.1.1.1) (omega arith))) (λ f. inr (f.1.0, rw (f.1.1.0, f.1.1.1) (omega arith))) d.sign in
    record {
      quotient = n;
      low = set * n + clear * m;
      rest = v;
      product = omega arith;
      below = omega (arith, q.below);
      digits = low;
      range = (omega arith, ⊎_elim (λ k. omega arith) (λ k. omega arith) low);
      held = h;
    }

whole : (c j : ℕ) → j < 24 → c * 2 ^ 24 ≡ 2 ^ j * (c * 2 ^ (24 - j))
whole c j l =
    let n : 24 ≡ j + (24 - j) = omega arith in
    let e : 2 ^ 24 ≡ 2 ^ j * 2 ^ (24 - j) = ap (λ (n : ℕ). 2 ^ n) n ∙ pow-add 2 j (24 - j) in
    ap (λ (n : ℕ). c * n) e ∙ omega arith

pub stepped : {s c set clear : ℕ} (a p : ℕ) → s < 2 ^ 24 → Divisor s c set clear → a < 2 * (c * 2 ^ 24) → p < 2 ^ 49
    → (p + c * 2 ^ 24 ≡ a) ⊎ (p + c * 2 ^ 24 ≡ a + 2 ^ 49) → Stepped s c a (iter (wd_step s) 24 p)
stepped {s} {c} {set} {clear} a p l d h r e =
    let m = d.magnitude in
    let bits : (set < 2) × (clear < 2) = ⊎_elim (λ f. (omega arith, omega arith)) (λ f. (omega arith, omega arith)) d.sign in
    from_passes d
    (passes (2 ^ 48) (c * 2 ^ 24) set clear (omega arith) bits.0 bits.1 (wd_step s) (step_pass l d) 24
    (λ j k q. apart_whole (2 ^ 48) (c * 2 ^ 24) set clear bits.0 bits.1 (c * 2 ^ (24 - j)) (whole c j k) q)
    (begun (2 ^ 48) (c * 2 ^ 24) set clear a p h (omega arith) e))
