-- The steps of WM give the signed product. ARBR, SB and W, signed, are held with an offset, so that none is negative: q = ARBR + 2 ^ 47, u = SB + 2 ^ 23.
-- Assumes nothing.
use mathlib.Core.Path.{◌≡◌, refl, sym, ap, ◌∙◌}
use mathlib.Core.Bool.{cond}
use lib.Dec.{eqb}
use Prim.Native.Nat.{ℕ, zero, suc, ◌+◌, ◌-◌, ◌*◌, ◌/◌, ◌%◌, ◌^◌, ◌≤◌, ◌<◌}
use native.Mathlib.Omega.{arith}
use native.Mathlib.Nat.{mul-le-mul_right}
use native.Mathlib.Decide.{dec_lt}
use Rattle.registers.specs.Reg.{signed, asr, add_ar, iter}
use Rattle.multiply.specs.Wm.{wm_step, wm_last, wm}

-- ARBR: q - 2 ^ 47 at 49 bits
abbrev without_offset : ℕ → ℕ
without_offset q = (q + 3 * 2 ^ 47) % 2 ^ 49

-- a word as a signed number, + 2 ^ 23
abbrev pub with_offset : ℕ → ℕ
with_offset x = (x + 2 ^ 23) % 2 ^ 24

-- (u - 2 ^ 23) * (v - 2 ^ 23) + 2 ^ 48
abbrev pub product_with_offset : ℕ → ℕ → ℕ
product_with_offset u v = u * v + 5 * 2 ^ 46 - 2 ^ 23 * (u + v)

-- a step of q that adds u - 2 ^ 23 to AR
abbrev stepped : ℕ → ℕ → ℕ
stepped u q = q / 2 + cond (eqb (q % 2) 1) u (2 ^ 23) * 2 ^ 23

-- ---- a step, of any x and its u
shift : (y q p : ℕ) → y ≤ 2 ^ 47 → q < 2 ^ 48 → p ≡ (q + 2 * y + 2 ^ 48) % 2 ^ 49 → without_offset (q / 2 + y) ≡ asr 49 p
shift y q p hy hq e =
    elim (dec_lt (q + 2 * y) (2 ^ 48)) [
      | yes l ↦ (let f : p ≡ q + 2 * y + 2 ^ 48 = omega arith in let z : p / 2 ^ 48 ≡ 1 = omega arith in omega arith)
      | no n ↦ (let f : p + 2 ^ 48 ≡ q + 2 * y = omega arith in let z : p / 2 ^ 48 ≡ 0 = omega arith in omega arith)
    ]

add : (x y q : ℕ) → y ≡ (x + 2 ^ 23) % 2 ^ 25 * 2 ^ 23 → add_ar x (without_offset q) ≡ (q + 2 * y + 2 ^ 48) % 2 ^ 49
add x y q e = omega arith

add_shift : (x u q : ℕ) → u ≤ 2 ^ 24 → q < 2 ^ 48 → u ≡ (x + 2 ^ 23) % 2 ^ 25 → without_offset (stepped u q) ≡ wm_step x (without_offset q)
unfolding wm_step
add_shift x u q hu hq e =
    elim (dec_lt (q % 2) 1) [
      | yes l ↦ (let b : q % 2 ≡ 0 = omega arith in let c : without_offset q % 2 ≡ 0 = omega arith in
          rw (b, c) (shift (2 ^ 46) q _ (omega arith) hq (omega arith)))
      | no n ↦ (let b : q % 2 ≡ 1 = omega arith in let c : without_offset q % 2 ≡ 1 = omega arith in
          rw (b, c) (shift (u * 2 ^ 23) q _ (omega arith) hq (add x (u * 2 ^ 23) q (omega arith))))
    ]

-- a step of WM
step_offset : (s q : ℕ) → s < 2 ^ 24 → q < 2 ^ 48 → without_offset (stepped (with_offset s) q) ≡ wm_step (signed 24 25 s) (without_offset q)
step_offset s q hs hq =
    let d : (signed 24 25 s + 2 ^ 23) / 2 ^ 25 ≡ s / 2 ^ 23 = omega arith in
    add_shift (signed 24 25 s) (with_offset s) q (omega arith) hq (omega arith)

-- the last is a step with - x
last_offset : (s q : ℕ) → s < 2 ^ 24 → q < 2 ^ 48 → without_offset (stepped (2 ^ 24 - with_offset s) q) ≡ wm_last (signed 24 25 s) (without_offset q)
unfolding wm_step wm_last
last_offset s q hs hq =
    let d : (2 ^ 25 - signed 24 25 s + 2 ^ 23) / 2 ^ 25 ≡ 1 - s / 2 ^ 23 = omega arith in
    add_shift (2 ^ 25 - signed 24 25 s) (2 ^ 24 - with_offset s) q (omega arith) hq (omega arith)

-- ---- the product so far

-- ARBR = SB * y + h: y is what has been multiplied of W, h what is left of it in BR
abbrev Holds : ℕ → ℕ → ℕ → ℕ → Type 0
Holds u y h q = q + 2 ^ 23 * y ≡ h + 2 ^ 47 + u * y

small : (u z h q : ℕ) → u < 2 ^ 24 → z < 2 ^ 23 → h < 2 ^ 24 → Holds u (2 * z) h q → q < 2 ^ 48
small u z h q hu hz hh e = let k : u * z ≤ (2 ^ 24 - 1) * z = mul-le-mul_right z (omega arith) in omega arith

parity : (u z h q : ℕ) → Holds u (2 * z) h q → q % 2 ≡ h % 2
parity u z h q e = omega arith

next : (u z h q : ℕ) → Holds u (2 * z) h q → Holds u (z + h % 2 * 2 ^ 23) (h / 2) (stepped u q)
next u z h q e =
    elim (dec_lt (h % 2) 1) [
      | yes n ↦ (let b : h % 2 ≡ 0 = omega arith in rw (parity u z h q e, b) (omega arith))
      | no n ↦ (let b : h % 2 ≡ 1 = omega arith in rw (parity u z h q e, b) (omega arith))
    ]

-- the last step: h is bit 0 of W
end : (u w z h q : ℕ) → u < 2 ^ 24 → w < 2 ^ 24 → z < 2 ^ 23 → h * 2 ^ 23 + z ≡ w → Holds u (2 * z) h q
    → stepped (2 ^ 24 - u) q + 2 ^ 23 * (u + with_offset w) ≡ u * with_offset w + 2 ^ 46 + 2 ^ 47
end u w z h q hu hw hz f e =
    elim (dec_lt h 1) [
      | yes n ↦ (let b : h ≡ 0 = omega arith in let v : with_offset w ≡ z + 2 ^ 23 = omega arith in rw (parity u z h q e, b, v) (omega arith))
      | no n ↦ (let b : h ≡ 1 = omega arith in let v : with_offset w ≡ z = omega arith in rw (parity u z h q e, b, v) (omega arith))
    ]

-- after 23 - e steps: ARBR is p, and t = W * 2 ^ e is h, then z of 23 bits
record After (u t p : ℕ) : Type 0 where
  pub h : ℕ
  pub z : ℕ
  pub q : ℕ
  pub multiplier : h * 2 ^ 23 + z ≡ t
  pub right : z < 2 ^ 23
  pub left : h < 2 ^ 24
  pub holds : Holds u (2 * z) h q
  pub is : without_offset q ≡ p

step : (s t p : ℕ) → s < 2 ^ 24 → After (with_offset s) (2 * t) p → After (with_offset s) t (wm_step (signed 24 25 s) p)
step s t p hs a =
    let z = a.z / 2 + a.h % 2 * 2 ^ 22 in
    let e : a.z + a.h % 2 * 2 ^ 23 ≡ 2 * z = omega (arith, a.multiplier) in
    let l = small (with_offset s) a.z a.h a.q (omega arith) a.right a.left a.holds in
    record {
      h = a.h / 2;
      z = z;
      q = stepped (with_offset s) a.q;
      multiplier = omega (arith, a.multiplier);
      right = omega (arith, a.right);
      left = omega (arith, a.left);
      holds = rw e at (next (with_offset s) a.z a.h a.q a.holds);
      is = step_offset s a.q hs l ∙ ap (wm_step (signed 24 25 s)) a.is;
    }

steps : (w s : ℕ) → w < 2 ^ 24 → s < 2 ^ 24 → (i e : ℕ) → i + e ≡ 23 → After (with_offset s) (w * 2 ^ e) (iter (wm_step (signed 24 25 s)) i w)
unfolding iter
steps w s hw hs zero e f =
    let g : e ≡ 23 = omega arith in
    rw g (record { h = w; z = 0; q = w + 2 ^ 47; multiplier = omega arith; right = omega arith; left = hw; holds = omega arith; is = omega arith })
steps w s hw hs (suc i) e f =
    let d : 2 ^ suc e ≡ 2 * 2 ^ e = omega arith in
    let g : w * 2 ^ suc e ≡ 2 * (w * 2 ^ e) = rw d (omega arith) in
    step s (w * 2 ^ e) _ hs (rw g at (steps w s hw hs i (suc e) (omega arith)))

-- the 23 steps and the last
pub steps_product : (w s : ℕ) → w < 2 ^ 24 → s < 2 ^ 24 → wm w s ≡ product_with_offset (with_offset w) (with_offset s) % 2 ^ 48
unfolding wm
steps_product w s hw hs =
    let a = steps w s hw hs 23 0 refl in
    let l = small (with_offset s) a.z a.h a.q (omega arith) a.right a.left a.holds in
    let p = end (with_offset s) w a.z a.h a.q (omega arith) hw a.right (omega (arith, a.multiplier)) a.holds in
    let r = last_offset s a.q hs l ∙ ap (wm_last (signed 24 25 s)) a.is in
    ap (λ (n : ℕ). n % 2 ^ 48) (sym r) ∙ omega arith
