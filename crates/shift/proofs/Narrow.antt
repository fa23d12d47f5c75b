-- A register of 24 bits is shifted in one of 48: AS at its left, LS at its right. Assumes nothing.
use mathlib.Core.Path.{◌≡◌, refl, ap, ap₂}
use mathlib.Core.Bool.{Bool, true, false, cond}
use Prim.Native.Nat.{ℕ, zero, suc, ◌*◌, ◌/◌, ◌%◌, ◌^◌, ◌<◌}
use native.Mathlib.Omega.{arith}
use lib.Dec.{ltb}
use Rattle.registers.specs.Reg.{asr, shl, iter}
use Rattle.shift.specs.declared.Shifted.{Shifted}
use Rattle.shift.specs.Shift.{shifts_made, left_step, shr, arithmetic, logical}

-- two loops of as many steps keep what their steps keep
iter_keep : {A B : Type 0} (R : A → B → Type 0) (f : A → A) (g : B → B) → ((x : A) (y : B) → R x y → R (f x) (g y)) → (n : ℕ) (x : A) (y : B) → R x y → R (iter f n x) (iter g n y)
unfolding iter
iter_keep R f g h zero x y r = r
iter_keep R f g h (suc n) x y r = h _ _ (iter_keep R f g h n x y r)

-- the same test on both sides
cond_same : {A B : Type 0} (b : Bool) (f : A → B) (x y : A) (u v : B) → f x ≡ u → f y ≡ v → f (cond b x y) ≡ cond b u v
cond_same true f x y u v p q = p
cond_same false f x y u v p q = q

-- the 24 bits at the left
abbrev pub upper : Shifted → Shifted
upper x = record { word = x.word / 2 ^ 24; over = x.over }

-- x is y, at the left of 48 bits
abbrev AtLeft : Shifted → Shifted → Type 0
AtLeft x y = (x.word ≡ y.word * 2 ^ 24) × (x.over ≡ y.over)

left_step_lem : (x y : Shifted) → AtLeft x y → AtLeft (left_step 48 x) (left_step 24 y)
unfolding left_step
left_step_lem x y e =
    let s : x.word / 2 ^ 47 ≡ y.word / 2 ^ 23 = omega (arith, e) in
    let b : x.word / 2 ^ 46 % 2 ≡ y.word / 2 ^ 22 % 2 = omega (arith, e) in
    (omega (arith, e), cc)

-- AS
pub at_left : (sb w : ℕ) → upper (arithmetic 48 sb (w * 2 ^ 24)) ≡ arithmetic 24 sb w
unfolding arithmetic
at_left sb w =
    let l = iter_keep AtLeft (left_step 48) (left_step 24) left_step_lem (shifts_made sb) (record { word = w * 2 ^ 24; over = 0 }) (record { word = w; over = 0 }) (refl, refl) in
    let r = iter_keep (λ (x y : ℕ). x / 2 ^ 24 ≡ y) (asr 48) (asr 24) (λ x y e. omega arith) (shifts_made sb) (w * 2 ^ 24) w (omega arith) in
    let pair : ℕ → ℕ → Shifted = λ k o. record { word = k; over = o } in
    cond_same (ltb sb (2 ^ 23)) upper _ _ _ _ (ap₂ pair (omega (arith, l)) l.1) (ap (λ k. pair k 0) r)

-- LS
pub at_right : (sb w : ℕ) → w < 2 ^ 24 → logical 48 sb w % 2 ^ 24 ≡ logical 24 sb w
unfolding logical
at_right sb w h =
    let l = iter_keep (λ (x y : ℕ). x % 2 ^ 24 ≡ y) (shl 48) (shl 24) (λ x y e. omega arith) (shifts_made sb) w w (omega arith) in
    let r = iter_keep (λ (x y : ℕ). (x ≡ y) × (y < 2 ^ 24)) shr shr (λ x y e. omega (arith, e)) (shifts_made sb) w w (refl, h) in
    cond_same (ltb sb (2 ^ 23)) (λ (x : ℕ). x % 2 ^ 24) _ _ _ _ l (omega (arith, r))
