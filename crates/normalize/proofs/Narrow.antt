-- A register of 24 bits, placed at the left of 48 bits, is normalized as it is by itself. Assumes nothing.
use mathlib.Core.Path.{◌≡◌, ap, ap₂, ◌∙◌}
use mathlib.Core.Bool.{not}
use Prim.Native.Nat.{ℕ, ◌+◌, ◌*◌, ◌/◌, ◌%◌, ◌^◌}
use native.Mathlib.Omega.{arith}
use lib.Dec.{eqb}
use Rattle.registers.proofs.Loops.{until_map}
use Rattle.normalize.specs.declared.Normal.{Normal}
use Rattle.normalize.specs.Norm.{normal, normal_at, norm_step, normalize}

-- at the left of 48 bits
pub wide : Normal → Normal
wide x = record { word = x.word * 2 ^ 24; shifts = x.shifts }

same_test : (w : ℕ) → normal 48 (w * 2 ^ 24) ≡ normal 24 w
same_test w =
    let s : w * 2 ^ 24 / 2 ^ 47 ≡ w / 2 ^ 23 = omega arith in
    let b : w * 2 ^ 24 / 2 ^ 46 % 2 ≡ w / 2 ^ 22 % 2 = omega arith in
    ap₂ (λ (a b : ℕ). not (eqb a b)) s b

same_step : (x : Normal) → norm_step 48 (wide x) ≡ wide (norm_step 24 x)
unfolding wide
same_step x =
    let s : x.word * 2 ^ 24 * 2 % 2 ^ 48 ≡ x.word * 2 % 2 ^ 24 * 2 ^ 24 = omega arith in
    ap (λ (n : ℕ). record { word = n; shifts = x.shifts + 1 }) s

pub narrow : (w : ℕ) → normalize 48 (w * 2 ^ 24) ≡ wide (normalize 24 w)
unfolding wide normalize
narrow w = until_map (normal_at 24) (norm_step 24) (normal_at 48) (norm_step 48) wide (λ x. same_test x.word) same_step 48 (record { word = w; shifts = 0 })

-- the result of 48 bits, taken back
pub back : (w : ℕ) (r : Normal) → r ≡ normalize 48 (w * 2 ^ 24) → (r.word / 2 ^ 24 ≡ (normalize 24 w).word) × (r.shifts ≡ (normalize 24 w).shifts)
unfolding wide
back w r e =
    let q : r ≡ wide (normalize 24 w) = e ∙ narrow w in
    let d : (normalize 24 w).word * 2 ^ 24 / 2 ^ 24 ≡ (normalize 24 w).word = omega arith in
    (ap (λ (n : Normal). n.word / 2 ^ 24) q ∙ d, ap (λ (n : Normal). n.shifts) q)
