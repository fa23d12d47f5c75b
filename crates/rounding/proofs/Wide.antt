-- Left shifts of AF, 39 bits, are those of AF(0:37) at the left of 48 bits, and AF back from their result. Assumes nothing.
use mathlib.Core.Path.{◌≡◌, ap, ap₂, ◌∙◌}
use mathlib.Core.Bool.{not}
use Prim.Native.Nat.{ℕ, ◌+◌, ◌*◌, ◌/◌, ◌%◌, ◌^◌}
use native.Mathlib.Omega.{arith}
use lib.Dec.{eqb}
use Rattle.registers.proofs.Loops.{until_map}
use Rattle.normalize.specs.declared.Normal.{Normal}
use Rattle.normalize.specs.Norm.{normal_at, norm_step, normalize}
use Rattle.rounding.specs.Round.{af_normal, af_step, af_left}
use Rattle.rounding.proofs.Left.{Extended, left_extended}

-- AF(0:37) at the left of 48 bits
abbrev pub wide : Normal → Normal
wide x = record { word = x.word % 2 ^ 38 * 2 ^ 10; shifts = x.shifts }

pub same_test : (x : Normal) → normal_at 48 (wide x) ≡ af_normal x
same_test x =
    let s : x.word % 2 ^ 38 * 2 ^ 10 / 2 ^ 47 ≡ x.word / 2 ^ 37 % 2 = omega arith in
    let b : x.word % 2 ^ 38 * 2 ^ 10 / 2 ^ 46 % 2 ≡ x.word / 2 ^ 36 % 2 = omega arith in
    ap₂ (λ (u v : ℕ). not (eqb u v)) s b

same_step : (x : Normal) → norm_step 48 (wide x) ≡ wide (af_step x)
same_step x =
    let s : x.word % 2 ^ 38 * 2 ^ 10 * 2 % 2 ^ 48 ≡ x.word * 2 % 2 ^ 39 % 2 ^ 38 * 2 ^ 10 = omega arith in
    ap (λ (n : ℕ). record { word = n; shifts = x.shifts + 1 }) s

pub left_is : (a : ℕ) → normalize 48 (a % 2 ^ 38 * 2 ^ 10) ≡ wide (af_left a)
unfolding normalize af_left
left_is a = until_map af_normal af_step (normal_at 48) (norm_step 48) wide same_test same_step 48 (record { word = a; shifts = 0 })

-- back from AF(0:37)
sign_added : (a l : ℕ) → l ≡ a % 2 ^ 38 → Extended a → l + l / 2 ^ 37 * 2 ^ 38 ≡ a
sign_added a l h e = omega arith

-- AF back from the result r of 48 bits, AF(-1) as AF(0)
pub left_back : (a : ℕ) (r : Normal) → Extended a → r ≡ normalize 48 (a % 2 ^ 38 * 2 ^ 10)
    → (r.word / 2 ^ 10 + r.word / 2 ^ 10 / 2 ^ 37 * 2 ^ 38 ≡ (af_left a).word) × (r.shifts ≡ (af_left a).shifts)
left_back a r e h =
    let q : r ≡ wide (af_left a) = h ∙ left_is a in
    let w : r.word ≡ (af_left a).word % 2 ^ 38 * 2 ^ 10 = ap (λ (n : Normal). n.word) q in
    (sign_added (af_left a).word (r.word / 2 ^ 10) (omega arith) (left_extended a e), ap (λ (n : Normal). n.shifts) q)
