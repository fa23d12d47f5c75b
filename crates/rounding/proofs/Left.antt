-- Left shifts of AF, 39 bits, are those of AF(0:37), 38 bits; AF(-1) stays equal to AF(0). Assumes nothing.
use mathlib.Core.Path.{◌≡◌, ap, ap₂, ◌∙◌, sym}
use mathlib.Core.Bool.{false, not}
use Prim.Native.Nat.{ℕ, ◌+◌, ◌*◌, ◌/◌, ◌%◌, ◌^◌, ◌<◌}
use native.Mathlib.Omega.{arith}
use lib.Dec.{eqb}
use borrow.Author.Tests.{eqb-true, not-false}
use Rattle.registers.specs.Reg.{signed}
use Rattle.registers.proofs.Loops.{until_map, until_keep}
use Rattle.normalize.specs.declared.Normal.{Normal}
use Rattle.normalize.specs.Norm.{normal_at, norm_step, normalize}
use Rattle.rounding.specs.Round.{af_normal, af_step, af_left}

-- AF(0:37)
abbrev pub last_38 : Normal → Normal
last_38 x = record { word = x.word % 2 ^ 38; shifts = x.shifts }

pub same_test : (x : Normal) → normal_at 38 (last_38 x) ≡ af_normal x
same_test x =
    let s : x.word % 2 ^ 38 / 2 ^ 37 ≡ x.word / 2 ^ 37 % 2 = omega arith in
    let b : x.word % 2 ^ 38 / 2 ^ 36 % 2 ≡ x.word / 2 ^ 36 % 2 = omega arith in
    ap₂ (λ (u v : ℕ). not (eqb u v)) s b

same_step : (x : Normal) → norm_step 38 (last_38 x) ≡ last_38 (af_step x)
same_step x =
    let s : x.word % 2 ^ 38 * 2 % 2 ^ 38 ≡ x.word * 2 % 2 ^ 39 % 2 ^ 38 = omega arith in
    ap (λ (n : ℕ). record { word = n; shifts = x.shifts + 1 }) s

pub left_is : (a : ℕ) → normalize 38 (a % 2 ^ 38) ≡ last_38 (af_left a)
unfolding normalize af_left
left_is a = until_map af_normal af_step (normal_at 38) (norm_step 38) last_38 same_test same_step 48 (record { word = a; shifts = 0 })

-- AF(-1) = AF(0)
pub record Extended (a : ℕ) : Type 0 where
  pub small : a < 2 ^ 39
  pub equal : a / 2 ^ 38 ≡ a / 2 ^ 37 % 2

kept : (x : Normal) → af_normal x ≡ false → Extended x.word → Extended (x.word * 2 % 2 ^ 39)
kept x h e =
    let q : x.word / 2 ^ 37 % 2 ≡ x.word / 2 ^ 36 % 2 = eqb-true _ _ (not-false _ h) in
    let s : x.word * 2 % 2 ^ 39 / 2 ^ 38 ≡ x.word / 2 ^ 37 % 2 = omega arith in
    let t : x.word * 2 % 2 ^ 39 / 2 ^ 37 % 2 ≡ x.word / 2 ^ 36 % 2 = omega arith in
    record { small = omega arith; equal = s ∙ q ∙ sym t }

pub left_extended : (a : ℕ) → Extended a → Extended (af_left a).word
unfolding af_left
left_extended a e = until_keep af_normal af_step (λ (x : Normal). Extended x.word) kept 48 (record { word = a; shifts = 0 }) e

-- back from AF(0:37)
sign_added : (a l : ℕ) → l ≡ a % 2 ^ 38 → Extended a → signed 38 39 l ≡ a
sign_added a l h e = omega arith

-- what the code gives of the result r of `normalize`
pub left_back : (a : ℕ) (r : Normal) → Extended a → r ≡ normalize 38 (a % 2 ^ 38)
    → (signed 38 39 r.word ≡ (af_left a).word) × (r.shifts ≡ (af_left a).shifts)
left_back a r e h =
    let q : r ≡ last_38 (af_left a) = h ∙ left_is a in
    let w : r.word ≡ (af_left a).word % 2 ^ 38 = ap (λ (n : Normal). n.word) q in
    (sign_added (af_left a).word r.word w (left_extended a e), ap (λ (n : Normal). n.shifts) q)
