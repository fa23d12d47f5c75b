-- Two passes from Again are enough: what Normalize leaves is zero or a fraction, and a fraction rounded up has AF(36) = 0 after one pass more. Assumes nothing.
use mathlib.Core.Path.{◌≡◌, refl, ap, ◌∙◌, sym, subst}
use mathlib.Core.Bool.{Bool, true, false, not}
use mathlib.Core.Logic.{◌⊎◌, inl, inr, ⊎_elim, ◌≢◌}
use Prim.Native.Nat.{ℕ, suc, ◌+◌, ◌*◌, ◌/◌, ◌%◌, ◌^◌, ◌≤◌, ◌<◌}
use native.Mathlib.Omega.{arith}
use native.Mathlib.Decide.{dec_lt, ℕ_discrete}
use borrow.Author.Tests.{eq-eqb, ne_eqb, eqb-true, eqb-false, not-true}
use Rattle.registers.specs.Reg.{until}
use Rattle.registers.proofs.Loops.{until_stop, until_go}
use Rattle.normalize.specs.declared.Normal.{Normal}
use Rattle.normalize.specs.Norm.{normal_at}
use Rattle.arithmetic_promises.proofs.Enough.{normalized}
use Rattle.rounding.specs.declared.Unpacked.{Unpacked}
use Rattle.rounding.specs.Round.{af_normal, af_step, af_left, left_shifts, normalize_once, no_rounding, round_again, normalize_round}
use Rattle.arithmetic_promises.specs.Claims.{LeftShiftsEnd, TwoPasses, AnyBound}
use Rattle.rounding.proofs.Once.{round_stop, round_go}
use Rattle.rounding.proofs.Left.{Extended, left_extended, left_is, same_test}

-- what `normalize_once` leaves if not zero: AF(-1) = AF(0), AF(0) <> AF(1)
pub record Fraction (a : ℕ) : Type 0 where
  pub extended : Extended a
  pub differ : a / 2 ^ 37 % 2 ≡ a / 2 ^ 36 % 2 → ⊥

-- a positive fraction or a negative one
Positive : ℕ → Type 0
Positive a = (2 ^ 36 ≤ a) × (a < 2 ^ 37)

Negative : ℕ → Type 0
Negative a = (3 * 2 ^ 37 ≤ a) × (a < 3 * 2 ^ 37 + 2 ^ 36)

low_half : (a : ℕ) → Fraction a → a < 2 ^ 38 → (2 ^ 36 ≤ a) × (a < 2 ^ 37)
low_half a f l =
    let s : a / 2 ^ 38 ≡ 0 = omega arith in
    let h : a < 2 ^ 37 = omega (arith, f.extended.equal) in
    let z : a / 2 ^ 37 % 2 ≡ 0 = omega arith in
    let n : a / 2 ^ 36 % 2 ≢ 0 = λ e. f.differ (z ∙ sym e) in
    (omega arith, h)

high_half : (a : ℕ) → Fraction a → 2 ^ 38 ≤ a → (3 * 2 ^ 37 ≤ a) × (a < 3 * 2 ^ 37 + 2 ^ 36)
high_half a f l =
    let b : a < 2 ^ 39 = f.extended.small in
    let s : a / 2 ^ 38 ≡ 1 = omega arith in
    let h : 3 * 2 ^ 37 ≤ a = omega (arith, f.extended.equal) in
    let z : a / 2 ^ 37 % 2 ≡ 1 = omega arith in
    let n : a / 2 ^ 36 % 2 ≢ 1 = λ e. f.differ (z ∙ sym e) in
    (h, omega arith)

normal_fraction : (a : ℕ) → Fraction a → Positive a ⊎ Negative a
unfolding Positive Negative
normal_fraction a f = elim (dec_lt a (2 ^ 38)) [ yes l ↦ inl (low_half a f l) | no n ↦ inr (high_half a f (omega arith)) ]

positive_fraction : (a : ℕ) → (2 ^ 36 ≤ a) × (a < 2 ^ 37) → Fraction a
positive_fraction a h =
    let z : a / 2 ^ 37 ≡ 0 = omega arith in
    let o : a / 2 ^ 36 ≡ 1 = omega arith in
    record { extended = record { small = omega arith; equal = omega arith }; differ = λ e. let n : a / 2 ^ 37 % 2 ≡ a / 2 ^ 36 % 2 = e in omega arith }

negative_fraction : (a : ℕ) → (3 * 2 ^ 37 ≤ a) × (a < 3 * 2 ^ 37 + 2 ^ 36) → Fraction a
negative_fraction a h =
    let z : a / 2 ^ 37 ≡ 3 = omega arith in
    let o : a / 2 ^ 36 ≡ 6 = omega arith in
    record { extended = record { small = omega arith; equal = omega arith }; differ = λ e. let n : a / 2 ^ 37 % 2 ≡ a / 2 ^ 36 % 2 = e in omega arith }

-- ---- `normalize_once`, case by case
once_right : (x : Unpacked) → (x.af / 2 ^ 38 ≡ x.af / 2 ^ 37 % 2 → ⊥) → (normalize_once x).af ≡ x.af / 2 + x.af / 2 ^ 38 * 2 ^ 38
unfolding normalize_once
once_right x h = rw (ne_eqb _ _ h) refl

once_zero : (x : Unpacked) → x.af ≡ 0 → (normalize_once x).af ≡ 0
unfolding normalize_once left_shifts
once_zero x h = rw (h) refl

once_left : (x : Unpacked) → x.af / 2 ^ 38 ≡ x.af / 2 ^ 37 % 2 → (x.af ≡ 0 → ⊥) → (normalize_once x).af ≡ (af_left x.af).word
unfolding normalize_once left_shifts
once_left x h n = rw (eq-eqb _ _ h, ne_eqb _ _ n) refl

-- a fraction stays; where AF(36:37) = 0 there is nothing to round
left_stays : (a : ℕ) → Fraction a → (af_left a).word ≡ a
unfolding af_left
left_stays a f = ap (λ (n : Normal). n.word) (until_stop af_normal af_step 48 (record { word = a; shifts = 0 }) (ap not (ne_eqb _ _ f.differ)))

not_zero : (a : ℕ) → Fraction a → a ≡ 0 → ⊥
not_zero a f e = f.differ (rw e refl)

settled : (r c : ℕ) → Fraction r → r % 4 ≡ 0 → no_rounding (normalize_once (record { af = r; sc = c })) ≡ true
settled r c f h =
    let e : (normalize_once (record { af = r; sc = c })).af ≡ r = once_left (record { af = r; sc = c }) f.extended.equal (not_zero r f) ∙ left_stays r f in
    let z : r / 2 % 2 ≡ 0 = omega arith in
    eq-eqb _ _ (ap (λ (n : ℕ). n / 2 % 2) e ∙ z)

-- rounding reaches the next power of two: AF(36) of what follows is 0, by computation
top_positive : (c : ℕ) → no_rounding (normalize_once (record { af = 2 ^ 37; sc = c })) ≡ true
unfolding normalize_once
top_positive c = refl

top_negative : (c : ℕ) → no_rounding (normalize_once (record { af = 3 * 2 ^ 37 + 2 ^ 36; sc = c })) ≡ true
unfolding normalize_once left_shifts af_left until
top_negative c = refl

round_positive : (a c : ℕ) → (2 ^ 36 ≤ a) × (a < 2 ^ 37) → no_rounding (normalize_once (record { af = (a + 4) % 2 ^ 39 / 4 * 4; sc = c })) ≡ true
round_positive a c h =
    let r : ℕ = (a + 4) % 2 ^ 39 / 4 * 4 in
    let m : (a + 4) % 2 ^ 39 ≡ a + 4 = omega arith in
    elim (dec_lt r (2 ^ 37)) [
      | yes l ↦ settled r c (positive_fraction r (omega arith, l)) (omega arith)
      | no n ↦ (let e : r ≡ 2 ^ 37 = omega arith in subst (λ (n : ℕ). no_rounding (normalize_once (record { af = n; sc = c })) ≡ true) (sym e) (top_positive c))
    ]

round_negative : (a c : ℕ) → (3 * 2 ^ 37 ≤ a) × (a < 3 * 2 ^ 37 + 2 ^ 36) → no_rounding (normalize_once (record { af = (a + 4) % 2 ^ 39 / 4 * 4; sc = c })) ≡ true
round_negative a c h =
    let r : ℕ = (a + 4) % 2 ^ 39 / 4 * 4 in
    let m : (a + 4) % 2 ^ 39 ≡ a + 4 = omega arith in
    elim (dec_lt r (3 * 2 ^ 37 + 2 ^ 36)) [
      | yes l ↦ settled r c (negative_fraction r (omega arith, l)) (omega arith)
      | no n ↦ (let e : r ≡ 3 * 2 ^ 37 + 2 ^ 36 = omega arith in subst (λ (n : ℕ). no_rounding (normalize_once (record { af = n; sc = c })) ≡ true) (sym e) (top_negative c))
    ]

-- what `normalize_once` leaves is zero or a fraction
right_fraction : (a : ℕ) → a < 2 ^ 39 → (a / 2 ^ 38 ≡ a / 2 ^ 37 % 2 → ⊥) → Fraction (a / 2 + a / 2 ^ 38 * 2 ^ 38)
right_fraction a b h =
    let s : (a / 2 + a / 2 ^ 38 * 2 ^ 38) / 2 ^ 38 ≡ a / 2 ^ 38 = omega arith in
    let t : (a / 2 + a / 2 ^ 38 * 2 ^ 38) / 2 ^ 37 % 2 ≡ a / 2 ^ 38 = omega arith in
    let u : (a / 2 + a / 2 ^ 38 * 2 ^ 38) / 2 ^ 36 % 2 ≡ a / 2 ^ 37 % 2 = omega arith in
    record { extended = record { small = omega arith; equal = s ∙ sym t }; differ = λ e. h (sym t ∙ e ∙ u) }

left_normal : (a : ℕ) → Extended a → (a ≡ 0 → ⊥) → af_normal (af_left a) ≡ true
left_normal a e n =
    let z : a ≢ 0 = n in
    let p : 0 < a % 2 ^ 38 = omega arith in
    let l : a % 2 ^ 38 < 2 ^ 38 = omega arith in
    sym (same_test (af_left a)) ∙ ap (normal_at 38) (sym (left_is a)) ∙ normalized (a % 2 ^ 38) p l

pub left_shifts_end : LeftShiftsEnd
left_shifts_end a b e = left_normal a (record { small = b; equal = e })

left_fraction : (a : ℕ) → Extended a → (a ≡ 0 → ⊥) → Fraction (af_left a).word
left_fraction a e n = record { extended = left_extended a e; differ = eqb-false _ _ (not-true _ (left_normal a e n)) }

once_is : (x : Unpacked) → x.af < 2 ^ 39 → ((normalize_once x).af ≡ 0) ⊎ Fraction (normalize_once x).af
once_is x b =
    elim (ℕ_discrete (x.af / 2 ^ 38) (x.af / 2 ^ 37 % 2)) [
      | no n ↦ inr (subst Fraction (sym (once_right x n)) (right_fraction x.af b n))
      | yes e ↦ elim (ℕ_discrete x.af 0) [
        | yes z ↦ inl (once_zero x z)
        | no n ↦ inr (subst Fraction (sym (once_left x e n)) (left_fraction x.af (record { small = b; equal = e }) n))
      ]
    ]

again_exact : (y : Unpacked) → Fraction y.af → no_rounding (round_again y) ≡ true
unfolding Positive Negative
again_exact y f = ⊎_elim (round_positive y.af y.sc) (round_negative y.af y.sc) (normal_fraction y.af f)

once_exact : (x : Unpacked) → x.af < 2 ^ 39 → no_rounding (normalize_once x) ≡ false → no_rounding (round_again (normalize_once x)) ≡ true
once_exact x b e =
    ⊎_elim (λ z. absurd (eqb-false _ _ e (ap (λ (n : ℕ). n / 2 % 2) z))) (again_exact (normalize_once x)) (once_is x b)

pub any_bound : AnyBound
unfolding normalize_round
any_bound x n b = go (no_rounding (normalize_once x)) refl
  where
    go : (t : Bool) → no_rounding (normalize_once x) ≡ t → until no_rounding round_again (suc n) (normalize_once x) ≡ until no_rounding round_again 1 (normalize_once x)
    go true e = until_stop no_rounding round_again (suc n) (normalize_once x) e ∙ sym (until_stop no_rounding round_again 1 (normalize_once x) e)
    go false e =
        until_go no_rounding round_again n (normalize_once x) e
        ∙ until_stop no_rounding round_again n (round_again (normalize_once x)) (once_exact x b e)
        ∙ round_go x (normalize_once x) (round_again (normalize_once x)) refl (eqb-false _ _ e) refl

pub two_passes : TwoPasses
two_passes x b = go (no_rounding (normalize_once x)) refl
  where
    go : (t : Bool) → no_rounding (normalize_once x) ≡ t → no_rounding (normalize_round x) ≡ true
    go true e = ap no_rounding (sym (round_stop x (normalize_once x) refl (eqb-true _ _ e))) ∙ e
    go false e =
        ap no_rounding (sym (round_go x (normalize_once x) (round_again (normalize_once x)) refl (eqb-false _ _ e) refl)) ∙ once_exact x b e
