-- The left shifts of CI, by the exponent that it leaves: SC is 23 less their number, and no rounding follows. Assumes nothing.
use mathlib.Core.Path.{◌≡◌, refl, ap, ◌∙◌}
use Prim.Native.Nat.{ℕ, ◌+◌, ◌-◌, ◌*◌, ◌/◌, ◌%◌, ◌^◌, ◌≤◌, ◌<◌}
use native.Mathlib.Omega.{arith}
use native.Mathlib.Nat.{mod-lt}
use mathlib.Core.Bool.{Bool, true, false, cond}
use lib.Dec.{eqb}
use borrow.Author.Tests.{eq-eqb, ne_eqb}
use Rattle.registers.specs.Reg.{signed}
use Rattle.registers.proofs.Loops.{until_keep, until_most}
use Rattle.normalize.specs.declared.Normal.{Normal}
use Rattle.rounding.specs.Round.{af_normal, af_step, af_left, left_shifts, normalize_once, normalize_round}
use Rattle.rounding.specs.Convert.{ci, integer_shifts}
use Rattle.rounding.proofs.Once.{round_stop}

pub left_most : (a : ℕ) → (af_left a).shifts ≤ 48
unfolding af_left
left_most a = until_most af_normal af_step (λ (x : Normal). x.shifts) (λ x. refl) 48 (record { word = a; shifts = 0 })

pub integer_most : (w : ℕ) → integer_shifts w ≤ 48
unfolding integer_shifts
integer_most w = by (eqb w 0)
  where
    by : (b : Bool) → cond b 0 (af_left (signed 24 25 w * 2 ^ 14)).shifts ≤ 48
    by true = omega arith
    by false = left_most (signed 24 25 w * 2 ^ 14)

-- the two right-most bits of AF stay zero
zeros : (a : ℕ) → a % 4 ≡ 0 → (af_left a).word % 4 ≡ 0
unfolding af_left
zeros a e = until_keep af_normal af_step (λ (x : Normal). x.word % 4 ≡ 0) (λ x p z. doubled x.word z) 48 (record { word = a; shifts = 0 }) e
  where
    doubled : (x : ℕ) → x % 4 ≡ 0 → x * 2 % 2 ^ 39 % 4 ≡ 0
    doubled x z = omega arith

-- of a word, AF(-1) = AF(0)
extended : (w a : ℕ) → w < 2 ^ 24 → a ≡ signed 24 25 w * 2 ^ 14 → a / 2 ^ 38 ≡ a / 2 ^ 37 % 2
extended w a l e = omega arith

once : (a c : ℕ) → a / 2 ^ 38 ≡ a / 2 ^ 37 % 2 → (a ≡ 0 → ⊥) → record { af = (af_left a).word; sc = (c + (2 ^ 13 - (af_left a).shifts)) % 2 ^ 13 } ≡ normalize_once (record { af = a; sc = c })
unfolding normalize_once left_shifts
once a c e z = rw (eq-eqb _ _ e, ne_eqb _ _ z)

rounded : (w a : ℕ) → w < 2 ^ 24 → (w ≡ 0 → ⊥) → a ≡ signed 24 25 w * 2 ^ 14
    → record { af = (af_left a).word; sc = (23 + (2 ^ 13 - (af_left a).shifts)) % 2 ^ 13 } ≡ normalize_round (record { af = a; sc = 23 })
rounded w a l n e =
    let z : (af_left a).word % 4 ≡ 0 = zeros a (omega arith) in
    round_stop (record { af = a; sc = 23 }) _ (once a 23 (extended w a l e) (λ (q : a ≡ 0). n (omega arith))) (omega arith)

low_part : (h y x : ℕ) → y < 4096 → x ≡ h * 4096 + y → x % 4096 ≡ y
low_part h y x l e = omega arith

exponent : (c s : ℕ) → (c + s % 2 ^ 13) % 2 ^ 13 % 2 ^ 12 ≡ (c + s % 4096) % 4096
exponent c s = omega arith

less : (n c : ℕ) → n ≤ 48 → c ≡ (23 + (2 ^ 13 - n)) % 2 ^ 13 → (c + n) % 4096 ≡ 23
less n c l e = omega arith

taken : (n c s : ℕ) → n ≤ 48 → s < 4096 → (c + n) % 4096 ≡ 23 → (23 + s + 4096 - (c + s) % 4096) % 4096 ≡ n
taken n c s l k e = omega arith

back : (af n sb x : ℕ) → n ≤ 48 → x ≡ af / 2 ^ 2 % 2 ^ 12 * 2 ^ 12 + ((23 + (2 ^ 13 - n)) % 2 ^ 13 + sb % 2 ^ 13) % 2 ^ 13 % 2 ^ 12
    → (23 + sb % 4096 + 4096 - x % 4096) % 4096 ≡ n
back af n sb x l e =
    let c = (23 + (2 ^ 13 - n)) % 2 ^ 13 in
    let y : x % 4096 ≡ (c + sb % 4096) % 4096 = low_part (af / 2 ^ 2 % 2 ^ 12) ((c + sb % 2 ^ 13) % 2 ^ 13 % 2 ^ 12) x (mod-lt ((c + sb % 2 ^ 13) % 2 ^ 13) (omega arith)) e ∙ exponent c sb in
    ap (λ (z : ℕ). (23 + sb % 4096 + 4096 - z) % 4096) y ∙ taken n c (sb % 4096) l (mod-lt sb (omega arith)) (less n c l refl)

pub shifts_back : (w sb x : ℕ) → w < 2 ^ 24 → (w ≡ 0 → ⊥) → x ≡ (ci w sb).word → (23 + sb % 4096 + 4096 - x % 4096) % 4096 ≡ integer_shifts w
unfolding ci integer_shifts
shifts_back w sb x l n e =
    let a = signed 24 25 w * 2 ^ 14 in
    rw (ne_eqb _ _ n) (back (af_left a).word (af_left a).shifts sb x (left_most a) (rw (ne_eqb _ _ n, ← (rounded w a l n refl)) at e))
