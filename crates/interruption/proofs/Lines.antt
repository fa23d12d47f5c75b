-- The search for a line: one step of it, that it finds none where IR and IM have no bit in common, and the line by fields that were read.
-- Assumes nothing.
use Prim.Native.Nat.{ℕ, zero, suc, ◌+◌, ◌-◌, ◌*◌, ◌/◌, ◌%◌, ◌^◌, ◌<◌, min}
use native.Mathlib.Nat.{zero-div}
use native.Mathlib.Omega.{arith}
use native.Mathlib.Decide.{ℕ_discrete}
use mathlib.Core.Path.{◌≡◌, refl, sym, ap, ◌∙◌}
use mathlib.Core.Bool.{Bool, true, false, cond}
use lib.Bits.{bit_and, and_step, and_shr}
use lib.Dec.{eqb}
use borrow.Author.Tests.{eq-eqb, ne_eqb}
use Rattle.machine.specs.declared.Control.{Control}
use Rattle.definition_runs.specs.Cycle.{bit_from_left, requested, first_request, looks_at_lines, line_of}

fuel : (n i : ℕ) → i < n → n - i ≡ suc (n - (i + 1))
fuel n i h = omega arith

pub request_step : (ir im p : ℕ) → p < 24 → first_request (24 - p) p ir im ≡ cond (requested ir im p) p (first_request (24 - (p + 1)) (p + 1) ir im)
unfolding first_request
request_step ir im p h = rw (fuel 24 p h)

pub no_step : (n p ir im : ℕ) → n ≡ 0 → first_request n p ir im ≡ p
unfolding first_request
no_step n p ir im z = rw z

-- two registers whose last bits are one have a bit in common
common_bit : (a b : ℕ) → bit_and a b ≡ 0 → a % 2 ≡ 1 → b % 2 ≡ 1 → ⊥
common_bit a b z p q =
    let s : bit_and a b ≡ bit_and (a / 2) (b / 2) * 2 + min 1 1 = and_step a b ∙ ap (λ (x : ℕ). bit_and (a / 2) (b / 2) * 2 + x) (rw (p, q)) in
    omega arith

both_one : (a b : ℕ) → (a ≡ 1 → b ≡ 1 → ⊥) → cond (eqb a 1) (eqb b 1) false ≡ false
both_one a b h = at (ℕ_discrete a 1)
  where
    at : Dec (a ≡ 1) → cond (eqb a 1) (eqb b 1) false ≡ false
    at (yes e) = rw (eq-eqb a 1 e) (ne_eqb b 1 (h e))
    at (no n) = rw (ne_eqb a 1 n)

not_requested : (a b p : ℕ) → bit_and a b ≡ 0 → requested a b p ≡ false
unfolding requested bit_from_left
not_requested a b p z =
    let w : bit_and (a / 2 ^ (23 - p)) (b / 2 ^ (23 - p)) ≡ 0 = sym (and_shr a b (23 - p)) ∙ rw z (zero-div (2 ^ (23 - p))) in
    both_one (a / 2 ^ (23 - p) % 2) (b / 2 ^ (23 - p) % 2) (common_bit (a / 2 ^ (23 - p)) (b / 2 ^ (23 - p)) w)

none_from : (n p a b : ℕ) → bit_and a b ≡ 0 → first_request n p a b ≡ p + n
unfolding first_request
none_from zero p a b z = omega arith
none_from (suc n) p a b z = rw (not_requested a b p z) (none_from n (p + 1) a b z ∙ omega arith)

no_request : (a b : ℕ) → bit_and a b ≡ 0 → first_request 24 0 a b ≡ 24
no_request a b z = none_from 24 0 a b z ∙ omega arith

either_way : (b : Bool) (x y : ℕ) → y ≡ x → x ≡ cond b y x
either_way true x y e = sym e
either_way false x y e = refl

-- ---- the line to be taken, by fields that were read

pub line_none : (c : Control) (ir im : ℕ) → ir ≡ c.ir → im ≡ c.im → bit_and ir im ≡ 0 → 24 ≡ line_of c
unfolding line_of
line_none c ir im e f z = either_way (looks_at_lines c) 24 _ (no_request c.ir c.im (rw (e, f) at z))

-- interrupts enabled, and no line pending: the first line that is requested
pub line_first : (c : Control) (ir im r : ℕ) → ir ≡ c.ir → im ≡ c.im → c.enabled ≡ true → c.pending ≡ 0 → r ≡ first_request 24 0 ir im → r ≡ line_of c
unfolding line_of looks_at_lines
line_first c ir im r e f a p h = rw (a, eq-eqb c.pending 0 p, ← e, ← f) h

-- a pending interrupt: none
pub line_pending : (c : Control) → c.enabled ≡ true → (c.pending ≡ 0 → ⊥) → 24 ≡ line_of c
unfolding line_of looks_at_lines
line_pending c a p = rw (a, ne_eqb c.pending 0 p)

-- interrupts disabled: none
pub line_disabled : (c : Control) → c.enabled ≡ false → 24 ≡ line_of c
unfolding line_of looks_at_lines
line_disabled c a = rw a
