-- A mark that is set: its own place and the others. Assumes nothing.
use Prim.Native.Nat.{ℕ, zero, suc, ◌+◌, ◌*◌, ◌/◌, ◌%◌, ◌^◌, ◌<◌}
use mathlib.Core.Path.{◌≡◌, refl, sym, ap, ◌∙◌}
use mathlib.Core.List.{List}
use native.Mathlib.Nat.{div-div-eq-div-mul, mul_comm, pow-suc, mod-eq_of_lt}
use native.Mathlib.Omega.{arith}
use native.Mathlib.Decide.{ℕ_discrete}
use lib.ListN.{length, length-set}
use lib.Pow.{pow-lt}
use lib.Seq.{get_or-set_same, get_or-set_other}
use Rattle.tape_overlap.specs.Again.{bit_at, mark_at, with_mark}

-- ---- one word

doubled : (k : ℕ) → 2 ^ suc k ≡ 2 * 2 ^ k
doubled k = pow-suc 2 k ∙ mul_comm (2 ^ k) 2

halved : (x k : ℕ) → bit_at x (suc k) ≡ bit_at (x / 2) k
unfolding bit_at
halved x k = rw (doubled k, ← div-div-eq-div-mul x 2 (2 ^ k))

half_sum : (x k : ℕ) → (x + 2 ^ suc k) / 2 ≡ x / 2 + 2 ^ k
half_sum x k = rw (doubled k) (omega arith)

pub bit_set : (k x : ℕ) → bit_at x k ≡ 0 → bit_at (x + 2 ^ k) k ≡ 1
unfolding bit_at
bit_set zero x e = omega (arith, e)
bit_set (suc k) x e =
    halved (x + 2 ^ suc k) k ∙ ap (λ (y : ℕ). bit_at y k) (half_sum x k) ∙ bit_set k (x / 2) (sym (halved x k) ∙ e)

pub bit_other : (k j x : ℕ) → (j ≡ k → ⊥) → bit_at x k ≡ 0 → bit_at (x + 2 ^ k) j ≡ bit_at x j
unfolding bit_at
bit_other zero zero x n e = absurd (n refl)
bit_other zero (suc j) x n e =
    let h : (x + 1) / 2 ≡ x / 2 = omega (arith, e) in
    halved (x + 1) j ∙ ap (λ (y : ℕ). bit_at y j) h ∙ sym (halved x j)
bit_other (suc k) zero x n e = rw (doubled k) (omega arith)
bit_other (suc k) (suc j) x n e =
    halved (x + 2 ^ suc k) j ∙ ap (λ (y : ℕ). bit_at y j) (half_sum x k) ∙ bit_other k j (x / 2) (λ q. n (ap suc q)) (sym (halved x k) ∙ e) ∙ sym (halved x j)

-- it has no carry
pub bit_room : (k n x : ℕ) → k < n → x < 2 ^ n → bit_at x k ≡ 0 → x + 2 ^ k < 2 ^ n
unfolding bit_at
bit_room k zero x h l e = let no : ⊥ = omega arith in absurd no
bit_room zero (suc n) x h l e = let d = doubled n in omega (arith, e)
bit_room (suc k) (suc n) x h l e =
    let d = doubled n in
    let c = doubled k in
    let r = bit_room k n (x / 2) (omega arith) (omega arith) (sym (halved x k) ∙ e) in
    omega arith

pub weight_shifted : (k : ℕ) → k < 32 → 1 * 2 ^ k % 2 ^ 32 ≡ 2 ^ k
weight_shifted k h =
    let l : 2 ^ k < 2 ^ 32 = pow-lt {i = k} {j = 32} h in
    let e : 1 * 2 ^ k ≡ 2 ^ k = omega arith in
    rw e (mod-eq_of_lt l)

-- ---- the row of words
module _ (m : List ℕ) (i : ℕ) (l : i / 32 < length m) (z : mark_at m i ≡ 0) where
  pub mark_set : mark_at (with_mark m i) i ≡ 1
  unfolding mark_at with_mark
  mark_set = ap (λ (x : ℕ). bit_at x (i % 32)) (get_or-set_same m (i / 32) _ 0 l) ∙ bit_set (i % 32) _ z

  pub mark_other : (j : ℕ) → (j ≡ i → ⊥) → mark_at (with_mark m i) j ≡ mark_at m j
  unfolding mark_at with_mark
  mark_other j n =
      elim (ℕ_discrete (j / 32) (i / 32)) [
        | yes e ↦
            rw e (ap (λ (x : ℕ). bit_at x (j % 32)) (get_or-set_same m (i / 32) _ 0 l) ∙ bit_other (i % 32) (j % 32) _ (λ q. n (omega (arith, e, q))) z)
        | no o ↦ ap (λ (x : ℕ). bit_at x (j % 32)) (get_or-set_other m (i / 32) (j / 32) _ 0 o)
      ]

pub length_with_mark : (m : List ℕ) (i : ℕ) → length (with_mark m i) ≡ length m
unfolding with_mark
length_with_mark m i = length-set m (i / 32) _
