-- Why the loop of Divide Floating ends within 71 passes. Let ξ be the magnitude of the divisor and v = 2 ^ i times that of the dividend, after i passes.
-- As long as every digit equals the quotient's sign, AF is 2 (v - ξ) (dividend positive) or 2 (ξ - v) (negative), with v at most ξ, so at most 2 ^ 37.
-- v starts at 4 at least, so a digit that differs from the sign is there after 36 passes and enters BF in pass 37 at the latest. 34 passes later it is BF(1). Assumes nothing.
use mathlib.Core.Path.{◌≡◌, refl, ap, ap₂, ◌∙◌, sym, subst}
use mathlib.Core.Bool.{true, false, not}
use mathlib.Core.Logic.{◌⊎◌, inl, inr, ⊎_elim, ◌≢◌}
use Prim.Native.Nat.{ℕ, ◌+◌, ◌-◌, ◌*◌, ◌/◌, ◌%◌, ◌^◌, ◌≤◌, ◌<◌, zero-le}
use native.Mathlib.Omega.{arith}
use native.Mathlib.Decide.{dec_le, dec_lt}
use lib.Pow.{pow_mono}
use lib.Dec.{eqb}
use borrow.Author.Tests.{eq-eqb, ne_eqb, eqb-true, not-false}
use Rattle.registers.proofs.Loops.{until_ends}
use Rattle.normalize.proofs.Grow.{exponent_le, double}
use Rattle.floating.specs.declared.division.Quotient.{Quotient}
use Rattle.floating.specs.Operands.{fraction, register_fraction, storage_fraction, signed_sf}
use Rattle.arithmetic_promises.specs.Claims.{DivideEnds}
use Rattle.floating.specs.Divide.{fd_start, fd_add, fd_step, fd_stop, fd_loop, next_digit}

-- ---- AF while every digit equals the sign, of a positive and of a negative dividend
record Pos (ξ v i a : ℕ) : Type 0 where
  pub below : v < ξ
  pub room : ξ ≤ 2 ^ 37
  pub grown : 4 * 2 ^ i ≤ v
  pub af : a + 2 * ξ ≡ 2 ^ 39 + 2 * v

record Neg (ξ v i a : ℕ) : Type 0 where
  pub below : v ≤ ξ
  pub room : ξ ≤ 2 ^ 37
  pub grown : 4 * 2 ^ i ≤ v
  pub af : a + 2 * v ≡ 2 * ξ

-- a pass: AF := AF + ξ leaves AF negative, or the next digit differs; AF is then shifted
pos_pass : (ξ v i a t : ℕ) → t ≡ (a + ξ) % 2 ^ 39 → Pos ξ v i a → ((t / 2 ^ 38 ≡ 1) × Pos ξ (2 * v) (i + 1) (t * 2 % 2 ^ 39)) ⊎ (t / 2 ^ 38 ≡ 0)
pos_pass ξ v i a t h p =
    elim (dec_lt (2 * v) ξ) [
      | yes l ↦ (let e : t + ξ ≡ 2 ^ 39 + 2 * v = omega arith in
          inl (omega arith, record { below = l; room = p.room; grown = omega (arith, double i, p.grown); af = omega (arith, l, p.room) }))
      | no n ↦ (let e : t + ξ ≡ 2 * v = omega arith in inr (omega (arith, p.room, p.below)))
    ]

neg_pass : (ξ v i a t : ℕ) → t ≡ (a + (2 ^ 39 - ξ)) % 2 ^ 39 → Neg ξ v i a → ((t / 2 ^ 38 ≡ 0) × Neg ξ (2 * v) (i + 1) (t * 2 % 2 ^ 39)) ⊎ (t / 2 ^ 38 ≡ 1)
neg_pass ξ v i a t h p =
    elim (dec_le (2 * v) ξ) [
      | yes l ↦ (let e : t + 2 * v ≡ ξ = omega arith in
          inl (omega arith, record { below = l; room = p.room; grown = omega (arith, double i, p.grown); af = omega (arith, l, p.room) }))
      | no n ↦ (let e : t + 2 * v ≡ 2 ^ 39 + ξ = omega arith in inr (omega (arith, p.room, p.below)))
    ]

-- the first digit
pos_first : (ξ a t u : ℕ) → t ≡ (a + (2 ^ 39 - ξ)) % 2 ^ 39 → u ≡ t * 2 % 2 ^ 39 → ξ ≤ 2 ^ 37 → 4 ≤ a → a < 2 ^ 37 → ((u / 2 ^ 38 ≡ 1) × Pos ξ a 0 u) ⊎ (u / 2 ^ 38 ≡ 0)
pos_first ξ a t u h g r l b =
    elim (dec_lt a ξ) [
      | yes m ↦ (let e : t + ξ ≡ 2 ^ 39 + a = omega arith in let f : u + 2 * ξ ≡ 2 ^ 39 + 2 * a = omega arith in
          inl (omega arith, record { below = m; room = r; grown = l; af = f }))
      | no n ↦ (let e : t + ξ ≡ a = omega arith in inr (omega arith))
    ]

neg_first : (ξ a t u : ℕ) → t ≡ (a + ξ) % 2 ^ 39 → u ≡ t * 2 % 2 ^ 39 → ξ ≤ 2 ^ 37 → a + 4 ≤ 2 ^ 39 → 3 * 2 ^ 37 ≤ a → ((u / 2 ^ 38 ≡ 0) × Neg ξ (2 ^ 39 - a) 0 u) ⊎ (u / 2 ^ 38 ≡ 1)
neg_first ξ a t u h g r l b =
    elim (dec_le (2 ^ 39 - a) ξ) [
      | yes m ↦ (let e : t + (2 ^ 39 - a) ≡ ξ = omega arith in let f : u + 2 * (2 ^ 39 - a) ≡ 2 * ξ = omega arith in
          inl (omega arith, record { below = m; room = r; grown = omega arith; af = f }))
      | no n ↦ (let e : t + (2 ^ 39 - a) ≡ 2 ^ 39 + ξ = omega arith in inr (omega arith))
    ]

-- ---- where the loop stands after i passes
data Phase (x i : ℕ) (s : Quotient) : Type 0 where
  pos_pos : (v : ℕ) → x < 2 ^ 38 → Pos x v i s.af → s.digit ≡ 0 → s.bf ≡ 0 → Phase x i s
  pos_neg : (v : ℕ) → 2 ^ 38 ≤ x → Pos (2 ^ 39 - x) v i s.af → s.digit ≡ 1 → s.bf ≡ 2 ^ 36 - 1 → Phase x i s
  neg_neg : (v : ℕ) → 2 ^ 38 ≤ x → Neg (2 ^ 39 - x) v i s.af → s.digit ≡ 0 → s.bf ≡ 0 → Phase x i s
  neg_pos : (v : ℕ) → x < 2 ^ 38 → Neg x v i s.af → s.digit ≡ 1 → s.bf ≡ 2 ^ 36 - 1 → Phase x i s
  enter_0 : i ≤ 36 → s.digit ≡ 1 → s.bf ≡ 0 → Phase x i s
  enter_1 : i ≤ 36 → s.digit ≡ 0 → s.bf ≡ 2 ^ 36 - 1 → Phase x i s
  shift_0 : 2 ^ i ≤ 2 ^ 37 * s.bf → s.bf < 2 ^ 35 → s.digit < 2 → Phase x i s
  shift_1 : (c : ℕ) → s.bf + c + 1 ≡ 2 ^ 36 → 2 ^ i ≤ 2 ^ 37 * c → c < 2 ^ 35 → s.digit < 2 → Phase x i s

add_0 : (x d a : ℕ) → d ≡ 0 → fd_add x d a ≡ (a + x) % 2 ^ 39
unfolding fd_add
add_0 x d a e = rw e refl

add_1 : (x d a : ℕ) → d ≡ 1 → fd_add x d a ≡ (a + (2 ^ 39 - x)) % 2 ^ 39
unfolding fd_add
add_1 x d a e = rw e refl

-- at most 36 digits equal the sign
short : (v i : ℕ) → 4 * 2 ^ i ≤ v → v ≤ 2 ^ 37 → i ≤ 35
short v i g h = exponent_le i 35 (omega arith)

module _ (x : ℕ) (b : x < 2 ^ 39) (i : ℕ) (s : Quotient) where
  from_pos_pos : (v : ℕ) → x < 2 ^ 38 → Pos x v i s.af → s.digit ≡ 0 → s.bf ≡ 0 → Phase x (i + 1) (fd_step x s)
  from_pos_pos v l p d z =
      let k : i ≤ 35 = short v i p.grown (omega (arith, p.below, p.room)) in
      ⊎_elim
      (λ q. let g : fd_add x s.digit s.af / 2 ^ 38 ≡ 1 = q.0 in pos_pos (2 * v) l q.1 (omega arith) (omega arith))
      (λ q. enter_0 (omega arith) (omega arith) (omega arith))
      (pos_pass x v i s.af (fd_add x s.digit s.af) (add_0 x s.digit s.af d) p)

  from_pos_neg : (v : ℕ) → 2 ^ 38 ≤ x → Pos (2 ^ 39 - x) v i s.af → s.digit ≡ 1 → s.bf ≡ 2 ^ 36 - 1 → Phase x (i + 1) (fd_step x s)
  from_pos_neg v l p d z =
      let k : i ≤ 35 = short v i p.grown (omega (arith, p.below, p.room)) in
      ⊎_elim
      (λ q. let g : fd_add x s.digit s.af / 2 ^ 38 ≡ 1 = q.0 in pos_neg (2 * v) l q.1 (omega arith) (omega arith))
      (λ q. enter_1 (omega arith) (omega arith) (omega arith))
      (pos_pass (2 ^ 39 - x) v i s.af (fd_add x s.digit s.af) (add_1 x s.digit s.af d) p)

  from_neg_neg : (v : ℕ) → 2 ^ 38 ≤ x → Neg (2 ^ 39 - x) v i s.af → s.digit ≡ 0 → s.bf ≡ 0 → Phase x (i + 1) (fd_step x s)
  from_neg_neg v l p d z =
      let k : i ≤ 35 = short v i p.grown (omega (arith, p.below, p.room)) in
      let e : 2 ^ 39 - (2 ^ 39 - x) ≡ x = omega arith in
      ⊎_elim
      (λ q. let g : fd_add x s.digit s.af / 2 ^ 38 ≡ 0 = q.0 in neg_neg (2 * v) l q.1 (omega arith) (omega arith))
      (λ q. enter_0 (omega arith) (omega arith) (omega arith))
      (neg_pass (2 ^ 39 - x) v i s.af (fd_add x s.digit s.af) (add_0 x s.digit s.af d ∙ ap (λ (n : ℕ). (s.af + n) % 2 ^ 39) (sym e)) p)

  from_neg_pos : (v : ℕ) → x < 2 ^ 38 → Neg x v i s.af → s.digit ≡ 1 → s.bf ≡ 2 ^ 36 - 1 → Phase x (i + 1) (fd_step x s)
  from_neg_pos v l p d z =
      let k : i ≤ 35 = short v i p.grown (omega (arith, p.below, p.room)) in
      ⊎_elim
      (λ q. let g : fd_add x s.digit s.af / 2 ^ 38 ≡ 0 = q.0 in neg_pos (2 * v) l q.1 (omega arith) (omega arith))
      (λ q. enter_1 (omega arith) (omega arith) (omega arith))
      (neg_pass x v i s.af (fd_add x s.digit s.af) (add_1 x s.digit s.af d) p)

  -- the digit that differs from the sign enters BF
  from_enter_0 : i ≤ 36 → s.digit ≡ 1 → s.bf ≡ 0 → Phase x (i + 1) (fd_step x s)
  from_enter_0 k d z =
      let e : s.bf * 2 % 2 ^ 36 + s.digit ≡ 1 = omega arith in
      let m : 2 ^ (i + 1) ≤ 2 ^ 37 = pow_mono {i = i + 1} {j = 37} (omega arith) in
      shift_0 (omega arith) (omega arith) (omega arith)

  from_enter_1 : i ≤ 36 → s.digit ≡ 0 → s.bf ≡ 2 ^ 36 - 1 → Phase x (i + 1) (fd_step x s)
  from_enter_1 k d z =
      let m : 2 ^ (i + 1) ≤ 2 ^ 37 = pow_mono {i = i + 1} {j = 37} (omega arith) in
      shift_1 1 (omega arith) (omega arith) (omega arith) (omega arith)

  -- and goes left
  from_shift_0 : 2 ^ i ≤ 2 ^ 37 * s.bf → s.bf < 2 ^ 35 → s.digit < 2 → s.bf / 2 ^ 35 ≡ s.bf / 2 ^ 34 % 2 → Phase x (i + 1) (fd_step x s)
  from_shift_0 g l d h =
      let z : s.bf / 2 ^ 35 ≡ 0 = omega arith in
      let q : s.bf / 2 ^ 34 ≤ 1 = omega arith in
      let w : s.bf < 2 ^ 34 = omega arith in
      let e : s.bf * 2 % 2 ^ 36 + s.digit ≡ 2 * s.bf + s.digit = omega arith in
      shift_0 (omega (arith, double i)) (omega arith) (omega arith)

  from_shift_1 : (c : ℕ) → s.bf + c + 1 ≡ 2 ^ 36 → 2 ^ i ≤ 2 ^ 37 * c → c < 2 ^ 35 → s.digit < 2 → s.bf / 2 ^ 35 ≡ s.bf / 2 ^ 34 % 2 → Phase x (i + 1) (fd_step x s)
  from_shift_1 c f g l d h =
      let z : s.bf / 2 ^ 35 ≡ 1 = omega arith in
      let q : 2 ≤ s.bf / 2 ^ 34 = omega arith in
      let w : 3 * 2 ^ 34 ≤ s.bf = omega arith in
      let e : s.bf * 2 % 2 ^ 36 + 2 ^ 36 ≡ 2 * s.bf = omega arith in
      shift_1 (2 * c + (1 - s.digit)) (omega arith) (omega (arith, double i)) (omega arith) (omega arith)

step_phase : (x : ℕ) → x < 2 ^ 39 → (i : ℕ) (s : Quotient) → Phase x i s → fd_stop s ≡ false → Phase x (i + 1) (fd_step x s)
step_phase x b i s (pos_pos v l p d z) h = from_pos_pos x b i s v l p d z
step_phase x b i s (pos_neg v l p d z) h = from_pos_neg x b i s v l p d z
step_phase x b i s (neg_neg v l p d z) h = from_neg_neg x b i s v l p d z
step_phase x b i s (neg_pos v l p d z) h = from_neg_pos x b i s v l p d z
step_phase x b i s (enter_0 k d z) h = from_enter_0 x b i s k d z
step_phase x b i s (enter_1 k d z) h = from_enter_1 x b i s k d z
step_phase x b i s (shift_0 g l d) h = from_shift_0 x b i s g l d (eqb-true _ _ (not-false _ h))
step_phase x b i s (shift_1 c f g l d) h = from_shift_1 x b i s c f g l d (eqb-true _ _ (not-false _ h))

-- after 71 passes BF(0) <> BF(1)
stopped : (n : ℕ) → ((2 ^ 34 ≤ n) × (n < 2 ^ 35)) ⊎ ((2 ^ 35 ≤ n) × (n < 3 * 2 ^ 34)) → not (eqb (n / 2 ^ 35) (n / 2 ^ 34 % 2)) ≡ true
stopped n h =
    ap not (ne_eqb _ _
    (⊎_elim
    (λ q e. let o : n / 2 ^ 34 ≡ 1 = omega arith in let z : n / 2 ^ 35 ≡ 0 = omega arith in let f : n / 2 ^ 35 ≡ n / 2 ^ 34 % 2 = e in omega arith)
    (λ q e. let o : n / 2 ^ 34 ≡ 2 = omega arith in let z : n / 2 ^ 35 ≡ 1 = omega arith in let f : n / 2 ^ 35 ≡ n / 2 ^ 34 % 2 = e in omega arith)
    h))

last_phase : (x : ℕ) (s : Quotient) → Phase x 71 s → fd_stop s ≡ true
last_phase x s (pos_pos v l p d z) = absurd (let k = short v 71 p.grown (omega (arith, p.below, p.room)) in omega arith)
last_phase x s (pos_neg v l p d z) = absurd (let k = short v 71 p.grown (omega (arith, p.below, p.room)) in omega arith)
last_phase x s (neg_neg v l p d z) = absurd (let k = short v 71 p.grown (omega (arith, p.below, p.room)) in omega arith)
last_phase x s (neg_pos v l p d z) = absurd (let k = short v 71 p.grown (omega (arith, p.below, p.room)) in omega arith)
last_phase x s (enter_0 k d z) = absurd (omega arith)
last_phase x s (enter_1 k d z) = absurd (omega arith)
last_phase x s (shift_0 g l d) = stopped s.bf (inl (omega arith))
last_phase x s (shift_1 c f g l d) = stopped s.bf (inr (omega arith))

-- ---- the start
-- a register with AF(-1) = AF(0)
abbrev Low : ℕ → Type 0
Low a = a < 2 ^ 37

abbrev High : ℕ → Type 0
High a = (3 * 2 ^ 37 ≤ a) × (a < 2 ^ 39)

start_same : (x a : ℕ) → a / 2 ^ 38 ≡ x / 2 ^ 38 → (u : ℕ) → u ≡ (a + (2 ^ 39 - x)) % 2 ^ 39 * 2 % 2 ^ 39 → fd_start x a ≡ record { af = u; bf = 0; digit = next_digit x u; passes = 0 }
unfolding fd_start
start_same x a e u h = rw (eq-eqb _ _ e, h) refl

start_other : (x a : ℕ) → (a / 2 ^ 38 ≡ x / 2 ^ 38 → ⊥) → (u : ℕ) → u ≡ (a + x) % 2 ^ 39 * 2 % 2 ^ 39 → fd_start x a ≡ record { af = u; bf = 2 ^ 36 - 1; digit = next_digit x u; passes = 0 }
unfolding fd_start
start_other x a e u h = rw (ne_eqb _ _ e, h) refl

module _ (x a : ℕ) where
  first_pos_pos : Low x → 4 ≤ a → Low a → Phase x 0 (fd_start x a)
  first_pos_pos l f b =
      let y : x / 2 ^ 38 ≡ 0 = omega arith in
      let k : x < 2 ^ 38 = omega arith in
      let u : ℕ = (a + (2 ^ 39 - x)) % 2 ^ 39 * 2 % 2 ^ 39 in
      subst (Phase x 0) (sym (start_same x a (omega arith) u refl))
      (⊎_elim
      (λ q. let g : u / 2 ^ 38 ≡ 1 = q.0 in pos_pos a k q.1 (ap₂ (λ (m n : ℕ). (m + n + 1) % 2) g y) refl)
      (λ q. let g : u / 2 ^ 38 ≡ 0 = q in enter_0 zero-le (ap₂ (λ (m n : ℕ). (m + n + 1) % 2) g y) refl)
      (pos_first x a ((a + (2 ^ 39 - x)) % 2 ^ 39) u refl refl (omega arith) f b))

  first_pos_neg : High x → 4 ≤ a → Low a → Phase x 0 (fd_start x a)
  first_pos_neg l f b =
      let y : x / 2 ^ 38 ≡ 1 = omega arith in
      let k : 2 ^ 38 ≤ x = omega arith in
      let u : ℕ = (a + x) % 2 ^ 39 * 2 % 2 ^ 39 in
      let e : 2 ^ 39 - (2 ^ 39 - x) ≡ x = omega arith in
      subst (Phase x 0) (sym (start_other x a (omega arith) u refl))
      (⊎_elim
      (λ q. let g : u / 2 ^ 38 ≡ 1 = q.0 in pos_neg a k q.1 (ap₂ (λ (m n : ℕ). (m + n + 1) % 2) g y) refl)
      (λ q. let g : u / 2 ^ 38 ≡ 0 = q in enter_1 zero-le (ap₂ (λ (m n : ℕ). (m + n + 1) % 2) g y) refl)
      (pos_first (2 ^ 39 - x) a ((a + x) % 2 ^ 39) u (ap (λ (n : ℕ). (a + n) % 2 ^ 39) (sym e)) refl (omega arith) f b))

  first_neg_neg : High x → a + 4 ≤ 2 ^ 39 → High a → Phase x 0 (fd_start x a)
  first_neg_neg l f b =
      let y : x / 2 ^ 38 ≡ 1 = omega arith in
      let k : 2 ^ 38 ≤ x = omega arith in
      let u : ℕ = (a + (2 ^ 39 - x)) % 2 ^ 39 * 2 % 2 ^ 39 in
      subst (Phase x 0) (sym (start_same x a (omega arith) u refl))
      (⊎_elim
      (λ q. let g : u / 2 ^ 38 ≡ 0 = q.0 in neg_neg (2 ^ 39 - a) k q.1 (ap₂ (λ (m n : ℕ). (m + n + 1) % 2) g y) refl)
      (λ q. let g : u / 2 ^ 38 ≡ 1 = q in enter_0 zero-le (ap₂ (λ (m n : ℕ). (m + n + 1) % 2) g y) refl)
      (neg_first (2 ^ 39 - x) a ((a + (2 ^ 39 - x)) % 2 ^ 39) u refl refl (omega arith) f b.0))

  first_neg_pos : Low x → a + 4 ≤ 2 ^ 39 → High a → Phase x 0 (fd_start x a)
  first_neg_pos l f b =
      let y : x / 2 ^ 38 ≡ 0 = omega arith in
      let k : x < 2 ^ 38 = omega arith in
      let u : ℕ = (a + x) % 2 ^ 39 * 2 % 2 ^ 39 in
      subst (Phase x 0) (sym (start_other x a (omega arith) u refl))
      (⊎_elim
      (λ q. let g : u / 2 ^ 38 ≡ 0 = q.0 in neg_pos (2 ^ 39 - a) k q.1 (ap₂ (λ (m n : ℕ). (m + n + 1) % 2) g y) refl)
      (λ q. let g : u / 2 ^ 38 ≡ 1 = q in enter_1 zero-le (ap₂ (λ (m n : ℕ). (m + n + 1) % 2) g y) refl)
      (neg_first x a ((a + x) % 2 ^ 39) u refl refl (omega arith) f b.0))

-- for every divisor and every dividend but 0
ends : (x a : ℕ) → Low x ⊎ High x → Low a ⊎ High a → a % 4 ≡ 0 → (a ≡ 0 → ⊥) → fd_stop (fd_loop x a) ≡ true
unfolding fd_loop
ends x a hx ha m n =
    let z : a ≢ 0 = n in
    until_ends fd_stop (fd_step x) (Phase x) 71 (last_phase x) (step_phase x (⊎_elim (λ l. omega arith) (λ l. omega arith) hx)) 71 0 (fd_start x a) refl
    (⊎_elim
    (λ la. ⊎_elim (λ lx. first_pos_pos x a lx (omega arith) la) (λ lx. first_pos_neg x a lx (omega arith) la) hx)
    (λ la. ⊎_elim (λ lx. first_neg_pos x a lx (omega arith) la) (λ lx. first_neg_neg x a lx (omega arith) la) hx)
    ha)

-- a fraction of 36 bits in AF, and in SF
register_range : (f : ℕ) → f < 2 ^ 36 → Low (register_fraction f) ⊎ High (register_fraction f)
register_range f b =
    elim (dec_lt f (2 ^ 35)) [
      | yes l ↦ inl (let z : f / 2 ^ 35 ≡ 0 = omega arith in omega arith)
      | no n ↦ inr (let z : f / 2 ^ 35 ≡ 1 = omega arith in (omega arith, omega arith))
    ]

storage_range : (f : ℕ) → f < 2 ^ 36 → Low (signed_sf (storage_fraction f)) ⊎ High (signed_sf (storage_fraction f))
storage_range f b =
    elim (dec_lt f (2 ^ 35)) [
      | yes l ↦ inl (let z : f * 2 ^ 2 / 2 ^ 37 ≡ 0 = omega arith in omega arith)
      | no n ↦ inr (let z : f * 2 ^ 2 / 2 ^ 37 ≡ 1 = omega arith in (omega arith, omega arith))
    ]

fraction_ends : (f g : ℕ) → f < 2 ^ 36 → g < 2 ^ 36 → (f ≡ 0 → ⊥) → fd_stop (fd_loop (signed_sf (storage_fraction g)) (register_fraction f)) ≡ true
fraction_ends f g bf bg n =
    let z : f ≢ 0 = n in
    ends (signed_sf (storage_fraction g)) (register_fraction f) (storage_range g bg) (register_range f bf) (omega arith) (λ e. n (omega arith))

pub divide_ends : DivideEnds
divide_ends pre word first second hp hw hf hs n = fraction_ends (fraction pre word) (fraction first second) (omega arith) (omega arith) n
