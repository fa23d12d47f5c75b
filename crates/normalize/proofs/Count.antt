-- The count of shifts, by SC(12:23). Assumes nothing.
use mathlib.Core.Path.{◌≡◌, refl}
use Prim.Native.Nat.{ℕ, ◌-◌, ◌%◌, ◌^◌, ◌≤◌}
use native.Mathlib.Omega.{arith}
use mathlib.Core.Bool.{Bool, true, false, cond}
use lib.Dec.{eqb}
use borrow.Author.Tests.{ne_eqb}
use Rattle.registers.proofs.Loops.{until_most}
use Rattle.normalize.specs.declared.Normal.{Normal}
use Rattle.normalize.specs.Norm.{normal_at, norm_step, normalize, normalized, normalizing_shifts, shifts_by}

pub normalize_most : (n w : ℕ) → (normalize n w).shifts ≤ 48
unfolding normalize
normalize_most n w = until_most (normal_at n) (norm_step n) (λ (x : Normal). x.shifts) (λ x. refl) 48 (record { word = w; shifts = 0 })

pub shifts_most : (n w : ℕ) → normalizing_shifts n w ≤ 48
unfolding normalizing_shifts
shifts_most n w = by (eqb w 0)
  where
    by : (b : Bool) → cond b 0 (normalize n w).shifts ≤ 48
    by true = omega arith
    by false = normalize_most n w

counted_back : (k : ℕ) → k ≤ 48 → shifts_by ((2 ^ 12 - k) % 2 ^ 12) ≡ k
unfolding shifts_by
counted_back k l =
    let e : (2 ^ 12 - k) % 2 ^ 12 ≡ 2048 → ⊥ = (λ (z : (2 ^ 12 - k) % 2 ^ 12 ≡ 2048). omega arith) in
    rw (ne_eqb _ _ e) (omega arith)

-- SC(12:23) tells the shifts that were made
pub counted : (n w : ℕ) → shifts_by (normalized n w).shifts ≡ normalizing_shifts n w
unfolding normalized normalizing_shifts shifts_by
counted n w = by (eqb w 0)
  where
    by : (b : Bool) → shifts_by (cond {A = Normal} b (record { word = 0; shifts = 2048 }) (record { word = (normalize n w).word; shifts = (2 ^ 12 - (normalize n w).shifts) % 2 ^ 12 })).shifts ≡ cond b 0 (normalize n w).shifts
    by true = refl
    by false = counted_back (normalize n w).shifts (normalize_most n w)
