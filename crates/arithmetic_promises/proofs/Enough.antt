-- The bound of `normalize` suffices: the two left-most bits of what it gives differ. Assumes nothing.
use mathlib.Core.Path.{◌≡◌, refl}
use mathlib.Core.Bool.{true, false}
use Prim.Native.Nat.{ℕ, ◌+◌, ◌^◌, ◌≤◌, ◌<◌}
use native.Mathlib.Omega.{arith}
use borrow.Author.Tests.{eqb-true, not-false}
use Rattle.registers.proofs.Loops.{until_ends}
use Rattle.normalize.specs.declared.Normal.{Normal}
use Rattle.normalize.specs.Norm.{normal_at, norm_step, normalize}
use Rattle.arithmetic_promises.specs.Claims.{NormalizingEnds}
use Rattle.normalize.proofs.Grow.{Apart, grow, apart_lt}

-- after i shifts
Shifted : ℕ → ℕ → Normal → Type 0
Shifted n i x = Apart n i x.word

shift : (n i : ℕ) (x : Normal) → 2 ≤ n → Shifted n i x → normal_at n x ≡ false → Shifted n (i + 1) (norm_step n x)
unfolding Shifted
shift n i x g a h = (grow n i x.word g a (eqb-true _ _ (not-false _ h))).1

pub normalizing_ends : NormalizingEnds
unfolding normalize Shifted
normalizing_ends n w g b l h =
    until_ends (normal_at n) (norm_step n) (Shifted n) 48 (λ x a. absurd (let k = apart_lt n 48 x.word a in omega arith)) (λ i x. shift n i x g)
    48 0 (record { word = w; shifts = 0 }) refl (record { low = l; high = omega arith })

-- at 38 bits
pub normalized : (w : ℕ) → 0 < w → w < 2 ^ 38 → normal_at 38 (normalize 38 w) ≡ true
normalized w l h = normalizing_ends 38 w (omega arith) (omega arith) l h
