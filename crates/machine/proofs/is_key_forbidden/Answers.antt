use Prim.Native.Nat.{ℕ, zero, suc, ◌-◌, ◌*◌, ◌/◌, ◌%◌, ◌^◌, ◌<◌}
use mathlib.Core.Path.{◌≡◌, ap}
use lib.Dec.{eqb}
use native.Mathlib.Omega.{arith}
use Rattle.machine.specs.Store.{forbids}
use Rattle.machine.proofs.is_key_forbidden.Goals as goal

-- bit k from the left of the last eight: shifted left by k it has the weight 128
bit-from-left : (p k : ℕ) → k < 8 → p * 2 ^ k % 2 ^ 32 / 128 % 2 ≡ p / 2 ^ (7 - k) % 2
bit-from-left p zero h = omega arith
bit-from-left p (suc zero) h = omega arith
bit-from-left p (suc (suc zero)) h = omega arith
bit-from-left p (suc (suc (suc zero))) h = omega arith
bit-from-left p (suc (suc (suc (suc zero)))) h = omega arith
bit-from-left p (suc (suc (suc (suc (suc zero))))) h = omega arith
bit-from-left p (suc (suc (suc (suc (suc (suc zero)))))) h = omega arith
bit-from-left p (suc (suc (suc (suc (suc (suc (suc zero))))))) h = omega arith
bit-from-left p (suc (suc (suc (suc (suc (suc (suc (suc k)))))))) h = omega arith

pub returns : goal.returns
unfolding forbids
returns c = ap (λ x. eqb x 1) (bit-from-left c.args.pr (c.args.k % 8) (omega arith))
