-- The mask of a row forbids what PR forbids in monitor mode, and in task mode what it does not; a violation by the mode.
-- Assumes nothing.
use Rattle.std.proofs.Common.{◌≡◌, ℕ, List, zero, suc, ◌-◌, ◌/◌, ◌%◌, ◌^◌, ◌<◌, Bool, true, false, not, cond, eqb, refl, arith}
use Rattle.machine.specs.declared.Control.{Control}
use Rattle.machine.specs.Store.{key, forbids, forbidden, violation}
use Rattle.machine.specs.Fields.{in_task}
use Rattle.control_row.specs.Row.{mode_mask, keeps_mode}

-- a bit of the complement
complement_bit : (p j : ℕ) → p < 256 → j < 8 → (255 - p) / 2 ^ j % 2 ≡ 1 - p / 2 ^ j % 2
complement_bit p zero l h = omega arith
complement_bit p (suc zero) l h = omega arith
complement_bit p (suc (suc zero)) l h = omega arith
complement_bit p (suc (suc (suc zero))) l h = omega arith
complement_bit p (suc (suc (suc (suc zero)))) l h = omega arith
complement_bit p (suc (suc (suc (suc (suc zero))))) l h = omega arith
complement_bit p (suc (suc (suc (suc (suc (suc zero)))))) l h = omega arith
complement_bit p (suc (suc (suc (suc (suc (suc (suc zero))))))) l h = omega arith
complement_bit p (suc (suc (suc (suc (suc (suc (suc (suc j)))))))) l h = omega arith

other_bit : (b : ℕ) → b < 2 → eqb (1 - b) 1 ≡ not (eqb b 1)
other_bit zero h = refl
other_bit (suc zero) h = refl
other_bit (suc (suc b)) h = absurd (omega (arith, h))

-- the complement forbids what PR does not
complement_forbids : (p q : ℕ) → p < 256 → forbids (255 - p) q ≡ not (forbids p q)
unfolding forbids
complement_forbids p q l = rw (complement_bit p (7 - q % 8) l (omega arith)) (other_bit (p / 2 ^ (7 - q % 8) % 2) (omega arith))

mask_keeps : (p q : ℕ) (b : Bool) → p < 256 → forbids (cond b p (255 - p)) q ≡ cond b (forbids p q) (not (forbids p q))
mask_keeps p q true l = refl
mask_keeps p q false l = complement_forbids p q l

pub keeps_mode_mask : (c : Control) (q : ℕ) → c.pr < 256 → forbids (mode_mask c.pr c.monitor) q ≡ keeps_mode c q
unfolding keeps_mode mode_mask
keeps_mode_mask c q l = mask_keeps c.pr q c.monitor l

by_mode : (b f : Bool) → cond b false f ≡ cond (not b) f false
by_mode true f = refl
by_mode false f = refl

-- a violation is a forbidden cell in task mode, and none in monitor mode
pub violation_by_mode : (s : List ℕ) (c : Control) (i : ℕ) → violation s c i ≡ cond (in_task c) (forbidden s c i) false
unfolding violation in_task forbidden
violation_by_mode s c i = by_mode c.monitor (forbids c.pr (key s i))
