-- Shifts to the right by n places at once. Assumes nothing.
use Rattle.std.proofs.Common.{◌≡◌, ℕ, zero, suc, ◌+◌, ◌/◌, ◌^◌, arith, sym, ap, ◌∙◌}
use Rattle.std.proofs.lemmas.Nat.{shr-shr}
use Rattle.registers.specs.Reg.{iter}
use Rattle.shift.specs.Shift.{shr}

pub places_right : (n x : ℕ) → x / 2 ^ n ≡ iter shr n x
unfolding iter
places_right zero x = omega arith
places_right (suc n) x = let e : suc n ≡ n + 1 = omega arith in rw e (sym (shr-shr x n 1)) ∙ ap shr (places_right n x)
