use Rattle.std.proofs.Common.{◌≡◌, ◌%◌, ◌^◌, arith, ne_eqb, ap, ◌∙◌}
use Rattle.rounding.specs.Round.{left_shifts}
use Rattle.normalize.specs.Norm.{normalize}
use Rattle.rounding.proofs.Left.{left_back}
use Rattle.rounding.proofs.left_shifts.Goals as goal

pub returns : goal.returns
unfolding left_shifts
returns c =
    let e : c.normalize-r.result ≡ normalize 38 (c.args.x.af % 2 ^ 38) = c.normalize-r.ensures.value ∙ ap (normalize 38) c.last.ensures in
    let b = left_back _ _ (record { small = omega (arith, c.bits.ensures.bound); equal = c.requires }) e in
    rw (ne_eqb _ _ (rw c.bits.ensures.value at c.if-bits-eq0.false)) (cc)
