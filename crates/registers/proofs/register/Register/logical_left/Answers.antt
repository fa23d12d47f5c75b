use Rattle.std.proofs.Math.Pow.{pow-lt}
use Rattle.registers.specs.Reg.{shl, iter}
use Rattle.registers.proofs.Places.{places_left}
use Rattle.std.proofs.Common.{◌≡◌, ◌*◌, ◌%◌, ◌^◌, ◌<◌, arith, ◌∙◌, ap}
use Rattle.registers.proofs.register.Register.logical_left.Goals as goal

pub returns : goal.returns
returns g c =
    let p : 2 ^ g.row.N < 2 ^ 64 = pow-lt {i = g.row.N} {j = 64} (omega arith) in
    let m : 1 * 2 ^ g.row.N % 2 ^ 64 ≡ 2 ^ g.row.N = omega arith in
    rw m (places_left g.row.N c.args.n c.self.inside.bits c.self.invariant.0 (omega arith) ∙ ap (iter (shl g.row.N) c.args.n) c.self.view_is)
