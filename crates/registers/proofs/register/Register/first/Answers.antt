use Rattle.std.proofs.Math.Pow.{shr_lt}
use Rattle.std.proofs.Common.{◌≡◌, ◌+◌, ◌-◌, arith}
use Rattle.registers.proofs.register.Register.first.Goals as goal

pub invariant_of-result : goal.invariant_of-result
invariant_of-result g c =
    let n : g.row.M + (g.row.N - g.row.M) ≡ g.row.N = omega arith in
    (shr_lt g.row.M (g.row.N - g.row.M) (rw n c.self.invariant.0), omega arith, omega arith)
