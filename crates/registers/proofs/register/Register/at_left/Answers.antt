use Rattle.std.proofs.Math.Pow.{shl_exact, shl_lt}
use Rattle.std.proofs.Common.{◌≡◌, ◌+◌, ◌-◌, ◌*◌, ◌^◌, ◌<◌, ℕ, arith, subst}
use Rattle.registers.proofs.register.Register.at_left.Goals as goal

pub invariant_of-result : goal.invariant_of-result
invariant_of-result g c =
    let n : g.row.N + (g.row.M - g.row.N) ≡ g.row.M = omega arith in
    rw (shl_exact g.row.N (g.row.M - g.row.N) 64 c.self.invariant.0 (omega arith)) (subst (λ (k : ℕ). c.self.inside.bits * 2 ^ (g.row.M - g.row.N) < 2 ^ k) n (shl_lt g.row.N (g.row.M - g.row.N) c.self.invariant.0), omega arith, omega arith)

pub returns : goal.returns
returns g c = rw (shl_exact g.row.N (g.row.M - g.row.N) 64 c.self.invariant.0 (omega arith)) (cc)
