use Rattle.std.proofs.Common.{◌≡◌, ◌≤◌}
use Rattle.registers.specs.Reg.{asr, iter}
use Rattle.registers.proofs.register.Register.shifted_right_by.Given as goal

abbrev pub invariant-loop : goal.invariant-loop
invariant-loop g l = (l.counter ≤ l.n) × (l.x ≡ iter (asr g.row.N) l.counter l.fn.self)
