use Rattle.floating.specs.Multiply.{fm_step}
use Rattle.registers.specs.Reg.{iter}
use Rattle.std.proofs.Common.{◌≡◌, ◌≤◌}
use Rattle.floating.proofs.multiplication.multiply_loop.Given as goal

abbrev pub invariant-loop : goal.invariant-loop
invariant-loop l = (l.counter ≤ 35) × (l.p ≡ iter (fm_step l.x) l.counter l.initial.p)
