use Rattle.floating.specs.Divide.{fd_step}
use Rattle.registers.specs.Reg.{iter}
use Rattle.std.proofs.Common.{◌≡◌, ◌≤◌}
use Rattle.floating.proofs.division.first_passes.Given as goal

abbrev pub invariant-loop : goal.invariant-loop
invariant-loop l = (l.counter ≤ 35) × (l.q.passes ≡ l.counter) × (l.q ≡ iter (fd_step l.x) l.counter l.initial.q)
