use Rattle.floating.specs.Divide.{fd_step, fd_stop, fd_loop}
use Rattle.registers.specs.Reg.{until}
use Rattle.std.proofs.Common.{◌≡◌, ◌-◌, ◌≤◌}
use Rattle.floating.proofs.division.divide_loop.Given as goal

abbrev pub invariant-loop-q : goal.invariant-loop-q
invariant-loop-q l = (l.q.passes ≤ 71) × (until fd_stop (fd_step l.x) (71 - l.q.passes) l.q ≡ fd_loop l.fn.x l.fn.af)

abbrev pub decreases-loop-q : goal.decreases-loop-q
decreases-loop-q l = 71 - l.q.passes
