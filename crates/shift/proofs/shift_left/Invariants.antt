use Rattle.registers.specs.Reg.{iter}
use Rattle.shift.specs.Shift.{left_step}
use Rattle.std.proofs.Common.{◌≡◌, ◌≤◌, ◌<◌}
use Rattle.shift.proofs.shift_left.Given as goal

abbrev pub invariant-loop : goal.invariant-loop
invariant-loop g l = (l.counter ≤ l.n) × (l.over < 2) × (record { word = l.x; over = l.over } ≡ iter (left_step g.row.N) l.counter (record { word = l.fn.w; over = 0 }))
