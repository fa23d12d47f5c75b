use Rattle.normalize.proofs.Grow.{Apart}
use Rattle.normalize.specs.Norm.{normal_at, norm_step, normalize}
use Rattle.registers.specs.Reg.{until}
use Rattle.std.proofs.Common.{◌≡◌, ◌-◌}
use Rattle.normalize.proofs.normalize.Given as goal

abbrev pub invariant-loop-x : goal.invariant-loop-x
invariant-loop-x g l = Apart g.row.N l.i l.x × (until (normal_at g.row.N) (norm_step g.row.N) (48 - l.i) (record { word = l.x; shifts = l.i }) ≡ normalize g.row.N l.fn.w)

abbrev pub decreases-loop-x : goal.decreases-loop-x
decreases-loop-x g l = 48 - l.i
