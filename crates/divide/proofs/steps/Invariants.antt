use Rattle.std.proofs.Common.{◌≡◌, ◌^◌, ◌<◌, ◌≤◌}
use Rattle.registers.specs.Reg.{iter}
use Rattle.divide.specs.Wd.{wd_step}
use Rattle.divide.proofs.steps.Given as goal

abbrev pub invariant-loop : goal.invariant-loop
invariant-loop l = (l.counter ≤ 24) × (l.q < 2 ^ 49) × (l.q ≡ iter (wd_step l.s) l.counter l.fn.p)
