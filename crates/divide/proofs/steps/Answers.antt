use Rattle.std.proofs.Common.{rules, arith, ◌≡◌}
use Rattle.registers.proofs.Loops.{iter_none, iter_next}
use Rattle.divide.specs.Wd.{wd_loop}
use Rattle.divide.proofs.steps.Goals as goal

pub loop-init : goal.loop-init
loop-init c = (search rules, search rules, iter_none _ _)

pub loop-preserved : goal.loop-preserved
loop-preserved c = (search rules, search rules, iter_next _ _ _ c.loop.invariant.2 c.step-q.ensures.0)

pub returns : goal.returns
unfolding wd_loop
returns c = let e : c.loop.counter ≡ 24 = omega arith in (cc, search rules)
