use Rattle.divide.specs.Wd.{wd_step}
use borrow.Author.Tests.{eq-eqb, ne_eqb}
use Rattle.std.proofs.Common.{rules}
use Rattle.divide.proofs.step.Goals as goal

pub returns-then-p-s : goal.returns-then-p-s
unfolding wd_step
returns-then-p-s c = (rw (eq-eqb _ _ c.if-p-s.true, ← c.sub_ar.ensures.0), search rules)

pub returns-else-p-s : goal.returns-else-p-s
unfolding wd_step
returns-else-p-s c = (rw (ne_eqb _ _ c.if-p-s.false, ← c.add_ar.ensures.0), search rules)
