use Rattle.normalize.specs.Norm.{shifts_by}
use borrow.Author.Tests.{eq-eqb, ne_eqb}
use Rattle.normalize.proofs.shifts_made.Goals as goal

pub returns-then-b-eq2048-clause-value : goal.returns-then-b-eq2048-clause-value
unfolding shifts_by
returns-then-b-eq2048-clause-value c = rw (eq-eqb _ _ c.if-b-eq2048.true)

pub returns-else-b-eq2048-clause-value : goal.returns-else-b-eq2048-clause-value
unfolding shifts_by
returns-else-b-eq2048-clause-value c = rw (ne_eqb _ _ c.if-b-eq2048.false)
