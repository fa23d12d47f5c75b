use Rattle.rounding.specs.Convert.{integer_shifts}
use Rattle.rounding.proofs.Count.{shifts_back}
use borrow.Author.Tests.{eq-eqb}
use Rattle.rounding.proofs.integer_shifts.Goals as goal

pub returns-then-w-eq0-clause-value : goal.returns-then-w-eq0-clause-value
unfolding integer_shifts
returns-then-w-eq0-clause-value c = rw (eq-eqb _ _ c.if-w-eq0.true)

pub returns-clause-value : goal.returns-clause-value
returns-clause-value c = shifts_back _ _ _ c.requires.0 c.if-w-eq0.false c.requires.1
