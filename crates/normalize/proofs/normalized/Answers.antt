use Rattle.normalize.specs.Norm.{normalized}
use borrow.Author.Tests.{eq-eqb, ne_eqb}
use Rattle.normalize.proofs.normalized.Goals as goal

pub returns-then-bits-eq0-clause-value : goal.returns-then-bits-eq0-clause-value
unfolding normalized
returns-then-bits-eq0-clause-value g c = rw (← c.bits.ensures.value, eq-eqb _ _ c.if-bits-eq0.true)

pub returns-clause-value : goal.returns-clause-value
unfolding normalized
returns-clause-value g c = rw (← c.normalize-r.ensures.value, ← c.bits.ensures.value, ne_eqb _ _ c.if-bits-eq0.false)
