use Rattle.address_expression.proofs.Ranges.{displaced_below, displaced_above}
use Rattle.address_expression.proofs.displacement.Goals as goal

pub returns-then-z-lt0 : goal.returns-then-z-lt0
returns-then-z-lt0 c = displaced_below _ c.ranges.z c.requires.low c.if-z-lt0.true

pub returns-else-z-lt0 : goal.returns-else-z-lt0
returns-else-z-lt0 c = displaced_above _ c.ranges.z c.if-z-lt0.false
