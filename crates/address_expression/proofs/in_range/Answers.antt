use Rattle.address_expression.proofs.Ranges.{kept_within, kept_above, kept_below}
use Rattle.address_expression.proofs.in_range.Goals as goal
use Rattle.address_expression.proofs.in_range.Goals.{else-z-ge-LEAST-via-then-z-ge-LEAST+else-z-le-GREATEST, else-z-ge-LEAST-via-else-z-ge-LEAST}

pub returns-then-z-le-GREATEST : goal.returns-then-z-le-GREATEST
returns-then-z-le-GREATEST c = kept_within _ c.ranges.z c.if-z-ge-LEAST.true c.if-z-le-GREATEST.true

pub returns-else-z-ge-LEAST : goal.returns-else-z-ge-LEAST
returns-else-z-ge-LEAST c =
    elim c.else-z-ge-LEAST.branch [
      | else-z-ge-LEAST-via-then-z-ge-LEAST+else-z-le-GREATEST w ↦ kept_above _ c.ranges.z w.if-z-le-GREATEST.false
      | else-z-ge-LEAST-via-else-z-ge-LEAST w ↦ kept_below _ c.ranges.z w.if-z-ge-LEAST.false
    ]
