use Rattle.acceptance.proofs.Tests.{running}
use Rattle.std.proofs.Common.{arith}
use Rattle.timer_row.proofs.Laws.{limit_off, limit_near, limit_far}
use Rattle.timer_row.proofs.limit.Goals as goal

pub returns-then-r-eq0-clause-value : goal.returns-then-r-eq0-clause-value
returns-then-r-eq0-clause-value c = limit_off _ c.if-r-eq0.true

pub returns-then-r-eq0-clause-some : goal.returns-then-r-eq0-clause-some
returns-then-r-eq0-clause-some c = omega arith

pub overflow_sub-n : goal.overflow_sub-n
overflow_sub-n c = let g = (running _ c.requires c.if-r-eq0.false).phase in omega arith

pub returns-then-n-lt-LONGEST-clause-value : goal.returns-then-n-lt-LONGEST-clause-value
returns-then-n-lt-LONGEST-clause-value c = limit_near _ c.if-r-eq0.false c.if-n-lt-LONGEST.true

pub returns-then-n-lt-LONGEST-clause-some : goal.returns-then-n-lt-LONGEST-clause-some
returns-then-n-lt-LONGEST-clause-some c = let g = (running _ c.requires c.if-r-eq0.false).phase in omega arith

pub returns-else-n-lt-LONGEST-clause-value : goal.returns-else-n-lt-LONGEST-clause-value
returns-else-n-lt-LONGEST-clause-value c = limit_far _ c.if-r-eq0.false c.if-n-lt-LONGEST.false

pub returns-else-n-lt-LONGEST-clause-some : goal.returns-else-n-lt-LONGEST-clause-some
returns-else-n-lt-LONGEST-clause-some c = omega arith
