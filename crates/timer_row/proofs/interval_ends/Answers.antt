use Rattle.acceptance.proofs.Tests.{running}
use Rattle.std.proofs.Common.{arith}
use Rattle.timer_row.proofs.Laws.{never_ends, ends}
use Rattle.timer_row.proofs.interval_ends.Goals as goal

pub returns-then-r-eq0 : goal.returns-then-r-eq0
returns-then-r-eq0 c = never_ends _ _ c.if-r-eq0.true

pub overflow_sub-result : goal.overflow_sub-result
overflow_sub-result c = let g = (running _ c.requires c.if-r-eq0.false).phase in omega arith

pub returns : goal.returns
returns c = ends _ _ c.if-r-eq0.false c.requires
