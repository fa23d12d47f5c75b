use Rattle.acceptance.proofs.Tests.{running}
use Rattle.std.proofs.Common.{arith}
use Rattle.timer_row.proofs.Laws.{phase_stays, phase_grows, phase_remains}
use Rattle.timer_row.proofs.phase_after.Goals as goal

pub returns-then-r-eq0 : goal.returns-then-r-eq0
returns-then-r-eq0 c = phase_stays _ _ c.if-r-eq0.true

pub overflow_sub-left : goal.overflow_sub-left
overflow_sub-left c = let g = (running _ c.requires c.if-r-eq0.false).phase in omega arith

pub overflow_add-result : goal.overflow_add-result
overflow_add-result c = let g = (running _ c.requires c.if-r-eq0.false).phase in omega arith

pub returns-then-n-left : goal.returns-then-n-left
returns-then-n-left c = phase_grows _ _ c.if-r-eq0.false c.requires c.if-n-left.true

pub returns : goal.returns
returns c = phase_remains _ _ c.if-r-eq0.false c.requires c.if-n-left.false
