use Rattle.timer_row.proofs.Laws.{none_raised}
use Rattle.std.proofs.Common.{arith}
use Rattle.timer_row.proofs.Clock.end_cycle.Goals as goal

pub returns-else-self-clause-control : goal.returns-else-self-clause-control
returns-else-self-clause-control c = rw (← c.self.view_is) (none_raised _ _ _ (omega arith))
