use Rattle.std.proofs.Common.{arith}
use Rattle.timer_row.proofs.Laws.{nothing_passed}
use Rattle.timer_row.proofs.Clock.of.Goals as goal

pub returns-clause-value : goal.returns-clause-value
returns-clause-value c = nothing_passed _ (omega arith) c.requires
