use Rattle.definition_times.proofs.Laws.{fits_later}
use Rattle.timer_row.proofs.Clock.update.Goals as goal

pub of-requires : goal.of-requires
of-requires c = rw (c.timer.ensures, ← c.self.view_is) (fits_later _ _ c.self.invariant.1)
