use Rattle.fetch.proofs.Fetch.{cell_there}
use Rattle.fetch.proofs.is_fetch_absent.Goals as goal

pub returns-then-h-s : goal.returns-then-h-s
returns-then-h-s c = cell_there _ _ _ c.requires.0 c.requires.1 c.rotated-h.ensures c.if-h-s.true
