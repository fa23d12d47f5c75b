use Rattle.fetch.proofs.Times.{both_times}
use Rattle.fetch.proofs.address.Goals as goal

pub returns-clause-time : goal.returns-clause-time
returns-clause-time c = both_times _ _ _ c.relative-a.ensures.time c.indexed.ensures.time
