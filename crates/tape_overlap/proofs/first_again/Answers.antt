use Rattle.tape_overlap.proofs.Passes.{first_none}
use Rattle.tape_overlap.proofs.first_again.Goals as goal

pub returns-then-rising-clause-first : goal.returns-then-rising-clause-first
returns-then-rising-clause-first c = first_none _ _ (c.rising.ensures c.if-rising.true)
