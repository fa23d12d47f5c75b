use Rattle.std.proofs.Common.{rules}
use Rattle.tape_overlap.proofs.block_named.Goals as goal

pub returns : goal.returns
returns c = rw (← c.number_at-first.ensures)
