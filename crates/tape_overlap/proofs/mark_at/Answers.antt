use Rattle.tape_overlap.specs.Again.{bit_at, mark_at}
use Rattle.std.proofs.Common.{rules}
use Rattle.tape_overlap.proofs.mark_at.Goals as goal

pub returns : goal.returns
unfolding mark_at bit_at
returns c = search rules
