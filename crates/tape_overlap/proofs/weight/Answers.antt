use Rattle.tape_overlap.proofs.Bits.{weight_shifted}
use Rattle.std.proofs.Common.{rules}
use Rattle.tape_overlap.proofs.weight.Goals as goal

pub returns : goal.returns
returns c = weight_shifted _ c.requires
