use Rattle.std.proofs.Common.{arith, ◌∙◌}
use Rattle.tape_write.proofs.Puts.{part_put}
use Rattle.tape_write.proofs.put_number.Goals as goal

pub returns : goal.returns
returns c = part_put _ _ _ _ _ (c.copy_from_slice.ensures.after ∙ c.to_le_bytes.ensures) (omega arith)
