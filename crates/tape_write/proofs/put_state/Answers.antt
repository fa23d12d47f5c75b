use Rattle.std.proofs.Common.{arith}
use Rattle.tape_write.proofs.Puts.{four_stores}
use Rattle.tape_write.proofs.put_state.Goals as goal

pub returns : goal.returns
returns c = rw c.flags_byte.ensures (four_stores _ _ _ _ _ _ (omega arith))
