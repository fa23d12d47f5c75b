use Rattle.std.proofs.Common.{arith}
use Rattle.tape_write.proofs.Puts.{header_put}
use Rattle.tape_write.proofs.put_header.Goals as goal

pub returns : goal.returns
returns c = header_put _ _ _ _ _ _ (omega arith) c.put_number.ensures (rw (← c.number.ensures) c.put_pair.ensures)
