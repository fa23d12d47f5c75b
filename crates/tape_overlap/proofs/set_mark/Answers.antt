use Rattle.tape_overlap.specs.Again.{mark_at, with_mark}
use native.Mathlib.Omega.{arith}
use Rattle.std.proofs.Common.{rules}
use Rattle.tape_overlap.proofs.set_mark.Goals as goal

pub with_bit-requires : goal.with_bit-requires
unfolding mark_at
with_bit-requires c = (omega arith, c.requires.1)

pub returns : goal.returns
unfolding with_mark
returns c = rw c.with_bit.ensures
