use native.Mathlib.Omega.{arith}
use Rattle.tape_overlap.proofs.Bits.{bit_room}
use Rattle.std.proofs.Common.{rules}
use Rattle.tape_overlap.proofs.with_bit.Goals as goal

pub overflow_add-result : goal.overflow_add-result
overflow_add-result c = omega (arith, c.weight.ensures, bit_room _ 32 _ c.requires.0 (omega arith) c.requires.1)

pub returns : goal.returns
returns c = rw c.weight.ensures
