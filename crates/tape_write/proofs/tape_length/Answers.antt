use native.Mathlib.Omega.{arith}
use Rattle.definition_tape.specs.Writing.{remark_lent}
use Rattle.tape_write.proofs.Ways.{remark_small}
use Rattle.definition_tape.proofs.Lengths.{length_tape}
use Rattle.tape_write.proofs.tape_length.Goals as goal

pub overflow_add-result : goal.overflow_add-result
overflow_add-result c = let m = remark_small _ c.requires.1 in
    omega (arith, c.blocks_length.ensures, c.remark_size.ensures)

pub overflow_add-result-2 : goal.overflow_add-result-2
overflow_add-result-2 c = let m = remark_small _ c.requires.1 in
    omega (arith, c.blocks_length.ensures, c.remark_size.ensures)

pub returns : goal.returns
returns c = let e = length_tape c.args.store.now c.args.r (remark_lent c.args.remark) in
    omega (arith, c.blocks_length.ensures.value, c.remark_size.ensures)

pub remark_size-requires : goal.remark_size-requires
remark_size-requires c = c.requires.1
