use native.Mathlib.Omega.{arith}
use Rattle.definition_tape.specs.Writing.{remark_lent}
use Rattle.tape_write.proofs.Ways.{parts_put}
use Rattle.definition_tape.proofs.Lengths.{length_tape}
use Rattle.tape_write.proofs.put_tape.Goals as goal

pub put_remark-requires : goal.put_remark-requires
put_remark-requires c = let e = length_tape c.args.store.now c.args.r (remark_lent c.args.remark) in
    (c.requires.1, omega (arith, c.requires))

pub overflow_sub-end : goal.overflow_sub-end
overflow_sub-end c = let e = length_tape c.args.store.now c.args.r (remark_lent c.args.remark) in
    omega (arith, c.requires)

pub put_blocks-requires : goal.put_blocks-requires
put_blocks-requires c = let e = length_tape c.args.store.now c.args.r (remark_lent c.args.remark) in
    (c.requires.0, omega (arith, c.requires, c.remark_size-at.ensures), omega (arith, c.requires))

pub put_control-requires : goal.put_control-requires
put_control-requires c = let e = length_tape c.args.store.now c.args.r (remark_lent c.args.remark) in
    omega (arith, c.requires)

pub put_header-requires : goal.put_header-requires
put_header-requires c = let e = length_tape c.args.store.now c.args.r (remark_lent c.args.remark) in
    omega (arith, c.requires)

pub returns : goal.returns
returns c = let e = length_tape c.args.store.now c.args.r (remark_lent c.args.remark) in
    parts_put _ _ _ _ _ _ _ _ _ _ c.put_remark.ensures c.remark_size-at.ensures
    c.put_blocks.ensures (omega (arith, c.requires, c.remark_size-at.ensures)) c.put_control.ensures
    c.put_header.ensures

pub remark_size-at-requires : goal.remark_size-at-requires
remark_size-at-requires c = c.requires.1
