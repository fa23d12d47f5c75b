use native.Mathlib.Omega.{arith}
use Rattle.tape_write.proofs.Passes.{blocks_all, size_step, length_done}
use Rattle.tape_write.proofs.blocks_length.Goals as goal

pub loop-i-init : goal.loop-i-init
loop-i-init c = (omega arith, omega arith, rw (blocks_all c.args.store.now) (omega arith))

pub loop-i-preserved : goal.loop-i-preserved
loop-i-preserved c = let s = c.args.store.now in
    let l = c.loop-i in
    let k = c.stretch_length-k in
    let e = c.block_size-total.ensures in
    let z = size_step s l.i k.result k.ensures.value k.ensures.some k.ensures.bound in
    (omega (arith, k.ensures), omega (arith, l.invariant), omega (arith, l.invariant))

pub returns-clause-value : goal.returns-clause-value
returns-clause-value c = let s = c.args.store.now in
    let l = c.loop-i in
    length_done s l.i l.total _ (omega arith) l.invariant.2
