use Prim.Native.Nat.{◌≤◌}
use mathlib.Core.Path.{refl, ◌∙◌}
use native.Mathlib.Omega.{arith}
use lib.ListN.{length}
use Rattle.tape_write.specs.Steps.{blocks_after}
use Rattle.tape_write.proofs.Passes.{blocks_all, blocks_left, size_step, put_step, part_fits, put_done}
use Rattle.tape_write.proofs.put_blocks.Goals as goal

pub loop-at-init : goal.loop-at-init
loop-at-init c = rw (blocks_all c.args.store.now) (omega arith, refl, refl, refl)

pub bounds-store-i : goal.bounds-store-i
bounds-store-i c = let l = c.loop-at in
    blocks_left c.args.store.now l.i (omega (arith, l.invariant, c.requires, c.loop-at-test.true))

pub zero_cells-i-requires : goal.zero_cells-i-requires
zero_cells-i-requires c = let l = c.loop-at in
    (blocks_left c.args.store.now l.i (omega (arith, l.invariant, c.requires, c.loop-at-test.true)), c.if-store-i-eq0.true)

pub put_stretch-requires : goal.put_stretch-requires
put_stretch-requires c = let a = c.args in
    let l = c.loop-at in
    let k = c.stretch_length-k in
    part_fits a.store.now l.i k.result k.ensures.value k.ensures.some k.ensures.bound l.at (length l.out) c.requires.0
    (omega (arith, l.invariant, c.requires))

pub loop-at-preserved : goal.loop-at-preserved
loop-at-preserved c = let a = c.args in
    let s = a.store.now in
    let l = c.loop-at in
    let k = c.stretch_length-k in
    let p = c.put_stretch in
    let e = c.block_size-at.ensures in
    let z = size_step s l.i k.result k.ensures.value k.ensures.some k.ensures.bound in
    let b : l.at ≤ length l.out = omega (arith, l.invariant, c.requires) in
    let w = put_step s l.i k.result k.ensures.value k.ensures.some k.ensures.bound l.out _ l.at b p.ensures in
    (omega (arith, k.ensures), p.auto.out ∙ l.invariant.1, omega (arith, l.invariant), rw e (w ∙ l.invariant.3))

pub returns : goal.returns
returns c = let l = c.loop-at in
    put_done l.out _ (blocks_after c.args.store.now l.i) l.at
    (omega (arith, l.invariant, c.loop-at-test.false, c.requires)) l.invariant.3
