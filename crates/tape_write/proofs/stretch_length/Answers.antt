use native.Mathlib.Omega.{arith}
use Rattle.tape_write.proofs.Passes.{stretch_stops, stretch_goes, stretch_ends}
use Rattle.tape_write.proofs.stretch_length.Goals as goal

pub returns-then-store-end-eq0-clause-value : goal.returns-then-store-end-eq0-clause-value
returns-then-store-end-eq0-clause-value c = let l = c.loop-end in
    let z = stretch_stops c.args.store.now l.end c.loop-end-test.true c.if-store-end-eq0.true in
    omega (arith, l.invariant)

pub loop-end-preserved : goal.loop-end-preserved
loop-end-preserved c = let s = c.args.store.now in
    let l = c.loop-end in
    let z = stretch_goes s l.end c.loop-end-test.true c.if-store-end-eq0.false in
    (omega (arith, l.invariant), omega (arith, l.invariant), omega (arith, l.invariant))

pub returns-clause-value : goal.returns-clause-value
returns-clause-value c = let l = c.loop-end in
    let z = stretch_ends c.args.store.now l.end (omega arith) in
    omega (arith, l.invariant)
