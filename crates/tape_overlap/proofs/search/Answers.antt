use Prim.Native.Nat.{◌≤◌}
use native.Mathlib.Omega.{arith}
use lib.ListN.{length}
use Rattle.definition_tape.specs.Layout.{records_of}
use Rattle.tape_overlap.proofs.Names.{records_count}
use Rattle.tape_overlap.proofs.Passes.{Found, found_front, found_part, found_all}
use Rattle.std.proofs.Common.{rules}
use Rattle.tape_overlap.proofs.search.Goals as goal

pub loop-left-init : goal.loop-left-init
loop-left-init c = let s = c.search_part-front.ensures in
    (s.bound, found_front _ _ _ _ _ (records_count _) c.min-left.ensures s)

pub loop-left-preserved : goal.loop-left-preserved
loop-left-preserved c = let l = c.loop-left in
    let s = c.search_part-part.ensures in
    (omega (arith, s.bound), found_part _ _ _ _ _ _ (omega arith) s l.invariant.1)

pub returns-clause-bound : goal.returns-clause-bound
returns-clause-bound c = let l = c.loop-left in
    l.invariant.0

pub returns-clause-first : goal.returns-clause-first
returns-clause-first c = let l = c.loop-left in
    found_all _ _ _ _ (omega arith) l.invariant.1
