use Prim.Native.Nat.{◌≤◌}
use native.Mathlib.Omega.{arith}
use lib.ListN.{length}
use Rattle.definition_tape.specs.Layout.{records_of}
use Rattle.tape_overlap.proofs.Names.{records_count}
use Rattle.tape_overlap.proofs.Passes.{Found, found_front, found_part, found_all}
use Rattle.std.proofs.Common.{rules}
use Rattle.tape_overlap.proofs.search.Given as goal

abbrev pub invariant-loop-left : goal.invariant-loop-left
invariant-loop-left l = (l.n ≤ length l.tape) × Found l.cells l.left (records_of l.tape) l.n

abbrev pub decreases-loop-left : goal.decreases-loop-left
decreases-loop-left l = l.left
