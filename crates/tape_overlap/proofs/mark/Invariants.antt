use Rattle.std.proofs.Common.{◌≡◌, ◌≤◌, max, length}
use Rattle.tape_overlap.specs.Again.{MarkedFrom}
use Rattle.tape_overlap.proofs.mark.Given as goal

abbrev pub invariant-loop-i : goal.invariant-loop-i
invariant-loop-i l = (l.a ≤ l.i) × (l.i ≤ max l.a l.e) × (length l.marks ≡ length l.initial.marks) × MarkedFrom l.a l.i l.initial.marks l.marks
