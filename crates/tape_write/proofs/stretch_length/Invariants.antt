use Prim.Native.Nat.{◌+◌, ◌-◌, ◌≤◌}
use mathlib.Core.Path.{◌≡◌}
use lib.ListN.{length, drop}
use Rattle.definition_tape.specs.Blocks.{stretch}
use Rattle.tape_write.proofs.stretch_length.Given as goal

abbrev pub invariant-loop-end : goal.invariant-loop-end
invariant-loop-end l =
    (l.first ≤ l.end) × (l.end ≤ length l.store) × (length (stretch (drop l.first l.store)) ≡ l.end - l.first + length (stretch (drop l.end l.store)))

abbrev pub decreases-loop-end : goal.decreases-loop-end
decreases-loop-end l = length l.store - l.end
