use Prim.Native.Nat.{◌+◌, ◌-◌, ◌*◌, ◌≤◌}
use mathlib.Core.Path.{◌≡◌}
use lib.ListN.{length}
use Rattle.definition_tape.specs.Blocks.{store_blocks}
use Rattle.definition_tape.specs.Bytes.{blocks_bytes}
use Rattle.tape_write.specs.Steps.{blocks_after}
use Rattle.tape_write.proofs.blocks_length.Given as goal

abbrev pub invariant-loop-i : goal.invariant-loop-i
invariant-loop-i l =
    (l.i ≤ length l.store + 1) × (l.total ≤ 14 * l.i) × (l.total + length (blocks_after l.store l.i) ≡ length (blocks_bytes (store_blocks l.store)))

abbrev pub decreases-loop-i : goal.decreases-loop-i
decreases-loop-i l = length l.store + 1 - l.i
