use Prim.Native.Nat.{◌+◌, ◌-◌, ◌≤◌}
use mathlib.Core.Path.{◌≡◌}
use lib.ListN.{length}
use Rattle.definition_tape.specs.Blocks.{store_blocks}
use Rattle.definition_tape.specs.Bytes.{blocks_bytes}
use Rattle.tape_write.specs.Steps.{put, blocks_after}
use Rattle.tape_write.proofs.put_blocks.Given as goal

abbrev pub invariant-loop-at : goal.invariant-loop-at
invariant-loop-at l =
    (l.i ≤ length l.store + 1) × (length l.out ≡ length l.initial.out)
    × (l.at + length (blocks_after l.store l.i) ≡ l.from + length (blocks_bytes (store_blocks l.store)))
    × (put l.out l.at (blocks_after l.store l.i) ≡ put l.initial.out l.from (blocks_bytes (store_blocks l.store)))

abbrev pub decreases-loop-at : goal.decreases-loop-at
decreases-loop-at l = length l.store + 1 - l.i
