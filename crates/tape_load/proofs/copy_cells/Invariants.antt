use Rattle.std.proofs.Common.{◌≡◌, map}
use Rattle.std.proofs.Math.Seq.{paste}
use Rattle.std.specs.Int.{w32, from_le_bytes}
use Rattle.tape_load.proofs.copy_cells.Given as goal

abbrev pub invariant-loop-i : goal.invariant-loop-i
invariant-loop-i l = l.part ≡ paste l.initial.part 0 (map (from_le_bytes w32) l.cells) l.i
