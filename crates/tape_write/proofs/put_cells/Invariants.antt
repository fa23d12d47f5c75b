use Rattle.std.proofs.Common.{◌≡◌, take}
use Rattle.definition_tape.specs.Bytes.{cells_bytes}
use Rattle.tape_write.specs.Steps.{put}
use Rattle.tape_write.proofs.put_cells.Given as goal

abbrev pub invariant-loop-i : goal.invariant-loop-i
invariant-loop-i l = l.out ≡ put l.initial.out l.at (cells_bytes (take l.i l.cells))
