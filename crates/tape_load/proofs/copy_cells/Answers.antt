use Rattle.std.proofs.Common.{arith, map, ◌∙◌}
use Rattle.std.proofs.lemmas.List.{length-map}
use Rattle.std.specs.Int.{w32, from_le_bytes}
use Rattle.tape_load.proofs.Laid.{copied, copied_all}
use Rattle.tape_load.proofs.copy_cells.Goals as goal

pub loop-i-preserved : goal.loop-i-preserved
loop-i-preserved c = rw c.loop-i.invariant (copied c.args.part.now c.args.cells.now c.loop-i.i _ (omega arith) c.loop-i-test.true c.from_le_bytes.ensures)

pub returns : goal.returns
returns c = let m = length-map c.args.cells.now (from_le_bytes w32) in
    c.loop-i.invariant ∙ copied_all c.args.part.now (map (from_le_bytes w32) c.args.cells.now) c.loop-i.i (omega arith) (omega arith)
