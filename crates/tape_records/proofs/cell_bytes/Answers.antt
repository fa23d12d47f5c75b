use Rattle.definition_tape.specs.Layout.{block_cells}
use Rattle.tape_records.proofs.Lent.{tail}
use Rattle.tape_records.proofs.Cells.{cells_all}
use Rattle.tape_records.proofs.cell_bytes.Goals as goal

pub returns-clause-cells : goal.returns-clause-cells
unfolding block_cells
returns-clause-cells c = rw (c.as_chunks.ensures.front, tail 4 c.args.p.now) (cells_all _)
