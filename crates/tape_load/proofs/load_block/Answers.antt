use Rattle.tape_load.proofs.Laid.{stored_back}
use Rattle.tape_load.proofs.load_block.Goals as goal

pub returns : goal.returns
returns c = rw (← c.number_at-first.ensures, c.copy_cells.ensures, c.cell_bytes.ensures.cells) (stored_back _ _ _)
