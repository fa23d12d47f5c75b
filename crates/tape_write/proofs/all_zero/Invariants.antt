use Rattle.std.proofs.Common.{◌≡◌, false, cond, drop}
use Rattle.tape_write.specs.Steps.{all_zero}
use Rattle.tape_write.proofs.all_zero.Given as goal

abbrev pub invariant-loop-cell : goal.invariant-loop-cell
invariant-loop-cell l = cond l.zero (all_zero (drop l.cell-index l.cells)) false ≡ all_zero l.cells
