use Rattle.std.proofs.Common.{◌≡◌, false, cond, drop}
use Rattle.acceptance.specs.Accept.{cells_fit}
use Rattle.acceptance.proofs.cells_fit.Given as goal

abbrev pub invariant-loop-x : goal.invariant-loop-x
invariant-loop-x l = cond l.fit (cells_fit (drop l.x-index l.s)) false ≡ cells_fit l.s
