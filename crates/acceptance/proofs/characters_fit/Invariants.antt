use Rattle.std.proofs.Common.{◌≡◌, false, cond, drop}
use Rattle.acceptance.specs.Accept.{characters_fit}
use Rattle.acceptance.proofs.characters_fit.Given as goal

abbrev pub invariant-loop-x : goal.invariant-loop-x
invariant-loop-x l = cond l.fit (characters_fit (drop l.x-index l.s)) false ≡ characters_fit l.s
