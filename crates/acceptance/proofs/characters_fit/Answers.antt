use lib.ListN.{drop_of_length-le}
use borrow.Author.Tests.{lt-ltb, le-ltb}
use Rattle.std.proofs.Common.{arith}
use Rattle.std.proofs.lemmas.Grind.{common_steps}
use Rattle.acceptance.specs.Accept.{characters_fit}
use Rattle.acceptance.proofs.Loops.{characters_step, never_fits, fits_or_not}
use Rattle.acceptance.proofs.characters_fit.Goals as goal

pub loop-x-preserved : goal.loop-x-preserved
loop-x-preserved c = let next = characters_step _ _ c.loop-x-test.true in grind (arith, common_steps, next, c.loop-x.invariant, lt-ltb, le-ltb, never_fits)

pub returns : goal.returns
unfolding characters_fit
returns c = rw (← c.loop-x.invariant, drop_of_length-le _ c.loop-x-test.false) (fits_or_not _)
