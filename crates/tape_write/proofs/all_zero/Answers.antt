use Rattle.std.proofs.Common.{arith}
use Rattle.std.proofs.lemmas.Grind.{common_steps}
use lib.ListN.{drop_of_length-le}
use borrow.Author.Tests.{eq-eqb, ne_eqb}
use Rattle.tape_write.specs.Steps.{all_zero}
use Rattle.tape_write.proofs.Passes.{zero_step, never_zero, zero_or_not}
use Rattle.tape_write.proofs.all_zero.Goals as goal

pub loop-cell-preserved : goal.loop-cell-preserved
loop-cell-preserved c = let next = zero_step _ _ c.loop-cell-test.true in grind (arith, common_steps, next, c.loop-cell.invariant, eq-eqb, ne_eqb, never_zero)

pub returns : goal.returns
unfolding all_zero
returns c = rw (← c.loop-cell.invariant, drop_of_length-le _ c.loop-cell-test.false) (zero_or_not _)
