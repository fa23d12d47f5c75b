use Rattle.std.proofs.Common.{arith, refl}
use Rattle.tape_write.proofs.Puts.{cells_none, cells_more, cells_all}
use Rattle.tape_write.proofs.put_cells.Goals as goal

pub loop-i-init : goal.loop-i-init
loop-i-init c = cells_none _ _

pub loop-i-preserved : goal.loop-i-preserved
loop-i-preserved c = cells_more c.args.out.now c.loop-i.out _ c.args.at c.loop-i.i _ c.args.cells.now (omega arith) c.loop-i-test.true c.loop-i.invariant refl c.put_number.ensures

pub returns : goal.returns
returns c = cells_all _ _ _ _ _ (omega arith) c.loop-i.invariant
