use Rattle.std.proofs.Common.{arith, refl}
use lib.ListN.{length-set}
use Rattle.tape_write.proofs.Puts.{text_none, text_more, text_all}
use Rattle.tape_write.proofs.put_text.Goals as goal

pub loop-i-init : goal.loop-i-init
loop-i-init c = (refl, text_none _ _)

pub loop-i-preserved : goal.loop-i-preserved
loop-i-preserved c = let a = c.args in
    let l = c.loop-i in
    (simp length-set l.invariant.0, text_more a.out.now l.out a.at l.i a.text.now (omega arith) l.invariant.0 c.loop-i-test.true l.invariant.1)

pub returns : goal.returns
returns c = text_all _ _ _ _ _ (omega arith) c.loop-i.invariant.1
