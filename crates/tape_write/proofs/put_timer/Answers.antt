use mathlib.Core.Path.{refl}
use native.Mathlib.Omega.{arith}
use Rattle.tape_write.proofs.Puts.{timer_put}
use Rattle.tape_write.proofs.put_timer.Goals as goal

pub returns : goal.returns
returns c = timer_put _ _ _ _ _ _ _ (omega arith) (omega arith) refl (omega arith) c.put_number.ensures c.put_number-2.ensures
    c.put_number-3.ensures
