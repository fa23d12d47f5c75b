use native.Mathlib.Omega.{arith}
use Rattle.tape_write.proofs.Puts.{control_put}
use Rattle.tape_write.proofs.put_control.Goals as goal

pub returns : goal.returns
returns c = control_put _ _ _ _ _ _ _ _ _ _ (omega arith) c.put_header.ensures c.put_number.ensures
    c.put_number-2.ensures c.put_number-3.ensures c.put_number-4.ensures
    c.put_state.ensures c.put_timer.ensures
