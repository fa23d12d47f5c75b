use Rattle.std.proofs.Common.{sym}
use Rattle.definition_tape.proofs.Machines.{machine}
use Rattle.tape_write.proofs.write.Goals as goal

pub write_machine-requires : goal.write_machine-requires
write_machine-requires c = (machine _ _ (sym c.in_ok-judge_machine.ensures)).size
