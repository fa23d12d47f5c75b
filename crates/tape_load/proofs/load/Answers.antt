use Rattle.std.proofs.Common.{sym}
use Rattle.definition_tape.proofs.Judged.{load_accepts}
use Rattle.tape_load.proofs.load.Goals as goal

pub lay-requires : goal.lay-requires
lay-requires c = rw c.clear.auto.store (load_accepts _ _ (sym c.in-Ok.ensures))
