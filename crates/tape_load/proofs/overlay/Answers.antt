use Rattle.std.proofs.Common.{sym}
use Rattle.definition_tape.proofs.Judged.{load_accepts}
use Rattle.tape_load.proofs.overlay.Goals as goal

pub lay-requires : goal.lay-requires
lay-requires c = load_accepts _ _ (sym c.in-Ok.ensures)
