use mathlib.Core.Path.{sym}
use lib.Seq.{set_out}
use Rattle.machine.proofs.put_cell.Goals as goal

pub returns-else-j-s : goal.returns-else-j-s
returns-else-j-s c = sym (set_out _ _ _ c.if-j-s.false)
