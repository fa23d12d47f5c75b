use Rattle.control_row.proofs.RowLaws.{keeps_mode_mask}
use Rattle.control_row.proofs.Row.keeps_mode.Goals as goal

pub returns : goal.returns
returns c = rw (c.is_key_forbidden.ensures, c.self.invariant.1, ← c.self.view_is) (keeps_mode_mask _ _ c.self.invariant.0)
