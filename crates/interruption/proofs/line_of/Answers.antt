use Rattle.std.proofs.Common.{sym}
use Rattle.interruption.proofs.Lines.{line_none}
use Rattle.interruption.proofs.line_of.Goals as goal

pub returns-then-ir-im-eq0 : goal.returns-then-ir-im-eq0
returns-then-ir-im-eq0 c = sym (line_none _ _ _ c.ir-ir.ensures c.im-im.ensures c.if-ir-im-eq0.true)
