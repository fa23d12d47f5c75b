use Rattle.std.proofs.Common.{sym}
use Rattle.definition_tape.proofs.Remarks.{whole_first}
use Rattle.definition_tape.proofs.Judged.{reading_judged}
use Rattle.tape_remark.proofs.remark_span.Goals as goal

pub span_of-requires : goal.span_of-requires
span_of-requires c = whole_first 4 (reading_judged _ _ (sym c.in_ok-judge_reading.ensures))
