use Rattle.std.proofs.Common.{sym, ◌∙◌}
use Rattle.definition_times.proofs.Laws.{ending_line}
use Rattle.timer_row.proofs.raise_line.Goals as goal

pub line_bit-requires : goal.line_bit-requires
line_bit-requires c = ending_line _ _ c.requires (sym c.interval_ends.ensures ∙ c.if-interval_ends.true)
