use Rattle.normalize.proofs.Count.{counted}
use Rattle.definition_times.specs.Times.{operation_time}
use Rattle.integer_instructions.proofs.ns.Goals as goal

pub returns-then-is_absent-clause-time : goal.returns-then-is_absent-clause-time
unfolding operation_time
returns-then-is_absent-clause-time c = rw (← c.word_at-x.ensures.value, ← (counted 24 _), ← c.normalize_single-r.ensures.value, ← c.shifts_made-n.ensures.value) c.advance.ensures

pub returns-then-is_violation-clause-time : goal.returns-then-is_violation-clause-time
unfolding operation_time
returns-then-is_violation-clause-time c = rw (← c.word_at-x.ensures.value, ← (counted 24 _), ← c.normalize_single-r.ensures.value, ← c.shifts_made-n.ensures.value) c.advance.ensures

pub returns-clause-time : goal.returns-clause-time
unfolding operation_time
returns-clause-time c = rw (← c.word_at-x.ensures.value, ← (counted 24 _), ← c.normalize_single-r.ensures.value, ← c.shifts_made-n.ensures.value) c.advance.ensures
