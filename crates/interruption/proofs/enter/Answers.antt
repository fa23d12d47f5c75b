use Rattle.definition_runs.specs.Cycle.{enter}
use Rattle.interruption.proofs.Entry.{entry_fields}
use Rattle.interruption.proofs.enter.Goals as goal

pub returns : goal.returns
unfolding enter
returns c = rw (
  ← c.put_word.ensures,
  ← (rw c.ic.ensures at c.put_word-2.ensures),
  ← c.word_at-a.ensures.value,
  ← (entry_fields _ _ c.word_at-a.ensures.bound),
  ← c.set_ic.ensures,
  ← c.set_pending.ensures,
  ← c.set_monitor.ensures,
  ← c.set_enabled.ensures,
)
