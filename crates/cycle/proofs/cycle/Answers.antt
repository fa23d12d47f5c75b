use mathlib.Core.Path.{◌∙◌, sym}
use Rattle.cycle.proofs.Steps.{cycle_fetch, entered_with}
use Rattle.definition_runs.specs.Cycle.{cycle}
use borrow.Author.Tests.{lt-ltb}
use Rattle.cycle.proofs.Times.{passing_is, time_line, time_executed, time_entered, set_back}
use Rattle.cycle.proofs.cycle.Goals as goal

pub returns-in-Some-clause-value : goal.returns-in-Some-clause-value
unfolding cycle
returns-in-Some-clause-value c = rw (c.in-Some.ensures.1, lt-ltb _ _ c.in-Some.ensures.0, ← c.clear_line.ensures, ← c.enter.ensures)

pub returns-in-Some-clause-time : goal.returns-in-Some-clause-time
unfolding cycle
returns-in-Some-clause-time c = passing_is _ _ _ (time_line _ _ (sym c.in-Some.ensures.1) c.in-Some.ensures.0) c.advance.ensures

pub returns-in-Done-clause-value : goal.returns-in-Done-clause-value
returns-in-Done-clause-value c = rw c.in-Done.is at (cycle_fetch _ _ _ _ c.in_default.ensures c.fetch.ensures.value)

pub returns-in-Done-clause-time : goal.returns-in-Done-clause-time
returns-in-Done-clause-time c = passing_is _ _ _ (time_executed _ _ (rw c.in-Done.is at (cycle_fetch _ _ _ _ c.in_default.ensures c.fetch.ensures.value))) (rw c.in-Done.is at c.fetch.ensures.time)

pub returns-in-Reset-clause-value : goal.returns-in-Reset-clause-value
returns-in-Reset-clause-value c = rw c.in-Reset.is at (cycle_fetch _ _ _ _ c.in_default.ensures c.fetch.ensures.value)

pub returns-in-Reset-clause-time : goal.returns-in-Reset-clause-time
returns-in-Reset-clause-time c = passing_is _ _ _ (time_executed _ _ (rw c.in-Reset.is at (cycle_fetch _ _ _ _ c.in_default.ensures c.fetch.ensures.value))) (rw c.in-Reset.is at c.fetch.ensures.time)

pub returns-in-Faulted-clause-value : goal.returns-in-Faulted-clause-value
returns-in-Faulted-clause-value c = entered_with c.enter-in-Faulted.ensures (rw c.in-Faulted.is at (cycle_fetch _ _ _ _ c.in_default.ensures c.fetch.ensures.value))

pub returns-in-Faulted-clause-time : goal.returns-in-Faulted-clause-time
returns-in-Faulted-clause-time c = passing_is _ _ _ (time_entered _ _ _ (rw c.in-Faulted.is at (cycle_fetch _ _ _ _ c.in_default.ensures c.fetch.ensures.value))) (c.enter-in-Faulted-2.ensures ∙ set_back _ _ _ _ c.passed-begun.ensures (rw c.in-Faulted.is at c.fetch.ensures.time))
