use Rattle.cycle.proofs.Fields.{displacement_fits}
use Rattle.cycle.proofs.Steps.{decode_violated, decode_passed}
use mathlib.Core.Path.{sym, ◌∙◌}
use Rattle.cycle.proofs.Times.{clock_after_twice, clock_after_is, instruction_time_lem}
use Rattle.cycle.proofs.decode.Goals as goal

pub returns-then-is_fetch_violation-clause-value : goal.returns-then-is_fetch_violation-clause-value
returns-then-is_fetch_violation-clause-value c = decode_violated _ _ _ _ _ c.requires (sym c.is_fetch_violation.ensures.test ∙ c.if-is_fetch_violation.true) (rw c.is_fetch_violation.ensures.mode at c.raise_ic.ensures)

pub address-a-requires : goal.address-a-requires
address-a-requires c = rw c.of_word-i.ensures (displacement_fits _)

pub returns-clause-value : goal.returns-clause-value
returns-clause-value c = c.execute_instruction.ensures.value ∙ decode_passed _ _ _ _ _ _ _ c.requires (sym c.is_fetch_violation.ensures.test ∙ c.if-is_fetch_violation.false) (rw (
  c.raise_ic-2.ensures,
  c.is_fetch_violation.ensures.mode,
) at c.set_pending.ensures) c.of_word-i.ensures (rw c.is_fetch_violation.ensures.mode at c.address-a.ensures.value)

pub returns-clause-time : goal.returns-clause-time
returns-clause-time c = clock_after_is c.execute_instruction.result _ _ (instruction_time_lem _ _ _ _ _ _ _ c.requires (sym c.is_fetch_violation.ensures.test ∙ c.if-is_fetch_violation.false) c.of_word-i.ensures (rw c.is_fetch_violation.ensures.mode at c.address-a.ensures.value))
    (clock_after_twice c.execute_instruction.result _ _ _ _ c.address-a.ensures.time c.execute_instruction.ensures.time)
