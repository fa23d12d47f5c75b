use Rattle.device_instructions.proofs.AutoloadLaws.{any_register, autoload_in_task}
use Rattle.definition_instructions.specs.MicroOps.{execute_device_operation}
use Rattle.definition_instructions.specs.Meaning.{device_meaning}
use Rattle.definition_instructions.specs.Codes.{execute_device}
use Rattle.definition_instructions.specs.Machine.{reset_system}
use mathlib.Core.Path.{sym, ◌∙◌}
use Rattle.device_instructions.proofs.aw.Goals as goal

pub returns-then-is_task-clause-value : goal.returns-then-is_task-clause-value
returns-then-is_task-clause-value c = rw (autoload_in_task _ _ _ _ _ (sym c.is_task.ensures ∙ c.if-is_task.true))

pub autoload-requires : goal.autoload-requires
autoload-requires c = sym c.has_four.ensures ∙ c.if-has_four.true

pub returns-then-has_four-clause-value : goal.returns-then-has_four-clause-value
unfolding execute_device execute_device_operation device_meaning
returns-then-has_four-clause-value c = rw (← c.has_four.ensures, c.if-has_four.true, ← c.is_task.ensures, c.if-is_task.false, any_register _ _ _ _, ← c.autoload.ensures.value)

pub returns-clause-value : goal.returns-clause-value
unfolding execute_device execute_device_operation device_meaning reset_system
returns-clause-value c = rw (← c.has_four.ensures, c.if-has_four.false, ← c.is_task.ensures, c.if-is_task.false, ← (rw c.ic-n.ensures at c.put_word.ensures))
