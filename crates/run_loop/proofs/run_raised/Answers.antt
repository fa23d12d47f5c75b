use Rattle.std.proofs.Common.{rules}
use Rattle.definition_instructions.specs.Machine.{computer}
use Rattle.definition_instructions.proofs.Validity.{accepted_valid}
use Rattle.run_loop.proofs.Loop.{accepted_record, handed_in_reset, handed_run}
use Rattle.run_loop.proofs.run_raised.Goals as goal

pub returns-then-n : goal.returns-then-n
returns-then-n c = rw (c.in_reset.ensures, c.raise-n.ensures) (handed_in_reset _ _ _ _ _ _ (rw c.raise-n.ensures at c.if-n.true))

pub of-k-requires : goal.of-k-requires
of-k-requires c = (rw c.raise-n.ensures (accepted_valid (computer _ _) (accepted_record _ _ c.requires.0).0).widths.high, c.if-n.false)

pub of-t-requires : goal.of-t-requires
of-t-requires c = (accepted_record _ _ c.requires.0).1

pub cycles-e-requires : goal.cycles-e-requires
cycles-e-requires c = (rw (c.of-k.ensures, c.raise-n.ensures) (accepted_record _ _ c.requires.0).0, c.requires.1, c.of-t.ensures.below)

pub returns : goal.returns
returns c = rw c.finished.ensures (handed_run _ _ _ _ _ _ (search rules) (rw (c.of-k.ensures, c.of-t.ensures.value, c.new-h.ensures.value, c.raise-n.ensures) at c.cycles-e.ensures.value))
