use Rattle.floating.specs.Convert.{fraction_shifts}
use native.Mathlib.Omega.{arith}
use Rattle.floating.proofs.Shifts.{few, many}
use Rattle.std.proofs.Common.{rules}
use Rattle.floating.proofs.conversion.shifts.Goals as goal

pub returns-then-n-lt64 : goal.returns-then-n-lt64
unfolding fraction_shifts
returns-then-n-lt64 c = (rw (← c.places-n.ensures.value) (few _ c.if-n-lt64.true), search rules)

pub returns-else-n-lt64 : goal.returns-else-n-lt64
unfolding fraction_shifts
returns-else-n-lt64 c = (rw (← c.places-n.ensures.value) (many _ c.if-n-lt64.false (omega arith)), search rules)
