use Rattle.std.proofs.Common.{length}
use Rattle.address_expression.proofs.Digits.{Counted}
use Rattle.address_expression.proofs.number.Given as goal

abbrev pub invariant-loop-rest : goal.invariant-loop-rest
invariant-loop-rest l = Counted l.fn.text l.rest l.n

abbrev pub decreases-loop-rest : goal.decreases-loop-rest
decreases-loop-rest l = length l.rest
