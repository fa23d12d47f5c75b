use lib.Bits.{and_lt}
use Rattle.integer.proofs.Digits.{and_is}
use Rattle.integer.specs.Bitwise.{logical_and}
use Rattle.integer.proofs.and24.Goals as goal

pub returns-clause-value : goal.returns-clause-value
unfolding logical_and
returns-clause-value c = and_is 24 _ _ c.requires.0 c.requires.1

pub returns-clause-bound : goal.returns-clause-bound
unfolding logical_and
returns-clause-bound c = and_lt 24 _ _ c.requires.0 c.requires.1
