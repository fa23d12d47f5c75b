use lib.Bits.{or_lt}
use Rattle.integer.proofs.Digits.{or_is}
use Rattle.integer.specs.Bitwise.{logical_or}
use Rattle.integer.proofs.or24.Goals as goal

pub returns-clause-value : goal.returns-clause-value
unfolding logical_or
returns-clause-value c = or_is 24 _ _ c.requires.0 c.requires.1

pub returns-clause-bound : goal.returns-clause-bound
unfolding logical_or
returns-clause-bound c = or_lt 24 _ _ c.requires.0 c.requires.1
