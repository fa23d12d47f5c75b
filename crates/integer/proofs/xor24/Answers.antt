use lib.Bits.{xor_lt}
use Rattle.integer.proofs.Digits.{xor_is}
use Rattle.integer.specs.Bitwise.{logical_xor}
use Rattle.integer.proofs.xor24.Goals as goal

pub returns-clause-value : goal.returns-clause-value
unfolding logical_xor
returns-clause-value c = xor_is 24 _ _ c.requires.0 c.requires.1

pub returns-clause-bound : goal.returns-clause-bound
unfolding logical_xor
returns-clause-bound c = xor_lt 24 _ _ c.requires.0 c.requires.1
