use lib.Bits.{and_lt, xor_lt}
use Rattle.integer.proofs.Digits.{clear_is}
use Rattle.integer.specs.Bitwise.{cleared}
use Rattle.integer.proofs.clear24.Goals as goal

pub returns-clause-value : goal.returns-clause-value
unfolding cleared
returns-clause-value c = clear_is 24 _ _ c.requires.0 c.requires.1

pub returns-clause-bound : goal.returns-clause-bound
unfolding cleared
returns-clause-bound c = xor_lt 24 _ _ c.requires.0 (and_lt 24 _ _ c.requires.0 c.requires.1)
