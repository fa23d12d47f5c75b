use Rattle.std.proofs.Common.{refl}
use Rattle.integer.proofs.Digits.{select_is}
use Rattle.integer.specs.Skip.{bits_zero}
use Rattle.integer.proofs.bits_zero.Goals as goal

pub returns : goal.returns
unfolding bits_zero
returns c = rw (select_is 24 _ _ c.requires.0 c.requires.1) refl
