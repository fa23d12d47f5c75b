use Rattle.std.proofs.Common.{refl}
use Rattle.integer.proofs.Digits.{miss_is}
use Rattle.integer.specs.Skip.{bits_one}
use Rattle.integer.proofs.bits_one.Goals as goal

pub returns : goal.returns
unfolding bits_one
returns c = rw (miss_is 24 _ _ c.requires.0 c.requires.1) refl
