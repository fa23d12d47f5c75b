use mathlib.Core.Path.{refl}
use native.Mathlib.Omega.{arith}
use Rattle.tape_write.proofs.Puts.{stretch_put}
use Rattle.tape_write.proofs.put_stretch.Goals as goal

pub returns : goal.returns
returns c = stretch_put _ _ _ _ _ _ _ _ (omega (arith, c.requires)) refl
    c.put_header.ensures c.put_number.ensures c.put_cells.ensures
