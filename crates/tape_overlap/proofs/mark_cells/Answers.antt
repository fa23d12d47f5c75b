use mathlib.Core.Path.{◌∙◌}
use native.Mathlib.Omega.{arith}
use Rattle.tape_overlap.proofs.Marked.{marks_more, marks_met}
use Rattle.std.proofs.Common.{rules}
use Rattle.tape_overlap.proofs.mark_cells.Goals as goal

pub mark-requires : goal.mark-requires
mark-requires c = omega arith

pub returns-clause-size : goal.returns-clause-size
returns-clause-size c = let k = c.mark.ensures in
    k.size ∙ c.requires

pub returns-clause-passed : goal.returns-clause-passed
returns-clause-passed c = let k = c.mark.ensures in
    λ z t w d ts s. marks_more _ t _ _ _ _ w d c.place-a.ensures c.place-e.ensures _ (k.passed z) ts s

pub returns-clause-met : goal.returns-clause-met
returns-clause-met c = let k = c.mark.ensures in
    λ z t w d. marks_met _ t _ _ _ _ w d c.place-a.ensures c.place-e.ensures (k.met z)
