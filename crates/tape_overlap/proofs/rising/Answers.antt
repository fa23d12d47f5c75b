use Rattle.std.proofs.Common.{arith, sym}
use Rattle.std.proofs.lemmas.Bool.{false≢true}
use Rattle.tape_overlap.proofs.Passes.{risen_none, risen_next, risen_all}
use Rattle.tape_overlap.proofs.rising.Goals as goal

pub loop-t-init : goal.loop-t-init
loop-t-init c = rw (c.into_iter-t-iterator.ensures.into_iter_gives, c.of-t-items.ensures) (risen_none _)

pub returns-then-not-whole : goal.returns-then-not-whole
returns-then-not-whole c = λ z. absurd (false≢true z)

pub returns-then-c-high : goal.returns-then-c-high
returns-then-c-high c = λ z. absurd (false≢true z)

pub loop-t-preserved-then-c : goal.loop-t-preserved-then-c
loop-t-preserved-then-c c =
    risen_next _ _ _ _ _ _ _ c.loop-t.invariant c.in-Some.ensures.steps (sym c.if-not-whole.ensures) c.cells_named-c.ensures (omega arith, λ z. (c.if-c-high.false, omega arith))

pub loop-t-preserved : goal.loop-t-preserved
loop-t-preserved c =
    risen_next _ _ _ _ _ _ _ c.loop-t.invariant c.in-Some.ensures.steps (sym c.if-not-whole.ensures) c.cells_named-c.ensures
    (omega arith, λ z. let no : ⊥ = omega arith in absurd no)

pub returns : goal.returns
returns c = λ z. risen_all _ _ _ c.loop-t.invariant c.in-None.ensures.steps.0
