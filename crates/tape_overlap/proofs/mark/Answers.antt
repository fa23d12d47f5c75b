use Rattle.std.proofs.Common.{rules, arith, length, refl, sym, ap, ◌∙◌}
use Rattle.std.proofs.lemmas.Bool.{true≢false, false≢true}
use Rattle.tape_overlap.proofs.Bits.{length_with_mark}
use Rattle.tape_overlap.proofs.Marked.{marked_none, marked_more, marked_all, met_at}
use Rattle.tape_overlap.proofs.mark.Goals as goal

pub loop-i-init : goal.loop-i-init
loop-i-init c = (search rules, omega arith, refl, marked_none _ _)

pub mark_at-requires : goal.mark_at-requires
mark_at-requires c = omega arith

pub returns-then-mark_at-ne0-clause-size : goal.returns-then-mark_at-ne0-clause-size
returns-then-mark_at-ne0-clause-size c = let l = c.loop-i in
    l.invariant.2

pub returns-then-mark_at-ne0-clause-passed : goal.returns-then-mark_at-ne0-clause-passed
returns-then-mark_at-ne0-clause-passed c = λ z. absurd (true≢false z)

pub returns-then-mark_at-ne0-clause-met : goal.returns-then-mark_at-ne0-clause-met
returns-then-mark_at-ne0-clause-met c = let l = c.loop-i in
    let x = c.mark_at.ensures in
    λ z. met_at _ _ _ _ l.invariant.0 l.invariant.3 _ c.loop-i-test.true (λ n. c.if-mark_at-ne0.true (x ∙ n))

pub set_mark-requires : goal.set_mark-requires
set_mark-requires c = (omega arith, sym c.mark_at.ensures ∙ c.if-mark_at-ne0.false)

pub loop-i-preserved : goal.loop-i-preserved
loop-i-preserved c = let l = c.loop-i in
    let x = c.set_mark.ensures in (
      omega arith,
      omega arith,
      ap length x ∙ length_with_mark _ _ ∙ l.invariant.2,
      rw x (marked_more _ _ _ _ l.invariant.0 l.invariant.3 (omega arith) (sym c.mark_at.ensures ∙ c.if-mark_at-ne0.false)),
    )

pub returns-clause-size : goal.returns-clause-size
returns-clause-size c = let l = c.loop-i in
    l.invariant.2

pub returns-clause-passed : goal.returns-clause-passed
returns-clause-passed c = let l = c.loop-i in
    λ z. marked_all _ _ _ _ l.invariant.0 l.invariant.3 _ c.loop-i-test.false l.invariant.1

pub returns-clause-met : goal.returns-clause-met
returns-clause-met c = λ z. absurd (false≢true z)
