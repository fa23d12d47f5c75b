use Rattle.std.proofs.Common.{◌≡◌, arith, sym, ◌∙◌}
use Rattle.interruption.proofs.Lines.{request_step, no_step}
use Rattle.interruption.proofs.first_request.Goals as goal

pub returns-then-is_requested : goal.returns-then-is_requested
returns-then-is_requested c = (omega arith, rw (← c.loop-p.invariant, request_step _ _ _ c.loop-p-test.true, ← c.is_requested.ensures, c.if-is_requested.true))

pub loop-p-preserved : goal.loop-p-preserved
loop-p-preserved c = rw (← c.loop-p.invariant, request_step _ _ _ c.loop-p-test.true, ← c.is_requested.ensures, c.if-is_requested.false)

pub returns : goal.returns
returns c = let z : c.loop-p.p ≡ 24 = omega arith in sym c.loop-p.invariant ∙ no_step _ _ _ _ (omega arith) ∙ z
