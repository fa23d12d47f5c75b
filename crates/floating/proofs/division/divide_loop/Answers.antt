use Rattle.floating.specs.Divide.{fd_step, fd_stop}
use Rattle.floating.proofs.Passes.{first_passes}
use Rattle.registers.proofs.Loops.{until_stop, until_next, until_out}
use Rattle.registers.specs.Reg.{until}
use Rattle.std.proofs.Common.{◌≡◌, ◌+◌, ◌-◌, arith, sym, ap, ◌∙◌}
use Rattle.floating.proofs.division.divide_loop.Goals as goal

pub loop-q-init : goal.loop-q-init
loop-q-init c =
    let e : 71 - c.first_passes-q.result.passes ≡ 36 = omega arith in
    (omega arith, rw e (first_passes _ _ _ c.first_passes-q.ensures.value))

pub returns-then-bits_differ-clause-value : goal.returns-then-bits_differ-clause-value
returns-then-bits_differ-clause-value c =
    sym (until_stop fd_stop (fd_step _) _ _ (sym c.bits_differ.ensures ∙ c.if-bits_differ.true)) ∙ c.loop-q.invariant.1

pub loop-q-preserved : goal.loop-q-preserved
loop-q-preserved c =
    let e : 71 - c.step-q.result.passes ≡ 71 - (c.loop-q.q.passes + 1) = omega arith in
    let n = until_next fd_stop (fd_step c.args.x) 71 c.loop-q.q.passes c.loop-q.q c.loop-q-test.true (sym c.bits_differ.ensures ∙ c.if-bits_differ.false) in
    (omega arith, rw e (ap (until fd_stop (fd_step c.args.x) _) c.step-q.ensures.value ∙ sym n ∙ c.loop-q.invariant.1))

pub returns-clause-value : goal.returns-clause-value
returns-clause-value c = sym (until_out fd_stop (fd_step _) 71 _ _ c.loop-q-test.false) ∙ c.loop-q.invariant.1
