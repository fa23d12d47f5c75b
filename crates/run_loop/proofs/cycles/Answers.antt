use Rattle.std.proofs.Common.{arith, refl, sym, ◌∙◌}
use Rattle.definition_instructions.specs.Machine.{computer}
use Rattle.definition_instructions.proofs.Validity.{accepted_valid}
use Rattle.run_loop.proofs.Loop.{at_first, cycle_ticks, run_goes, valid_goes, run_stops, run_spent}
use Rattle.run_loop.proofs.cycles.Goals as goal

pub returns-then-s-lt8 : goal.returns-then-s-lt8
returns-then-s-lt8 c = let there = (accepted_valid (computer _ _) c.requires.0).least in absurd (omega arith)

pub loop-left-init : goal.loop-left-init
loop-left-init c = record {
  within = omega arith;
  cells = refl;
  outside = c.outside_reset.ensures;
  below = c.requires.2;
  same = refl;
  valid = accepted_valid (computer _ _) c.requires.0;
  rest = at_first _ _;
}

pub cycle-e-requires : goal.cycle-e-requires
cycle-e-requires c = let inv = c.loop-left.invariant in (inv.valid.widths.ic, inv.valid.most)

pub loop-left-preserved : goal.loop-left-preserved
loop-left-preserved c = let inv = c.loop-left.invariant in
    let goes = sym c.goes_on.ensures ∙ c.if-goes_on.true in
    let made = c.cycle-e.ensures in
    let kept = c.cycle-e.auto in
    let end = c.end_cycle.ensures in
    record {
      within = omega arith;
      cells = kept.s ∙ inv.cells;
      outside = c.outside_reset-then-goes_on.ensures;
      below = end.below;
      same = made.same ∙ inv.same;
      valid = valid_goes _ _ _ _ _ _ _ _ inv.outside inv.valid made.value goes end.control;
      rest = sym (run_goes _ _ _ _ _ _ _ c.loop-left-test.true inv.within inv.outside (cycle_ticks c.cycle-e.result _ _ _ _ _ _ _ _ _ _ inv.below made.value made.time end.control end.timer) goes) ∙ inv.rest;
    }

pub returns-else-goes_on-clause-value : goal.returns-else-goes_on-clause-value
returns-else-goes_on-clause-value c = let inv = c.loop-left.invariant in
    let stops = sym c.goes_on.ensures ∙ c.if-goes_on.false in
    let made = c.cycle-e.ensures in
    let end = c.end_cycle-else-goes_on.ensures in
    rw c.stop.ensures (run_stops _ _ _ _ _ _ _ c.loop-left-test.true inv.outside (cycle_ticks c.cycle-e.result _ _ _ _ _ _ _ _ _ _ inv.below made.value made.time end.control end.timer) stops ∙ inv.rest)

pub returns-clause-value : goal.returns-clause-value
returns-clause-value c = let inv = c.loop-left.invariant in run_spent _ _ _ c.loop-left-test.false inv.outside ∙ inv.rest
