use Rattle.std.proofs.Common.{rules, arith, refl, sym, inl, inr, ◌≡◌, ◌+◌}
use Rattle.definition_tape.specs.Layout.{records_of}
use Rattle.tape_overlap.proofs.Passes.{Passed, passed_next}
use Rattle.tape_overlap.proofs.Marked.{Unnamed, unnamed_none, unnamed_next, marks_next, stop_again, searched}
use Rattle.tape_overlap.proofs.mark_records.Goals as goal

pub loop-n-init : goal.loop-n-init
loop-n-init c = rw c.into_iter-n-iterator.ensures.into_iter_gives (rw (c.enumerate-n-items.ensures.source, c.enumerate-n-items.ensures.count, c.take.ensures.source, c.take.ensures.count, c.of.ensures) record {
  can_next = search rules;
  is_finite = tt;
  words = c.requires.0;
  most = omega arith;
  passed = record { rest = refl };
  marks = c.requires.1;
  beyond = unnamed_none (records_of c.args.tape.now);
})

pub returns-then-mark_cells : goal.returns-then-mark_cells
returns-then-mark_cells c =
    let l = c.loop-n.invariant in
    let s = c.in-Some.ensures.steps in
    let m = c.mark_cells.ensures.met c.if-mark_cells.true _ (sym c.if-not-whole.ensures) c.cells_named-c.ensures in
    rw s.1 (searched _ _ _ _ _ _ (omega arith) l.marks l.beyond (inr (stop_again _ _ _ _ _ _ _ l.passed s.0.0 l.marks m)))

pub loop-n-preserved : goal.loop-n-preserved
loop-n-preserved c =
    let l = c.loop-n.invariant in
    let s = c.in-Some.ensures.steps in
    let w = sym c.if-not-whole.ensures in
    let d = c.cells_named-c.ensures in
    let m = c.mark_cells.ensures in
    rw s.2 record {
      can_next = search rules;
      is_finite = tt;
      words = m.size;
      most = omega arith;
      passed = passed_next _ _ _ _ _ l.passed s.0.0;
      marks = marks_next _ _ _ _ _ _ _ l.passed s.0.0 (m.passed c.if-mark_cells.false _ w d _ l.marks);
      beyond = unnamed_next _ _ _ _ _ _ _ _ l.passed s.0.0 w d (omega (arith, c.max-high.ensures), omega (arith, c.max-high.ensures)) l.beyond;
    }
