use Rattle.std.proofs.Common.{arith, sym, inl, ◌∙◌}
use Rattle.std.proofs.lemmas.Result.{err_from_is_err_and}
use Rattle.tape_records.proofs.Rows.{header}
use Rattle.tape_overlap.proofs.Names.{records_count}
use Rattle.tape_judge.proofs.Steps.{judging_start, judging_end, judged_refused, judged_end, judged_on, told, records_left, neither}
use Rattle.tape_judge.proofs.judge_records.Goals as goal

pub loop-n-init : goal.loop-n-init
loop-n-init c = rw c.into_iter-n-iterator.ensures.into_iter_gives (rw (c.enumerate-n-items.ensures.source, c.enumerate-n-items.ensures.count, c.of.ensures) record {
  can_next = (tt, tt, inl (omega (arith, records_count c.args.tape.now)));
  is_finite = tt;
  judging = judging_start _ _ _;
})

pub judge_record-requires : goal.judge_record-requires
judge_record-requires c = header _ _ _ c.in-Some.ensures.steps.0

pub returns-in_err-judge_record : goal.returns-in_err-judge_record
returns-in_err-judge_record c =
    let p = err_from_is_err_and c.from_residual.result c.from_residual.ensures.1 in
    let j = c.loop-n.invariant.judging in
    let s = c.in-Some.ensures.steps in
    let q = told _ _ _ _ _ _ _ _ j.passed s.0 s.1 c.ne.ensures in
    rw (p.1, p.2) (judged_refused _ _ _ _ _ _ _ _ _ c.first_again-first.ensures.first j s.0 q _ c.in_err-judge_record.ensures)

pub judge_end-requires : goal.judge_end-requires
judge_end-requires c = header _ _ _ c.in-Some.ensures.steps.0

pub returns-in-End : goal.returns-in-End
returns-in-End c =
    let j = c.loop-n.invariant.judging in
    let s = c.in-Some.ensures.steps in
    let q = told _ _ _ _ _ _ _ _ j.passed s.0 s.1 c.ne.ensures in
    let k = rw c.in-End.is at c.in_ok-judge_record.ensures.0 in
    c.judge_end.ensures ∙ judged_end _ _ _ _ _ _ _ _ _ c.first_again-first.ensures.first j s.0 q c.in_ok-judge_record.ensures.1 (sym k)

pub loop-n-preserved-in-Control : goal.loop-n-preserved-in-Control
loop-n-preserved-in-Control c =
    let j = c.loop-n.invariant.judging in
    let s = c.in-Some.ensures.steps in
    let q = told _ _ _ _ _ _ _ _ j.passed s.0 s.1 c.ne.ensures in
    let k = rw c.in-Control.is at c.in_ok-judge_record.ensures.0 in
    let m = judged_on _ _ _ _ _ _ _ _ _ c.first_again-first.ensures.first j s.0 q _ c.in_ok-judge_record.ensures.1 (λ e. omega arith) (rw (← k)) in
    rw s.2 record {
      can_next = (tt, tt, inl (omega (arith, records_left _ _ _ _ _ j.passed s.0, records_count c.args.tape.now)));
      is_finite = tt;
      judging = m;
    }

pub loop-n-preserved : goal.loop-n-preserved
loop-n-preserved c =
    let j = c.loop-n.invariant.judging in
    let s = c.in-Some.ensures.steps in
    let q = told _ _ _ _ _ _ _ _ j.passed s.0 s.1 c.ne.ensures in
    let k = neither _ _ c.in_ok-judge_record.ensures.0 c.in-Block.is in
    let m = judged_on _ _ _ _ _ _ _ _ _ c.first_again-first.ensures.first j s.0 q _ c.in_ok-judge_record.ensures.1 k.0 k.1 in
    rw s.2 record {
      can_next = (tt, tt, inl (omega (arith, records_left _ _ _ _ _ j.passed s.0, records_count c.args.tape.now)));
      is_finite = tt;
      judging = m;
    }

pub returns : goal.returns
returns c = judging_end _ _ _ _ _ _ c.loop-n.invariant.judging c.in-None.ensures.steps.0.0
