use Rattle.std.proofs.Common.{arith, ◌∙◌}
use borrow.Author.Tests.{lt-leb, le-leb}
use Rattle.std.proofs.lemmas.Result.{err_from_is_err_and}
use Rattle.definition_tape.proofs.Records.{length_payload}
use Rattle.tape_judge.proofs.Steps.{judge_known}
use Rattle.tape_judge.proofs.judge_record.Goals as goal

pub returns-then-not-in_order : goal.returns-then-not-in_order
returns-then-not-in_order c = rw (judge_known _ _ _ _ _ (c.in_ok-kind.ensures ∙ c.record_kind.ensures), ← c.in_order.ensures, c.if-not-in_order.true)

pub returns-then-not-length_fits : goal.returns-then-not-length_fits
returns-then-not-length_fits c =
    rw (judge_known _ _ _ _ _ (c.in_ok-kind.ensures ∙ c.record_kind.ensures), ← c.in_order.ensures, c.if-not-in_order.false, ← c.record_length-l.ensures.value, ← c.length_fits.ensures, c.if-not-length_fits.true)

pub returns-then-l-t : goal.returns-then-l-t
returns-then-l-t c =
    rw (judge_known _ _ _ _ _ (c.in_ok-kind.ensures ∙ c.record_kind.ensures), ← c.in_order.ensures, c.if-not-in_order.false, ← c.record_length-l.ensures.value, ← c.length_fits.ensures, c.if-not-length_fits.false, lt-leb _ _ c.if-l-t.true)

pub judge_payload-requires : goal.judge_payload-requires
judge_payload-requires c =
    rw (c.payload.ensures, length_payload c.args.t.now (omega (arith, c.record_length-l.ensures.value)), ← c.record_length-l.ensures.value, ← c.length_fits.ensures) c.if-not-length_fits.false

pub returns-in_err-judge_payload : goal.returns-in_err-judge_payload
returns-in_err-judge_payload c =
    let p = err_from_is_err_and c.from_residual-in_err-judge_payload.result c.from_residual-in_err-judge_payload.ensures.1 in
    rw (p.1, p.2, judge_known _ _ _ _ _ (c.in_ok-kind.ensures ∙ c.record_kind.ensures), ← c.in_order.ensures, c.if-not-in_order.false, ← c.record_length-l.ensures.value, ← c.length_fits.ensures, c.if-not-length_fits.false, le-leb _ _ c.if-l-t.false, ← c.payload.ensures, ← c.judge_payload.ensures, c.in_err-judge_payload.was)

pub returns : goal.returns
returns c = (c.in_ok-kind.ensures ∙ c.record_kind.ensures, rw (judge_known _ _ _ _ _ (c.in_ok-kind.ensures ∙ c.record_kind.ensures), ← c.in_order.ensures, c.if-not-in_order.false, ← c.record_length-l.ensures.value, ← c.length_fits.ensures, c.if-not-length_fits.false, le-leb _ _ c.if-l-t.false, ← c.payload.ensures, ← c.judge_payload.ensures, c.in_ok-judge_payload.was))
