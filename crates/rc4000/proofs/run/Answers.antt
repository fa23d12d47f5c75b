use mathlib.Core.Path.{sym, ◌∙◌}
use Rattle.rc4000.proofs.Laws.{fits_a_run, fits_unraised, run_accepted, run_unraised, run_rejected, with_promises}
use Rattle.std.proofs.Common.{rules}
use Rattle.rc4000.proofs.run.Goals as goal

pub run-requires : goal.run-requires
run-requires c = fits_unraised _ _ _ _ _ _ (sym c.in-Ok.is ∙ c.judge_run.ensures)

pub run_raised-requires : goal.run_raised-requires
run_raised-requires c = fits_a_run _ _ _ _ _ _ (sym c.in-Ok-2.is ∙ c.judge_run.ensures)

pub returns-in-Ok : goal.returns-in-Ok
returns-in-Ok c =
    let kept = with_promises _ _ _ _ _ _ _ _ (run_unraised _ _ _ _ _ _ _ _ c.if-lines-eq0.true (sym c.in-Ok.is ∙ c.judge_run.ensures) c.run.ensures) in
    record { exact = kept.0; isolated = kept.1.0; untouched = kept.1.1.0; counts = kept.1.1.1 }

pub returns-in-Ok-2 : goal.returns-in-Ok-2
returns-in-Ok-2 c =
    let kept = with_promises _ _ _ _ _ _ _ _ (run_accepted _ _ _ _ _ _ _ _ (sym c.in-Ok-2.is ∙ c.judge_run.ensures) c.run_raised.ensures) in
    record { exact = kept.0; isolated = kept.1.0; untouched = kept.1.1.0; counts = kept.1.1.1 }

pub returns-in-Err : goal.returns-in-Err
returns-in-Err c =
    let kept = with_promises _ _ _ _ _ _ _ _ (run_rejected _ _ _ _ _ _ _ _ (sym c.in-Err.is ∙ c.judge_run.ensures)) in
    record { exact = kept.0; isolated = kept.1.0; untouched = kept.1.1.0; counts = kept.1.1.1 }
