use Rattle.std.proofs.lemmas.Result.{err_from_is_err_and}
use Rattle.std.proofs.Common.{arith, ap, sym}
use Rattle.definition_tape.specs.Remark.{Span}
use Rattle.definition_tape.proofs.Remarks.{remark_part, reading_none, reading_some}
use Rattle.tape_remark.proofs.remark.Goals as goal

pub slice_bounds-result-count : goal.slice_bounds-result-count
slice_bounds-result-count c =
    let p = remark_part c.args.tape.now c.args.cells in
    let s = rw c.in-Some.is at c.in_ok-span.ensures in
    omega (arith, p.start, ap (λ (x : Span). x.start) s, ap (λ (x : Span). x.end) s)

pub slice_bounds-result-start : goal.slice_bounds-result-start
slice_bounds-result-start c =
    let p = remark_part c.args.tape.now c.args.cells in
    let s = rw c.in-Some.is at c.in_ok-span.ensures in
    omega (arith, p.start, p.end, ap (λ (x : Span). x.start) s, ap (λ (x : Span). x.end) s)

pub slice_bounds-result-end : goal.slice_bounds-result-end
slice_bounds-result-end c =
    let p = remark_part c.args.tape.now c.args.cells in
    let s = rw c.in-Some.is at c.in_ok-span.ensures in
    omega (arith, p.start, p.end, ap (λ (x : Span). x.start) s, ap (λ (x : Span). x.end) s)

pub returns-in-Some-clause-place : goal.returns-in-Some-clause-place
returns-in-Some-clause-place c =
    let p = remark_part c.args.tape.now c.args.cells in
    let s = rw c.in-Some.is at c.in_ok-span.ensures in
    let a = ap (λ (x : Span). x.start) s in
    let e = ap (λ (x : Span). x.end) s in
    (rw (a, e) p.text, rw a, sym (ap (λ (x : Span). x.found) s))

pub returns-in-Some-clause-reading : goal.returns-in-Some-clause-reading
returns-in-Some-clause-reading c =
    let p = remark_part c.args.tape.now c.args.cells in
    let s = rw c.in-Some.is at c.in_ok-span.ensures in
    let a = ap (λ (x : Span). x.start) s in
    let e = ap (λ (x : Span). x.end) s in
    sym (reading_some _ _ _ _ _ (sym s) (rw (a, e) p.text))

pub returns-in-None-clause-reading : goal.returns-in-None-clause-reading
returns-in-None-clause-reading c = let s = rw c.in-None.is at c.in_ok-span.ensures in sym (reading_none _ _ _ (sym s))

pub returns-in_err-span-clause-reading : goal.returns-in_err-span-clause-reading
returns-in_err-span-clause-reading c =
    let p = err_from_is_err_and c.from_residual.result c.from_residual.ensures.1 in
    rw (p.1, p.2) (sym (reading_none _ _ _ (sym c.in_err-span.ensures)))
