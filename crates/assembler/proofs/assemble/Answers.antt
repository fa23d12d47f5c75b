use Rattle.std.proofs.Common.{sym, ap, ◌∙◌, arith}
use Rattle.std.proofs.lemmas.Result.{err_from_is_err_and}
use Rattle.address_expression.specs.Values.{reading}
use Rattle.assembler.proofs.Lines.{refusal_is, line_long, line_no_head, line_no_address, line_rest, line_refused, line_word, line_small}
use Rattle.assembler.proofs.assemble.Goals as goal

pub returns-then-text-gt-LONGEST : goal.returns-then-text-gt-LONGEST
returns-then-text-gt-LONGEST c = line_long c.args.text.now c.if-text-gt-LONGEST.true

pub returns-in_err-head : goal.returns-in_err-head
returns-in_err-head c =
    let p = err_from_is_err_and c.from_residual.result c.from_residual.ensures.1 in
    let h = ap reading (sym c.in_err-head.ensures.ok_part) ∙ c.read_head.ensures in
    rw (p.1, p.2) (refusal_is _ _ _ c.in_err-head.ensures.ok_part c.in_err-head.ensures.value ∙ line_no_head c.args.text.now c.if-text-gt-LONGEST.false h)

pub returns-in_err-address : goal.returns-in_err-address
returns-in_err-address c =
    let p = err_from_is_err_and c.from_residual-in_err-address.result c.from_residual-in_err-address.ensures.1 in
    let h = ap reading (sym c.in_ok-head.ensures.ok_part) ∙ c.read_head.ensures in
    let a = ap reading (sym c.in_err-address.ensures.ok_part) ∙ c.address.ensures in
    rw (p.1, p.2) (refusal_is _ _ _ c.in_err-address.ensures.ok_part c.in_err-address.ensures.value ∙ line_no_address c.args.text.now c.if-text-gt-LONGEST.false _ _ h a)

pub returns-then-not-ends : goal.returns-then-not-ends
returns-then-not-ends c =
    let h = ap reading (sym c.in_ok-head.ensures.ok_part) ∙ c.read_head.ensures in
    let a = ap reading (sym c.in_ok-address.ensures.ok_part) ∙ c.address.ensures in
    line_rest c.args.text.now c.if-text-gt-LONGEST.false _ _ h _ _ a _ c.ends.ensures (grind arith)

pub returns-in_err-address-2 : goal.returns-in_err-address-2
returns-in_err-address-2 c =
    let p = err_from_is_err_and c.from_residual-in_err-address-2.result c.from_residual-in_err-address-2.ensures.1 in
    let h = ap reading (sym c.in_ok-head.ensures.ok_part) ∙ c.read_head.ensures in
    let a = ap reading (sym c.in_ok-address.ensures.ok_part) ∙ c.address.ensures in
    rw (p.1, p.2) (line_refused c.args.text.now c.if-text-gt-LONGEST.false _ _ h _ _ a _ c.ends.ensures (grind arith) _ c.in_err-address-2.was)

pub word_of-requires : goal.word_of-requires
word_of-requires c =
    let h = ap reading (sym c.in_ok-head.ensures.ok_part) ∙ c.read_head.ensures in
    let a = ap reading (sym c.in_ok-address.ensures.ok_part) ∙ c.address.ensures in
    line_small c.args.text.now c.if-text-gt-LONGEST.false _ _ h _ _ _ c.in_ok-address-2.was a

pub returns : goal.returns
returns c =
    let h = ap reading (sym c.in_ok-head.ensures.ok_part) ∙ c.read_head.ensures in
    let a = ap reading (sym c.in_ok-address.ensures.ok_part) ∙ c.address.ensures in
    line_word c.args.text.now c.if-text-gt-LONGEST.false _ _ h _ _ a _ c.ends.ensures (grind arith) _ _ c.in_ok-address-2.was c.word_of.ensures
