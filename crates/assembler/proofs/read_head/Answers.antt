use Rattle.assembler.proofs.Parts.{rest_is}
use Rattle.assembler.proofs.Lines.{head_short, head_no_code, head_no_register, head_no_index, head_read}
use Rattle.assembler.proofs.read_head.Goals as goal

pub returns-in_default : goal.returns-in_default
returns-in_default c = head_short c.args.text.now c.in_default.len_below

pub returns-in_err-code : goal.returns-in_err-code
returns-in_err-code c = rw c.from_residual.ensures (head_no_code c.args.text.now _ (rest_is 2 c.args.text.now) c.in_err-code.ensures)

pub returns-in_err-w : goal.returns-in_err-w
returns-in_err-w c = rw c.from_residual-in_err-w.ensures (head_no_register c.args.text.now _ (rest_is 2 c.args.text.now) _ c.in_ok-code.ensures _ c.past_byte-relative.ensures c.in_err-w.ensures)

pub returns-in_err-x : goal.returns-in_err-x
returns-in_err-x c = rw c.from_residual-in_err-x.ensures (head_no_index c.args.text.now _ (rest_is 2 c.args.text.now) _ c.in_ok-code.ensures _ c.past_byte-relative.ensures _ _ c.in_ok-w.ensures _ c.past_byte-indirect.ensures c.in_err-x.ensures)

pub returns : goal.returns
returns c = head_read c.args.text.now _ (rest_is 2 c.args.text.now) _ c.in_ok-code.ensures _ c.past_byte-relative.ensures _ _ c.in_ok-w.ensures _ c.past_byte-indirect.ensures _ _ c.in_ok-x.ensures
