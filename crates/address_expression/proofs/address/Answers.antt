use Rattle.std.proofs.Common.{Some, ap, ◌∙◌}
use Rattle.address_expression.proofs.Kept.{found, address_found}
use Rattle.address_expression.proofs.address.Goals as goal

pub returns-in_err-x : goal.returns-in_err-x
returns-in_err-x c = rw c.from_residual.ensures (ap found c.in_err-x.ensures ∙ address_found c.args.text.now)

pub returns : goal.returns
returns c = ap (λ a. Some (a, c.in_ok-x.rest.now)) c.judge.ensures ∙ ap found c.in_ok-x.ensures ∙ address_found c.args.text.now
