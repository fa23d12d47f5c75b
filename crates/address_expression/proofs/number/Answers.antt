use Rattle.std.proofs.Common.{arith, ap, ◌∙◌}
use Rattle.std.proofs.lemmas.Int.{ints}
use Rattle.address_expression.specs.Values.{kept}
use Rattle.address_expression.proofs.Digits.{no_digit, no_number, counted_more, counted_all}
use Rattle.address_expression.proofs.number.Goals as goal
use Rattle.address_expression.proofs.number.Goals.{in_default-via-then-text-lt1, in_default-via-else-text-lt1+then-text-lt48, in_default-via-else-text-lt1+else-text-lt48+else-text-lt58, in_default-rest, in_default-rest-2, in_default-rest-3}

pub returns-in_default : goal.returns-in_default
returns-in_default c =
    no_number c.args.text.now
    (elim c.in_default.branch [
      | in_default-via-then-text-lt1 w ↦ no_digit c.args.text.now (λ z l u. grind arith)
      | in_default-via-else-text-lt1+then-text-lt48 w ↦ no_digit c.args.text.now (λ z l u. grind arith)
      | in_default-via-else-text-lt1+else-text-lt48+else-text-lt58 w ↦ no_digit c.args.text.now (λ z l u. grind arith)
    ])

pub loop-rest-preserved : goal.loop-rest-preserved
loop-rest-preserved c = counted_more _ _ _ _ (omega arith) (omega arith) (omega arith) c.with_digit-n.ensures c.loop-rest.invariant

pub returns : goal.returns
returns c =
    counted_all _ _ _ _ (omega arith) (omega arith) (omega arith)
    (elim c.if-rest-lt1.branch [
      | in_default-rest w ↦ no_digit c.loop-rest.rest.now (λ z l u. omega arith)
      | in_default-rest-2 w ↦ no_digit c.loop-rest.rest.now (λ z l u. omega arith)
      | in_default-rest-3 w ↦ no_digit c.loop-rest.rest.now (λ z l u. omega arith)
    ])
    c.loop-rest.invariant (c.in_range-number.ensures ∙ ap kept (omega (arith, ints, c.from.ensures)))
