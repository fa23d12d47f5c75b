-- The proof of the cycle of calls {primary, product, sum}: each way out and each turn by its law of Front.
use Rattle.std.proofs.Common.{arith, sym, ◌∙◌}
use Rattle.definition_assembler.specs.Reader.{Nothing, Times, product_at, primary_at}
use Rattle.address_expression.proofs.Digits.{cut, not_first, tail_shorter}
use Rattle.address_expression.proofs.Front.{sum_none, sum_some, product_none, product_some, sum_goes, operator_shorter, product_times, sum_turn, product_turn, primary_number, group_none, group_closed, group_open, shorter}
use Rattle.address_expression.proofs.+primary_product_sum.Goals as goal
use Rattle.address_expression.proofs.+primary_product_sum.Goals.{primary-in_default-via-then-text-lt1, primary-in_default-via-else-text-lt1+in_default-1, primary-in_default-rest-via-then-rest-lt1, primary-in_default-rest-via-else-rest-lt1+in_default-1}

pub primary-returns-in_default : goal.primary-returns-in_default
primary-returns-in_default t c =
    c.number.ensures
    ∙ sym (primary_number c.args.text.now
    (elim c.in_default.branch [
      | primary-in_default-via-then-text-lt1 w ↦ not_first c.args.text.now 40 (omega arith) (λ z e. grind arith)
      | primary-in_default-via-else-text-lt1+in_default-1 w ↦ not_first c.args.text.now 40 (omega arith) (λ z e. grind arith)
    ]))

pub primary-returns-in_err-x : goal.primary-returns-in_err-x
primary-returns-in_err-x t c = rw c.from_residual.ensures (group_none _ _ (cut c.args.text.now 40 (omega arith) (omega arith)) c.in_err-x.ensures)

pub primary-returns-in-41 : goal.primary-returns-in-41
primary-returns-in-41 t c =
    group_closed _ _ (cut c.args.text.now 40 (omega arith) (omega arith)) _ _ _ _ (cut c.in_ok-x.rest.now 41 (omega arith) (omega arith)) c.in_ok-x.ensures c.enclose.ensures

pub primary-returns-in_default-rest : goal.primary-returns-in_default-rest
primary-returns-in_default-rest t c =
    group_open _ _ (cut c.args.text.now 40 (omega arith) (omega arith)) _ _ c.in_ok-x.ensures
    (elim c.in_default-rest.branch [
      | primary-in_default-rest-via-then-rest-lt1 w ↦ not_first c.in_ok-x.rest.now 41 (omega arith) (λ z e. grind arith)
      | primary-in_default-rest-via-else-rest-lt1+in_default-1 w ↦ not_first c.in_ok-x.rest.now 41 (omega arith) (λ z e. grind arith)
    ])

pub product-returns-in_err-value : goal.product-returns-in_err-value
product-returns-in_err-value t c = rw c.from_residual.ensures (sym (product_none c.args.text.now Nothing c.in_err-value.ensures))

pub product-loop-rest-init : goal.product-loop-rest-init
product-loop-rest-init t c = record {
  shorter = shorter c.args.text.now (primary_at 0) _ _ c.in_ok-value.ensures;
  same = product_some c.args.text.now Nothing _ _ c.in_ok-value.ensures;
}

pub product-returns-in_err-right : goal.product-returns-in_err-right
product-returns-in_err-right t c =
    let g = product_times c.loop-rest.value c.loop-rest.rest.now _ (cut c.loop-rest.rest.now 42 (omega arith) (omega arith)) in
    rw c.from_residual-in_err-right.ensures (sym (c.loop-rest.invariant.same ∙ g ∙ product_none _ (Times c.loop-rest.value) c.in_err-right.ensures))

pub product-loop-rest-preserved : goal.product-loop-rest-preserved
product-loop-rest-preserved t c =
    let g = product_times c.loop-rest.value c.loop-rest.rest.now _ (cut c.loop-rest.rest.now 42 (omega arith) (omega arith)) in
    let h = shorter _ (primary_at 0) _ _ c.in_ok-right.ensures in
    record {
      shorter = omega (arith, tail_shorter c.loop-rest.rest.now, c.loop-rest.invariant.shorter);
      same = product_turn c.args.text.now c.loop-rest.rest.now _ _ c.loop-rest.value _ _ (Times c.loop-rest.value) c.combine-value.ensures c.loop-rest.invariant.same g c.in_ok-right.ensures;
    }

pub sum-returns-in_err-value : goal.sum-returns-in_err-value
sum-returns-in_err-value t c = rw c.from_residual.ensures (sym (sum_none c.args.text.now Nothing c.in_err-value.ensures))

pub sum-loop-operator-init : goal.sum-loop-operator-init
sum-loop-operator-init t c = record {
  shorter = shorter c.args.text.now (product_at 0 Nothing) _ _ c.in_ok-value.ensures;
  same = sum_some c.args.text.now Nothing _ _ c.in_ok-value.ensures;
}

pub sum-returns-in_err-right : goal.sum-returns-in_err-right
sum-returns-in_err-right t c =
    let g = sum_goes c.loop-operator.value c.loop-operator.rest.now _ _ c.in-Some.ensures in
    rw c.from_residual-in_err-right.ensures (sym (c.loop-operator.invariant.same ∙ g ∙ sum_none _ _ c.in_err-right.ensures))

pub sum-loop-operator-preserved : goal.sum-loop-operator-preserved
sum-loop-operator-preserved t c =
    let g = sum_goes c.loop-operator.value c.loop-operator.rest.now _ _ c.in-Some.ensures in
    let h = shorter _ (product_at 0 Nothing) _ _ c.in_ok-right.ensures in
    record {
      shorter = omega (arith, operator_shorter c.loop-operator.rest.now c.in-Some.after.now c.in-Some.operator c.in-Some.ensures, c.loop-operator.invariant.shorter);
      same = sum_turn c.args.text.now c.loop-operator.rest.now _ _ c.loop-operator.value _ _ _ c.combine-value.ensures c.loop-operator.invariant.same g c.in_ok-right.ensures;
    }
