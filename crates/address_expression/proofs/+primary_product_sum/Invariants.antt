-- The measures of the cycle of calls {primary, product, sum}: the text left and the level, as one number.
use Rattle.std.proofs.Common.{◌≡◌, ◌+◌, ◌*◌, ◌<◌, length}
use Rattle.definition_assembler.specs.Reader.{Nothing, sum_at, product_at}
use Rattle.address_expression.proofs.Front.{read, sum_from, product_from}
use Rattle.address_expression.proofs.+primary_product_sum.Given as goal

abbrev pub decreases-primary : goal.decreases-primary
decreases-primary l = 3 * length l.text.now

abbrev pub decreases-product : goal.decreases-product
decreases-product l = 3 * length l.text.now + 1

abbrev pub decreases-sum : goal.decreases-sum
decreases-sum l = 3 * length l.text.now + 2

abbrev pub invariant-product-loop-rest : goal.invariant-product-loop-rest
invariant-product-loop-rest l = record { shorter : length l.rest < length l.fn.text; same : read l.fn.text (product_at 0 Nothing) ≡ product_from l.value l.rest }

abbrev pub decreases-product-loop-rest : goal.decreases-product-loop-rest
decreases-product-loop-rest l = length l.rest

abbrev pub invariant-sum-loop-operator : goal.invariant-sum-loop-operator
invariant-sum-loop-operator l = record { shorter : length l.rest < length l.fn.text; same : read l.fn.text (sum_at 0 Nothing) ≡ sum_from l.value l.rest }

abbrev pub decreases-sum-loop-operator : goal.decreases-sum-loop-operator
decreases-sum-loop-operator l = length l.rest
