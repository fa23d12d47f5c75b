use mathlib.Core.Path.{sym}
use Rattle.multiply.proofs.Product.{steps_product}
use Rattle.multiply.proofs.Signed.{times_fits, sum_fits, sum_read, product_below}
use Rattle.multiply.proofs.multiply.Goals as goal

pub overflow_mul-x : goal.overflow_mul-x
overflow_mul-x c = let a = c.args in rw (c.signed_number-x.ensures, c.signed_number-y.ensures) (times_fits a.w a.s)

pub overflow_add-x : goal.overflow_add-x
overflow_add-x c = let a = c.args in rw (c.signed_number-x.ensures, c.signed_number-y.ensures) (sum_fits a.w a.s)

pub overflow_cast-x : goal.overflow_cast-x
overflow_cast-x c = let a = c.args in
    rw (c.signed_number-x.ensures, c.signed_number-y.ensures, sum_read a.w a.s) (tt, product_below a.w a.s)

pub returns-clause-value : goal.returns-clause-value
returns-clause-value c = rw (c.last_48_bits.ensures, c.signed_number-x.ensures, c.signed_number-y.ensures, sum_read c.args.w c.args.s)
    (sym (steps_product c.args.w c.args.s c.requires.0 c.requires.1))
