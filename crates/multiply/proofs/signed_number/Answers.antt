use native.Mathlib.Omega.{arith}
use mathlib.Core.Path.{ap, ◌∙◌}
use Rattle.multiply.proofs.Signed.{number, less_fits, cast_fits, number_read}
use Rattle.multiply.proofs.signed_number.Goals as goal

pub overflow_sub-result : goal.overflow_sub-result
overflow_sub-result c = less_fits c.with_offset-u.result (omega arith)

pub overflow_cast-result-2 : goal.overflow_cast-result-2
overflow_cast-result-2 c = cast_fits c.with_offset-u.result (omega arith)

pub returns : goal.returns
returns c = number_read c.with_offset-u.result (omega arith) ∙ ap number c.with_offset-u.ensures
