use Rattle.std.proofs.Common.{arith, length, ap}
use Rattle.definition_tape.proofs.Firsts.{suffix}
use Rattle.tape_remark.proofs.span_of.Goals as goal

pub overflow_sub-start : goal.overflow_sub-start
overflow_sub-start c = omega (arith, (suffix c.number.result c.args.tape.now).size, ap length c.in_ok-m.ensures.1)
