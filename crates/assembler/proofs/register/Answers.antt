use Rattle.std.proofs.Common.{arith}
use Rattle.assembler.proofs.Parts.{register_there, register_none}
use Rattle.assembler.proofs.register.Goals as goal

pub returns-in-32 : goal.returns-in-32
returns-in-32 c = register_there c.args.text.now _ (omega arith) (omega arith) (omega arith) (omega arith) (omega arith) c.from.ensures

pub returns-in_default : goal.returns-in_default
returns-in_default c = register_none c.args.text.now (λ l e₀ e₁ k u e₃. grind arith)
