use Rattle.std.proofs.Common.{arith}
use Rattle.assembler.proofs.Parts.{index_there, index_bad, index_none}
use Rattle.assembler.proofs.index.Goals as goal

pub returns-in-88 : goal.returns-in-88
returns-in-88 c = index_there c.args.text.now _ (omega arith) (omega arith) (omega arith) (omega arith) c.from.ensures

pub returns-in-88-2 : goal.returns-in-88-2
returns-in-88-2 c = index_bad c.args.text.now (grind arith) (λ l k u e. grind arith)

pub returns-in_default : goal.returns-in_default
returns-in_default c = index_none c.args.text.now (λ l e. grind arith)
