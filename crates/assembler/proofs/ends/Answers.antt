use Rattle.std.proofs.Common.{arith}
use Rattle.assembler.proofs.Parts.{ended_plain, ended_closed, ended_not}
use Rattle.assembler.proofs.ends.Goals as goal

pub returns-in-empty : goal.returns-in-empty
returns-in-empty c = ended_plain _ _ (omega arith)

pub returns-in-93 : goal.returns-in-93
returns-in-93 c = ended_closed c.args.text.now c.args.indirect (omega arith) (omega arith) (omega arith)

pub returns-in_default : goal.returns-in_default
returns-in_default c = ended_not c.args.text.now c.args.indirect (omega arith) (λ l e. grind arith)

pub returns-in_default-2 : goal.returns-in_default-2
returns-in_default-2 c = ended_not c.args.text.now c.args.indirect (omega arith) (λ l e. grind arith)
