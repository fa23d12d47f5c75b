use Rattle.dispatch.proofs.Unassigned.{unassigned_code}
use Rattle.std.proofs.Common.{arith}
use Rattle.dispatch.proofs.execute_high.Goals as goal

pub returns-in_default-clause-value : goal.returns-in_default-clause-value
returns-in_default-clause-value c = λ h. unassigned_code _ _ _ _ _ h (omega arith)
