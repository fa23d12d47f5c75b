use Rattle.std.proofs.Common.{arith}
use Rattle.std.proofs.lemmas.Bool.Decides.{nat_tests}
use Rattle.definition_assembler.specs.Line.{word_of}
use Rattle.assembler.proofs.word_of.Goals as goal

pub returns : goal.returns
unfolding word_of
returns c = grind (arith, nat_tests)
