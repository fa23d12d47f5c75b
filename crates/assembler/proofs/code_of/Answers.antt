use Rattle.std.proofs.Common.{◌∙◌}
use Rattle.definition_instructions.specs.Codes.{codes, lookup}
use Rattle.definition_assembler.specs.Letters.{letters, first_letter, second_letter}
use Rattle.assembler.specs.Steps.{letters_from, letter_table}
use Rattle.assembler.proofs.Parts.{code_found}
use Rattle.assembler.proofs.code_of.Goals as goal

pub returns-in_err-code : goal.returns-in_err-code
unfolding letter_table letters_from first_letter second_letter letters lookup codes
returns-in_err-code c = c.from_residual.ensures ∙ c.in_err-code.ensures ∙ code_found c.args.a c.args.b

pub returns : goal.returns
unfolding letter_table letters_from first_letter second_letter letters lookup codes
returns c = c.in_ok-code.ensures ∙ code_found c.args.a c.args.b
