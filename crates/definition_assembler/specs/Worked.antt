-- Worked lines, by computation. Assumes nothing.
use Rattle.std.specs.Prelude.{ℕ, zero, suc, ◌+◌, ◌≡◌, refl, List, [], ◌∷◌}
use Prim.Native.Char.{code}
use Prim.Native.String.{String, char_at, len}
use Rattle.machine.specs.declared.Refusal.TheVariants.{LineGrammar, LineDepth, LineValue}
use Rattle.definition_instructions.specs.Codes.{codes, lookup}
use Rattle.definition_assembler.specs.Answers.{Refused, Word}
use Rattle.definition_assembler.specs.Letters.{letters, first_letter, second_letter}
use Rattle.definition_assembler.specs.Grammar.{in_range}
use Rattle.definition_assembler.specs.Line.{last_in_range, displacement, address_of, word_of, answer_with}
use Rattle.definition_assembler.specs.Reader.{digits, measure, parse_within, parse}
use Rattle.definition_assembler.specs.Head.{code_from, code_of, register_good, index_good, index_of, past_index, address_place, head_good}
use Rattle.definition_assembler.specs.Assembling.{decimal_bytes, numeral, ended, assembling}

-- n bytes of a text from place i on
unfoldable bytes_from : ℕ → ℕ → String → List ℕ
bytes_from zero i s = []
bytes_from (suc n) i s = code (char_at s i) ∷ bytes_from n (i + 1) s

unfoldable line : String → List ℕ
line s = bytes_from (len s) 0 s

-- all that a line is computed by
unfoldable opened : ℕ
unfolding bytes_from line codes lookup letters first_letter second_letter in_range last_in_range displacement address_of word_of answer_with digits measure parse_within parse code_from code_of register_good index_good index_of past_index address_place head_good decimal_bytes numeral ended assembling
opened = 0

-- ---- the parts of a line

plain : assembling (line "AL W0 5") ≡ Word 2883589
unfolding opened
plain = refl

relative : assembling (line "JL. W3 0-2") ≡ Word 3641342
unfolding opened
relative = refl

indexed : assembling (line "RL W1 X2,8") ≡ Word 5316616
unfolding opened
indexed = refl

indirect : assembling (line "WA W2 [100]") ≡ Word 1982564
unfolding opened
indirect = refl

all_parts : assembling (line "AL. W1 [X3,1-2049]") ≡ Word 3012608
unfolding opened
all_parts = refl

device : assembling (line "IO W1 X1,2047") ≡ Word 333823
unfolding opened
device = refl

last_code : assembling (line "SS W3 (0)") ≡ Word 15138816
unfolding opened
last_code = refl

-- ---- the address

left_first : assembling (line "AL W0 10-3-2") ≡ Word 2883589
unfolding opened
left_first = refl

product_first : assembling (line "AL W0 2+3*4") ≡ Word 2883598
unfolding opened
product_first = refl

grouped : assembling (line "AL W0 (2+3)*4") ≡ Word 2883604
unfolding opened
grouped = refl

group_last : assembling (line "AL W0 10-(3-2)") ≡ Word 2883593
unfolding opened
group_last = refl

leading_zeroes : assembling (line "AL W0 0000000007") ≡ Word 2883591
unfolding opened
leading_zeroes = refl

smallest : assembling (line "AL W0 0-8388607-1+8386560") ≡ Word 2885632
unfolding opened
smallest = refl

-- ---- 19

no_character : assembling (line "") ≡ Refused LineGrammar
unfolding opened
no_character = refl

no_mnemonic : assembling (line "ZZ W0 5") ≡ Refused LineGrammar
unfolding opened
no_mnemonic = refl

lower_case : assembling (line "al W0 5") ≡ Refused LineGrammar
unfolding opened
lower_case = refl

no_register : assembling (line "AL 5") ≡ Refused LineGrammar
unfolding opened
no_register = refl

register_4 : assembling (line "AL W4 5") ≡ Refused LineGrammar
unfolding opened
register_4 = refl

index_0 : assembling (line "AL W0 X0,5") ≡ Refused LineGrammar
unfolding opened
index_0 = refl

no_comma : assembling (line "AL W0 X15") ≡ Refused LineGrammar
unfolding opened
no_comma = refl

two_spaces : assembling (line "AL W0  5") ≡ Refused LineGrammar
unfolding opened
two_spaces = refl

sign_in_front : assembling (line "AL W0 -5") ≡ Refused LineGrammar
unfolding opened
sign_in_front = refl

sign_inside : assembling (line "AL W0 2*-1") ≡ Refused LineGrammar
unfolding opened
sign_inside = refl

empty_group : assembling (line "AL W0 ()") ≡ Refused LineGrammar
unfolding opened
empty_group = refl

not_closed : assembling (line "AL W0 (1") ≡ Refused LineGrammar
unfolding opened
not_closed = refl

bracket_not_closed : assembling (line "AL W0 [1") ≡ Refused LineGrammar
unfolding opened
bracket_not_closed = refl

bracket_not_opened : assembling (line "AL W0 1]") ≡ Refused LineGrammar
unfolding opened
bracket_not_opened = refl

rest : assembling (line "AL W0 1)") ≡ Refused LineGrammar
unfolding opened
rest = refl

no_operand : assembling (line "AL W0 1+") ≡ Refused LineGrammar
unfolding opened
no_operand = refl

space_at_the_end : assembling (line "AL W0 1 ") ≡ Refused LineGrammar
unfolding opened
space_at_the_end = refl

-- ---- 20: 17 deep, before a value out of range; 16 pass; a fault further on is 19

depth_16 : assembling (line "AL W0 ((((((((((((((((1))))))))))))))))") ≡ Word 2883585
unfolding opened
depth_16 = refl

depth_17 : assembling (line "AL W0 (((((((((((((((((9999999)))))))))))))))))") ≡ Refused LineDepth
unfolding opened
depth_17 = refl

depth_17_with_a_fault : assembling (line "AL W0 (((((((((((((((((1))))))))))))))))") ≡ Refused LineGrammar
unfolding opened
depth_17_with_a_fault = refl

depth_17_of_1 : assembling (line "AL W0 (((((((((((((((((1)))))))))))))))))") ≡ Refused LineDepth
unfolding opened
depth_17_of_1 = refl

depth_9_twice : assembling (line "AL W0 (((((((((1)))))))))+(((((((((1)))))))))") ≡ Word 2883586
unfolding opened
depth_9_twice = refl

depth_17_left : assembling (line "AL W0 (((((((((((((((((1)))))))))))))))))+1") ≡ Refused LineDepth
unfolding opened
depth_17_left = refl

depth_17_right : assembling (line "AL W0 1+(((((((((((((((((1)))))))))))))))))") ≡ Refused LineDepth
unfolding opened
depth_17_right = refl

depth_17_of_a_factor : assembling (line "AL W0 2*(((((((((((((((((1)))))))))))))))))") ≡ Refused LineDepth
unfolding opened
depth_17_of_a_factor = refl

brackets_not_counted : assembling (line "AL W0 [((((((((((((((((1))))))))))))))))]") ≡ Word 2899969
unfolding opened
brackets_not_counted = refl

-- ---- 21: a number, a partial result, a product, the last value

number_out : assembling (line "AL W0 8388608-8388608") ≡ Refused LineValue
unfolding opened
number_out = refl

number_in : assembling (line "AL W0 8388607-8388607") ≡ Word 2883584
unfolding opened
number_in = refl

sum_out : assembling (line "AL W0 0*(8388607+1)") ≡ Refused LineValue
unfolding opened
sum_out = refl

difference_out : assembling (line "AL W0 0-8388607-2+8388607") ≡ Refused LineValue
unfolding opened
difference_out = refl

product_out : assembling (line "AL W0 2*4194304-8388607-1") ≡ Refused LineValue
unfolding opened
product_out = refl

last_out : assembling (line "AL W0 2048") ≡ Refused LineValue
unfolding opened
last_out = refl

last_negative_out : assembling (line "AL W0 0-2049") ≡ Refused LineValue
unfolding opened
last_negative_out = refl

last_in : assembling (line "AL W0 2047") ≡ Word 2885631
unfolding opened
last_in = refl

product_out_of_three : assembling (line "AL W0 4194304*2*0") ≡ Refused LineValue
unfolding opened
product_out_of_three = refl

product_out_right : assembling (line "AL W0 0*(4194304*2)") ≡ Refused LineValue
unfolding opened
product_out_right = refl

operand_out_right : assembling (line "AL W0 0-(8388607+1)+8388607") ≡ Refused LineValue
unfolding opened
operand_out_right = refl

operand_out_left : assembling (line "AL W0 (8388607+1)-8388607") ≡ Refused LineValue
unfolding opened
operand_out_left = refl
