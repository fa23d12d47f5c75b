-- The answer of the assembler, for every line of bytes. Assumes nothing.
use Rattle.std.specs.Prelude.{ℕ, suc, ◌+◌, ◌*◌, ◌-◌, max, Bool, true, false, cond, ◌&&◌, List, [], ◌∷◌, length, ltb, eqb, ℤ, pos, ◌+ℤ◌, ◌-ℤ◌, ◌*ℤ◌}
use Rattle.machine.specs.declared.Refusal.TheVariants.{LineGrammar}
use Rattle.definition_assembler.specs.Answers.{Address, Assembled, Refused}
use Rattle.definition_assembler.specs.Letters.{ascii}
use Rattle.definition_assembler.specs.Grammar.{in_range}
use Rattle.definition_assembler.specs.Line.{Evaluated, address_of, answer_with}
use Rattle.definition_assembler.specs.Reader.{Actions, Nothing, sum_at, Parsed, failed, parsed, parse}
use Rattle.definition_assembler.specs.Head.{byte, code_of, register_place, is_indirect, index_place, index_of, address_place, head_good}

-- ---- evaluation as semantic actions
unfoldable pub decimal_bytes : ℕ → List ℕ → ℕ
decimal_bytes a [] = a
decimal_bytes a (b ∷ bs) = decimal_bytes (10 * a + (b - ascii "0")) bs

unfoldable pub numeral : List ℕ → Evaluated
numeral bs = let z = pos (decimal_bytes 0 bs) in record { value = z; fits = in_range z; depth = 0 }

abbrev pub grouped : Evaluated → Evaluated
grouped x = record { value = x.value; fits = x.fits; depth = suc x.depth }

-- z is what an operator gives for x and y
abbrev pub result : ℤ → Evaluated → Evaluated → Evaluated
result z x y = record { value = z; fits = x.fits && y.fits && in_range z; depth = max x.depth y.depth }

abbrev pub evaluation : Actions Evaluated
evaluation =
    record {
      of_number = λ b bs. numeral (b ∷ bs);
      of_group = grouped;
      of_plus = λ x y. result (x.value +ℤ y.value) x y;
      of_minus = λ x y. result (x.value -ℤ y.value) x y;
      of_times = λ x y. result (x.value *ℤ y.value) x y;
    }

-- ---- the line
-- the address ends at n: the closing bracket, if one was opened, and the end of the text
unfoldable pub ended : List ℕ → Bool → ℕ → Bool
ended t true n = eqb (byte t n) (ascii "]") && eqb (n + 1) (length t)
ended t false n = eqb n (length t)

-- the answer for the fields that stand before the address
abbrev pub head_answer : List ℕ → Address → Assembled
head_answer t a =
    answer_with (code_of (byte t 0) (byte t 1)) (byte t (register_place t + 2) - ascii "0") (eqb (byte t 2) (ascii ".")) (is_indirect t) (index_of t (index_place t)) a

abbrev pub parsed_answer : List ℕ → Parsed Evaluated → Assembled
parsed_answer t failed = Refused LineGrammar
parsed_answer t (parsed v n) = cond (ended t (is_indirect t) n) (head_answer t (address_of v)) (Refused LineGrammar)

unfoldable pub assembling : List ℕ → Assembled
assembling t =
    cond (ltb 255 (length t)) (Refused LineGrammar)
    (cond (head_good t) (parsed_answer t (parse evaluation t (sum_at (address_place t) Nothing))) (Refused LineGrammar))
