-- What the code keeps of an address while it is read: the value, if every value within it is in range, and the depth. A value out of range is not
-- kept, and a depth over 17 is kept as 17, so one pass through the text gives all the verdicts. Assumes nothing.
use Rattle.std.specs.Prelude.{ℕ, suc, ◌+◌, ◌*◌, ◌-◌, max, cond, List, [], ◌∷◌, ltb, eqb, drop, ℤ, pos, ◌+ℤ◌, ◌-ℤ◌, ◌*ℤ◌, Option, Some, None, is_some}
use Rattle.std.specs.Borrow.{Bor}
use Rattle.std.specs.Option.{unwrap_or}
use Rattle.address_expression.specs.declared.Value.{Value}
use Rattle.address_expression.specs.declared.Operator.{Operator}
use Rattle.address_expression.specs.declared.Operator.TheVariants.{Plus, Minus, Times}
use Rattle.definition_assembler.specs.Answers.{Address}
use Rattle.definition_assembler.specs.Letters.{ascii}
use Rattle.definition_assembler.specs.Grammar.{in_range}
use Rattle.definition_assembler.specs.Line.{Evaluated, address_of}
use Rattle.definition_assembler.specs.Reader as Reader
use Rattle.definition_assembler.specs.Reader.{Actions, Left, Parsed, failed, parsed}
use Rattle.definition_assembler.specs.Assembling.{decimal_bytes}

-- z, if it is in range
abbrev pub kept : ℤ → Option ℤ
kept z = cond (in_range z) (Some z) None

-- what an operator gives for two values in range
abbrev pub kept_of : (ℤ → ℤ → ℤ) → Option ℤ → Option ℤ → Option ℤ
kept_of op None y = None
kept_of op (Some x) None = None
kept_of op (Some x) (Some y) = kept (op x y)

abbrev pub deeper : ℕ → ℕ
deeper d = cond (ltb d 17) (suc d) d

-- one digit more; a number out of range is left as it is
abbrev pub with_digit : ℕ → ℕ → ℕ
with_digit n b = cond (ltb n 8388608) (10 * n + (b - ascii "0")) n

-- ---- semantic actions
abbrev pub result_of : (ℤ → ℤ → ℤ) → Value → Value → Value
result_of op x y = record { number = kept_of op x.number y.number; depth = max x.depth y.depth }

abbrev pub group_of : Value → Value
group_of x = record { number = x.number; depth = deeper x.depth }

abbrev pub number_of : List ℕ → Value
number_of bs = record { number = kept (pos (decimal_bytes 0 bs)); depth = 0 }

abbrev pub values : Actions Value
values = record { of_number = λ b bs. number_of (b ∷ bs); of_group = group_of; of_plus = result_of ◌+ℤ◌; of_minus = result_of ◌-ℤ◌; of_times = result_of ◌*ℤ◌ }

-- ---- the code's types
abbrev pub operation : Operator → ℤ → ℤ → ℤ
operation Plus = ◌+ℤ◌
operation Minus = ◌-ℤ◌
operation Times = ◌*ℤ◌

abbrev pub left_of : Operator → Value → Left Value
left_of Plus x = Reader.Plus x
left_of Minus x = Reader.Minus x
left_of Times x = Reader.Times x

-- the operator of a sum in front of a text, and the text after it
abbrev pub operator_of : List ℕ → Option (Operator × List ℕ)
operator_of [] = None
operator_of (b ∷ r) = cond (eqb b (ascii "+")) (Some (Plus, r)) (cond (eqb b (ascii "-")) (Some (Minus, r)) None)

-- what was read, and the text after it
abbrev pub reading_of : {A : Type 0} → List ℕ → Parsed A → Option (A × List ℕ)
reading_of t failed = None
reading_of t (parsed x n) = Some (x, drop n t)

abbrev pub reading : {A : Type 0} → Option (A × Bor (List ℕ)) → Option (A × List ℕ)
reading None = None
reading (Some p) = Some (p.0, p.1.now)

-- what a value stands for
abbrev pub evaluated_of : Value → Evaluated
evaluated_of x = record { value = unwrap_or x.number (pos 0); fits = is_some x.number; depth = x.depth }

abbrev pub found_of : List ℕ → Parsed Evaluated → Option (Address × List ℕ)
found_of t failed = None
found_of t (parsed e n) = Some (address_of e, drop n t)
