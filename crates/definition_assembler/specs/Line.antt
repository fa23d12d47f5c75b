-- The grammar of a line: its parts, the bytes that it is written with, the instruction that it stands for. No reader is named here.
--   line = mnemonic ["."] " W" (0 to 3) " " ( operand | "[" operand "]" )
--   operand = [ "X" (1 to 3) "," ] sum
-- Assumes nothing.
use Rattle.std.specs.Prelude.{ℕ, zero, suc, ◌+◌, ◌*◌, ◌-◌, ◌<◌, Bool, true, false, cond, ◌&&◌, List, [], ◌∷◌, ◌++◌, ltb, ℤ, pos, negsuc}
use Rattle.machine.specs.declared.Instruction.{Instruction}
use Rattle.machine.specs.declared.Refusal.TheVariants.{LineDepth, LineValue}
use Rattle.definition_assembler.specs.Answers.{Address, AddressRefused, Displacement, Assembled, Refused, Word}
use Rattle.definition_assembler.specs.Letters.{ascii, first_letter, second_letter}
use Rattle.definition_assembler.specs.Grammar.{Sum, sum_bytes, sum_value, sum_in_range, sum_depth}

pub record Line : Type 0 where
  pub code : ℕ  -- of the mnemonic
  pub assigned : code < 58
  pub relative : Bool
  pub w : ℕ
  pub register : w < 4
  pub indirect : Bool
  pub x : ℕ  -- 0: not indexed
  pub index : x < 4
  pub address : Sum

-- ---- the bytes
abbrev pub when : Bool → ℕ → List ℕ
when true b = b ∷ []
when false b = []

abbrev pub index_bytes : ℕ → List ℕ
index_bytes zero = []
index_bytes (suc n) = ascii "X" ∷ (ascii "0" + suc n) ∷ ascii "," ∷ []

unfoldable pub line_bytes : Line → List ℕ
line_bytes l =
    first_letter l.code ∷ second_letter l.code
    ∷ (when l.relative (ascii ".")
    ++ (ascii " " ∷ ascii "W" ∷ (ascii "0" + l.w) ∷ ascii " "
    ∷ (when l.indirect (ascii "[") ++ (index_bytes l.x ++ (sum_bytes l.address ++ when l.indirect (ascii "]"))))))

-- ---- the displacement
-- what an address comes to: its value, whether every value in it is in range, its depth
pub record Evaluated : Type 0 where
  pub value : ℤ
  pub fits : Bool
  pub depth : ℕ

unfoldable pub tree_evaluated : Sum → Evaluated
tree_evaluated s = record { value = sum_value s; fits = sum_in_range s; depth = sum_depth s }

-- the last value, between -2048 and 2047
unfoldable pub last_in_range : ℤ → Bool
last_in_range (pos n) = ltb n 2048
last_in_range (negsuc n) = ltb n 2048

-- D mod 4096, for a last value in range
unfoldable pub displacement : ℤ → ℕ
displacement (pos n) = n
displacement (negsuc n) = 4095 - n

-- 20 before 21
unfoldable pub address_of : Evaluated → Address
address_of e =
    cond (ltb 16 e.depth) (AddressRefused LineDepth)
    (cond (e.fits && last_in_range e.value) (Displacement (displacement e.value)) (AddressRefused LineValue))

-- ---- the word (3.4): the operation, W, M, X, D
unfoldable pub word_of : Instruction → ℕ
word_of i = i.code * 262144 + i.w * 65536 + i.m * 16384 + i.x * 4096 + i.d

-- M: FR(8) relative, FR(9) indirect
abbrev pub fields : ℕ → ℕ → Bool → Bool → ℕ → ℕ → Instruction
fields code w relative indirect x d = record { code = code; w = w; m = cond relative 2 0 + cond indirect 1 0; x = x; d = d }

unfoldable pub answer_with : ℕ → ℕ → Bool → Bool → ℕ → Address → Assembled
answer_with code w relative indirect x (AddressRefused q) = Refused q
answer_with code w relative indirect x (Displacement d) = Word (word_of (fields code w relative indirect x d))

-- what a line stands for: its word, or its refusal
unfoldable pub line_answer : Line → Assembled
line_answer l = answer_with l.code l.w l.relative l.indirect l.x (address_of (tree_evaluated l.address))
