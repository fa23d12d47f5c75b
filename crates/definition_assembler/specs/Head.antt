-- The reader of what stands before the address, by places. Assumes nothing.
use Rattle.std.specs.Prelude.{ℕ, zero, suc, ◌+◌, ◌-◌, Bool, true, cond, ◌&&◌, List, get_or, leb, ltb, eqb}
use Rattle.definition_assembler.specs.Letters.{ascii, first_letter, second_letter}

-- the first of n codes from i on that has the letters a and b, i + n for none
unfoldable pub code_from : ℕ → ℕ → ℕ → ℕ → ℕ
code_from zero i a b = i
code_from (suc n) i a b = cond (eqb a (first_letter i) && eqb b (second_letter i)) i (code_from n (i + 1) a b)

-- the code of two letters, 58 for none
unfoldable pub code_of : ℕ → ℕ → ℕ
code_of a b = code_from 58 0 a b

abbrev pub byte : List ℕ → ℕ → ℕ
byte t n = get_or t n 0

-- the place after a byte that may stand there
abbrev pub past : List ℕ → ℕ → ℕ → ℕ
past t n b = cond (eqb (byte t n) b) (n + 1) n

abbrev pub is_register : ℕ → Bool
is_register b = leb (ascii "0") b && leb b (ascii "3")

-- " W", a register, a space
unfoldable pub register_good : List ℕ → ℕ → Bool
register_good t p = eqb (byte t p) (ascii " ") && eqb (byte t (p + 1)) (ascii "W") && is_register (byte t (p + 2)) && eqb (byte t (p + 3)) (ascii " ")

abbrev pub is_index : ℕ → Bool
is_index b = leb (ascii "1") b && leb b (ascii "3")

-- "X", an index, a comma; or no X
unfoldable pub index_good : List ℕ → ℕ → Bool
index_good t q = cond (eqb (byte t q) (ascii "X")) (is_index (byte t (q + 1)) && eqb (byte t (q + 2)) (ascii ",")) true

unfoldable pub index_of : List ℕ → ℕ → ℕ
index_of t q = cond (eqb (byte t q) (ascii "X")) (byte t (q + 1) - ascii "0") 0

unfoldable pub past_index : List ℕ → ℕ → ℕ
past_index t q = cond (eqb (byte t q) (ascii "X")) (q + 3) q

-- ---- the places of a line
abbrev pub register_place : List ℕ → ℕ  -- after the mnemonic, and a dot
register_place t = past t 2 (ascii ".")

abbrev pub is_indirect : List ℕ → Bool
is_indirect t = eqb (byte t (register_place t + 4)) (ascii "[")

abbrev pub index_place : List ℕ → ℕ  -- after the bracket, if it is there
index_place t = past t (register_place t + 4) (ascii "[")

unfoldable pub address_place : List ℕ → ℕ
address_place t = past_index t (index_place t)

unfoldable pub head_good : List ℕ → Bool
head_good t = ltb (code_of (byte t 0) (byte t 1)) 58 && register_good t (register_place t) && index_good t (index_place t)
