-- The table of letters that is searched, and the parts of a line as they are read from its front. Assumes nothing.
use Rattle.std.specs.Prelude.{ℕ, zero, suc, ◌+◌, ◌-◌, Bool, true, false, cond, ◌&&◌, slice_index, List, [], ◌∷◌, drop, ltb, eqb, Option, Some, None}
use Rattle.std.specs.Borrow.{Bor}
use Rattle.assembler.specs.declared.Head.{Head}
use Rattle.definition_assembler.specs.Letters.{ascii, first_letter, second_letter}
use Rattle.definition_assembler.specs.Head.{byte, code_of, register_good, index_good, index_of, past_index, register_place, is_indirect, index_place, address_place, head_good}

-- the letters of n codes from i on
unfoldable pub letters_from : ℕ → ℕ → List (List ℕ)
letters_from zero i = []
letters_from (suc n) i = (first_letter i ∷ second_letter i ∷ []) ∷ letters_from n (i + 1)

unfoldable pub letter_table : List (List ℕ)
letter_table = letters_from 58 0

abbrev pub has_letters : ℕ → ℕ → List ℕ → Bool
has_letters a b l = eqb (slice_index l 0) a && eqb (slice_index l 1) b

-- a code of two letters, if it is one
abbrev pub assigned : ℕ → Option ℕ
assigned n = cond (ltb n 58) (Some n) None

-- ---- the parts, and the text after each
abbrev pub mark : Bool × Bor (List ℕ) → Bool × List ℕ
mark p = (p.0, p.1.now)

abbrev pub mark_of : ℕ → List ℕ → Bool × List ℕ
mark_of b [] = (false, [])
mark_of b (c ∷ r) = cond (eqb c b) (true, r) (false, c ∷ r)

abbrev pub register_of : List ℕ → Option (ℕ × List ℕ)
register_of t = cond (register_good t 0) (Some (byte t 2 - ascii "0", drop 4 t)) None

abbrev pub index_from : List ℕ → Option (ℕ × List ℕ)
index_from t = cond (index_good t 0) (Some (index_of t 0, drop (past_index t 0) t)) None

abbrev pub head_fields : List ℕ → Head
head_fields t =
    record {
      code = code_of (byte t 0) (byte t 1);
      w = byte t (register_place t + 2) - ascii "0";
      relative = eqb (byte t 2) (ascii ".");
      indirect = is_indirect t;
      x = index_of t (index_place t);
    }

abbrev pub head_of : List ℕ → Option (Head × List ℕ)
head_of t = cond (head_good t) (Some (head_fields t, drop (address_place t) t)) None
