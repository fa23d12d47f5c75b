-- Where the lines of a listing end, and the lines. Assumes nothing.
use Rattle.std.specs.Prelude.{ℕ, ◌+◌, cond, List, [], ◌∷◌, drop, eqb}
use Rattle.std.specs.Borrow.{Bor}

-- how many bytes stand before the first newline, all where there is none
unfoldable pub to_newline : List ℕ → ℕ
to_newline [] = 0
to_newline (b ∷ bs) = cond (eqb b 10) 0 (1 + to_newline bs)

unfoldable pub line_end : List ℕ → ℕ → ℕ
line_end t start = start + to_newline (drop start t)

-- a byte in front of the first line
abbrev pub longer : ℕ → List (List ℕ) → List (List ℕ)
longer b [] = (b ∷ []) ∷ []
longer b (l ∷ ls) = (b ∷ l) ∷ ls

-- the bytes between the newlines; a final newline opens no further line
unfoldable pub lines : List ℕ → List (List ℕ)
lines [] = []
lines (b ∷ bs) = cond (eqb b 10) ([] ∷ lines bs) (longer b (lines bs))

abbrev pub bytes : Bor (List ℕ) → List ℕ
bytes l = l.now
