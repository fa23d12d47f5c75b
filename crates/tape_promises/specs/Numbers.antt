-- The number of a tape's refusal (document 01, "Who can be refused, for what"; document 02, E4 and E6), apart from the judge.
-- Assumes nothing.
use Rattle.std.specs.Prelude.{ℕ, ◌+◌, ◌%◌, ◌≤◌, ◌<◌, ◌≡◌, Bool, true, false, List, [], ◌∷◌, ◌⊎◌, length, eqb}
use Rattle.acceptance.specs.Accept.{cells_fit}
use Rattle.definition_tape.specs.Layout.{length_of, kind_of, payload_of, rest_of, first_cell, cell_count, block_cells, timer_of, NamesCell}
use Rattle.tape_promises.specs.Grammar.{RegistersPayload, TimerRules}

-- a test in a row of tests: k is its number where its condition is met, else what the tests after it say
pub data Test (number : ℕ) (Condition : Type 0) (Others : ℕ → Type 0) (k : ℕ) : Type 0 where
  met : Condition → k ≡ number → Test number Condition Others k
  unmet : (Condition → ⊥) → Others k → Test number Condition Others k

-- no number: every test is passed
abbrev pub Passed : ℕ → Type 0
Passed k = ⊥

-- not the end after the control record, or an end with no control record
abbrev pub OutOfOrder : Bool → ℕ → Type 0
OutOfOrder true kind = kind ≡ 3 → ⊥
OutOfOrder false kind = kind ≡ 3

pub record LengthFor (kind l : ℕ) : Type 0 where
  pub block : kind ≡ 1 → (l % 4 ≡ 0) × (8 ≤ l)
  pub control : kind ≡ 2 → (l ≡ 20) ⊎ (l ≡ 33)
  pub end : kind ≡ 3 → l ≡ 0
  pub remark : kind ≡ 4 → l ≤ 255

-- one of the records names the cell i
unfoldable pub SomeNames : List (List ℕ) → ℕ → Type 0
SomeNames [] i = ⊥
SomeNames (t ∷ ts) i = NamesCell t i ⊎ SomeNames ts i

-- the record t names a cell that an earlier one names
pub record NamesAgain (earlier : List (List ℕ)) (t : List ℕ) : Type 0 where
  pub cell : ℕ
  pub here : NamesCell t cell
  pub before : SomeNames earlier cell

-- the tests of one record, which stands at the start of t; `after`: the record before it was the control record; `earlier`: the records before it
abbrev pub RecordRefused : ℕ → Bool → List (List ℕ) → List ℕ → ℕ → Type 0
RecordRefused n after earlier t =
    Test 6 (length t < 6)
    (Test 7 ((kind_of t < 1) ⊎ (4 < kind_of t))
    (Test 11 (OutOfOrder after (kind_of t))
    (Test 8 (LengthFor (kind_of t) (length_of t) → ⊥)
    (Test 6 (length t < 6 + length_of t)
    (Test 9 ((kind_of t ≡ 1) × (n < first_cell (payload_of t) + cell_count (payload_of t)))
    (Test 17 (NamesAgain earlier t)
    (Test 10 ((kind_of t ≡ 1) × (cells_fit (block_cells (payload_of t)) ≡ false))
    (Test 3 ((kind_of t ≡ 2) × (RegistersPayload (payload_of t) → ⊥))
    (Test 18 ((kind_of t ≡ 2) × (TimerRules (timer_of (payload_of t)) → ⊥))
    (Test 11 ((kind_of t ≡ 3) × (6 + length_of t < length t)) Passed))))))))))

-- record by record from the left: good ones, none of them the end, then one that is refused
pub data RecordsRefused (n : ℕ) : Bool → List (List ℕ) → List ℕ → ℕ → Type 0 where
  this_one : {after : Bool} {earlier : List (List ℕ)} {t : List ℕ} {k : ℕ} → RecordRefused n after earlier t k → RecordsRefused n after earlier t k
  later_one : {after : Bool} {earlier : List (List ℕ)} {t : List ℕ} {k : ℕ} → ((j : ℕ) → RecordRefused n after earlier t j → ⊥) → (kind_of t ≡ 3 → ⊥)
      → RecordsRefused n (eqb (kind_of t) 2) (t ∷ earlier) (rest_of t) k → RecordsRefused n after earlier t k

-- 12 (over 65,536 bytes) first
abbrev pub TapeRefused : ℕ → List ℕ → ℕ → Type 0
TapeRefused n t = Test 12 (65536 < length t) (RecordsRefused n false [] t)

-- fewer than 8 or more than 8,388,608 cells
abbrev pub SizeRefused : ℕ → Type 0
SizeRefused n = (n < 8) ⊎ (8388608 < n)

-- loading and overlaying test 1 and 2, then the tape
abbrev pub LoadRefused : List ℕ → List ℕ → ℕ → Type 0
LoadRefused s t = Test 1 (SizeRefused (length s)) (Test 2 (cells_fit s ≡ false) (TapeRefused (length s) t))

-- the reader of the first remark has a number of cells only
abbrev pub ReadingRefused : ℕ → List ℕ → ℕ → Type 0
ReadingRefused n t = Test 1 (SizeRefused n) (TapeRefused n t)
