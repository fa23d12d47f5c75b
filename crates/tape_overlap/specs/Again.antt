-- For the functions of this crate and the judge; no public contract rests on it. The first record of a tape that names a cell again.
-- Assumes nothing.
use Rattle.std.specs.Prelude.{ℕ, ◌+◌, ◌/◌, ◌%◌, ◌^◌, ◌≤◌, ◌<◌, ◌≡◌, Bool, true, false, cond, List, [], ◌⊎◌, length, take, get_or, set, eqb, ltb, leb}
use Rattle.definition_tape.specs.Layout.{length_of, kind_of, payload_of, first_cell, cell_count}
use Rattle.definition_tape.specs.Judge.{names, times_named}
use Rattle.tape_overlap.specs.declared.Cells.{Cells}
use Rattle.tape_overlap.specs.declared.Searched.{Searched}

-- ---- one record

-- header and payload are there
unfoldable pub is_whole : List ℕ → Bool
is_whole t = cond (ltb (length t) 6) false (leb (6 + length_of t) (length t))

-- the cells that the record t names; a payload of fewer than eight bytes has none
unfoldable pub cells_of : List ℕ → Cells
cells_of t =
    cond (eqb (kind_of t) 1) (cond (leb 8 (length_of t)) (record { from = first_cell (payload_of t); to = first_cell (payload_of t) + cell_count (payload_of t) }) (record { from = 0; to = 0 }))
    (record { from = 0; to = 0 })

-- ---- marks: the place j is that of the cell low + j

-- the bit of x with the weight 2 ^ k
unfoldable pub bit_at : ℕ → ℕ → ℕ
bit_at x k = x / 2 ^ k % 2

-- 32 places in a word
unfoldable pub mark_at : List ℕ → ℕ → ℕ
mark_at m j = bit_at (get_or m (j / 32) 0) (j % 32)

unfoldable pub with_mark : List ℕ → ℕ → List ℕ
with_mark m j = set m (j / 32) (get_or m (j / 32) 0 + 2 ^ (j % 32))

-- the places from a up to e were not marked in m and are in r; the others are as they were
pub record MarkedFrom (a e : ℕ) (m r : List ℕ) : Type 0 where
  pub marked : (j : ℕ) → a ≤ j → j < e → (mark_at m j ≡ 0) × (mark_at r j ≡ 1)
  pub others : (j : ℕ) → (j < a) ⊎ (e ≤ j) → mark_at r j ≡ mark_at m j

-- one of the places from a up to e is marked
pub record Met (a e : ℕ) (m : List ℕ) : Type 0 where
  pub place : ℕ
  pub from : a ≤ place
  pub below : place < e
  pub mark : 0 < mark_at m place

-- each mark is the number of times that its cell is named by the records ts, once at most
pub record Marks (low : ℕ) (ts : List (List ℕ)) (m : List ℕ) : Type 0 where
  pub counts : (j : ℕ) → j < 262144 → mark_at m j ≡ times_named ts (low + j)
  pub once : (j : ℕ) → j < 262144 → times_named ts (low + j) ≤ 1

-- the record t names a cell whose mark is set
pub record NamesMarked (low : ℕ) (t m : List ℕ) : Type 0 where
  pub place : ℕ
  pub below : place < 262144
  pub named : names t (low + place) ≡ true
  pub mark : 0 < mark_at m place

-- ---- the row of records ts

-- where the search stops: after the last record, at one that is not whole, or at one that names a cell that an earlier one names
pub data Stop (ts : List (List ℕ)) (r : ℕ) : Type 0 where
  after : length ts ≤ r → Stop ts r
  broken : is_whole (get_or ts r []) ≡ false → Stop ts r
  again : (i : ℕ) → names (get_or ts r []) i ≡ true → 0 < times_named (take r ts) i → Stop ts r

-- a search in the 262,144 cells from low on, before the record `most`
pub record SearchedPart (low most : ℕ) (ts : List (List ℕ)) (r : Searched) : Type 0 where
  pub bound : r.first ≤ most
  pub once : (j : ℕ) → j < 262144 → times_named (take r.first ts) (low + j) ≤ 1
  pub beyond : (i : ℕ) → r.high ≤ i → times_named (take r.first ts) i ≡ 0
  pub stop : (r.first ≡ most) ⊎ Stop ts r.first

-- before the record r no cell below n is named twice, and the search stops there
pub record FirstAgain (n : ℕ) (ts : List (List ℕ)) (r : ℕ) : Type 0 where
  pub once : (i : ℕ) → i < n → times_named (take r ts) i ≤ 1
  pub stop : Stop ts r
