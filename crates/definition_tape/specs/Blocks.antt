-- Blocks: the cells that they name (document 02, E4), and those of a store (document 02, E2).
-- Assumes nothing.
use Rattle.std.specs.Prelude.{ℕ, zero, suc, ◌+◌, ◌≤◌, ◌<◌, Bool, true, false, List, [], ◌∷◌, ◌⊎◌, length}

pub record Block : Type 0 where
  pub first : ℕ
  pub cells : List ℕ

-- ---- the cells that blocks name

-- the block b names the cell i
pub record Names (b : Block) (i : ℕ) : Type 0 where
  pub from : b.first ≤ i
  pub below : i < b.first + length b.cells

-- one of the blocks names the cell i
unfoldable pub Named : ℕ → List Block → Type 0
Named i [] = ⊥
Named i (b ∷ bs) = Names b i ⊎ Named i bs

-- no cell is named twice: none that a block names is named by one after it
unfoldable pub NamedOnce : List Block → Type 0
NamedOnce [] = Unit {0}
NamedOnce (b ∷ bs) = ((i : ℕ) → Names b i → Named i bs → ⊥) × NamedOnce bs

-- ---- the blocks of a store: its longest stretches of cells that are not zero, in rising order
-- A cell is zero where all its bits are: a key with no word is written.

-- the cells before the first one that is zero
unfoldable pub stretch : List ℕ → List ℕ
stretch [] = []
stretch (zero ∷ s) = []
stretch (suc x ∷ s) = suc x ∷ stretch s

-- the blocks that begin in the cells s, the first of which is the cell i. A block begins at a cell that is not zero, the store's first or after one
-- that is zero, and ends before the next that is. `inside`: the cell before s is not zero, so none begins at the first of s.
unfoldable pub blocks_from : Bool → ℕ → List ℕ → List Block
blocks_from inside i [] = []
blocks_from inside i (zero ∷ s) = blocks_from false (i + 1) s
blocks_from true i (suc x ∷ s) = blocks_from true (i + 1) s
blocks_from false i (suc x ∷ s) = record { first = i; cells = suc x ∷ stretch s } ∷ blocks_from true (i + 1) s

unfoldable pub store_blocks : List ℕ → List Block
store_blocks s = blocks_from false 0 s
