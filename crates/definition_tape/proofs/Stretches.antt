-- The stretches of a store and the blocks that they make. Assumes nothing.
use Prim.Native.Nat.{ℕ, zero, suc, ◌+◌, ◌≤◌, ◌<◌}
use mathlib.Core.Path.{◌≡◌, refl, ap}
use mathlib.Core.Bool.{Bool, true, false}
use mathlib.Core.List.{List, [], ◌∷◌}
use native.Mathlib.Omega.{arith}
use lib.ListN.{length, take, drop, get_or}
use Rattle.definition_tape.specs.Blocks.{stretch, blocks_from}

-- ---- a stretch is the front of the cells, and holds no zero

pub stretch_take : (s : List ℕ) → stretch s ≡ take (length (stretch s)) s
unfolding stretch
stretch_take [] = refl
stretch_take (zero ∷ s) = refl
stretch_take (suc x ∷ s) = ap (◌∷◌ (suc x)) (stretch_take s)

pub stretch_short : (s : List ℕ) → length (stretch s) ≤ length s
unfolding stretch
stretch_short [] = omega arith
stretch_short (zero ∷ s) = omega arith
stretch_short (suc x ∷ s) = let e = stretch_short s in omega arith

pub stretch_cell : (s : List ℕ) (j : ℕ) → j < length (stretch s) → get_or (stretch s) j 0 ≡ get_or s j 0
unfolding stretch
stretch_cell [] j h = refl
stretch_cell (zero ∷ s) j h = let no : ⊥ = omega arith in absurd no
stretch_cell (suc x ∷ s) zero h = refl
stretch_cell (suc x ∷ s) (suc j) h = stretch_cell s j (omega arith)

pub stretch_full : (s : List ℕ) (j : ℕ) → j < length (stretch s) → 0 < get_or s j 0
unfolding stretch
stretch_full [] j h = let no : ⊥ = omega arith in absurd no
stretch_full (zero ∷ s) j h = let no : ⊥ = omega arith in absurd no
stretch_full (suc x ∷ s) zero h = omega arith
stretch_full (suc x ∷ s) (suc j) h = stretch_full s j (omega arith)

-- of the cells s, those that the block before them holds
abbrev pub front : Bool → List ℕ → List ℕ
front true s = stretch s
front false s = []

-- past a stretch and the zero that ends it
pub blocks_past : (i : ℕ) (s : List ℕ) → blocks_from true i s ≡ blocks_from false (i + (length (stretch s) + 1)) (drop (length (stretch s) + 1) s)
unfolding stretch blocks_from
blocks_past i [] = refl
blocks_past i (zero ∷ s) = refl
blocks_past i (suc x ∷ s) =
    let e : i + 1 + (length (stretch s) + 1) ≡ i + (suc (length (stretch s)) + 1) = omega arith in
    let n : suc (length (stretch s)) + 1 ≡ suc (length (stretch s) + 1) = omega arith in
    rw (← e, n) (blocks_past (i + 1) s)
