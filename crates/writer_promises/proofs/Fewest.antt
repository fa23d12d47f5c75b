-- No list of blocks that names every cell that is not zero, and no other, is shorter: each has a block that begins where a stretch does. Assumes nothing.
use Prim.Native.Nat.{ℕ, zero, suc, ◌+◌, ◌≤◌, ◌<◌}
use mathlib.Core.Path.{◌≡◌, refl, sym}
use mathlib.Core.Bool.{Bool, true, false, cond}
use mathlib.Core.List.{List, [], ◌∷◌}
use mathlib.Core.Logic.{inl, inr}
use native.Mathlib.Omega.{arith}
use native.Mathlib.Decide.{dec_lt}
use borrow.Author.Tests.{le-leb, lt-leb, leb-true}
use lib.Dec.{leb}
use lib.ListN.{length, get_or}
use Rattle.definition_tape.specs.Blocks.{Block, Named, blocks_from, store_blocks}
use Rattle.writer_promises.specs.Claims.{Covers, FewestBlocks}
use Rattle.writer_promises.proofs.Stretches.{covers}

-- ---- the blocks that begin at the cell i or later

at_least : ℕ → Block → ℕ
at_least i b = cond (leb i b.first) 1 0

unfoldable from : ℕ → List Block → ℕ
from i [] = 0
from i (b ∷ bs) = at_least i b + from i bs

some_less : (i : ℕ) (b : Block) → at_least (i + 1) b ≤ at_least i b
unfolding at_least
some_less i b = at (leb (i + 1) b.first) refl
  where
    at : (t : Bool) → leb (i + 1) b.first ≡ t → cond t 1 0 ≤ cond (leb i b.first) 1 0
    at true e = let h = leb-true (i + 1) b.first e in rw (le-leb i b.first (omega arith)) (omega arith)
    at false e = omega arith

at_most_one : (i : ℕ) (b : Block) → at_least i b ≤ 1
unfolding at_least
at_most_one i b = at (leb i b.first)
  where
    at : (t : Bool) → cond t 1 0 ≤ 1
    at true = omega arith
    at false = omega arith

here : (i : ℕ) (b : Block) → b.first ≡ i → at_least (i + 1) b + 1 ≤ at_least i b
unfolding at_least
here i b e = rw (le-leb i b.first (omega arith), lt-leb (i + 1) b.first (omega arith)) (omega arith)

from_less : (i : ℕ) (bs : List Block) → from (i + 1) bs ≤ from i bs
unfolding from
from_less i [] = omega arith
from_less i (b ∷ bs) = let e = some_less i b in let f = from_less i bs in omega arith

from_all : (i : ℕ) (bs : List Block) → from i bs ≤ length bs
unfolding from
from_all i [] = omega arith
from_all i (b ∷ bs) = let e = at_most_one i b in let f = from_all i bs in omega arith

-- a block begins at the cell i where that cell is named and the one before it, if any, is not
begins : (i : ℕ) (bs : List Block) → Named i bs → ((k : ℕ) → suc k ≡ i → Named k bs → ⊥) → from (i + 1) bs + 1 ≤ from i bs
unfolding from Named
begins i [] n z = absurd n
begins i (b ∷ bs) (inl w) z = let e = here i b (at (dec_lt b.first i)) in let f = from_less i bs in omega arith
  where
    before : (j : ℕ) → j ≡ i → b.first < i → ⊥
    before zero e h = omega arith
    before (suc k) e h = z k e (inl (record { from = omega arith; below = omega (arith, w.below) }))

    at : Dec (b.first < i) → b.first ≡ i
    at (yes h) = absurd (before i refl h)
    at (no h) = omega (arith, w.from)
begins i (b ∷ bs) (inr n) z =
    let e = some_less i b in
    let f = begins i bs n (λ k q m. z k q (inr m)) in
    omega arith

module _ (s : List ℕ) (bs : List Block) (c : Covers s bs) where
  abbrev Clear : Bool → ℕ → Type 0
  Clear true i = Unit {0}
  Clear false i = (k : ℕ) → suc k ≡ i → get_or s k 0 ≡ 0

  clear_next : (i : ℕ) → get_or s i 0 ≡ 0 → Clear false (i + 1)
  clear_next i e k q = let j : k ≡ i = omega arith in rw j e

  next : (i x : ℕ) (q : List ℕ) → ((j : ℕ) → get_or (x ∷ q) j 0 ≡ get_or s (i + j) 0) → (j : ℕ) → get_or q j 0 ≡ get_or s (i + 1 + j) 0
  next i x q h j = let e : i + 1 + j ≡ i + suc j = omega arith in rw e (h (suc j))

  this : (i x : ℕ) (q : List ℕ) → ((j : ℕ) → get_or (x ∷ q) j 0 ≡ get_or s (i + j) 0) → x ≡ get_or s i 0
  this i x q h = let e : i + 0 ≡ i = omega arith in rw e at (h 0)

  a_start : (i : ℕ) → 0 < get_or s i 0 → Clear false i → from (i + 1) bs + 1 ≤ from i bs
  unfolding Covers
  a_start i p l = begins i bs ((c i).0 p) (λ k e m. let z = l k e in let f = (c k).1 m in omega arith)

  fewest : (inside : Bool) (i : ℕ) (q : List ℕ) → ((j : ℕ) → get_or q j 0 ≡ get_or s (i + j) 0) → Clear inside i → length (blocks_from inside i q) ≤ from i bs
  unfolding blocks_from
  fewest inside i [] h l = omega arith
  fewest inside i (zero ∷ q) h l =
      let f = fewest false (i + 1) q (next i zero q h) (clear_next i (sym (this i zero q h))) in
      let g = from_less i bs in
      omega arith
  fewest true i (suc x ∷ q) h l =
      let f = fewest true (i + 1) q (next i (suc x) q h) tt in
      let g = from_less i bs in
      omega arith
  fewest false i (suc x ∷ q) h l =
      let e = this i (suc x) q h in
      let f = fewest true (i + 1) q (next i (suc x) q h) tt in
      let g = a_start i (omega arith) l in
      omega arith

pub fewest_blocks : FewestBlocks
unfolding store_blocks
fewest_blocks s = (
  covers s,
  λ bs c.
      let f = fewest s bs c false 0 s (λ j. let e : 0 + j ≡ j = omega arith in rw e) (λ k e. let no : ⊥ = omega arith in absurd no) in
      let g = from_all 0 bs in
      omega arith,
)
