-- The blocks of a store: they rise, hold the store's cells, and name every cell that is not zero and no other. Assumes nothing.
use Prim.Native.Nat.{ℕ, zero, suc, ◌+◌, ◌-◌, ◌≤◌, ◌<◌}
use mathlib.Core.Path.{◌≡◌, ◌∙◌}
use mathlib.Core.Bool.{Bool, true, false}
use mathlib.Core.List.{List, [], ◌∷◌}
use mathlib.Core.Logic.{◌⊎◌, inl, inr}
use native.Mathlib.Omega.{arith}
use native.Mathlib.Decide.{dec_lt}
use lib.ListN.{length, get_or}
use Rattle.definition_tape.specs.Blocks.{Block, Names, Named, NamedOnce, stretch, blocks_from, store_blocks}
use Rattle.definition_tape.proofs.Stretches.{stretch_cell, stretch_full}
use Rattle.writer_promises.specs.Claims.{Covers, Rising, HoldsCells, RisingBlocks}

-- ---- they rise

pub rising_less : (i j : ℕ) (bs : List Block) → i ≤ j → Rising j bs → Rising i bs
unfolding Rising
rising_less i j [] h r = tt
rising_less i j (b ∷ bs) h r = (omega (arith, r.0), r.1, r.2)

-- the cells from i on where no block begins
abbrev ahead : Bool → List ℕ → ℕ
ahead true s = length (stretch s) + 1
ahead false s = 0

rising : (inside : Bool) (i : ℕ) (s : List ℕ) → Rising (i + ahead inside s) (blocks_from inside i s)
unfolding stretch blocks_from Rising
rising inside i [] = tt
rising true i (zero ∷ s) = rising_less (i + 1) (i + 1 + 0) (blocks_from false (i + 1) s) (omega arith) (rising false (i + 1) s)
rising false i (zero ∷ s) = rising_less (i + 0) (i + 1 + 0) (blocks_from false (i + 1) s) (omega arith) (rising false (i + 1) s)
rising true i (suc x ∷ s) = rising_less (i + (suc (length (stretch s)) + 1)) (i + 1 + (length (stretch s) + 1)) (blocks_from true (i + 1) s) (omega arith) (rising true (i + 1) s)
rising false i (suc x ∷ s) = (
  omega arith,
  omega arith,
  rising_less (i + suc (length (stretch s)) + 1) (i + 1 + (length (stretch s) + 1)) (blocks_from true (i + 1) s) (omega arith) (rising true (i + 1) s),
)

-- ---- they hold the cells

abbrev Part : List ℕ → ℕ → List ℕ → Type 0
Part s i q = (j : ℕ) → get_or q j 0 ≡ get_or s (i + j) 0

part_next : (s : List ℕ) (i x : ℕ) (q : List ℕ) → Part s i (x ∷ q) → Part s (i + 1) q
part_next s i x q h j = let e : i + 1 + j ≡ i + suc j = omega arith in rw e (h (suc j))

holds : (s : List ℕ) (inside : Bool) (i : ℕ) (q : List ℕ) → Part s i q → HoldsCells s (blocks_from inside i q)
unfolding stretch blocks_from HoldsCells
holds s inside i [] h = tt
holds s inside i (zero ∷ q) h = holds s false (i + 1) q (part_next s i zero q h)
holds s true i (suc x ∷ q) h = holds s true (i + 1) q (part_next s i (suc x) q h)
holds s false i (suc x ∷ q) h = (λ j l. stretch_cell (suc x ∷ q) j l ∙ h j, holds s true (i + 1) q (part_next s i (suc x) q h))

-- what rising blocks name begins where they do: none names a cell that an earlier one names
pub rising_named : (i : ℕ) (bs : List Block) (j : ℕ) → Rising i bs → Named j bs → i ≤ j
unfolding Rising Named
rising_named i [] j r n = absurd n
rising_named i (b ∷ bs) j r (inl w) = omega (arith, r.0, w.from, w.below)
rising_named i (b ∷ bs) j r (inr n) = let h = rising_named (b.first + length b.cells + 1) bs j r.2 n in omega (arith, r.0)

pub rising_once : (i : ℕ) (bs : List Block) → Rising i bs → NamedOnce bs
unfolding Rising NamedOnce
rising_once i [] r = tt
rising_once i (b ∷ bs) r = (
  λ j n m. let h = rising_named (b.first + length b.cells + 1) bs j r.2 m in omega (arith, n.below),
  rising_once (b.first + length b.cells + 1) bs r.2,
)

pub rising_blocks : RisingBlocks
unfolding store_blocks
rising_blocks s = (rising_less 0 (0 + 0) (blocks_from false 0 s) (omega arith) (rising false 0 s), holds s false 0 s (λ j. let e : 0 + j ≡ j = omega arith in rw e))

-- ---- every cell that is not zero, and no other

abbrev Skipped : Bool → List ℕ → ℕ → Type 0
Skipped true s j = length (stretch s) ≤ j
Skipped false s j = Unit {0}

named : (inside : Bool) (i : ℕ) (s : List ℕ) (j : ℕ) → Skipped inside s j → 0 < get_or s j 0 → Named (i + j) (blocks_from inside i s)
unfolding stretch blocks_from Named
named inside i [] j k h = let no : ⊥ = omega arith in absurd no
named true i (zero ∷ s) zero k h = let no : ⊥ = omega arith in absurd no
named true i (zero ∷ s) (suc j) k h = let e : i + suc j ≡ i + 1 + j = omega arith in rw e (named false (i + 1) s j tt h)
named false i (zero ∷ s) zero k h = let no : ⊥ = omega arith in absurd no
named false i (zero ∷ s) (suc j) k h = let e : i + suc j ≡ i + 1 + j = omega arith in rw e (named false (i + 1) s j tt h)
named true i (suc x ∷ s) zero k h = let no : ⊥ = omega arith in absurd no
named true i (suc x ∷ s) (suc j) k h = let e : i + suc j ≡ i + 1 + j = omega arith in rw e (named true (i + 1) s j (omega arith) h)
named false i (suc x ∷ s) zero k h = inl (record { from = omega arith; below = omega arith })
named false i (suc x ∷ s) (suc j) k h = at (dec_lt j (length (stretch s))) (λ l. named true (i + 1) s j l h)
  where
    at : Dec (j < length (stretch s)) → (length (stretch s) ≤ j → Named (i + 1 + j) (blocks_from true (i + 1) s))
        → Names (record { first = i; cells = suc x ∷ stretch s }) (i + suc j) ⊎ Named (i + suc j) (blocks_from true (i + 1) s)
    at (yes l) ih = inl (record { from = omega arith; below = omega arith })
    at (no l) ih = let e : i + suc j ≡ i + 1 + j = omega arith in inr (rw e (ih (omega arith)))

full : (inside : Bool) (i : ℕ) (s : List ℕ) (n : ℕ) → Named n (blocks_from inside i s) → (i ≤ n) × (0 < get_or s (n - i) 0)
unfolding stretch blocks_from Named
full inside i [] n h = absurd h
full inside i (zero ∷ s) n h =
    let r = full false (i + 1) s n h in
    let e : n - i ≡ suc (n - (i + 1)) = omega (arith, r.0) in
    (omega (arith, r.0), rw e r.1)
full true i (suc x ∷ s) n h =
    let r = full true (i + 1) s n h in
    let e : n - i ≡ suc (n - (i + 1)) = omega (arith, r.0) in
    (omega (arith, r.0), rw e r.1)
full false i (suc x ∷ s) n (inl w) = (w.from, stretch_full (suc x ∷ s) (n - i) (omega (arith, w.from, w.below)))
full false i (suc x ∷ s) n (inr h) =
    let r = full true (i + 1) s n h in
    let e : n - i ≡ suc (n - (i + 1)) = omega (arith, r.0) in
    (omega (arith, r.0), rw e r.1)

pub covers : (s : List ℕ) → Covers s (store_blocks s)
unfolding Covers store_blocks
covers s i = (
  λ h. let e : 0 + i ≡ i = omega arith in rw e at (named false 0 s i tt h),
  λ h. let e : i - 0 ≡ i = omega arith in rw e at (full false 0 s i h).1,
)
