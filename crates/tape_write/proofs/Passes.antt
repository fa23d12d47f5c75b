-- The two passes over the store: in each turn zero cells, or one stretch and the zero that ends it. Assumes nothing.
use Prim.Native.Nat.{ℕ, zero, suc, ◌+◌, ◌-◌, ◌≤◌, ◌<◌}
use mathlib.Core.Path.{◌≡◌, refl, sym, ap, ◌∙◌}
use mathlib.Core.Bool.{Bool, true, false, cond, true≢false}
use mathlib.Core.List.{List, [], ◌∷◌, ◌++◌}
use native.Mathlib.Numerals.{add-one}
use native.Mathlib.Omega.{arith}
use native.Mathlib.Nat.{add-sub_cancel_left}
use borrow.Author.Tests.{leb-true, leb-false}
use lib.Dec.{eqb, leb, eqb-suc-zero}
use lib.ListN.{length, take, drop, get_or, length-append, length-drop, drop_of_length-le}
use lib.Seq.{drop-cons, drop-drop, length-take-le}
use Rattle.definition_tape.specs.Blocks.{Block, stretch, blocks_from, store_blocks}
use Rattle.definition_tape.specs.Bytes.{record_bytes, block_bytes, blocks_bytes}
use Rattle.tape_write.specs.Steps.{put, blocks_after, all_zero, stretch_bytes, block_size}
use Rattle.definition_tape.proofs.Bytes.{length_record, length_block}
use Rattle.definition_tape.proofs.Stretches.{stretch_take, blocks_past}
use Rattle.tape_write.proofs.Puts.{put_put, put_none}

-- ---- the length of a stretch

stretch_of_zero : (x : ℕ) (s : List ℕ) → x ≡ 0 → length (stretch (x ∷ s)) ≡ 0
unfolding stretch
stretch_of_zero zero s e = refl
stretch_of_zero (suc x) s e = let no : ⊥ = omega arith in absurd no

stretch_of_cell : (x : ℕ) (s : List ℕ) → (x ≡ 0 → ⊥) → length (stretch (x ∷ s)) ≡ suc (length (stretch s))
unfolding stretch
stretch_of_cell zero s n = absurd (n refl)
stretch_of_cell (suc x) s n = refl

pub stretch_stops : (s : List ℕ) (i : ℕ) → i < length s → get_or s i 0 ≡ 0 → length (stretch (drop i s)) ≡ 0
stretch_stops s i h e = rw (drop-cons s i 0 h) (stretch_of_zero (get_or s i 0) (drop (suc i) s) e)

pub stretch_goes : (s : List ℕ) (i : ℕ) → i < length s → (get_or s i 0 ≡ 0 → ⊥) → length (stretch (drop i s)) ≡ suc (length (stretch (drop (i + 1) s)))
stretch_goes s i h n = rw (add-one i, drop-cons s i 0 h) (stretch_of_cell (get_or s i 0) (drop (suc i) s) n)

pub stretch_ends : (s : List ℕ) (i : ℕ) → length s ≤ i → length (stretch (drop i s)) ≡ 0
unfolding stretch
stretch_ends s i h = rw (drop_of_length-le s h)

-- ---- the blocks from a cell on

pub blocks_all : (s : List ℕ) → blocks_after s 0 ≡ blocks_bytes (store_blocks s)
unfolding blocks_after store_blocks
blocks_all s = refl

pub blocks_none : (s : List ℕ) (i : ℕ) → length s ≤ i → blocks_after s i ≡ []
unfolding blocks_after blocks_from blocks_bytes
blocks_none s i h = rw (drop_of_length-le s h)

pub blocks_left : (s : List ℕ) (i : ℕ) → 0 < length (blocks_after s i) → i < length s
blocks_left s i h = by (leb (length s) i) refl
  where
    by : (b : Bool) → leb (length s) i ≡ b → i < length s
    by true e = let z = ap length (blocks_none s i (leb-true (length s) i e)) in let no : ⊥ = omega arith in absurd no
    by false e = leb-false (length s) i e

step : (i : ℕ) (q : List ℕ) → 0 < length (stretch q)
    → blocks_bytes (blocks_from false i q) ≡ stretch_bytes i (stretch q) ++ blocks_bytes (blocks_from false (i + (length (stretch q) + 1)) (drop (length (stretch q) + 1) q))
unfolding stretch blocks_from blocks_bytes stretch_bytes
step i [] h = let no : ⊥ = omega arith in absurd no
step i (zero ∷ q) h = let no : ⊥ = omega arith in absurd no
step i (suc x ∷ q) h = ap (λ (bs : List Block). record_bytes 1 (block_bytes (record { first = i; cells = suc x ∷ stretch q })) ++ blocks_bytes bs) (next x)
  where
    next : (x : ℕ) → blocks_from true (i + 1) q ≡ blocks_from false (i + (suc (length (stretch q)) + 1)) (drop (suc (length (stretch q)) + 1) (suc x ∷ q))
    next x =
        let e : i + 1 + (length (stretch q) + 1) ≡ i + (suc (length (stretch q)) + 1) = omega arith in
        let n : suc (length (stretch q)) + 1 ≡ suc (length (stretch q) + 1) = omega arith in
        rw (← e, n) (blocks_past (i + 1) q)

-- k cells from i on, one at least, are a stretch
module _ (s : List ℕ) (i k : ℕ) (e : k ≡ length (stretch (drop i s))) (p : 0 < k) where
  stretch_is : take k (drop i s) ≡ stretch (drop i s)
  stretch_is = rw e (sym (stretch_take (drop i s)))

  pub blocks_step : blocks_after s i ≡ stretch_bytes i (take k (drop i s)) ++ blocks_after s (i + (k + 1))
  unfolding blocks_after
  blocks_step = rw stretch_is (step i (drop i s) (omega arith) ∙ rw (← e, drop-drop (k + 1) i s))

-- past several that are zero
past_zeros : (k i : ℕ) (q : List ℕ) → all_zero (take k q) ≡ true → blocks_from false (i + k) (drop k q) ≡ blocks_from false i q
unfolding blocks_from all_zero
past_zeros zero i q e = let n : i + 0 ≡ i = omega arith in rw n refl
past_zeros (suc k) i [] e = refl
past_zeros (suc k) i (zero ∷ q) e = let n : i + suc k ≡ i + 1 + k = omega arith in rw n (past_zeros k (i + 1) q e)
past_zeros (suc k) i (suc x ∷ q) e = absurd (true≢false (sym (rw (eqb-suc-zero x) at e)))

pub blocks_zeros : (s : List ℕ) (i k : ℕ) → all_zero (take k (drop i s)) ≡ true → blocks_after s (i + k) ≡ blocks_after s i
unfolding blocks_after
blocks_zeros s i k e = ap blocks_bytes (rw (← (drop-drop k i s)) (past_zeros k i (drop i s) e))

-- past one
pub blocks_zero : (s : List ℕ) (i : ℕ) → i < length s → get_or s i 0 ≡ 0 → blocks_after s (i + 1) ≡ blocks_after s i
unfolding all_zero
blocks_zero s i h e = blocks_zeros s i 1 (rw (drop-cons s i 0 h, e))

length_stretch : (i : ℕ) (cs : List ℕ) → length (stretch_bytes i cs) ≡ block_size (length cs)
unfolding stretch_bytes
length_stretch i cs =
    let b : Block = record { first = i; cells = cs } in
    omega (arith, length_record 1 (block_bytes b), length_block b)

module _ (s : List ℕ) (i k : ℕ) (e : k ≡ length (stretch (drop i s))) (p : 0 < k) (h : i + k ≤ length s) where
  length_part : length (take k (drop i s)) ≡ k
  length_part = length-take-le k (drop i s) (simp length-drop (omega arith))

  pub size_step : length (blocks_after s i) ≡ block_size k + length (blocks_after s (i + (k + 1)))
  size_step =
      ap length (blocks_step s i k e p)
      ∙ length-append (stretch_bytes i (take k (drop i s))) (blocks_after s (i + (k + 1)))
      ∙ rw (length_stretch i (take k (drop i s)), length_part)

  pub put_step : (o₀ o₁ : List ℕ) (at : ℕ) → at ≤ length o₀ → o₁ ≡ put o₀ at (stretch_bytes i (take (i + k - i) (drop i s)))
      → put o₁ (at + block_size k) (blocks_after s (i + (k + 1))) ≡ put o₀ at (blocks_after s i)
  put_step o₀ o₁ at b f =
      let g = rw (add-sub_cancel_left i k) at f in
      let l : at + block_size k ≡ at + length (stretch_bytes i (take k (drop i s))) = rw (length_stretch i (take k (drop i s)), length_part) in
      rw (g, l, blocks_step s i k e p) (put_put o₀ at (stretch_bytes i (take k (drop i s))) (blocks_after s (i + (k + 1))) b)

  pub part_fits : (at n : ℕ) → length s ≤ 8388608 → at + length (blocks_after s i) ≤ n
      → (length (take (i + k - i) (drop i s)) ≤ 8388608) × (at + block_size (length (take (i + k - i) (drop i s))) ≤ n)
  part_fits at n u f = rw (add-sub_cancel_left i k, length_part) (omega arith, omega (arith, size_step))

-- ---- after the last cell

pub length_done : (s : List ℕ) (i t n : ℕ) → length s ≤ i → t + length (blocks_after s i) ≡ n → t ≡ n
length_done s i t n h e = let z = ap length (blocks_none s i h) in omega arith

pub put_done : (o w bs : List ℕ) (at : ℕ) → length bs ≡ 0 → put o at bs ≡ w → o ≡ w
put_done o w [] at h e = sym (put_none o at) ∙ e
put_done o w (b ∷ bs) at h e = let no : ⊥ = omega arith in absurd no

-- ---- cells tested for zero together

pub zero_step : (s : List ℕ) (i : ℕ) → i < length s → all_zero (drop i s) ≡ cond (eqb (get_or s i 0) 0) (all_zero (drop (i + 1) s)) false
unfolding all_zero
zero_step s i h = rw (add-one i, drop-cons s i 0 h)

pub never_zero : (z : Bool) → false ≡ cond z false false
never_zero true = refl
never_zero false = refl

pub zero_or_not : (z : Bool) → z ≡ cond z true false
zero_or_not true = refl
zero_or_not false = refl
