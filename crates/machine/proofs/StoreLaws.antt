-- What a store of a word or of a key changes, and what it keeps: after these no caller opens `word`, `key` or `put_word`.
-- Assumes nothing.
use Prim.Native.Nat.{ℕ, ◌%◌, ◌≤◌, ◌<◌}
use native.Mathlib.Omega.{arith}
use native.Mathlib.Decide.{dec_lt, ℕ_discrete}
use mathlib.Core.Path.{◌≡◌}
use mathlib.Core.Logic.{◌≢◌}
use mathlib.Core.List.{List}
use lib.ListN.{length, get_or, set, length-set}
use lib.Seq.{get_or-set_same, get_or-set_other, set_out}
use Rattle.machine.specs.Store.{word, key, put_word, put_key}

pub length_put_word : (s : List ℕ) (i v : ℕ) → length (put_word s i v) ≡ length s
unfolding put_word
length_put_word s i v = simp length-set

pub word_other : (s : List ℕ) (i v j : ℕ) → j ≢ i → word (put_word s i v) j ≡ word s j
unfolding put_word word
word_other s i v j h = rw get_or-set_other

pub word_same : (s : List ℕ) (i v : ℕ) → i < length s → word (put_word s i v) i ≡ v % 16777216
unfolding put_word word
word_same s i v h = rw get_or-set_same (omega arith)

pub key_put_word : (s : List ℕ) (i v j : ℕ) → key (put_word s i v) j ≡ key s j
unfolding put_word key
key_put_word s i v j = at (ℕ_discrete j i)
  where
    inside : Dec (i < length s) → key (put_word s i v) i ≡ key s i
    inside (yes h) = rw get_or-set_same (omega arith)
    inside (no h) = let o : length s ≤ i = omega arith in rw set_out

    at : Dec (j ≡ i) → key (put_word s i v) j ≡ key s j
    at (yes e) = rw e (inside (dec_lt i (length s)))
    at (no h) = rw get_or-set_other

pub length_put_key : (s : List ℕ) (i k : ℕ) → length (put_key s i k) ≡ length s
unfolding put_key
length_put_key s i k = simp length-set

pub word_put_key : (s : List ℕ) (i k j : ℕ) → word (put_key s i k) j ≡ word s j
unfolding put_key word
word_put_key s i k j = at (ℕ_discrete j i)
  where
    inside : Dec (i < length s) → word (put_key s i k) i ≡ word s i
    inside (yes h) = rw get_or-set_same (omega arith)
    inside (no h) = let o : length s ≤ i = omega arith in rw set_out

    at : Dec (j ≡ i) → word (put_key s i k) j ≡ word s j
    at (yes e) = rw e (inside (dec_lt i (length s)))
    at (no h) = rw get_or-set_other

pub key_other : (s : List ℕ) (i k j : ℕ) → j ≢ i → key (put_key s i k) j ≡ key s j
unfolding put_key key
key_other s i k j h = rw get_or-set_other

pub key_same : (s : List ℕ) (i k : ℕ) → i < length s → key (put_key s i k) i ≡ k % 8
unfolding put_key key
key_same s i k h = rw get_or-set_same (omega arith)

-- ---- every cell stays below 2^27

unfoldable pub Cells : List ℕ → Type 0
Cells s = (i : ℕ) → get_or s i 0 < 134217728

cells_set : (s : List ℕ) (i v : ℕ) → Cells s → v < 134217728 → Cells (set s i v)
unfolding Cells
cells_set s i v h b j = at (ℕ_discrete j i)
  where
    inside : Dec (i < length s) → get_or (set s i v) i 0 < 134217728
    inside (yes l) = rw get_or-set_same b
    inside (no l) = let o : length s ≤ i = omega arith in rw set_out (h i)

    at : Dec (j ≡ i) → get_or (set s i v) j 0 < 134217728
    at (yes e) = rw e (inside (dec_lt i (length s)))
    at (no n) = rw get_or-set_other (h j)

pub cells_put_word : (s : List ℕ) (i v : ℕ) → Cells s → Cells (put_word s i v)
unfolding Cells put_word
cells_put_word s i v h = cells_set s i _ h (omega (arith, h i))

pub cells_put_key : (s : List ℕ) (i k : ℕ) → Cells s → Cells (put_key s i k)
unfolding Cells put_key
cells_put_key s i k h = cells_set s i _ h (omega arith)

pub word_lt : (s : List ℕ) (i : ℕ) → word s i < 16777216
unfolding word
word_lt s i = omega arith
