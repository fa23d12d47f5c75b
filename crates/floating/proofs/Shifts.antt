-- The single shifts of CF, by 23 - SB - Wexp as it is. Assumes nothing.
use Prim.Native.Nat.{ℕ, ◌+◌, ◌-◌, ◌%◌, ◌^◌, ◌≤◌, ◌<◌}
use native.Mathlib.Omega.{arith}
use mathlib.Core.Path.{◌≡◌, refl}
use mathlib.Core.Bool.{Bool, true, false, cond}
use lib.Dec.{ltb, leb}
use borrow.Author.Tests.{lt-ltb, le-ltb, le-leb, lt-leb, leb-false, ltb-true, ltb-false}
use Rattle.floating.specs.Convert.{biased_sb, cf_shifts}

pub few : (n : ℕ) → n < 64 → n ≡ cf_shifts (biased_sb n)
unfolding cf_shifts
few n l =
    let b : (n + 2 ^ 23) % 2 ^ 24 ≡ n + 2 ^ 23 = omega arith in
    rw (b, le-ltb (n + 2 ^ 23) (2 ^ 23) (omega arith), lt-leb (2 ^ 23 + 64) (n + 2 ^ 23) (omega arith)) (omega arith)

none : (b : ℕ) → 2 ^ 23 ≤ b → 2 ^ 23 + 64 ≤ b → 0 ≡ cf_shifts b
unfolding cf_shifts
none b h l = rw (le-ltb b (2 ^ 23) h, le-leb (2 ^ 23 + 64) b l)

negative : (b : ℕ) → b < 2 ^ 23 → 0 ≡ cf_shifts b
unfolding cf_shifts
negative b l = rw (lt-ltb b (2 ^ 23) l)

pub many : (n : ℕ) → 64 ≤ n → n < 2 ^ 24 → 0 ≡ cf_shifts (biased_sb n)
many n l h = by (ltb ((n + 2 ^ 23) % 2 ^ 24) (2 ^ 23)) refl
  where
    by : (t : Bool) → ltb ((n + 2 ^ 23) % 2 ^ 24) (2 ^ 23) ≡ t → 0 ≡ cf_shifts (biased_sb n)
    by true e = negative ((n + 2 ^ 23) % 2 ^ 24) (ltb-true _ _ e)
    by false e = let k : 2 ^ 23 ≤ (n + 2 ^ 23) % 2 ^ 24 = ltb-false _ _ e in none ((n + 2 ^ 23) % 2 ^ 24) k (omega arith)

-- at most 63
most_by : (b : ℕ) (t u : Bool) → leb (2 ^ 23 + 64) b ≡ u → cond t 0 (cond u 0 (b - 2 ^ 23)) ≤ 63
most_by b true u e = omega arith
most_by b false true e = omega arith
most_by b false false e = let l = leb-false (2 ^ 23 + 64) b e in omega arith

pub shifts_most : (b : ℕ) → cf_shifts b ≤ 63
unfolding cf_shifts
shifts_most b = most_by b (ltb b (2 ^ 23)) (leb (2 ^ 23 + 64) b) refl
