-- The tests of all cells and of all characters, an element at a time. Assumes nothing.
use Prim.Native.Nat.{ℕ, ◌+◌, ◌<◌}
use mathlib.Core.Path.{◌≡◌, refl}
use mathlib.Core.Bool.{Bool, true, false, cond}
use mathlib.Core.List.{List}
use native.Mathlib.Numerals.{add-one}
use lib.ListN.{length, get_or, drop}
use lib.Seq.{drop-cons}
use lib.Dec.{ltb}
use Rattle.acceptance.specs.Accept.{cells_fit, characters_fit}

pub cells_step : (s : List ℕ) (i : ℕ) → i < length s
    → cells_fit (drop i s) ≡ cond (ltb (get_or s i 0) 134217728) (cells_fit (drop (i + 1) s)) false
unfolding cells_fit
cells_step s i h = rw (add-one, drop-cons s i 0 h)

pub characters_step : (s : List ℕ) (i : ℕ) → i < length s
    → characters_fit (drop i s) ≡ cond (ltb (get_or s i 0) 64) (characters_fit (drop (i + 1) s)) false
unfolding characters_fit
characters_step s i h = rw (add-one, drop-cons s i 0 h)

pub never_fits : (fit : Bool) → false ≡ cond fit false false
never_fits true = refl
never_fits false = refl

pub fits_or_not : (fit : Bool) → fit ≡ cond fit true false
fits_or_not true = refl
fits_or_not false = refl
