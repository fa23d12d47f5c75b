-- A block's cells, as the code cuts them. Assumes nothing.
use Prim.Native.Nat.{ℕ, zero, suc, ◌+◌, ◌/◌}
use mathlib.Core.Path.{◌≡◌, refl, ap}
use mathlib.Core.List.{List, ◌∷◌, map}
use native.Mathlib.Omega.{arith}
use lib.ListN.{length, take, drop, length-drop}
use lib.Seq.{drop-drop}
use Rattle.std.proofs.lemmas.List.{get_or-take, get_or-drop}
use Rattle.std.specs.Int.{w32, from_le_bytes}
use Rattle.std.specs.Simd.{first_chunks}
use Rattle.definition_tape.specs.Layout.{number_at, cell_count, cells_from}

number_of : (p : List ℕ) (at : ℕ) → from_le_bytes w32 (take 4 (drop at p)) ≡ number_at p at
number_of p at = let t = get_or-take 4 (drop at p) in let d = get_or-drop at p in grind (arith, t 0 0 (omega arith), t 1 0 (omega arith), t 2 0 (omega arith), t 3 0 (omega arith), d 0 0, d 1 0, d 2 0, d 3 0)

cells_cut : (p : List ℕ) (k at : ℕ) → map (from_le_bytes w32) (first_chunks 4 k (drop at p)) ≡ cells_from p at k
unfolding cells_from
cells_cut p zero at = refl
cells_cut p (suc k) at = rw (drop-drop 4 at p, number_of p at) (ap (◌∷◌ (number_at p at)) (cells_cut p k (at + 4)))

pub cells_all : (p : List ℕ) → map (from_le_bytes w32) (first_chunks 4 (length (drop 4 p) / 4) (drop 4 p)) ≡ cells_from p 4 (cell_count p)
cells_all p =
    let e : length (drop 4 p) / 4 ≡ cell_count p = ap (λ (n : ℕ). n / 4) (length-drop 4 p) in
    rw e (cells_cut p (cell_count p) 4)
