-- The cells of a block, and the loader's records. Assumes nothing.
use Prim.Native.Nat.{ℕ, zero, suc, ◌+◌, ◌*◌, ◌≤◌, ◌<◌}
use mathlib.Core.Path.{◌≡◌, refl, ap, ◌∙◌}
use mathlib.Core.List.{List}
use native.Mathlib.Omega.{arith}
use lib.ListN.{length, get_or}
use Rattle.definition_tape.specs.Layout.{number_at, rest_of, records_of, cells_from}
use Rattle.definition_tape.specs.Load.{load_record, load_records}
use Rattle.definition_tape.proofs.Records.{records_none, records_more}

pub length_cells : (p : List ℕ) (at k : ℕ) → length (cells_from p at k) ≡ k
unfolding cells_from
length_cells p at zero = refl
length_cells p at (suc k) = ap suc (length_cells p (at + 4) k)

pub cell_at : (p : List ℕ) (at k i : ℕ) → i < k → get_or (cells_from p at k) i 0 ≡ number_at p (at + 4 * i)
unfolding cells_from
cell_at p at zero i h = let no : ⊥ = omega arith in absurd no
cell_at p at (suc k) zero h = let e : at ≡ at + 4 * 0 = omega arith in ap (λ (j : ℕ). number_at p j) e
cell_at p at (suc k) (suc i) h =
    let e : at + 4 + 4 * i ≡ at + 4 * suc i = omega arith in
    cell_at p (at + 4) k i (omega arith) ∙ ap (λ (j : ℕ). number_at p j) e

pub load_more : (s t : List ℕ) → 6 ≤ length t → load_records s (records_of t) ≡ load_records (load_record s t) (records_of (rest_of t))
unfolding load_records
load_more s t h = rw (records_more t h)

pub load_none : (s t : List ℕ) → length t < 6 → load_records s (records_of t) ≡ s
unfolding load_records
load_none s t h = rw (records_none t h)
