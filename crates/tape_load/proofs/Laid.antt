-- The loader's functions: cells copied, and the records of an accepted tape. Assumes nothing.
use Prim.Native.Nat.{ℕ, ◌+◌, ◌-◌, ◌≤◌, ◌<◌}
use mathlib.Core.Path.{◌≡◌, refl, sym, ap, ◌∙◌}
use mathlib.Core.List.{List, [], ◌∷◌, ◌++◌, append-nil, map}
use native.Mathlib.Numerals.{add-one}
use native.Mathlib.Omega.{arith}
use lib.ListN.{length, take, drop, get_or, get_or-map, set, length-drop, drop_of_length-le}
use Rattle.std.proofs.lemmas.List.{length-map}
use lib.Seq.{paste, paste-suc, take_all}
use borrow.Author.Tests.{eq-eqb, ne_eqb}
use Rattle.machine.specs.Verdicts.{Accepted}
use Rattle.definition_tape.specs.Layout.{kind_of, payload_of, rest_of, records_of, first_of, first_cell, cell_count, block_cells, control_record_of}
use Rattle.definition_tape.specs.Judge.{judge_tape}
use Rattle.definition_tape.specs.Load.{pasted, stored_block, load_record, load_records, tape_cells, loaded_control}
use Rattle.definition_tape.proofs.Records.{length_payload, records_more}
use Rattle.tape_records.proofs.Rows.{First, first}
use Rattle.tape_load.proofs.Fits.{RecordFits, Ahead, ahead, ahead_fits, ahead_on, ahead_control, control_last, passed_by}
use Rattle.std.specs.Int.{w32, from_le_bytes}

pub copied : (d : List ℕ) (bs : List (List ℕ)) (i x : ℕ) → i < length d → i < length bs → x ≡ from_le_bytes w32 (get_or bs i [])
    → set (paste d 0 (map (from_le_bytes w32) bs) i) i x ≡ paste d 0 (map (from_le_bytes w32) bs) (i + 1)
copied d bs i x h l e =
    let m = length-map bs (from_le_bytes w32) in
    let z : 0 + i ≡ i = omega arith in
    let p = paste-suc d 0 (map (from_le_bytes w32) bs) i (from_le_bytes w32 []) (omega arith) (omega arith) in
    rw (e, ← get_or-map (from_le_bytes w32) bs i [], add-one i)
    (ap (λ (j : ℕ). set (paste d 0 (map (from_le_bytes w32) bs) i) j (get_or (map (from_le_bytes w32) bs) i (from_le_bytes w32 []))) (sym z) ∙ p)

pub copied_all : (d cs : List ℕ) (i : ℕ) → length cs ≤ i → i ≤ length cs → paste d 0 cs i ≡ pasted d cs
unfolding pasted
copied_all d cs i h l = let e : i ≡ length cs = omega arith in let z : 0 + length cs ≡ length cs = omega arith in rw (e, take_all (length cs) cs (omega arith), z)

-- `&mut s[i..]` is lent as `take (n - i) (drop i s)`, n being the length, and comes back between `take i s` and `drop (n - i) (drop i s)`
pub stored_back : (s cs : List ℕ) (i : ℕ)
    → take i s ++ (pasted (take (length s - i) (drop i s)) cs ++ drop (length s - i) (drop i s)) ≡ stored_block s i cs
unfolding stored_block
stored_back s cs i =
    let l : length (drop i s) ≤ length s - i = simp length-drop (omega arith) in
    rw (take_all (length s - i) (drop i s) l, drop_of_length-le (drop i s) l, append-nil)

-- ---- the loop over the records

-- the tape `left` goes on with the records of `more`; their cells over s are those of the tape over s0
pub record Loading (n : ℕ) (tape s0 : List ℕ) (more : List (List ℕ)) (s : List ℕ) : Type 0 where
  pub size : length s ≡ n
  pub left : List ℕ
  pub rest : more ≡ records_of left
  pub ahead : Ahead n left
  pub cells : load_records s more ≡ load_records s0 (records_of tape)
  pub control : first_of 2 more ≡ first_of 2 (records_of tape)

pub loading_start : (tape s : List ℕ) → judge_tape (length s) tape ≡ Accepted → Loading (length s) tape s (records_of tape) s
loading_start tape s e = record { size = refl; left = tape; rest = refl; ahead = ahead (length s) tape e; cells = refl; control = refl }

pub no_end : (n : ℕ) (tape s0 : List ℕ) (more : List (List ℕ)) (s : List ℕ) → Loading n tape s0 more s → more ≡ [] → ⊥
no_end n tape s0 more s l e =
    let w = (ahead_fits n l.left l.ahead).whole in
    let m = sym (records_more l.left (omega arith)) ∙ sym l.rest ∙ e in
    cc

module _ (n : ℕ) (tape s0 : List ℕ) (more rest : List (List ℕ)) (s t : List ℕ) (l : Loading n tape s0 more s) (e : more ≡ t ∷ rest) where
  this : First l.left t rest
  this = first l.left t rest (sym l.rest ∙ e)

  pub fits : RecordFits n t
  fits = rw this.is (ahead_fits n l.left l.ahead)

  pub block_fits : (p : List ℕ) → kind_of t ≡ 1 → p ≡ payload_of t → (4 ≤ length p) × (first_cell p + cell_count p ≤ length s)
  block_fits p k q = let b = fits.block k in rw (q, l.size) (omega (arith, length_payload t fits.whole), b.1)

  pub loading_next : (s' : List ℕ) → (kind_of t ≡ 2 → ⊥) → s' ≡ load_record s t → length s' ≡ length s → Loading n tape s0 rest s'
  unfolding load_records first_of
  loading_next s' o d z =
      record {
        size = z ∙ l.size;
        left = rest_of l.left;
        rest = this.others;
        ahead = ahead_on n l.left l.ahead (λ k. o (rw this.is k));
        cells = rw d (rw e at l.cells);
        control = rw (ne_eqb (kind_of t) 2 o) at (rw e at l.control);
      }

  pub control_size : (p : List ℕ) → kind_of t ≡ 2 → p ≡ payload_of t → 20 ≤ length p
  control_size p k q = rw q (omega (arith, length_payload t fits.whole, rw (← this.is) at (ahead_control n l.left l.ahead (rw (← this.is) k))))

  pub control_is : kind_of t ≡ 2 → control_record_of (payload_of t) ≡ loaded_control tape
  unfolding loaded_control first_of
  control_is k = rw (← l.control, e, eq-eqb (kind_of t) 2 k)

  pub cells_are : kind_of t ≡ 2 → s ≡ tape_cells s0 tape
  unfolding tape_cells
  cells_are k = sym (control_last n s l.left l.ahead (rw (← this.is) k)) ∙ rw (← l.rest) l.cells

pub a_block : (s t p r : List ℕ) → kind_of t ≡ 1 → p ≡ payload_of t → r ≡ stored_block s (first_cell p) (block_cells p) → r ≡ load_record s t
unfolding load_record
a_block s t p r k q i = rw (eq-eqb (kind_of t) 1 k, ← q) i

pub no_block : (s t : List ℕ) → (kind_of t ≡ 1 → ⊥) → s ≡ load_record s t
no_block s t o = sym (passed_by s t o)
