-- What is loaded and which remark is found, by the records. Assumes nothing.
use Prim.Native.Nat.{ℕ, zero, suc, ◌+◌, ◌-◌, ◌*◌, ◌/◌, ◌%◌, ◌≤◌, ◌<◌}
use mathlib.Core.Path.{◌≡◌, refl, sym, ap, subst, ◌∙◌}
use mathlib.Core.Bool.{Bool, true, false}
use mathlib.Core.List.{List, [], ◌∷◌, ◌++◌}
use mathlib.Core.Logic.{◌⊎◌, inl, inr}
use native.Mathlib.Omega.{arith}
use native.Mathlib.Decide.{dec_le, dec_lt}
use borrow.Author.Tests.{lt-ltb, le-ltb, ne_eqb, eqb-true, eqb-false}
use lib.ListN.{length, take, drop, get_or, length-append, length-take, length-drop, get_or-append}
use lib.Seq.{get_or-take, get_or-drop, get_or-append-add, take-nil}
use lib.Dec.{ltb, eqb}
use Rattle.machine.specs.Verdicts.{Accepted}
use Rattle.acceptance.proofs.Tests.{both}
use Rattle.acceptance.specs.Accept.{cells_fit}
use Rattle.definition_tape.specs.Blocks.{Block, Names, Named, NamedOnce}
use Rattle.definition_tape.specs.Layout.{length_of, payload_of, records_of, first_of, first_cell, cell_count, block_cells, flags_of, control_of, timer_of, control_record_of}
use Rattle.definition_tape.specs.Load.{pasted, stored_block, load_record, load_records}
use Rattle.definition_tape.specs.Remark.{span_by}
use Rattle.definition_tape.proofs.Firsts.{first_none, first_here, first_next}
use Rattle.definition_tape.proofs.Loads.{length_cells, load_more, load_none}
use Rattle.tape_promises.specs.Grammar.{ControlPayload, Records, block_then, remark_then, control_then_end, blocks_of}
use Rattle.tape_promises.specs.Contents.{Among, TheOne, Holds, written, kept, SameBlocks, control_payload, one_if, ControlFields, TimerFields, zeroes, fields, RecordFields, first_remark, span_of, remark_bytes}
use Rattle.tape_promises.proofs.Grammars.{Reads, reads, reads_end}

-- ---- the cells of a store that takes a block

module _ (s : List ℕ) (b : Block) (h : b.first + length b.cells ≤ length s) where
  length_stored : length (stored_block s b.first b.cells) ≡ length s
  unfolding stored_block pasted
  length_stored = simp (length-append, length-take, length-drop) (omega arith)

  front : length (take b.first s) ≡ b.first
  front = simp length-take (omega arith)

  before : (i : ℕ) → i < b.first → get_or (stored_block s b.first b.cells) i 0 ≡ get_or s i 0
  unfolding stored_block
  before i l = get_or-append (take b.first s) _ 0 i (omega (arith, front)) ∙ get_or-take b.first s i 0 l

  -- from the block's first cell on
  from : (j : ℕ) → get_or (stored_block s b.first b.cells) (b.first + j) 0 ≡ get_or (b.cells ++ drop (length b.cells) (drop b.first s)) j 0
  unfolding stored_block pasted
  from j = rw front at (get_or-append-add (take b.first s) (b.cells ++ drop (length b.cells) (drop b.first s)) j 0)

  inside : (i : ℕ) → Names b i → get_or (stored_block s b.first b.cells) i 0 ≡ get_or b.cells (i - b.first) 0
  inside i m =
      let f = m.from in
      let l = m.below in
      let e : b.first + (i - b.first) ≡ i = omega arith in
      rw e at (from (i - b.first)) ∙ get_or-append b.cells _ 0 (i - b.first) (omega arith)

  beyond : (i : ℕ) → b.first + length b.cells ≤ i → get_or (stored_block s b.first b.cells) i 0 ≡ get_or s i 0
  beyond i l =
      let k = i - b.first - length b.cells in
      let e : b.first + (length b.cells + k) ≡ i = omega arith in
      rw e at (from (length b.cells + k) ∙ get_or-append-add b.cells _ k 0 ∙ get_or-drop (length b.cells) (drop b.first s) k 0 ∙ get_or-drop b.first s (length b.cells + k) 0)

  outside : (i : ℕ) → (Names b i → ⊥) → get_or (stored_block s b.first b.cells) i 0 ≡ get_or s i 0
  outside i o = at (dec_lt i b.first) (dec_lt i (b.first + length b.cells))
    where
      at : Dec (i < b.first) → Dec (i < b.first + length b.cells) → get_or (stored_block s b.first b.cells) i 0 ≡ get_or s i 0
      at (yes l) d = before i l
      at (no l) (yes u) = absurd (o (record { from = omega arith; below = u }))
      at (no l) (no u) = beyond i (omega arith)

-- ---- and of one that takes several

load_blocks : List ℕ → List Block → List ℕ
load_blocks s [] = s
load_blocks s (b ∷ bs) = load_blocks (stored_block s b.first b.cells) bs

Fit : ℕ → List Block → Type 0
Fit n [] = Unit {0}
Fit n (b ∷ bs) = (b.first + length b.cells ≤ n) × Fit n bs

length_loaded : (s : List ℕ) (bs : List Block) → Fit (length s) bs → length (load_blocks s bs) ≡ length s
unfolding load_blocks Fit
length_loaded s [] f = refl
length_loaded s (b ∷ bs) f =
    let e = length_stored s b f.0 in
    length_loaded (stored_block s b.first b.cells) bs (rw e f.1) ∙ e

-- ---- the one block that names a cell

among_named : (a : Block) (bs : List Block) (i : ℕ) → Among a bs → Names a i → Named i bs
unfolding Among Named
among_named a [] i m n = absurd m
among_named a (b ∷ bs) i (inl e) n = inl (subst (λ (x : Block). Names x i) e n)
among_named a (b ∷ bs) i (inr m) n = inr (among_named a bs i m n)

-- one block before the others
module _ (i held stay : ℕ) (b : Block) (bs : List Block) (apart : Names b i → Named i bs → ⊥) where
  one_here : Names b i → TheOne (b ∷ bs) i b
  unfolding Among
  one_here n = record { among = inl refl; names = n; only = only }
    where
      only : (a : Block) → Among a (b ∷ bs) → Names a i → a ≡ b
      only a (inl e) m = e
      only a (inr z) m = absurd (apart n (among_named a bs i z m))

  one_later : (a : Block) → TheOne bs i a → TheOne (b ∷ bs) i a
  unfolding Among
  one_later a o = record { among = inr o.among; names = o.names; only = only }
    where
      only : (c : Block) → Among c (b ∷ bs) → Names c i → c ≡ a
      only c (inl e) m = absurd (apart (subst (λ (x : Block). Names x i) e m) (among_named a bs i o.among o.names))
      only c (inr z) m = o.only c z m

  holds_more : (x : ℕ) → (Names b i → stay ≡ get_or b.cells (i - b.first) 0) → ((Names b i → ⊥) → stay ≡ held) → Holds i stay bs x → Holds i held (b ∷ bs) x
  unfolding Named
  holds_more _ p q (written a o) = written a (one_later a o)
  holds_more _ p q (kept u) = at (dec_le b.first i) (dec_lt i (b.first + length b.cells))
    where
      out : (Names b i → ⊥) → Named i (b ∷ bs) → ⊥
      out n (inl m) = n m
      out n (inr m) = u m

      at : Dec (b.first ≤ i) → Dec (i < b.first + length b.cells) → Holds i held (b ∷ bs) stay
      at (yes l) (yes h) = let n : Names b i = record { from = l; below = h } in rw (p n) (written b (one_here n))
      at (yes l) (no h) = let n : Names b i → ⊥ = λ z. h z.below in rw (q n) (kept (out n))
      at (no l) d = let n : Names b i → ⊥ = λ z. l z.from in rw (q n) (kept (out n))

holds : (i : ℕ) (s : List ℕ) (bs : List Block) → Fit (length s) bs → NamedOnce bs → Holds i (get_or s i 0) bs (get_or (load_blocks s bs) i 0)
unfolding load_blocks Fit Named NamedOnce
holds i s [] f o = kept (λ z. z)
holds i s (b ∷ bs) f o =
    holds_more i (get_or s i 0) (get_or (stored_block s b.first b.cells) i 0) b bs (o.0 i) _ (inside s b f.0 i) (outside s b f.0 i)
    (holds i (stored_block s b.first b.cells) bs (rw (length_stored s b f.0) f.1) o.1)

pub only_kept : {i held x : ℕ} {bs : List Block} → Holds i held bs x → (Named i bs → ⊥) → x ≡ held
only_kept {i} {held} {x} {bs} (written b o) z = absurd (z (among_named b bs i o.among o.names))
only_kept (kept u) z = refl

-- the same blocks leave the same in a cell
pub same_cell : {i held x y : ℕ} {bs cs : List Block} → SameBlocks bs cs → Holds i held bs x → Holds i held cs y → x ≡ y
same_cell {i} {held} {x} {y} {bs} {cs} e (written a o) (written b p) = rw (p.only a ((e a).0 o.among) o.names)
same_cell {i} {held} {x} {y} {bs} {cs} e (written a o) (kept u) = absurd (u (among_named a cs i ((e a).0 o.among) o.names))
same_cell {i} {held} {x} {y} {bs} {cs} e (kept u) (written b p) = absurd (u (among_named b bs i ((e b).1 p.among) p.names))
same_cell {i} {held} {x} {y} {bs} {cs} e (kept u) (kept v) = refl

-- ---- what the loader and the hunt make of a record

module _ (k : ℕ) (p t w : List ℕ) (r : Reads k p t w) where
  six : 6 ≤ length w
  six = let h = r.whole in omega arith

  load_block : (s : List ℕ) → k ≡ 1 → load_records s (records_of w) ≡ load_records (stored_block s (first_cell p) (block_cells p)) (records_of t)
  unfolding load_record
  load_block s e = load_more s w six ∙ rw (r.kind, e, r.payload, r.rest)

  load_other : (s : List ℕ) → (k ≡ 1 → ⊥) → load_records s (records_of w) ≡ load_records s (records_of t)
  unfolding load_record
  load_other s o = load_more s w six ∙ rw (r.kind, ne_eqb k 1 o, r.rest)

  first_this : first_of k (records_of w) ≡ w
  first_this = first_here k w six r.kind

  first_later : (j : ℕ) → (k ≡ j → ⊥) → first_of j (records_of w) ≡ first_of j (records_of t)
  first_later j o = rw r.rest at (first_next j w six (λ e. o (sym r.kind ∙ e)))

load_is : {n : ℕ} {w : List ℕ} (s : List ℕ) (r : Records n w) → load_records s (records_of w) ≡ load_blocks s (blocks_of r)
unfolding blocks_of load_blocks
load_is s (block_then h p t d b r) = load_block 1 p t (h ++ (p ++ t)) (reads h p t 1 d) s refl ∙ load_is (stored_block s (first_cell p) (block_cells p)) r
load_is s (remark_then h p t d l r) = load_other 4 p t (h ++ (p ++ t)) (reads h p t 4 d) s (λ z. omega arith) ∙ load_is s r
load_is s (control_then_end h p e d c x) =
    load_other 2 p e (h ++ (p ++ e)) (reads h p e 2 d) s (λ z. omega arith)
    ∙ load_other 3 [] [] e (reads_end e x) s (λ z. omega arith) ∙ load_none s [] (omega arith)

fit : {n : ℕ} {w : List ℕ} (r : Records n w) → Fit n (blocks_of r)
unfolding blocks_of Fit block_cells
fit (block_then h p t d b r) = (rw (length_cells p 4 (cell_count p)) b.place, fit r)
fit (remark_then h p t d l r) = fit r
fit (control_then_end h p e d c x) = tt

module _ {n : ℕ} {w : List ℕ} (s : List ℕ) (r : Records n w) (e : n ≡ length s) where
  fits : Fit (length s) (blocks_of r)
  fits = subst (λ m. Fit m (blocks_of r)) e (fit r)

  pub size_loaded : length (load_records s (records_of w)) ≡ length s
  size_loaded = rw (load_is s r) (length_loaded s (blocks_of r) fits)

  pub cells_loaded : NamedOnce (blocks_of r) → (i : ℕ) → Holds i (get_or s i 0) (blocks_of r) (get_or (load_records s (records_of w)) i 0)
  cells_loaded o i = rw (load_is s r) (holds i s (blocks_of r) fits o)

-- ---- the cells stay within their width

fit_append : (a b : List ℕ) → cells_fit a ≡ true → cells_fit b ≡ true → cells_fit (a ++ b) ≡ true
unfolding cells_fit
fit_append [] b e f = f
fit_append (x ∷ a) b e f = let h = both (ltb x 134217728) (cells_fit a) e in rw h.0 (fit_append a b h.1 f)

fit_take : (n : ℕ) (s : List ℕ) → cells_fit s ≡ true → cells_fit (take n s) ≡ true
unfolding cells_fit
fit_take zero s e = refl
fit_take (suc n) [] e = refl
fit_take (suc n) (x ∷ s) e = let h = both (ltb x 134217728) (cells_fit s) e in rw h.0 (fit_take n s h.1)

fit_drop : (n : ℕ) (s : List ℕ) → cells_fit s ≡ true → cells_fit (drop n s) ≡ true
unfolding cells_fit
fit_drop zero s e = e
fit_drop (suc n) [] e = e
fit_drop (suc n) (x ∷ s) e = fit_drop n s (both (ltb x 134217728) (cells_fit s) e).1

fit_stored : (s : List ℕ) (i : ℕ) (cs : List ℕ) → cells_fit s ≡ true → cells_fit cs ≡ true → cells_fit (stored_block s i cs) ≡ true
unfolding stored_block pasted
fit_stored s i cs e f = fit_append (take i s) _ (fit_take i s e) (fit_append cs _ f (fit_drop (length cs) (drop i s) (fit_drop i s e)))

fit_blocks : {n : ℕ} {w : List ℕ} (s : List ℕ) (r : Records n w) → cells_fit s ≡ true → cells_fit (load_blocks s (blocks_of r)) ≡ true
unfolding blocks_of load_blocks
fit_blocks s (block_then h p t d b r) e = fit_blocks (stored_block s (first_cell p) (block_cells p)) r (fit_stored s (first_cell p) (block_cells p) e b.cells)
fit_blocks s (remark_then h p t d l r) e = fit_blocks s r e
fit_blocks s (control_then_end h p e d c x) f = f

pub cells_fit_lem : {n : ℕ} {w : List ℕ} (s : List ℕ) (r : Records n w) → cells_fit s ≡ true → cells_fit (load_records s (records_of w)) ≡ true
cells_fit_lem s r e = rw (load_is s r) (fit_blocks s r e)

-- ---- the control record

pub control_is : {n : ℕ} {w : List ℕ} (r : Records n w) → payload_of (first_of 2 (records_of w)) ≡ control_payload r
unfolding control_payload
control_is (block_then h p t d b r) = ap payload_of (first_later 1 p t (h ++ (p ++ t)) (reads h p t 1 d) 2 (λ z. omega arith)) ∙ control_is r
control_is (remark_then h p t d l r) = ap payload_of (first_later 4 p t (h ++ (p ++ t)) (reads h p t 4 d) 2 (λ z. omega arith)) ∙ control_is r
control_is (control_then_end h p e d c x) = let k = reads h p e 2 d in ap payload_of (first_this 2 p e (h ++ (p ++ e)) k) ∙ k.payload

pub control_payload_good : {n : ℕ} {w : List ℕ} (r : Records n w) → ControlPayload (control_payload r)
unfolding control_payload
control_payload_good (block_then h p t d b r) = control_payload_good r
control_payload_good (remark_then h p t d l r) = control_payload_good r
control_payload_good (control_then_end h p e d c x) = c

bit : (x : ℕ) → one_if (eqb (x % 2) 1) ≡ x % 2
bit x = at (eqb (x % 2) 1) refl
  where
    at : (b : Bool) → eqb (x % 2) 1 ≡ b → one_if b ≡ x % 2
    at true e = sym (eqb-true (x % 2) 1 e)
    at false e = let o = eqb-false (x % 2) 1 e in omega arith

three_bits : (x : ℕ) → x ≤ 7 → x ≡ 1 * (x % 2) + 2 * (x / 2 % 2) + 4 * (x / 4 % 2)
three_bits x h =
    let a : x / 4 % 2 ≡ x / 4 = omega arith in
    let b : x / 2 / 2 ≡ x / 4 = omega arith in
    omega arith

registers_are : {n : ℕ} {w : List ℕ} (r : Records n w) → ControlFields (control_payload r) (control_of (control_payload r))
unfolding control_of
registers_are r =
    let p = control_payload r in
    record {
      ic = refl;
      ir = refl;
      im = refl;
      pending = refl;
      pr = refl;
      ex = refl;
      flags = rw (bit (flags_of p), bit (flags_of p / 2), bit (flags_of p / 4)) (three_bits (flags_of p) (control_payload_good r).registers.flags);
    }

timer_is : (p : List ℕ) → (length p ≡ 20) ⊎ (length p ≡ 33) → TimerFields p (timer_of p)
unfolding timer_of
timer_is p (inl e) = zeroes e (rw (lt-ltb (length p) 33 (omega arith)))
timer_is p (inr e) = let g = le-ltb (length p) 33 (omega arith) in fields e (rw g) (rw g) (rw g) (rw g)

pub record_fields : {n : ℕ} {w : List ℕ} (r : Records n w) → RecordFields (control_payload r) (control_record_of (control_payload r))
unfolding control_record_of
record_fields r = record { registers = registers_are r; timer = timer_is (control_payload r) (control_payload_good r).bytes }

-- ---- the first remark of the records from the byte `at` of the tape v on

module _ (v : List ℕ) where
  found_this : (at : ℕ) (p t w : List ℕ) → Reads 4 p t w → length v ≡ at + length w
      → span_by Accepted v w ≡ record { start = at + 6; end = at + 6 + length p; found = true; refusal = 0 }
  found_this at p t w r e =
      let l = six 4 p t w r in
      let z : at + length w - length w ≡ at = omega arith in
      rw (ne_eqb (length w) 0 (λ o. omega arith), e, z, r.size)

  pub span_is : {n : ℕ} {w : List ℕ} (at : ℕ) (r : Records n w) → length v ≡ at + length w → span_by Accepted v (first_of 4 (records_of w)) ≡ span_of (first_remark at r)
  unfolding first_remark
  span_is at (block_then h p t d b r) e =
      let k = d.bytes in
      let l : length v ≡ at + 6 + length p + length t = e ∙ simp length-append (omega arith) in
      ap (span_by Accepted v) (first_later 1 p t (h ++ (p ++ t)) (reads h p t 1 d) 4 (λ z. omega arith)) ∙ span_is (at + 6 + length p) r l
  span_is at (remark_then h p t d l r) e =
      let k = reads h p t 4 d in
      ap (span_by Accepted v) (first_this 4 p t (h ++ (p ++ t)) k) ∙ found_this at p t (h ++ (p ++ t)) k e
  span_is at (control_then_end h p e d c x) q =
      ap (span_by Accepted v)
      (first_later 2 p e (h ++ (p ++ e)) (reads h p e 2 d) 4 (λ z. omega arith)
      ∙ first_later 3 [] [] e (reads_end e x) 4 (λ z. omega arith)
      ∙ first_none 4 [] (omega arith))

pub text_is : {n : ℕ} {w : List ℕ} (at : ℕ) (r : Records n w) → payload_of (first_of 4 (records_of w)) ≡ remark_bytes (first_remark at r)
unfolding first_remark payload_of
text_is at (block_then h p t d b r) =
    ap payload_of (first_later 1 p t (h ++ (p ++ t)) (reads h p t 1 d) 4 (λ z. omega arith)) ∙ text_is (at + 6 + length p) r
text_is at (remark_then h p t d l r) = let k = reads h p t 4 d in ap payload_of (first_this 4 p t (h ++ (p ++ t)) k) ∙ k.payload
text_is at (control_then_end h p e d c x) =
    ap payload_of
    (first_later 2 p e (h ++ (p ++ e)) (reads h p e 2 d) 4 (λ z. omega arith)
    ∙ first_later 3 [] [] e (reads_end e x) 4 (λ z. omega arith)
    ∙ first_none 4 [] (omega arith)) ∙ take-nil (length_of [])
