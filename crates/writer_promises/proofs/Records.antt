-- The records of a written tape, as the layout reads them. Assumes nothing.
use Prim.Native.Nat.{ℕ, ◌+◌, ◌≤◌, ◌<◌}
use mathlib.Core.Path.{◌≡◌, refl, sym, ap, ◌∙◌}
use mathlib.Core.Bool.{Bool, true, false, cond}
use mathlib.Core.Option.{Option, none, some}
use mathlib.Core.List.{List, [], ◌∷◌, ◌++◌, map, append_assoc, append-nil}
use native.Mathlib.Omega.{arith}
use borrow.Author.Tests.{leb-true}
use lib.ListN.{length}
use lib.Dec.{eqb, leb, ltb}
use Rattle.machine.specs.declared.Record.{Record}
use Rattle.acceptance.specs.Accept.{cells_fit, control_fits}
use Rattle.definition_tape.specs.Layout.{kind_of, payload_of, records_of, first_cell, cell_count, block_cells, control_record_of}
use Rattle.definition_tape.specs.Judge.{names, times_named}
use Rattle.definition_tape.specs.Blocks.{Block, store_blocks}
use Rattle.definition_tape.specs.Bytes.{record_bytes, block_bytes, blocks_bytes, control_bytes, remark_record, TimerWidths, tape_of}
use Rattle.definition_tape.specs.Writing.{remark_fits, Writable}
use Rattle.definition_tape.proofs.Bytes.{reads, length_block, first_back, block_back, length_control, control_back}
use Rattle.definition_tape.proofs.Records.{records_none, records_more}
use Rattle.definition_tape.proofs.Machines.{machine}
use Rattle.definition_tape.proofs.Loads.{length_cells}
use Rattle.tape_promises.proofs.Grammars.{OnceAfter}
use Rattle.tape_promises.proofs.Once.{naming, times, once_times}
use Rattle.writer_promises.specs.Claims.{Content, block, control, end, remark, content_of, remark_contents, TapeRecords}
use Rattle.writer_promises.proofs.Tapes.{Fit, fit_blocks}
use Rattle.writer_promises.proofs.Stretches.{rising_once, rising_blocks}

abbrev contents_of : List ℕ → List Content
contents_of t = map content_of (records_of t)

-- a written record is read by its kind and payload, then those after it
module _ (k : ℕ) (p t : List ℕ) (hk : k < 65536) (hp : length p < 4294967296) where
  next : contents_of (record_bytes k p ++ t) ≡ content_of (record_bytes k p ++ t) ∷ contents_of t
  next =
      let r = reads k p t hk hp in
      rw (records_more (record_bytes k p ++ t) (omega (arith, r.whole)), r.rest)

in_block : (b : Block) (t : List ℕ) → b.first < 4294967296 → length (block_bytes b) < 4294967296 → cells_fit b.cells ≡ true
    → contents_of (record_bytes 1 (block_bytes b) ++ t) ≡ block b ∷ contents_of t
unfolding content_of
in_block b t hf hp f =
    let r = reads 1 (block_bytes b) t (omega arith) hp in
    next 1 (block_bytes b) t (omega arith) hp ∙ rw (r.kind, r.payload, first_back b hf, block_back b f)

in_blocks : (n : ℕ) (bs : List Block) (t : List ℕ) → n ≤ 8388608 → Fit n bs → contents_of (blocks_bytes bs ++ t) ≡ map block bs ++ contents_of t
unfolding Fit blocks_bytes
in_blocks n [] t u f = refl
in_blocks n (b ∷ bs) t u f =
    let l = length_block b in
    ap contents_of (append_assoc (record_bytes 1 (block_bytes b)) (blocks_bytes bs) t)
    ∙ in_block b (blocks_bytes bs ++ t) (omega (arith, f.1)) (omega (arith, f.1)) f.2
    ∙ ap (λ (r : List Content). block b ∷ r) (in_blocks n bs t u f.3)

in_control : (c : Record) → control_fits c.registers ≡ true → TimerWidths c.timer → contents_of (record_bytes 2 (control_bytes c) ++ record_bytes 3 []) ≡ control c ∷ end ∷ []
unfolding content_of
in_control c f w =
    let l = length_control c in
    let r = reads 2 (control_bytes c) (record_bytes 3 []) (omega arith) (omega arith) in
    let e = reads 3 [] [] (omega arith) (omega arith) in
    next 2 (control_bytes c) (record_bytes 3 []) (omega arith) (omega arith)
    ∙ rw (r.kind, r.payload, control_back c f w)
    (ap (λ (x : List Content). control c ∷ x)
    (ap contents_of (sym (append-nil (record_bytes 3 []))) ∙ next 3 [] [] (omega arith) (omega arith) ∙ rw (e.kind, records_none [] (omega arith))))

in_remark : (m : Option (List ℕ)) (t : List ℕ) → remark_fits m ≡ true → contents_of (remark_record m ++ t) ≡ remark_contents m ++ contents_of t
unfolding remark_fits remark_record content_of
in_remark none t f = refl
in_remark (some p) t f =
    let l = leb-true (length p) 255 f in
    let r = reads 4 p t (omega arith) (omega arith) in
    next 4 p t (omega arith) (omega arith) ∙ rw (r.kind, r.payload)

pub tape_records : TapeRecords
unfolding tape_of
tape_records s c m w x =
    let h = machine s c w.machine in
    in_remark m _ w.remark
    ∙ ap (λ (y : List Content). remark_contents m ++ y)
    (in_blocks (length s) (store_blocks s) (record_bytes 2 (control_bytes c) ++ record_bytes 3 []) h.size (fit_blocks s h.cells)
    ∙ ap (λ (y : List Content). map block (store_blocks s) ++ y) (in_control c h.control x))

-- ---- the cells that the records name

abbrev names_content : Content → ℕ → Bool
names_content (block b) i = naming b i
names_content (control c) i = false
names_content end i = false
names_content (remark r) i = false

times_contents : List Content → ℕ → ℕ
times_contents [] i = 0
times_contents (c ∷ cs) i = cond (names_content c i) 1 0 + times_contents cs i

names_content_lem : (t : List ℕ) (i : ℕ) → names t i ≡ names_content (content_of t) i
unfolding names naming content_of block_cells
names_content_lem t i = at (eqb (kind_of t) 1) (eqb (kind_of t) 2) (eqb (kind_of t) 3)
  where
    at : (a b c : Bool)
        → cond a (cond (leb (first_cell (payload_of t)) i) (ltb i (first_cell (payload_of t) + cell_count (payload_of t))) false) false
        ≡ names_content (cond a (block (record { first = first_cell (payload_of t); cells = block_cells (payload_of t) })) (cond b (control (control_record_of (payload_of t))) (cond c end (remark (payload_of t))))) i
    at true b c = rw (length_cells (payload_of t) 4 (cell_count (payload_of t)))
    at false true c = refl
    at false false true = refl
    at false false false = refl

times_contents_lem : (ts : List (List ℕ)) (i : ℕ) → times_named ts i ≡ times_contents (map content_of ts) i
unfolding times_named times_contents
times_contents_lem [] i = refl
times_contents_lem (t ∷ ts) i = rw (names_content_lem t i, times_contents_lem ts i)

times_blocks : (bs : List Block) (cs : List Content) (i : ℕ) → times_contents (map block bs ++ cs) i ≡ times bs i + times_contents cs i
unfolding times_contents times
times_blocks [] cs i = omega arith
times_blocks (b ∷ bs) cs i = let e = times_blocks bs cs i in omega arith

times_tape : (bs : List Block) (c : Record) (m : Option (List ℕ)) (i : ℕ) → times_contents (remark_contents m ++ (map block bs ++ (control c ∷ end ∷ []))) i ≡ times bs i
unfolding times_contents
times_tape bs c none i = let e = times_blocks bs (control c ∷ end ∷ []) i in omega arith
times_tape bs c (some r) i = let e = times_blocks bs (control c ∷ end ∷ []) i in omega arith

pub tape_once : (s : List ℕ) (c : Record) (m : Option (List ℕ)) → Writable s c m → TimerWidths c.timer → OnceAfter [] (tape_of s c m)
unfolding times_named
tape_once s c m w x i =
    let e = times_contents_lem (records_of (tape_of s c m)) i ∙ ap (λ (cs : List Content). times_contents cs i) (tape_records s c m w x) ∙ times_tape (store_blocks s) c m i in
    let l = once_times (store_blocks s) (rising_once 0 (store_blocks s) (rising_blocks s).0) i in
    omega arith
