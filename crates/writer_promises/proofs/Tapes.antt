-- The written tape, record by record: its grammar, and what the loader and the reader of the first remark make of it. Assumes nothing.
use Prim.Native.Nat.{ℕ, zero, suc, ◌+◌, ◌-◌, ◌≤◌, ◌<◌}
use mathlib.Core.Path.{◌≡◌, refl, sym, ap, subst, ◌∙◌}
use mathlib.Core.Bool.{Bool, true, false}
use mathlib.Core.Option.{Option, none, some}
use mathlib.Core.List.{List, [], ◌∷◌, ◌++◌, append_assoc, append-nil}
use mathlib.Core.Logic.{inr}
use native.Mathlib.Omega.{arith}
use borrow.Author.Tests.{ne_eqb, leb-true}
use lib.ListN.{length, drop, replicate, length-append}
use lib.Seq.{append_snoc, take-append_seam, drop-append_seam}
use lib.Dec.{ltb, eqb}
use Rattle.machine.specs.declared.Record.{Record}
use Rattle.machine.specs.Verdicts.{Accepted}
use Rattle.acceptance.specs.Accept.{cells_fit, control_fits, timer_fits}
use Rattle.definition_tape.specs.Layout.{payload_of, records_of, first_of, flags_of, zero_byte, control_of, timer_of, control_record_of}
use Rattle.tape_promises.specs.Grammar.{Header, BlockPayload, ControlPayload, Records, block_then, remark_then, control_then_end}
use Rattle.definition_tape.specs.Load.{pasted, stored_block, load_record, load_records, loaded_control}
use Rattle.definition_tape.specs.Remark.{span_by, text_by}
use Rattle.acceptance.proofs.Tests.{both}
use Rattle.definition_tape.proofs.Firsts.{first_here, first_next, first_none}
use Rattle.definition_tape.proofs.Loads.{load_more, load_none}
use Rattle.definition_tape.specs.Blocks.{Block, stretch, blocks_from, store_blocks}
use Rattle.definition_tape.specs.Bytes.{header_bytes, record_bytes, block_bytes, blocks_bytes, control_bytes, remark_record, TimerWidths, tape_of}
use Rattle.definition_tape.specs.Writing.{remark_of, remark_fits}
use Rattle.definition_tape.proofs.Bytes.{four_bytes, reads, length_block, first_back, count_back, block_back, length_control, control_back, flags_small}
use Rattle.tape_promises.proofs.Grammars.{timer_rules}
use Rattle.definition_tape.proofs.Stretches.{front, stretch_short}

-- ---- blocks that a tape can hold, for a store of n cells

unfoldable pub Fit : ℕ → List Block → Type 0
Fit n [] = Unit {0}
Fit n (b ∷ bs) = (0 < length b.cells) × (b.first + length b.cells ≤ n) × (cells_fit b.cells ≡ true) × Fit n bs

fit_stretch : (s : List ℕ) → cells_fit s ≡ true → cells_fit (stretch s) ≡ true
unfolding stretch cells_fit
fit_stretch [] e = refl
fit_stretch (zero ∷ s) e = refl
fit_stretch (suc x ∷ s) e = let h = both (ltb (suc x) 134217728) (cells_fit s) e in rw h.0 (fit_stretch s h.1)

fit_from : (n : ℕ) (inside : Bool) (i : ℕ) (s : List ℕ) → i + length s ≤ n → cells_fit s ≡ true → Fit n (blocks_from inside i s)
unfolding stretch blocks_from Fit cells_fit
fit_from n inside i [] h e = tt
fit_from n inside i (zero ∷ s) h e = fit_from n false (i + 1) s (omega arith) (both (ltb zero 134217728) (cells_fit s) e).1
fit_from n true i (suc x ∷ s) h e = fit_from n true (i + 1) s (omega arith) (both (ltb (suc x) 134217728) (cells_fit s) e).1
fit_from n false i (suc x ∷ s) h e =
    let f = both (ltb (suc x) 134217728) (cells_fit s) e in
    let l = stretch_short s in
    (omega arith, omega arith, fit_stretch (suc x ∷ s) e, fit_from n true (i + 1) s (omega arith) f.1)

pub fit_blocks : (s : List ℕ) → cells_fit s ≡ true → Fit (length s) (store_blocks s)
unfolding store_blocks
fit_blocks s e = fit_from (length s) false 0 s (omega arith) e

-- ---- the grammar

pub header : (k l : ℕ) → k < 65536 → l < 4294967296 → Header k l (header_bytes k l)
unfolding header_bytes
header k l h g = record { bytes = refl; size = four_bytes l g; kind = omega arith }

block_payload : (n : ℕ) (b : Block) → n ≤ 8388608 → 0 < length b.cells → b.first + length b.cells ≤ n → cells_fit b.cells ≡ true → BlockPayload n (block_bytes b)
block_payload n b u p h f =
    let l = length_block b in
    record {
      fours = omega arith;
      some = omega arith;
      place = rw (first_back b (omega arith), count_back b) h;
      cells = rw (block_back b f) f;
    }

pub blocks_then : (n : ℕ) (bs : List Block) (t : List ℕ) → n ≤ 8388608 → Fit n bs → Records n t → Records n (blocks_bytes bs ++ t)
unfolding Fit blocks_bytes record_bytes
blocks_then n [] t u f r = r
blocks_then n (b ∷ bs) t u f r =
    let p = block_bytes b in
    let l = length_block b in
    let e : record_bytes 1 p ++ blocks_bytes bs ++ t ≡ header_bytes 1 (length p) ++ (p ++ (blocks_bytes bs ++ t)) =
    append_assoc (record_bytes 1 p) (blocks_bytes bs) t ∙ append_assoc (header_bytes 1 (length p)) p (blocks_bytes bs ++ t) in
    subst (Records n) (sym e)
    (block_then (header_bytes 1 (length p)) p (blocks_bytes bs ++ t)
    (header 1 (length p) (omega arith) (omega (arith, f.1)))
    (block_payload n b u f.0 f.1 f.2)
    (blocks_then n bs t u f.3 r))

-- a control record that passes 3 and 18, and whose timer fits its bytes
pub record RecordFits (c : Record) : Type 0 where
  pub control : control_fits c.registers ≡ true
  pub timer : timer_fits c.timer ≡ true
  pub widths : TimerWidths c.timer

flags_fit_lem : (c : Record) → flags_of (control_bytes c) ≤ 7
unfolding control_bytes
flags_fit_lem c = flags_small c.registers.monitor c.registers.enabled c.registers.reset

twentieth_zero : (c : Record) → zero_byte (control_bytes c) ≡ 0
unfolding control_bytes
twentieth_zero c = refl

read_back : (c : Record) → RecordFits c → control_record_of (control_bytes c) ≡ c
read_back c f = control_back c f.control f.widths

control_payload_lem : (c : Record) → RecordFits c → ControlPayload (control_bytes c)
unfolding control_record_of
control_payload_lem c f =
    let e : control_of (control_bytes c) ≡ c.registers = ap (λ (r : Record). r.registers) (read_back c f) in
    let g : timer_of (control_bytes c) ≡ c.timer = ap (λ (r : Record). r.timer) (read_back c f) in
    record {
      bytes = inr (length_control c);
      registers = record { flags = flags_fit_lem c; zero = twentieth_zero c; fields = ap control_fits e ∙ f.control };
      timer = timer_rules (timer_of (control_bytes c)) (ap timer_fits g ∙ f.timer);
    }

pub control_then : (n : ℕ) (c : Record) → RecordFits c → Records n (record_bytes 2 (control_bytes c) ++ record_bytes 3 [])
unfolding record_bytes
control_then n c f =
    let p = control_bytes c in
    let l = length_control c in
    let e : record_bytes 2 p ++ record_bytes 3 [] ≡ header_bytes 2 (length p) ++ (p ++ header_bytes 3 0) =
    append_assoc (header_bytes 2 (length p)) p (record_bytes 3 []) ∙ ap (λ (t : List ℕ). header_bytes 2 (length p) ++ (p ++ t)) (append-nil (header_bytes 3 0)) in
    subst (Records n) (sym e)
    (control_then_end (header_bytes 2 (length p)) p (header_bytes 3 0)
    (header 2 (length p) (omega arith) (omega arith))
    (control_payload_lem c f)
    (header 3 0 (omega arith) (omega arith)))

pub remark_before : (n : ℕ) (m : Option (List ℕ)) (t : List ℕ) → remark_fits m ≡ true → Records n t → Records n (remark_record m ++ t)
unfolding remark_fits remark_record record_bytes
remark_before n none t f r = r
remark_before n (some p) t f r =
    let l = leb-true (length p) 255 f in
    subst (Records n) (sym (append_assoc (header_bytes 4 (length p)) p t))
    (remark_then (header_bytes 4 (length p)) p t (header 4 (length p) (omega arith) (omega arith)) l r)

pub tape_grammar : (s : List ℕ) (c : Record) (m : Option (List ℕ)) → length s ≤ 8388608 → cells_fit s ≡ true → RecordFits c → remark_fits m ≡ true
    → Records (length s) (tape_of s c m)
unfolding tape_of
tape_grammar s c m l e f g =
    remark_before (length s) m _ g
    (blocks_then (length s) (store_blocks s) (record_bytes 2 (control_bytes c) ++ record_bytes 3 []) l (fit_blocks s e) (control_then (length s) c f))

-- ---- a written record, to the loader

module _ (k : ℕ) (p t : List ℕ) (hk : k < 65536) (hp : length p < 4294967296) where
  six : 6 ≤ length (record_bytes k p ++ t)
  six = omega (arith, (reads k p t hk hp).whole)

  load_on : (s : List ℕ) → load_records s (records_of (record_bytes k p ++ t)) ≡ load_records (load_record s (record_bytes k p ++ t)) (records_of t)
  load_on s = load_more s (record_bytes k p ++ t) six ∙ rw (reads k p t hk hp).rest

  pub load_other : (s : List ℕ) → (k ≡ 1 → ⊥) → load_records s (records_of (record_bytes k p ++ t)) ≡ load_records s (records_of t)
  unfolding load_record
  load_other s n = load_on s ∙ rw ((reads k p t hk hp).kind, ne_eqb k 1 n)

  pub skip : (j : ℕ) → (k ≡ j → ⊥) → first_of j (records_of (record_bytes k p ++ t)) ≡ first_of j (records_of t)
  skip j n = first_next j (record_bytes k p ++ t) six (rw (reads k p t hk hp).kind n) ∙ rw (reads k p t hk hp).rest

  pub found : first_of k (records_of (record_bytes k p ++ t)) ≡ record_bytes k p ++ t
  found = first_here k (record_bytes k p ++ t) six (reads k p t hk hp).kind

  pub found_payload : payload_of (first_of k (records_of (record_bytes k p ++ t))) ≡ p
  found_payload = ap payload_of found ∙ (reads k p t hk hp).payload

  pub found_some : eqb (length (first_of k (records_of (record_bytes k p ++ t)))) 0 ≡ false
  found_some = rw found (ne_eqb (length (record_bytes k p ++ t)) 0 (λ e. omega (arith, six)))

module _ (b : Block) (t : List ℕ) (hf : b.first < 4294967296) (hp : length (block_bytes b) < 4294967296) (f : cells_fit b.cells ≡ true) where
  pub load_block : (s : List ℕ) → load_records s (records_of (record_bytes 1 (block_bytes b) ++ t)) ≡ load_records (stored_block s b.first b.cells) (records_of t)
  unfolding load_record
  load_block s =
      let r = reads 1 (block_bytes b) t (omega arith) hp in
      load_on 1 (block_bytes b) t (omega arith) hp s ∙ rw (r.kind, r.payload, first_back b hf, block_back b f)

-- ---- the blocks, into a store whose cells before them are written and whose others are zero

drop_replicate : (j k a : ℕ) → drop j (replicate k a) ≡ replicate (k - j) a
drop_replicate zero k a = let e : k - 0 ≡ k = omega arith in rw e
drop_replicate (suc j) zero a = let e : 0 - suc j ≡ 0 = omega arith in rw e
drop_replicate (suc j) (suc k) a = let e : suc k - suc j ≡ k - j = omega arith in rw e (drop_replicate j k a)

-- the cells cs at the end of p, over zeroes
stored_zeros : (p cs : List ℕ) (k : ℕ) → stored_block (p ++ replicate k 0) (length p) cs ≡ p ++ (cs ++ replicate (k - length cs) 0)
unfolding stored_block pasted
stored_zeros p cs k = rw (take-append_seam p (replicate k 0), drop-append_seam p (replicate k 0), drop_replicate (length cs) k 0)

length_snoc : (p : List ℕ) (x : ℕ) → length p + 1 ≡ length (p ++ (x ∷ []))
length_snoc p x = sym (length-append p (x ∷ []))

loaded_from : (inside : Bool) (k : ℕ) (p q t st : List ℕ) (i : ℕ) → i ≡ length p → k + length (front inside q) ≡ length q → st ≡ p ++ (front inside q ++ replicate k 0)
    → i + length q ≤ 8388608 → cells_fit q ≡ true → load_records st (records_of (blocks_bytes (blocks_from inside i q) ++ t)) ≡ load_records (p ++ q) (records_of t)
unfolding stretch blocks_from blocks_bytes cells_fit
loaded_from true k p [] t st i ei ek es u f = let z : k ≡ 0 = omega arith in rw (es, z)
loaded_from false k p [] t st i ei ek es u f = let z : k ≡ 0 = omega arith in rw (es, z)
loaded_from true k p (zero ∷ q) t st i ei ek es u f =
    let z : k ≡ suc (length q) = omega arith in
    let h = both (ltb zero 134217728) (cells_fit q) f in
    let e = es ∙ ap (λ (n : ℕ). p ++ replicate n 0) z ∙ sym (append_snoc p 0 (replicate (length q) 0)) in
    loaded_from false (length q) (p ++ (0 ∷ [])) q t st (i + 1) (rw ei (length_snoc p 0)) (omega arith) e (omega arith) h.1 ∙ rw (append_snoc p 0 q)
loaded_from false k p (zero ∷ q) t st i ei ek es u f =
    let z : k ≡ suc (length q) = omega arith in
    let h = both (ltb zero 134217728) (cells_fit q) f in
    let e = es ∙ ap (λ (n : ℕ). p ++ replicate n 0) z ∙ sym (append_snoc p 0 (replicate (length q) 0)) in
    loaded_from false (length q) (p ++ (0 ∷ [])) q t st (i + 1) (rw ei (length_snoc p 0)) (omega arith) e (omega arith) h.1 ∙ rw (append_snoc p 0 q)
loaded_from true k p (suc x ∷ q) t st i ei ek es u f =
    let h = both (ltb (suc x) 134217728) (cells_fit q) f in
    let e = es ∙ sym (append_snoc p (suc x) (stretch q ++ replicate k 0)) in
    loaded_from true k (p ++ (suc x ∷ [])) q t st (i + 1) (rw ei (length_snoc p (suc x))) (omega arith) e (omega arith) h.1 ∙ rw (append_snoc p (suc x) q)
loaded_from false k p (suc x ∷ q) t st i ei ek es u f =
    let h = both (ltb (suc x) 134217728) (cells_fit q) f in
    let l = stretch_short q in
    let b : Block = record { first = i; cells = suc x ∷ stretch q } in
    let n = length_block b in
    let st' = stored_block st i (suc x ∷ stretch q) in
    let z : k - suc (length (stretch q)) ≡ length q - length (stretch q) = omega arith in
    let w : st' ≡ p ++ (suc x ∷ stretch q ++ replicate (length q - length (stretch q)) 0) =
    rw (es, ei) (stored_zeros p (suc x ∷ stretch q) k ∙ ap (λ (n : ℕ). p ++ (suc x ∷ stretch q ++ replicate n 0)) z) in
    let e = w ∙ sym (append_snoc p (suc x) (stretch q ++ replicate (length q - length (stretch q)) 0)) in
    ap (λ (r : List ℕ). load_records st (records_of r)) (append_assoc (record_bytes 1 (block_bytes b)) (blocks_bytes (blocks_from true (i + 1) q)) t)
    ∙ load_block b (blocks_bytes (blocks_from true (i + 1) q) ++ t) (omega arith) (omega arith) (fit_stretch (suc x ∷ q) f) st
    ∙ loaded_from true (length q - length (stretch q)) (p ++ (suc x ∷ [])) q t st' (i + 1) (rw ei (length_snoc p (suc x))) (omega arith) e (omega arith) h.1
    ∙ rw (append_snoc p (suc x) q)

pub load_blocks_lem : (s t : List ℕ) → length s ≤ 8388608 → cells_fit s ≡ true → load_records (replicate (length s) 0) (records_of (blocks_bytes (store_blocks s) ++ t)) ≡ load_records s (records_of t)
unfolding store_blocks
load_blocks_lem s t u f = loaded_from false (length s) [] s t (replicate (length s) 0) 0 refl (omega arith) refl (omega arith) f

skip_blocks : (n j : ℕ) (bs : List Block) (t : List ℕ) → n ≤ 8388608 → Fit n bs → (1 ≡ j → ⊥) → first_of j (records_of (blocks_bytes bs ++ t)) ≡ first_of j (records_of t)
unfolding Fit blocks_bytes
skip_blocks n j [] t u f h = refl
skip_blocks n j (b ∷ bs) t u f h =
    let l = length_block b in
    ap (λ (r : List ℕ). first_of j (records_of r)) (append_assoc (record_bytes 1 (block_bytes b)) (blocks_bytes bs) t)
    ∙ skip 1 (block_bytes b) (blocks_bytes bs ++ t) (omega arith) (omega (arith, f.1)) j h
    ∙ skip_blocks n j bs t u f.3 h

-- ---- the control record and the end

module _ (c : Record) where
  abbrev last_two : List ℕ
  last_two = record_bytes 2 (control_bytes c) ++ record_bytes 3 []

  end_is : record_bytes 3 [] ≡ record_bytes 3 [] ++ []
  end_is = sym (append-nil (record_bytes 3 []))

  pub load_control : (s : List ℕ) → load_records s (records_of last_two) ≡ s
  load_control s =
      load_other 2 (control_bytes c) (record_bytes 3 []) (omega arith) (omega (arith, length_control c)) s (λ e. omega arith)
      ∙ ap (λ (r : List ℕ). load_records s (records_of r)) end_is
      ∙ load_other 3 [] [] (omega arith) (omega arith) s (λ e. omega arith)
      ∙ load_none s [] (omega arith)

  pub first_control : payload_of (first_of 2 (records_of last_two)) ≡ control_bytes c
  first_control = found_payload 2 (control_bytes c) (record_bytes 3 []) (omega arith) (omega (arith, length_control c))

  pub no_remark : first_of 4 (records_of last_two) ≡ []
  no_remark =
      skip 2 (control_bytes c) (record_bytes 3 []) (omega arith) (omega (arith, length_control c)) 4 (λ e. omega arith)
      ∙ ap (λ (r : List ℕ). first_of 4 (records_of r)) end_is
      ∙ skip 3 [] [] (omega arith) (omega arith) 4 (λ e. omega arith)
      ∙ first_none 4 [] (omega arith)

-- ---- the whole tape

load_remark : (s : List ℕ) (m : Option (List ℕ)) (t : List ℕ) → remark_fits m ≡ true → load_records s (records_of (remark_record m ++ t)) ≡ load_records s (records_of t)
unfolding remark_fits remark_record
load_remark s none t f = refl
load_remark s (some r) t f =
    let l = leb-true (length r) 255 f in
    load_other 4 r t (omega arith) (omega arith) s (λ e. omega arith)

skip_remark : (m : Option (List ℕ)) (t : List ℕ) → remark_fits m ≡ true → first_of 2 (records_of (remark_record m ++ t)) ≡ first_of 2 (records_of t)
unfolding remark_fits remark_record
skip_remark none t f = refl
skip_remark (some r) t f =
    let l = leb-true (length r) 255 f in
    skip 4 r t (omega arith) (omega arith) 2 (λ e. omega arith)

module _ (s : List ℕ) (c : Record) (m : Option (List ℕ)) (u : length s ≤ 8388608) (e : cells_fit s ≡ true) (f : RecordFits c) (g : remark_fits m ≡ true) where
  abbrev after_remark : List ℕ
  after_remark = blocks_bytes (store_blocks s) ++ (record_bytes 2 (control_bytes c) ++ record_bytes 3 [])

  -- the cells
  pub load_tape : load_records (replicate (length s) 0) (records_of (tape_of s c m)) ≡ s
  unfolding tape_of
  load_tape =
      load_remark (replicate (length s) 0) m after_remark g
      ∙ load_blocks_lem s (record_bytes 2 (control_bytes c) ++ record_bytes 3 []) u e
      ∙ load_control c s

  -- the control record
  pub tape_control : loaded_control (tape_of s c m) ≡ c
  unfolding tape_of loaded_control
  tape_control =
      ap (λ (r : List ℕ). control_record_of (payload_of r))
      (skip_remark m after_remark g ∙ skip_blocks (length s) 2 (store_blocks s) (record_bytes 2 (control_bytes c) ++ record_bytes 3 []) u (fit_blocks s e) (λ z. omega arith))
      ∙ ap control_record_of (first_control c)
      ∙ read_back c f

-- the remark
abbrev pub text_of : List ℕ → Option (List ℕ)
text_of w = remark_of (span_by Accepted w (first_of 4 (records_of w))).found (text_by Accepted (first_of 4 (records_of w)))

pub tape_remark : (s : List ℕ) (c : Record) (m : Option (List ℕ)) → length s ≤ 8388608 → cells_fit s ≡ true → remark_fits m ≡ true → text_of (tape_of s c m) ≡ m
unfolding tape_of remark_record remark_fits
tape_remark s c none u e g = rw (skip_blocks (length s) 4 (store_blocks s) (record_bytes 2 (control_bytes c) ++ record_bytes 3 []) u (fit_blocks s e) (λ z. omega arith) ∙ no_remark c)
tape_remark s c (some r) u e g =
    let l = leb-true (length r) 255 g in
    let t = blocks_bytes (store_blocks s) ++ (record_bytes 2 (control_bytes c) ++ record_bytes 3 []) in
    rw (found_some 4 r t (omega arith) (omega arith), found_payload 4 r t (omega arith) (omega arith))
