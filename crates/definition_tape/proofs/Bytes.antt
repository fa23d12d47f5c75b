-- The written bytes, as the loader reads them. Assumes nothing.
use Prim.Native.Nat.{ℕ, ◌+◌, ◌*◌, ◌/◌, ◌%◌, ◌≤◌, ◌<◌}
use mathlib.Core.Path.{◌≡◌, refl, sym, ap, ◌∙◌}
use mathlib.Core.Bool.{Bool, true, false}
use mathlib.Core.List.{List, [], ◌∷◌, ◌++◌, append_assoc}
use native.Mathlib.Nat.{div-div-eq-div-mul, mod-eq_of_lt}
use native.Mathlib.Omega.{arith}
use borrow.Author.Tests.{ltb-true}
use lib.ListN.{length, get_or, length-append}
use lib.Seq.{take-append_seam, drop-append_seam, drop-drop, get_or-append-add}
use lib.Dec.{eqb, ltb}
use Rattle.machine.specs.declared.Control.{Control}
use Rattle.machine.specs.declared.Timer.{Timer}
use Rattle.machine.specs.declared.Record.{Record}
use Rattle.acceptance.specs.Accept.{cells_fit, state_fits, control_fits}
use Rattle.definition_tape.specs.Layout.{number_at, length_of, kind_of, payload_of, rest_of, first_cell, cell_count, cells_from, block_cells, control_of, timer_of, control_record_of}
use Rattle.acceptance.proofs.Tests.{both, neither}
use Rattle.definition_tape.specs.Blocks.{Block}
use Rattle.definition_tape.specs.Bytes.{bytes4, header_bytes, record_bytes, cells_bytes, block_bytes, flag, control_bytes, TimerWidths}

-- ---- numbers

digits : (n a b c p q r : ℕ) → p + 256 * a ≡ n → q + 256 * b ≡ a → r + 256 * c ≡ b → p + 256 * q + 65536 * r + 16777216 * c ≡ n
digits n a b c p q r e f g = omega arith

pub four_bytes : (n : ℕ) → n < 4294967296 → n % 256 + 256 * (n / 256 % 256) + 65536 * (n / 65536 % 256) + 16777216 * (n / 16777216 % 256) ≡ n
four_bytes n h =
    let a : n % 256 + 256 * (n / 256) ≡ n = omega arith in
    let b : n / 256 % 256 + 256 * (n / 65536) ≡ n / 256 = rw (← div-div-eq-div-mul n 256 256) (omega arith) in
    let c : n / 65536 % 256 + 256 * (n / 16777216) ≡ n / 65536 = rw (← div-div-eq-div-mul n 65536 256) (omega arith) in
    let l : n / 16777216 < 256 = omega arith in
    rw (mod-eq_of_lt l) (digits n (n / 256) (n / 65536) (n / 16777216) (n % 256) (n / 256 % 256) (n / 65536 % 256) a b c)

-- the number n behind the bytes q
pub number_at_lem : (q t : List ℕ) (at n : ℕ) → at ≡ length q → n < 4294967296 → number_at (q ++ (bytes4 n ++ t)) at ≡ n
number_at_lem q t at n e h =
    let z : length q + 0 ≡ length q = omega arith in
    let f : get_or (q ++ (bytes4 n ++ t)) (length q) 0 ≡ n % 256 = rw z at (get_or-append-add q (bytes4 n ++ t) 0 0) in
    rw (e, f, get_or-append-add q (bytes4 n ++ t) 1 0, get_or-append-add q (bytes4 n ++ t) 2 0, get_or-append-add q (bytes4 n ++ t) 3 0)
    (four_bytes n h)

-- ---- a record's header, payload and rest

pub length_header : (k l : ℕ) → length (header_bytes k l) ≡ 6
unfolding header_bytes
length_header k l = refl

pub length_record : (k : ℕ) (p : List ℕ) → length (record_bytes k p) ≡ 6 + length p
unfolding record_bytes
length_record k p = length-append (header_bytes k (length p)) p ∙ ap (λ (x : ℕ). x + length p) (length_header k (length p))

pub record Reads (k : ℕ) (p t w : List ℕ) : Type 0 where
  pub size : length_of w ≡ length p
  pub kind : kind_of w ≡ k
  pub payload : payload_of w ≡ p
  pub rest : rest_of w ≡ t
  pub whole : 6 + length p ≤ length w

-- a written record, whatever stands after it
pub reads : (k : ℕ) (p t : List ℕ) → k < 65536 → length p < 4294967296 → Reads k p t (record_bytes k p ++ t)
unfolding record_bytes header_bytes length_of kind_of payload_of rest_of
reads k p t hk hp =
    let s : length_of (record_bytes k p ++ t) ≡ length p = four_bytes (length p) hp in
    record {
      size = s;
      kind = omega arith;
      payload = rw s (take-append_seam p t);
      rest = rw s (sym (drop-drop (length p) 6 (record_bytes k p ++ t)) ∙ drop-append_seam p t);
      whole = simp length-append (omega arith);
    }

-- ---- a block

pub length_cells_bytes : (cs : List ℕ) → length (cells_bytes cs) ≡ 4 * length cs
unfolding cells_bytes
length_cells_bytes [] = refl
length_cells_bytes (x ∷ cs) = let e = length_cells_bytes cs in omega arith

pub length_block : (b : Block) → length (block_bytes b) ≡ 4 + 4 * length b.cells
unfolding block_bytes
length_block b = let e = length_cells_bytes b.cells in omega arith

cells_back : (q : List ℕ) (at : ℕ) (cs : List ℕ) → at ≡ length q → cells_fit cs ≡ true → cells_from (q ++ cells_bytes cs) at (length cs) ≡ cs
unfolding cells_bytes cells_from cells_fit
cells_back q at [] e f = refl
cells_back q at (x ∷ cs) e f =
    let h = both (ltb x 134217728) (cells_fit cs) f in
    let l : x < 134217728 = ltb-true x 134217728 h.0 in
    let a : at + 4 ≡ length (q ++ bytes4 x) = simp length-append (omega arith) in
    let ih = rw (append_assoc q (bytes4 x) (cells_bytes cs)) at (cells_back (q ++ bytes4 x) (at + 4) cs a h.1) in
    rw (number_at_lem q (cells_bytes cs) at x e (omega arith), ih)

pub first_back : (b : Block) → b.first < 4294967296 → first_cell (block_bytes b) ≡ b.first
unfolding block_bytes
first_back b h = four_bytes b.first h

pub count_back : (b : Block) → cell_count (block_bytes b) ≡ length b.cells
count_back b = let e = length_block b in omega arith

pub block_back : (b : Block) → cells_fit b.cells ≡ true → block_cells (block_bytes b) ≡ b.cells
unfolding block_cells block_bytes
block_back b f = rw (count_back b) (cells_back (bytes4 b.first) 4 b.cells refl f)

-- ---- the control record

pub record Widths (c : Control) : Type 0 where
  pub ic : c.ic < 16777216
  pub ir : c.ir < 16777216
  pub im : c.im < 16777216
  pub pending : c.pending < 16777216
  pub pr : c.pr < 256
  pub ex : c.ex < 8

pub widths : (c : Control) → control_fits c ≡ true → Widths c
unfolding control_fits
widths c e =
    let a = both _ _ e in
    let b = both _ _ a.1 in
    let d = both _ _ b.1 in
    let f = both _ _ d.1 in
    let g = neither (ltb c.pr 128) _ f.1 in
    let h = both _ _ g.1 in
    let i = both (ltb c.ex 8) (state_fits c) h.1 in
    record {
      ic = ltb-true c.ic 16777216 a.0;
      ir = ltb-true c.ir 16777216 b.0;
      im = ltb-true c.im 16777216 d.0;
      pending = ltb-true c.pending 16777216 f.0;
      pr = ltb-true c.pr 256 h.0;
      ex = ltb-true c.ex 8 i.0;
    }

flags_back : (m n r : Bool) → (eqb ((flag m 1 + flag n 2 + flag r 4) % 2) 1 ≡ m) × (eqb ((flag m 1 + flag n 2 + flag r 4) / 2 % 2) 1 ≡ n) × (eqb ((flag m 1 + flag n 2 + flag r 4) / 4 % 2) 1 ≡ r)
flags_back true true true = (refl, refl, refl)
flags_back true true false = (refl, refl, refl)
flags_back true false true = (refl, refl, refl)
flags_back true false false = (refl, refl, refl)
flags_back false true true = (refl, refl, refl)
flags_back false true false = (refl, refl, refl)
flags_back false false true = (refl, refl, refl)
flags_back false false false = (refl, refl, refl)

pub flags_small : (m n r : Bool) → flag m 1 + flag n 2 + flag r 4 ≤ 7
flags_small true true true = omega arith
flags_small true true false = omega arith
flags_small true false true = omega arith
flags_small true false false = omega arith
flags_small false true true = omega arith
flags_small false true false = omega arith
flags_small false false true = omega arith
flags_small false false false = omega arith

pub length_control : (r : Record) → length (control_bytes r) ≡ 33
unfolding control_bytes
length_control r = refl

registers_back : (c : Control) (t : Timer) → control_fits c ≡ true → control_of (control_bytes (record { registers = c; timer = t })) ≡ c
unfolding control_of control_bytes
registers_back c t e =
    let w = widths c e in
    let f = flags_back c.monitor c.enabled c.reset in
    let p : c.pr % 256 ≡ c.pr = mod-eq_of_lt w.pr in
    let x : c.ex % 256 ≡ c.ex = mod-eq_of_lt (omega (arith, w.ex)) in
    rw (
      four_bytes c.ic (omega (arith, w.ic)),
      four_bytes c.ir (omega (arith, w.ir)),
      four_bytes c.im (omega (arith, w.im)),
      four_bytes c.pending (omega (arith, w.pending)),
      p,
      x,
      f.0,
      f.1,
      f.2,
    )

timer_back : (c : Control) (t : Timer) → TimerWidths t → timer_of (control_bytes (record { registers = c; timer = t })) ≡ t
unfolding timer_of control_bytes
timer_back c t w =
    let l : t.line % 256 ≡ t.line = mod-eq_of_lt w.line in
    rw (four_bytes t.elapsed w.elapsed, four_bytes t.period w.period, four_bytes t.phase w.phase, l)

pub control_back : (r : Record) → control_fits r.registers ≡ true → TimerWidths r.timer → control_record_of (control_bytes r) ≡ r
unfolding control_record_of
control_back r e w = rw (registers_back r.registers r.timer e, timer_back r.registers r.timer w)
