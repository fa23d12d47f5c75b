-- The judge and the grammar agree. Assumes nothing.
use Prim.Native.Nat.{ℕ, ◌+◌, ◌*◌, ◌%◌, ◌≤◌, ◌<◌}
use mathlib.Core.Path.{◌≡◌, refl, sym, ap, subst, ◌∙◌}
use mathlib.Core.Bool.{Bool, true, false, cond}
use mathlib.Core.List.{List, [], ◌∷◌, ◌++◌, append-nil}
use mathlib.Core.Logic.{◌⊎◌, inl, inr}
use native.Mathlib.Omega.{arith}
use native.Mathlib.Decide.{ℕ_discrete}
use borrow.Author.Tests.{le-leb, le-ltb, lt-ltb, eq-eqb, ne_eqb, leb-true, eqb-true, ltb-true, ltb-false}
use lib.ListN.{length, take, drop, get_or, length-append, length-take, take-append-drop, get_or-append}
use lib.Seq.{take-append_seam, drop-append_seam, drop-drop, get_or-take}
use lib.Dec.{leb, ltb, eqb}
use Rattle.machine.specs.declared.Timer.{Timer}
use Rattle.machine.specs.Verdicts.{Accepted}
use Rattle.acceptance.specs.Accept.{timer_fits}
use Rattle.acceptance.proofs.Tests.{both, neither}
use Rattle.definition_tape.specs.Layout.{number_at, length_of, kind_of, payload_of, rest_of, records_of, first_cell, cell_count, flags_of, zero_byte, timer_of}
use Rattle.definition_tape.specs.Judge.{kind_known, in_order, length_fits, judge_block, control_good, judge_control, judge_payload, names, times_named, unnamed_cells}
use Rattle.tape_promises.specs.Grammar.{Header, BlockPayload, RegistersPayload, TimerRules, ControlPayload, Records, block_then, remark_then, control_then_end}
use Rattle.definition_tape.proofs.Records.{length_payload, records_more}
use Rattle.definition_tape.proofs.Named.{cell_named, unnamed_back}
use Rattle.definition_tape.proofs.Judged.{Good, Judged, last, more, block_length, control_length, end_length, remark_length_lem, block_payload, control_payload_lem, no_end}

-- ---- from the judge to the grammar

parts : (t : List ℕ) → t ≡ take 6 t ++ (payload_of t ++ rest_of t)
unfolding payload_of rest_of
parts t =
    sym (take-append-drop 6 t)
    ∙ ap (◌++◌ (take 6 t)) (sym (take-append-drop (length_of t) (drop 6 t)) ∙ ap (◌++◌ (take (length_of t) (drop 6 t))) (drop-drop (length_of t) 6 t))

front : (t : List ℕ) (i : ℕ) → i < 6 → get_or (take 6 t) i 0 ≡ get_or t i 0
front t i h = get_or-take 6 t i 0 h

header_size : (t : List ℕ) → number_at (take 6 t) 0 ≡ length_of t
unfolding length_of
header_size t = rw (front t 0 (omega arith), front t 1 (omega arith), front t 2 (omega arith), front t 3 (omega arith))

header_kind : (t : List ℕ) → get_or (take 6 t) 4 0 + 256 * get_or (take 6 t) 5 0 ≡ kind_of t
unfolding kind_of
header_kind t = rw (front t 4 (omega arith), front t 5 (omega arith))

header_of : {n : ℕ} {after u : Bool} {t : List ℕ} (k : ℕ) → Good n after u t → kind_of t ≡ k → Header k (length (payload_of t)) (take 6 t)
header_of {n} {after} {u} {t} k g e =
    let w = g.whole in
    record {
      bytes = simp length-take (omega arith);
      size = header_size t ∙ sym (length_payload t w);
      kind = header_kind t ∙ e;
    }

block_of : {n : ℕ} {after u : Bool} {t : List ℕ} → Good n after u t → kind_of t ≡ 1 → BlockPayload n (payload_of t)
block_of {n} {after} {u} {t} g e =
    let l = block_length (length_of t) (rw e at g.size) in
    let p = block_payload n u (payload_of t) (rw e at g.payload) in
    let s = length_payload t g.whole in
    record { fours = rw s l.0; some = rw s l.1; place = p.0; cells = p.2 }

pub registers_of_lem : (p : List ℕ) → control_good p ≡ true → RegistersPayload p
unfolding control_good
registers_of_lem p e =
    let a = both (leb (flags_of p) 7) _ e in
    let b = both (eqb (zero_byte p) 0) _ a.1 in
    record { flags = leb-true (flags_of p) 7 a.0; zero = eqb-true (zero_byte p) 0 b.0; fields = b.1 }

pub registers_good : (p : List ℕ) → RegistersPayload p → control_good p ≡ true
unfolding control_good
registers_good p c = rw (le-leb (flags_of p) 7 c.flags, eq-eqb (zero_byte p) 0 c.zero, c.fields)

pub timer_rules : (t : Timer) → timer_fits t ≡ true → TimerRules t
unfolding timer_fits
timer_rules t e = record { line = λ h. (ltb-false t.line 3 (on h).0, let l = ltb-true t.line 24 (on h).1 in omega arith); phase = λ h. ltb-true t.phase t.period (on h).2 }
  where
    on : 0 < t.period → (ltb t.line 3 ≡ false) × (ltb t.line 24 ≡ true) × (ltb t.phase t.period ≡ true)
    on h =
        let o : t.period ≡ 0 → ⊥ = λ z. omega arith in
        let a = neither (ltb t.line 3) (cond (ltb t.line 24) (ltb t.phase t.period) false) (rw (ne_eqb t.period 0 o) at e) in
        let b = both (ltb t.line 24) (ltb t.phase t.period) a.1 in
        (a.0, b.0, b.1)

pub timer_good : (t : Timer) → TimerRules t → timer_fits t ≡ true
unfolding timer_fits
timer_good t r = at (ℕ_discrete t.period 0)
  where
    at : Dec (t.period ≡ 0) → timer_fits t ≡ true
    at (yes e) = rw (eq-eqb t.period 0 e)
    at (no o) =
        let h : 0 < t.period = omega arith in
        let l = r.line h in
        rw (ne_eqb t.period 0 o, le-ltb t.line 3 l.0, lt-ltb t.line 24 (omega (arith, l.1)), lt-ltb t.phase t.period (r.phase h))

control_of_lem : {n : ℕ} {after u : Bool} {t : List ℕ} → Good n after u t → kind_of t ≡ 2 → ControlPayload (payload_of t)
control_of_lem {n} {after} {u} {t} g e =
    let s = length_payload t g.whole in
    let c = control_payload_lem n u (payload_of t) (rw e at g.payload) in
    record { bytes = rw s (control_length (length_of t) (rw e at g.size)); registers = registers_of_lem (payload_of t) c.0; timer = timer_rules (timer_of (payload_of t)) c.1 }

-- only the end stands after the control record
end_of : {n : ℕ} {after : Bool} {earlier : List (List ℕ)} {t : List ℕ} → Judged n after earlier t → after ≡ true → Header 3 0 t
unfolding length_of kind_of in_order
end_of {n} {after} {earlier} {t} (last g k h) a =
    let l = end_length (length_of t) (rw k at g.size) in
    let w = g.whole in
    record { bytes = omega arith; size = l; kind = k }
end_of {n} {after} {earlier} {t} (more g k j) a = absurd (k (eqb-true (kind_of t) 3 (rw a at g.order)))

kind_four : (k : ℕ) → kind_known k ≡ true → (k ≡ 1 → ⊥) → (k ≡ 2 → ⊥) → (k ≡ 3 → ⊥) → k ≡ 4
unfolding kind_known
kind_four k e a b c =
    let h = neither (ltb k 1) (leb k 4) e in
    let l = ltb-false k 1 h.0 in
    let u = leb-true k 4 h.1 in
    omega arith

pub grammar : {n : ℕ} {after : Bool} {earlier : List (List ℕ)} {t : List ℕ} → Judged n after earlier t → after ≡ false → Records n t
grammar {n} {after} {earlier} {t} (last g k h) a = absurd (no_end n after _ t g k a)
grammar {n} {after} {earlier} {t} (more g k j) a = subst (Records n) (sym (parts t)) (at (ℕ_discrete (kind_of t) 1) (ℕ_discrete (kind_of t) 2) (grammar j))
  where
    at : Dec (kind_of t ≡ 1) → Dec (kind_of t ≡ 2) → (eqb (kind_of t) 2 ≡ false → Records n (rest_of t)) → Records n (take 6 t ++ (payload_of t ++ rest_of t))
    at (yes e) d ih =
        let o : kind_of t ≡ 2 → ⊥ = λ z. omega arith in
        block_then (take 6 t) (payload_of t) (rest_of t) (header_of 1 g e) (block_of g e) (ih (ne_eqb (kind_of t) 2 o))
    at (no a) (yes e) ih = control_then_end (take 6 t) (payload_of t) (rest_of t) (header_of 2 g e) (control_of_lem g e) (end_of j (eq-eqb (kind_of t) 2 e))
    at (no a) (no b) ih =
        let e = kind_four (kind_of t) g.known a b k in
        let l = remark_length_lem (length_of t) (rw e at g.size) in
        remark_then (take 6 t) (payload_of t) (rest_of t) (header_of 4 g e) (rw (length_payload t g.whole) l) (ih (ne_eqb (kind_of t) 2 b))

-- ---- from the grammar to the judge

-- how the judge reads a record and what is left
pub record Reads (k : ℕ) (p t w : List ℕ) : Type 0 where
  pub size : length_of w ≡ length p
  pub kind : kind_of w ≡ k
  pub payload : payload_of w ≡ p
  pub rest : rest_of w ≡ t
  pub whole : 6 + length_of w ≤ length w

module _ (h x : List ℕ) (b : length h ≡ 6) where
  byte : (i : ℕ) → i < 6 → get_or (h ++ x) i 0 ≡ get_or h i 0
  byte i l = get_or-append h x 0 i (omega (arith, b))

  size_is : length_of (h ++ x) ≡ number_at h 0
  unfolding length_of
  size_is = rw (byte 0 (omega arith), byte 1 (omega arith), byte 2 (omega arith), byte 3 (omega arith))

  kind_is : kind_of (h ++ x) ≡ get_or h 4 0 + 256 * get_or h 5 0
  unfolding kind_of
  kind_is = rw (byte 4 (omega arith), byte 5 (omega arith))

  payload_at : drop 6 (h ++ x) ≡ x
  payload_at = rw b at (drop-append_seam h x)

pub reads : (h p t : List ℕ) (k : ℕ) → Header k (length p) h → Reads k p t (h ++ (p ++ t))
unfolding payload_of rest_of
reads h p t k d =
    let b = d.bytes in
    let s = size_is h (p ++ t) b ∙ d.size in
    record {
      size = s;
      kind = kind_is h (p ++ t) b ∙ d.kind;
      payload = rw (s, payload_at h (p ++ t) b) (take-append_seam p t);
      rest = rw s (sym (drop-drop (length p) 6 (h ++ (p ++ t))) ∙ ap (drop (length p)) (payload_at h (p ++ t) b) ∙ drop-append_seam p t);
      whole = simp length-append (omega arith);
    }

good_of : (n k : ℕ) (after u : Bool) (p t w : List ℕ) → Reads k p t w → kind_known k ≡ true → in_order after k ≡ true → length_fits k (length p) ≡ true
    → judge_payload n u k p ≡ Accepted → Good n after u w
good_of n k after u p t w r a b c d =
    record {
      known = rw r.kind a;
      order = rw r.kind b;
      size = rw (r.kind, r.size) c;
      whole = r.whole;
      payload = rw (r.kind, r.payload) d;
    }

good_block : (n : ℕ) (u : Bool) (p t w : List ℕ) → Reads 1 p t w → BlockPayload n p → u ≡ true → Good n false u w
unfolding kind_known in_order length_fits judge_payload judge_block
good_block n u p t w r b e =
    good_of n 1 false u p t w r refl refl
    (rw (eq-eqb (length p % 4) 0 b.fours, le-leb 8 (length p) b.some))
    (rw (le-leb (first_cell p + cell_count p) n b.place, e, b.cells))

good_remark : (n : ℕ) (u : Bool) (p t w : List ℕ) → Reads 4 p t w → length p ≤ 255 → Good n false u w
unfolding kind_known in_order length_fits judge_payload
good_remark n u p t w r h = good_of n 4 false u p t w r refl refl (le-leb (length p) 255 h) refl

pub control_fits_lem : (l : ℕ) → (l ≡ 20) ⊎ (l ≡ 33) → length_fits 2 l ≡ true
unfolding length_fits
control_fits_lem l (inl e) = rw e
control_fits_lem l (inr e) = rw e

good_control : (n : ℕ) (u : Bool) (p t w : List ℕ) → Reads 2 p t w → ControlPayload p → Good n false u w
unfolding kind_known in_order judge_payload judge_control
good_control n u p t w r c =
    good_of n 2 false u p t w r refl refl (control_fits_lem (length p) c.bytes) (rw (registers_good p c.registers, timer_good (timer_of p) c.timer))

judged_end : (n : ℕ) (earlier : List (List ℕ)) (e : List ℕ) → Header 3 0 e → Judged n true earlier e
unfolding length_of kind_of kind_known in_order length_fits judge_payload
judged_end n earlier e d =
    let b = d.bytes in
    let s = d.size in
    last {after = true} {earlier = earlier} {t = e}
    (record {
      known = rw d.kind;
      order = rw d.kind;
      size = rw (d.kind, s);
      whole = omega arith;
      payload = rw d.kind;
    })
    d.kind
    (omega arith)

pub reads_end : (e : List ℕ) → Header 3 0 e → Reads 3 [] [] e
reads_end e x = rw append-nil at (reads e [] [] 3 x)

-- the records of a tape that begins with one
pub first_record : {k : ℕ} {p t w : List ℕ} → Reads k p t w → records_of w ≡ w ∷ records_of t
first_record {k} {p} {t} {w} r = let h = r.whole in records_more w (omega arith) ∙ rw r.rest

-- none of the cells that are named from here on is named by an earlier record, and none twice
abbrev pub OnceAfter : List (List ℕ) → List ℕ → Type 0
OnceAfter earlier w = (i : ℕ) → times_named earlier i + times_named (records_of w) i ≤ 1

once_next : {k : ℕ} {p t w : List ℕ} (earlier : List (List ℕ)) → Reads k p t w → OnceAfter earlier w → OnceAfter (w ∷ earlier) t
unfolding times_named
once_next {k} {p} {t} {w} earlier r o i =
    let e : times_named (records_of w) i ≡ times_named (w ∷ records_of t) i = ap (λ (ts : List (List ℕ)). times_named ts i) (first_record r) in
    omega (arith, o i)

unnamed : {p t w : List ℕ} (earlier : List (List ℕ)) → Reads 1 p t w → OnceAfter earlier w → unnamed_cells earlier (payload_of w) ≡ true
unfolding times_named
unnamed {p} {t} {w} earlier r o =
    unnamed_back earlier (first_cell (payload_of w)) (cell_count (payload_of w))
    (λ j a b.
    let e : times_named (records_of w) j ≡ times_named (w ∷ records_of t) j = ap (λ (ts : List (List ℕ)). times_named ts j) (first_record r) in
    let f : ◌≡◌ {A = ℕ} (cond (names w j) 1 0) 1 = rw (cell_named w j (record { kind = r.kind; from = a; below = b })) in
    omega (arith, o j))

pub judged_of_lem : {n : ℕ} {w : List ℕ} (earlier : List (List ℕ)) → Records n w → OnceAfter earlier w → Judged n false earlier w
judged_of_lem {n} earlier (block_then h p t d b r) o =
    let k = reads h p t 1 d in
    more {earlier = earlier} (good_block n _ p t (h ++ (p ++ t)) k b (unnamed earlier k o)) (λ z. omega (arith, k.kind)) (rw (k.kind, k.rest) (judged_of_lem ((h ++ (p ++ t)) ∷ earlier) r (once_next earlier k o)))
judged_of_lem {n} earlier (remark_then h p t d l r) o =
    let k = reads h p t 4 d in
    more {earlier = earlier} (good_remark n _ p t (h ++ (p ++ t)) k l) (λ z. omega (arith, k.kind)) (rw (k.kind, k.rest) (judged_of_lem ((h ++ (p ++ t)) ∷ earlier) r (once_next earlier k o)))
judged_of_lem {n} earlier (control_then_end h p e d c x) o =
    let k = reads h p e 2 d in
    more {earlier = earlier} (good_control n _ p e (h ++ (p ++ e)) k c) (λ z. omega (arith, k.kind)) (rw (k.kind, k.rest) (judged_end n ((h ++ (p ++ e)) ∷ earlier) e x))
