-- The proofs of specs/Claims.antt on what is accepted, loaded and read. Assumes nothing.
use Prim.Native.Nat.{ℕ, zero, suc, ◌≤◌}
use mathlib.Core.Path.{◌≡◌, refl, sym, ◌∙◌}
use mathlib.Core.Bool.{Bool, true, false, cond}
use mathlib.Core.List.{List, []}
use native.Mathlib.Omega.{arith}
use borrow.Author.Tests.{le-leb}
use lib.ListN.{length, get_or, replicate, length-replicate}
use lib.Seq.{ext_get_or}
use Rattle.machine.specs.declared.Record.{Record}
use Rattle.machine.specs.declared.Refusal.TheVariants.{CellValue, StoreSize}
use Rattle.machine.specs.Verdicts.{Verdict, Accepted, Rejected}
use Rattle.acceptance.proofs.Tests.{passed, refused}
use Rattle.acceptance.specs.Accept.{size_fits, cells_fit, judge_store, judge_registers, judge_machine}
use Rattle.definition_tape.specs.Layout.{records_of, timer_of, control_record_of}
use Rattle.definition_tape.specs.Judge.{judge_tape, times_named}
use Rattle.definition_tape.specs.Load.{Loaded, load_records, tape_cells, loaded_control, judge_then, judge_load, loaded_by, cleared, loading, overlaying}
use Rattle.definition_tape.specs.Remark.{judge_reading, remark_span, remark_text}
use Rattle.definition_tape.proofs.Judged.{judged_back, tape_judged, passed_then}
use Rattle.definition_tape.proofs.Machines.{machine}
use Rattle.definition_tape.proofs.Remarks.{remark_part as part}
use Rattle.tape_promises.specs.Grammar.{Records, TapeFor, blocks_of}
use Rattle.tape_promises.specs.Contents.{SameBlocks, control_payload}
use Rattle.tape_promises.specs.Claims.{AcceptedTapes, NoCellTwice, Call, load, overlay, called, unnamed_cell, LoadedFrom, OverlaidFrom, LoadsLayout, ClearedCells, KeptCells, SameMachine, LoadIsOverlay, BorderOverGround, AnyOrder, AcceptedInAnyOrder, KeptSize, KeptAll, LoadedMachines, SameVerdict, FirstRemark, RemarkPart}
use Rattle.tape_promises.proofs.Grammars.{grammar, judged_of_lem, timer_good}
use Rattle.tape_promises.proofs.Once.{judged_once, once_blocks, blocks_once, once_order, names_two}
use Rattle.tape_promises.proofs.Contents.{only_kept, same_cell, size_loaded, cells_loaded, cells_fit_lem, control_is, control_payload_good, record_fields, span_is, text_is}

none_named : (i : ℕ) → times_named [] i ≤ 1
unfolding times_named
none_named i = omega arith

pub accepted_tapes : AcceptedTapes
unfolding judge_tape
accepted_tapes n t = (
  λ e.
      let j = tape_judged n t e in
      let r = grammar j.1 refl in
      record { size = j.0; layout = r; once = once_blocks r (judged_once j.1 none_named) },
  λ h. rw (le-leb (length t) 65536 h.size) (judged_back (judged_of_lem [] h.layout (blocks_once h.layout h.once))),
)

pub no_cell_twice : NoCellTwice
no_cell_twice n t e j k i l a b =
    let o = judged_once (tape_judged n t e).1 none_named i in
    let m = names_two (records_of t) j k i l a b in
    omega (arith, none_named i)

-- ---- what is loaded

load_judged : (t s : List ℕ) → judge_load t s ≡ Accepted → (judge_store s ≡ Accepted) × TapeFor (length s) t
unfolding judge_load
load_judged t s e = let b = passed_then (judge_store s) _ e in (b.0, (accepted_tapes (length s) t).0 b.1)

load_accepted : {n : ℕ} (t s : List ℕ) → judge_store s ≡ Accepted → TapeFor n t → n ≡ length s → judge_load t s ≡ Accepted
unfolding judge_load
load_accepted {n} t s e h z = rw (e, ← z) ((accepted_tapes n t).1 h)

-- the cells u that lie under the tape's
pub under : Call → List ℕ → List ℕ
under load s = cleared (length s)
under overlay s = s

size_under : (k : Call) (s : List ℕ) → length s ≡ length (under k s)
unfolding under cleared
size_under load s = sym (length-replicate {A = ℕ} (length s) 0)
size_under overlay s = refl

pub called_is : (k : Call) (t s : List ℕ) (c : Record) → called k t s c ≡ loaded_by (judge_load t s) t (under k s) s c
unfolding under loading overlaying
called_is load t s c = refl
called_is overlay t s c = refl

cell_zero : (n i : ℕ) → get_or {A = ℕ} (replicate n 0) i 0 ≡ 0
cell_zero zero i = refl
cell_zero (suc n) zero = refl
cell_zero (suc n) (suc i) = cell_zero n i

cell_under : (k : Call) (s : List ℕ) (i : ℕ) → get_or (under k s) i 0 ≡ unnamed_cell k s i
unfolding under cleared
cell_under load s i = cell_zero (length s) i
cell_under overlay s i = refl

-- an accepted tape over the cells u
over : {n : ℕ} (t u s : List ℕ) (c : Record) (h : TapeFor n t) → n ≡ length u → LoadedFrom h.layout (λ i. get_or u i 0) (loaded_by Accepted t u s c)
unfolding loaded_control tape_cells
over t u s c h e =
    let r = h.layout in
    record { accepted = refl; size = size_loaded u r e ∙ sym e; cells = cells_loaded u r e h.once; control = rw (control_is r) (record_fields r) }

pub loads_layout : LoadsLayout
loads_layout k t s c e h =
    let x = over t (under k s) s c h (size_under k s) in
    rw (called_is k t s c, load_accepted t s e h refl)
    (record { accepted = x.accepted; size = x.size; cells = λ i. rw (← cell_under k s i) (x.cells i); control = x.control })

pub cleared_cells : ClearedCells
cleared_cells t s c e h i u = only_kept ((loads_layout load t s c e h).cells i) u

pub kept_cells : KeptCells
unfolding overlaying
kept_cells t s c h i u = at (judge_load t s)
  where
    at : (v : Verdict) → get_or (loaded_by v t s s c).cells i 0 ≡ get_or s i 0
    at (Rejected q) = refl
    at Accepted = only_kept ((over t s s c h refl).cells i) u

cells_any_order : {n : ℕ} (t u s : List ℕ) (h : TapeFor n t) (j : TapeFor n u) → n ≡ length s → SameBlocks (blocks_of h.layout) (blocks_of j.layout) → tape_cells s t ≡ tape_cells s u
unfolding tape_cells
cells_any_order t u s h j z e =
    ext_get_or 0 (load_records s (records_of t)) (load_records s (records_of u)) (size_loaded s h.layout z ∙ sym (size_loaded s j.layout z))
    (λ i l. same_cell e (cells_loaded s h.layout z h.once i) (cells_loaded s j.layout z j.once i))

pub any_order : AnyOrder
unfolding judge_load
any_order k t u s c d h j e = rw (called_is k t s c, called_is k u s d) (at (judge_store s))
  where
    at : (v : Verdict) → (loaded_by (judge_then v (judge_tape (length s) t)) t (under k s) s c).cells ≡ (loaded_by (judge_then v (judge_tape (length s) u)) u (under k s) s d).cells
    at (Rejected q) = refl
    at Accepted = rw ((accepted_tapes (length s) t).1 h, (accepted_tapes (length s) u).1 j) (cells_any_order t u (under k s) h j (size_under k s) e)

pub accepted_in_any_order : AcceptedInAnyOrder
accepted_in_any_order n t u h r l p = (accepted_tapes n u).1 (record { size = l; layout = r; once = once_order p h.once })

pub kept_size : KeptSize
kept_size k t s c = rw (called_is k t s c) (at (judge_load t s) refl)
  where
    at : (v : Verdict) → judge_load t s ≡ v → length (loaded_by v t (under k s) s c).cells ≡ length s
    at (Rejected q) e = refl
    at Accepted e = (over t (under k s) s c (load_judged t s e).1 (size_under k s)).size

pub kept_all : KeptAll
kept_all k t s c q = rw (called_is k t s c) (at (judge_load t s))
  where
    at : (v : Verdict) → (loaded_by v t (under k s) s c).state.verdict ≡ Rejected q → ((loaded_by v t (under k s) s c).cells ≡ s) × ((loaded_by v t (under k s) s c).state.control ≡ c)
    at (Rejected p) h = (refl, refl)
    at Accepted h = refused (sym h)

store_fits : (s : List ℕ) → judge_store s ≡ Accepted → (size_fits (length s) ≡ true) × (cells_fit s ≡ true)
unfolding judge_store
store_fits s e =
    let a = passed (size_fits (length s)) (cond (cells_fit s) Accepted (Rejected CellValue)) StoreSize e in
    (a.0, (passed (cells_fit s) Accepted CellValue a.1).0)

fit_zeros : (n : ℕ) → cells_fit (replicate n 0) ≡ true
unfolding cells_fit
fit_zeros zero = refl
fit_zeros (suc n) = fit_zeros n

fit_under : (k : Call) (s : List ℕ) → cells_fit s ≡ true → cells_fit (under k s) ≡ true
unfolding under cleared
fit_under load s e = fit_zeros (length s)
fit_under overlay s e = e

machine_fits : (k : Call) (t s : List ℕ) → judge_load t s ≡ Accepted → judge_machine (tape_cells (under k s) t) (loaded_control t) ≡ Accepted
unfolding judge_registers judge_machine loaded_control control_record_of tape_cells
machine_fits k t s e =
    let j = load_judged t s e in
    let r = j.1.layout in
    let f = store_fits s j.0 in
    let z = size_under k s in
    let c = control_payload_good r in
    rw (size_loaded (under k s) r z, ← z, f.0, cells_fit_lem (under k s) r (fit_under k s f.1), control_is r, c.registers.fields, timer_good (timer_of (control_payload r)) c.timer)

pub loaded_machines : LoadedMachines
loaded_machines k t s c = rw (called_is k t s c) (at (judge_load t s) refl)
  where
    at : (v : Verdict) → judge_load t s ≡ v → (loaded_by v t (under k s) s c).state.verdict ≡ Accepted
        → judge_machine (loaded_by v t (under k s) s c).cells (loaded_by v t (under k s) s c).state.control ≡ Accepted
    at (Rejected q) e h = refused h
    at Accepted e h = machine_fits k t s e

-- ---- stores of one size

judge_same : (t s u : List ℕ) → length s ≡ length u → cells_fit s ≡ true → cells_fit u ≡ true → judge_load t s ≡ judge_load t u
unfolding judge_load judge_store
judge_same t s u l e f = rw (e, f, l)

pub same_machine : SameMachine
unfolding loading
same_machine t s u c d l h f = at (judge_load t s) refl h
  where
    at : (v : Verdict) → judge_load t s ≡ v → (loaded_by v t (cleared (length s)) s c).state.verdict ≡ Accepted
        → loaded_by v t (cleared (length s)) s c ≡ loaded_by (judge_load t u) t (cleared (length u)) u d
    at (Rejected q) e a = refused a
    at Accepted e a = rw (sym (judge_same t s u l (store_fits s (load_judged t s e).0).1 f) ∙ e, l)

-- the tape into the cells s, and over n cells of zero
onto_zeros : (v w : Verdict) (t s : List ℕ) (c : Record) (n : ℕ) → w ≡ v
    → let x = loaded_by v t (cleared n) s c in
    let y = loaded_by w t (replicate n 0) (replicate n 0) c in
    (x.state ≡ y.state) × (x.state.verdict ≡ Accepted → x.cells ≡ y.cells)
unfolding cleared
onto_zeros (Rejected q) w t s c n e = rw e (refl, λ h. refused h)
onto_zeros Accepted w t s c n e = rw e (refl, λ h. refl)

pub load_is_overlay : LoadIsOverlay
unfolding loading overlaying
load_is_overlay t s c e =
    let n = length s in
    onto_zeros (judge_load t s) _ t s c n (judge_same t (replicate n 0) s (length-replicate {A = ℕ} n 0) (fit_zeros n) e)

machine_store : (s : List ℕ) (c : Record) → judge_machine s c ≡ Accepted → judge_store s ≡ Accepted
unfolding judge_store
machine_store s c e = let h = machine s c e in rw (h.fits, h.cells)

-- a tape over what a load left
over_loaded : {n : ℕ} {t : List ℕ} {r : Records n t} (u : List ℕ) (x : Loaded) (d : Record) → LoadedFrom r (λ i. 0) x → judge_store x.cells ≡ Accepted
    → (h : TapeFor n u) → OverlaidFrom r h.layout (overlaying u x.cells d)
unfolding overlaying
over_loaded u x d g e h =
    let y = over u x.cells x.cells d h (sym g.size) in
    rw (load_accepted u x.cells e h (sym g.size))
    (record { accepted = y.accepted; size = y.size; cells = λ i. record { below = get_or x.cells i 0; by_ground = g.cells i; by_border = y.cells i }; control = y.control })

pub border_over_ground : BorderOverGround
border_over_ground t u s c d e h k =
    let g = loads_layout load t s c e h in
    over_loaded u (loading t s c) d g (machine_store (loading t s c).cells (loading t s c).state.control (loaded_machines load t s c g.accepted)) k

-- ---- the reader of the first remark

pub same_verdict : SameVerdict
unfolding judge_reading judge_load judge_store
same_verdict t s e = rw e (at (size_fits (length s)))
  where
    at : (b : Bool) → cond b (judge_tape (length s) t) (Rejected StoreSize) ≡ judge_then (cond b Accepted (Rejected StoreSize)) (judge_tape (length s) t)
    at true = refl
    at false = refl

pub first_remark_lem : FirstRemark
unfolding remark_span remark_text judge_reading
first_remark_lem t n e h = rw (e, (accepted_tapes n t).1 h) (span_is t 0 h.layout (omega arith), text_is 0 h.layout)

pub remark_part : RemarkPart
remark_part t n = let p = part t n in record { ordered = p.start; inside = p.end; is = sym p.text }
