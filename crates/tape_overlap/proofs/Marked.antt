-- The marks: places marked one by one, a record's cells, the records of a tape. Assumes nothing.
use Prim.Native.Nat.{ℕ, ◌+◌, ◌-◌, ◌/◌, ◌%◌, ◌^◌, ◌≤◌, ◌<◌, min, max}
use mathlib.Core.Path.{◌≡◌, refl, sym, ◌∙◌}
use mathlib.Core.Bool.{Bool, true, false, cond}
use mathlib.Core.List.{List, [], ◌∷◌}
use mathlib.Core.Logic.{◌⊎◌, inl, inr}
use native.Mathlib.Omega.{arith}
use native.Mathlib.Decide.{dec_lt, ℕ_discrete}
use native.Mathlib.Nat.{zero-div}
use lib.ListN.{length, take, replicate, get_or-replicate}
use lib.Seq.{take_all}
use Rattle.definition_tape.specs.Layout.{records_of}
use Rattle.definition_tape.specs.Judge.{names, times_named}
use Rattle.tape_overlap.specs.declared.Cells.{Cells}
use Rattle.tape_overlap.specs.Again.{is_whole, cells_of, bit_at, mark_at, with_mark, MarkedFrom, Met, Marks, NamesMarked, Stop, SearchedPart}
use Rattle.tape_overlap.specs.Again.Stop.{again}
use Rattle.tape_overlap.proofs.Names.{named, unnamed, named_in}
use Rattle.tape_overlap.proofs.Bits.{mark_set, mark_other}
use Rattle.tape_overlap.proofs.Passes.{Passed, passed_is, passed_times}

-- ---- one place after another

pub marked_none : (a : ℕ) (m : List ℕ) → MarkedFrom a a m m
marked_none a m = record { marked = λ j h l. let no : ⊥ = omega arith in absurd no; others = λ j h. refl }

module _ (a i : ℕ) (m r : List ℕ) (h : a ≤ i) (f : MarkedFrom a i m r) where
  same : mark_at r i ≡ mark_at m i
  same = f.others i (inr (omega arith))

  pub met_at : (e : ℕ) → i < e → (mark_at r i ≡ 0 → ⊥) → Met a e m
  met_at e l n =
      let b : 0 < mark_at r i = omega (arith, n) in
      record { place = i; from = h; below = l; mark = rw (← same) b }

  pub marked_more : i / 32 < length r → mark_at r i ≡ 0 → MarkedFrom a (i + 1) m (with_mark r i)
  marked_more l z =
      record {
        marked =
            λ j p q. elim (ℕ_discrete j i) [
              | yes e ↦ rw e (sym same ∙ z, mark_set r i l z)
              | no n ↦ let b : j < i = omega arith in ((f.marked j p b).0, mark_other r i l z j n ∙ (f.marked j p b).1)
            ];
        others = λ j o. mark_other r i l z j (apart j o) ∙ f.others j (wider j o);
      }
    where
      apart : (j : ℕ) → (j < a) ⊎ (i + 1 ≤ j) → j ≡ i → ⊥
      apart j (inl b) e = omega arith
      apart j (inr b) e = omega arith

      wider : (j : ℕ) → (j < a) ⊎ (i + 1 ≤ j) → (j < a) ⊎ (i ≤ j)
      wider j (inl b) = inl b
      wider j (inr b) = inr (omega arith)

  pub marked_all : (e : ℕ) → e ≤ i → i ≤ max a e → MarkedFrom a e m r
  marked_all e l b =
      record {
        marked = λ j p q. f.marked j p (omega arith);
        others = λ j o. f.others j (elim (dec_lt j a) [ yes p ↦ inl p | no p ↦ inr (past j o p) ]);
      }
    where
      past : (j : ℕ) → (j < a) ⊎ (e ≤ j) → (j < a → ⊥) → i ≤ j
      past j (inl p) q = absurd (q p)
      past j (inr p) q = omega arith

-- ---- the cells c of one record
module _ (low : ℕ) (t m : List ℕ) (c : Cells) (a e : ℕ) (w : is_whole t ≡ true) (d : c ≡ cells_of t) (p : a ≡ min (c.from - low) 262144) (q : e ≡ min (c.to - low) 262144) where
  first : a ≡ min ((cells_of t).from - low) 262144
  first = rw d at p

  last : e ≡ min ((cells_of t).to - low) 262144
  last = rw d at q

  pub marks_met : Met a e m → NamesMarked low t m
  marks_met h =
      record {
        place = h.place;
        below = omega (arith, h.below);
        named = named_in t (low + h.place) w (omega (arith, first, h.from, h.below)) (omega (arith, last, h.below));
        mark = h.mark;
      }

  module _ (r : List ℕ) (f : MarkedFrom a e m r) (ts : List (List ℕ)) (k : Marks low ts m) (j : ℕ) (l : j < 262144) where
    cell_counts : (b : Bool) → names t (low + j) ≡ b → (mark_at r j ≡ cond b 1 0 + times_named ts (low + j)) × (cond b 1 0 + times_named ts (low + j) ≤ 1)
    cell_counts true n =
        let i = named t (low + j) w n in
        let g = f.marked j (omega (arith, first, i)) (omega (arith, last, i)) in
        (omega (arith, g, k.counts j l), omega (arith, g, k.counts j l))
    cell_counts false n = (omega (arith, f.others j (out (unnamed t (low + j) w n)), k.counts j l), omega (arith, k.once j l))
      where
        out : (low + j < (cells_of t).from) ⊎ ((cells_of t).to ≤ low + j) → (j < a) ⊎ (e ≤ j)
        out (inl o) = inl (omega (arith, first))
        out (inr o) = inr (omega (arith, last))

  pub marks_more : (r : List ℕ) → MarkedFrom a e m r → (ts : List (List ℕ)) → Marks low ts m → Marks low (t ∷ ts) r
  unfolding times_named
  marks_more r f ts k =
      record {
        counts = λ j l. (cell_counts r f ts k j l (names t (low + j)) refl).0;
        once = λ j l. (cell_counts r f ts k j l (names t (low + j)) refl).1;
      }

-- ---- the records of a tape

pub marks_none : (low n : ℕ) → 8192 ≤ n → Marks low [] (replicate n 0)
unfolding times_named mark_at bit_at
marks_none low n h = record { counts = λ j l. rw (get_or-replicate {A = ℕ} n (j / 32) 0 0 (omega arith)) (none (2 ^ (j % 32))); once = λ j l. omega arith }
  where
    none : (d : ℕ) → 0 / d % 2 ≡ 0
    none d = rw (zero-div d)

module _ (low n : ℕ) (ts more rest : List (List ℕ)) (t m : List ℕ) (p : Passed ts more n) (e : more ≡ t ∷ rest) where
  pub marks_next : Marks low (t ∷ take n ts) m → Marks low (take (n + 1) ts) m
  unfolding times_named
  marks_next k =
      record {
        counts = λ j l. omega (arith, k.counts j l, passed_times ts more rest n t p e (low + j));
        once = λ j l. omega (arith, k.once j l, passed_times ts more rest n t p e (low + j));
      }

  pub stop_again : Marks low (take n ts) m → NamesMarked low t m → Stop ts n
  stop_again k s = again (low + s.place) (rw (passed_is ts more rest n t p e) s.named) (omega (arith, s.mark, k.counts s.place s.below))

-- what is left of the cells that the records before n name
abbrev pub Unnamed : List (List ℕ) → ℕ → ℕ → Type 0
Unnamed ts n high = (i : ℕ) → high ≤ i → times_named (take n ts) i ≡ 0

pub searched : (low most : ℕ) (ts : List (List ℕ)) (n high : ℕ) (m : List ℕ) → n ≤ most → Marks low (take n ts) m → Unnamed ts n high → (n ≡ most) ⊎ Stop ts n
    → SearchedPart low most ts (record { first = n; high = high })
searched low most ts n high m h k u s = record { bound = h; once = k.once; beyond = u; stop = s }

-- no record is left, or `most` are passed
pub searched_all : (low most : ℕ) (ts : List (List ℕ)) (n high : ℕ) (m : List ℕ) → (n ≡ most) ⊎ (n ≤ most) × (length ts ≤ n) → Marks low (take n ts) m → Unnamed ts n high
    → SearchedPart low most ts (record { first = most; high = high })
searched_all low most ts n high m (inl e) k u = rw e at (searched low most ts n high m (omega arith) k u (inl e))
searched_all low most ts n high m (inr h) k u =
    let all : take n ts ≡ take most ts = take_all n ts h.1 ∙ sym (take_all most ts (omega (arith, h))) in
    record {
      bound = omega arith;
      once = rw all at k.once;
      beyond = rw all at u;
      stop = inl refl;
    }

pub unnamed_none : (ts : List (List ℕ)) → Unnamed ts 0 0
unfolding times_named
unnamed_none ts i h = refl

pub unnamed_next : (ts more rest : List (List ℕ)) (n high new : ℕ) (t : List ℕ) (c : Cells) → Passed ts more n → more ≡ t ∷ rest → is_whole t ≡ true → c ≡ cells_of t
    → (high ≤ new) × (c.to ≤ new) → Unnamed ts n high → Unnamed ts (n + 1) new
unnamed_next ts more rest n high new t c p e w d g u i h = rw (passed_times ts more rest n t p e i) (at_cell (names t i) refl)
  where
    at_cell : (b : Bool) → names t i ≡ b → times_named (take n ts) i + cond b 1 0 ≡ 0
    at_cell true q =
        let k = named t i w q in
        let no : ⊥ = omega (arith, k, rw d at g.1) in
        absurd no
    at_cell false q = omega (arith, u i (omega (arith, g.0)))
