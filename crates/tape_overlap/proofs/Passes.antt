-- A tape at the place `at`, after its first n records. Assumes nothing.
use Prim.Native.Nat.{ℕ, suc, ◌+◌, ◌-◌, ◌≤◌, ◌<◌, min}
use mathlib.Core.Path.{◌≡◌, refl, sym, ap, ◌∙◌}
use mathlib.Core.Bool.{Bool, true, false, cond}
use mathlib.Core.List.{List, [], ◌∷◌}
use mathlib.Core.Logic.{◌⊎◌, inl, inr}
use native.Mathlib.Nat.{zero-add}
use native.Mathlib.Numerals.{add-one}
use native.Mathlib.Omega.{arith}
use native.Mathlib.Decide.{dec_lt}
use borrow.Author.Tests.{ltb-true, ltb-false}
use lib.ListN.{length, take, drop, get_or, length-drop}
use lib.Seq.{take-suc, drop-cons, drop-drop, take_all}
use lib.Dec.{ltb}
use Rattle.definition_tape.specs.Layout.{length_of, rest_of, records_of}
use Rattle.definition_tape.specs.Judge.{names, times_named}
use Rattle.definition_tape.proofs.Records.{records_none, records_more}
use Rattle.tape_records.proofs.Lent.{tail, length_tail}
use Rattle.tape_overlap.specs.declared.Cells.{Cells}
use Rattle.tape_overlap.specs.declared.Searched.{Searched}
use Rattle.tape_overlap.specs.Again.{is_whole, cells_of, Stop, SearchedPart, FirstAgain}
use Rattle.tape_overlap.specs.Again.Stop.{after, broken}
use Rattle.tape_overlap.proofs.Names.{times_more, times_less, records_count, whole_fits, named}

-- ---- the record after the first n of the row ts
module _ (ts : List (List ℕ)) (n : ℕ) (t : List ℕ) (rest : List (List ℕ)) (e : drop n ts ≡ t ∷ rest) where
  pub below : n < length ts
  below = omega (arith, length-drop n ts, ap length e)

  split : get_or ts n [] ∷ drop (suc n) ts ≡ t ∷ rest
  split = sym (drop-cons ts n [] below) ∙ e

  pub is : get_or ts n [] ≡ t
  is = ap (λ (l : List (List ℕ)). get_or l 0 []) split

  pub left : drop (n + 1) ts ≡ rest
  left = rw (add-one n) (ap (λ (l : List (List ℕ)). drop 1 l) split)

  pub times : (i : ℕ) → times_named (take (n + 1) ts) i ≡ times_named (take n ts) i + cond (names t i) 1 0
  times i = rw (add-one n, take-suc ts n [] below, is) (times_more (take n ts) t i)

-- ---- along a tape

-- after the first n records of the row ts those of `more` are left
pub record Passed (ts more : List (List ℕ)) (n : ℕ) : Type 0 where
  pub rest : more ≡ drop n ts

pub passed_all : (ts more : List (List ℕ)) (n : ℕ) → Passed ts more n → more ≡ [] → length ts ≤ n
passed_all ts more n p e = omega (arith, length-drop n ts, ap length (sym p.rest ∙ e))

module _ (ts more rest : List (List ℕ)) (n : ℕ) (t : List ℕ) (p : Passed ts more n) (e : more ≡ t ∷ rest) where
  here : drop n ts ≡ t ∷ rest
  here = sym p.rest ∙ e

  pub passed_is : get_or ts n [] ≡ t
  passed_is = is ts n t rest here

  pub passed_times : (i : ℕ) → times_named (take (n + 1) ts) i ≡ times_named (take n ts) i + cond (names t i) 1 0
  passed_times i = times ts n t rest here i

  pub passed_next : Passed ts rest (n + 1)
  passed_next = record { rest = sym (left ts n t rest here) }

  -- a record that is not whole
  pub stop_at : is_whole t ≡ false → Stop ts n
  stop_at w = broken (rw passed_is w)

-- ---- blocks that rise: no cell from `high` on is named so far
pub record Risen (ts more : List (List ℕ)) (high : ℕ) : Type 0 where
  pub count : ℕ
  pub passed : Passed ts more count
  pub once : (i : ℕ) → times_named (take count ts) i ≤ 1
  pub none : (i : ℕ) → high ≤ i → times_named (take count ts) i ≡ 0

pub risen_none : (ts : List (List ℕ)) → Risen ts ts 0
unfolding times_named
risen_none ts = record { count = 0; passed = record { rest = refl }; once = λ i. omega arith; none = λ i h. refl }

-- the cells of a record, if there are any, are not below high and are below the new one
abbrev pub Rises : Cells → ℕ → ℕ → Type 0
Rises c high new = (high ≤ new) × (c.from < c.to → (high ≤ c.from) × (c.to ≤ new))

module _ (t : List ℕ) (high new x i : ℕ) (w : is_whole t ≡ true) (s : Rises (cells_of t) high new) (o : x ≤ 1) (z : high ≤ i → x ≡ 0) where
  rise_once : (b : Bool) → names t i ≡ b → x + cond b 1 0 ≤ 1
  rise_once true e =
      let n = named t i w e in
      omega (arith, z (omega (arith, n, s.1 (omega (arith, n)))))
  rise_once false e = omega arith

  rise_none : (b : Bool) → names t i ≡ b → new ≤ i → x + cond b 1 0 ≡ 0
  rise_none true e h =
      let n = named t i w e in
      let no : ⊥ = omega (arith, n, s.1 (omega (arith, n))) in
      absurd no
  rise_none false e h = omega (arith, z (omega (arith, s.0)))

pub risen_next : (ts more rest : List (List ℕ)) (t : List ℕ) (high new : ℕ) (c : Cells) → Risen ts more high → more ≡ t ∷ rest → is_whole t ≡ true → c ≡ cells_of t
    → Rises c high new → Risen ts rest new
risen_next ts more rest t high new c h e w d g =
    let s = rw d at g in
    record {
      count = h.count + 1;
      passed = passed_next ts more rest h.count t h.passed e;
      once = λ i. rw (passed_times ts more rest h.count t h.passed e i) (rise_once t high new _ i w s (h.once i) (h.none i) (names t i) refl);
      none = λ i l. rw (passed_times ts more rest h.count t h.passed e i) (rise_none t high new _ i w s (h.once i) (h.none i) (names t i) refl l);
    }

pub risen_all : (ts more : List (List ℕ)) (high : ℕ) → Risen ts more high → more ≡ [] → (i : ℕ) → times_named ts i ≤ 1
risen_all ts more high h e i =
    let all = take_all h.count ts (passed_all ts more h.count h.passed e) in
    rw all at (h.once i)

-- ---- the search

pub first_none : (n : ℕ) (ts : List (List ℕ)) → ((i : ℕ) → times_named ts i ≤ 1) → FirstAgain n ts (length ts)
first_none n ts o = record { once = λ i h. rw (take_all (length ts) ts (omega arith)) (o i); stop = after (omega arith) }

-- what a search has found before the record n: no cell below 262,144 and none from `left` on is named twice
pub record Found (cells left : ℕ) (ts : List (List ℕ)) (n : ℕ) : Type 0 where
  pub front : (i : ℕ) → i < 262144 → times_named (take n ts) i ≤ 1
  pub back : (i : ℕ) → left ≤ i → i < cells → times_named (take n ts) i ≤ 1
  pub stop : Stop ts n

pub part_stop : (ts : List (List ℕ)) (n r : ℕ) → (r ≡ n) ⊎ Stop ts r → Stop ts n → Stop ts r
part_stop ts n r (inl e) s = rw e s
part_stop ts n r (inr q) s = q

pub found_front : (cells left most : ℕ) (ts : List (List ℕ)) (r : Searched) → length ts ≤ most → left ≡ min r.high cells → SearchedPart 0 most ts r
    → Found cells left ts r.first
found_front cells left most ts r l e s =
    record {
      front = λ i h. rw (zero-add i) at (s.once i h);
      back = λ i h b. omega (arith, s.beyond i (omega arith));
      stop = part_stop ts most r.first s.stop (after l);
    }

pub found_part : (cells left low n : ℕ) (ts : List (List ℕ)) (r : Searched) → left ≡ low + 262144 → SearchedPart low n ts r → Found cells left ts n
    → Found cells low ts r.first
found_part cells left low n ts r e s f =
    record {
      front = λ i h. omega (arith, f.front i h, times_less r.first n ts i s.bound);
      back =
          λ i l h. elim (dec_lt i left) [
            | yes b ↦ let j : low + (i - low) ≡ i = omega arith in rw j at (s.once (i - low) (omega arith))
            | no b ↦ omega (arith, f.back i (omega arith) h, times_less r.first n ts i s.bound)
          ];
      stop = part_stop ts n r.first s.stop f.stop;
    }

pub found_all : (cells left : ℕ) (ts : List (List ℕ)) (n : ℕ) → left ≤ 262144 → Found cells left ts n → FirstAgain cells ts n
found_all cells left ts n l f = record { once = λ i h. elim (dec_lt i 262144) [ yes b ↦ f.front i b | no b ↦ f.back i (omega arith) h ]; stop = f.stop }
