-- No cell is named twice: as the judge counts, and as the grammar says. Assumes nothing.
use Prim.Native.Nat.{ℕ, zero, suc, ◌+◌, ◌≤◌, ◌<◌}
use mathlib.Core.Path.{◌≡◌, refl, sym, ap, ◌∙◌}
use mathlib.Core.Bool.{Bool, true, false, cond}
use mathlib.Core.List.{List, [], ◌∷◌}
use mathlib.Core.Logic.{inl, inr}
use native.Mathlib.Omega.{arith}
use borrow.Author.Tests.{le-leb, lt-ltb, leb-true, ltb-true}
use lib.ListN.{length, get_or}
use lib.Dec.{leb, ltb}
use Rattle.acceptance.proofs.Tests.{both}
use Rattle.definition_tape.specs.Layout.{kind_of, payload_of, rest_of, records_of, first_cell, cell_count, block_cells, NamesCell}
use Rattle.definition_tape.specs.Blocks.{Block, Names, Named, NamedOnce}
use Rattle.definition_tape.specs.Judge.{names, times_named, unnamed_cells}
use Rattle.definition_tape.proofs.Records.{length_rest, records_none, records_more}
use Rattle.definition_tape.proofs.Loads.{length_cells}
use Rattle.definition_tape.proofs.Judged.{Good, Judged, last, more, block_payload}
use Rattle.definition_tape.proofs.Named.{names_cell, cell_named, not_block, unnamed_true}
use Rattle.tape_promises.specs.Grammar.{Records, block_then, remark_then, control_then_end, blocks_of}
use Rattle.tape_promises.specs.Contents.{Permutation, same, cons, swap, trans}
use Rattle.tape_promises.proofs.Grammars.{Reads, reads, reads_end, first_record, OnceAfter}

-- ---- the judge lets no cell be named twice

named_next : {n : ℕ} {after : Bool} {t : List ℕ} (earlier : List (List ℕ)) → Good n after (unnamed_cells earlier (payload_of t)) t
    → ((i : ℕ) → times_named earlier i ≤ 1) → (i : ℕ) → times_named (t ∷ earlier) i ≤ 1
unfolding times_named
named_next {n} {after} {t} earlier g o i = at (names t i) refl
  where
    at : (b : Bool) → names t i ≡ b → cond b 1 0 + times_named earlier i ≤ 1
    at true e =
        let m = names_cell t i e in
        let u = (block_payload n _ (payload_of t) (rw m.kind at g.payload)).1 in
        let z = unnamed_true earlier (first_cell (payload_of t)) (cell_count (payload_of t)) u i m.from m.below in
        omega arith
    at false e = let l = o i in omega arith

pub judged_once : {n : ℕ} {after : Bool} {earlier : List (List ℕ)} {t : List ℕ} → Judged n after earlier t → ((i : ℕ) → times_named earlier i ≤ 1) → OnceAfter earlier t
unfolding times_named
judged_once {n} {after} {earlier} {t} (last g k h) o i =
    let w = g.whole in
    let six : 6 ≤ length t = omega arith in
    let short : length (rest_of t) < 6 = omega (arith, length_rest t) in
    let l = o i in
    rw (records_more t six, records_none (rest_of t) short, not_block t i (λ e. omega arith)) (omega arith)
judged_once {n} {after} {earlier} {t} (more g k j) o i =
    let w = g.whole in
    let six : 6 ≤ length t = omega arith in
    let ih = judged_once j (named_next earlier g o) i in
    rw (records_more t six) (omega (arith, ih))

-- ---- how many of the blocks name the cell i

unfoldable pub naming : Block → ℕ → Bool
naming b i = cond (leb b.first i) (ltb i (b.first + length b.cells)) false

unfoldable pub times : List Block → ℕ → ℕ
times [] i = 0
times (b ∷ bs) i = cond (naming b i) 1 0 + times bs i

naming_true : (b : Block) (i : ℕ) → Names b i → naming b i ≡ true
unfolding naming
naming_true b i n = rw (le-leb b.first i n.from, lt-ltb i (b.first + length b.cells) n.below)

naming_names : (b : Block) (i : ℕ) → naming b i ≡ true → Names b i
unfolding naming
naming_names b i e =
    let h = both (leb b.first i) (ltb i (b.first + length b.cells)) e in
    record { from = leb-true b.first i h.0; below = ltb-true i (b.first + length b.cells) h.1 }

named_times : (bs : List Block) (i : ℕ) → Named i bs → 0 < times bs i
unfolding Named times
named_times [] i n = absurd n
named_times (b ∷ bs) i (inl n) = rw (naming_true b i n) (omega arith)
named_times (b ∷ bs) i (inr n) = let h = named_times bs i n in omega arith

times_named_lem : (bs : List Block) (i : ℕ) → 0 < times bs i → Named i bs
unfolding Named times
times_named_lem [] i h = let no : ⊥ = omega arith in absurd no
times_named_lem (b ∷ bs) i h = at (naming b i) refl (times_named_lem bs i) h
  where
    at : (c : Bool) → naming b i ≡ c → (0 < times bs i → Named i bs) → 0 < cond c 1 0 + times bs i → Named i (b ∷ bs)
    at true e ih h = inl (naming_names b i e)
    at false e ih h = inr (ih (omega arith))

times_once : (bs : List Block) → ((i : ℕ) → times bs i ≤ 1) → NamedOnce bs
unfolding NamedOnce times
times_once [] h = tt
times_once (b ∷ bs) h = (
  λ i n m.
      let l = h i in
      let z = named_times bs i m in
      let o : 1 + times bs i ≤ 1 = rw (naming_true b i n) at l in
      omega arith,
  times_once bs (λ i. let l = h i in omega arith),
)

pub once_times : (bs : List Block) → NamedOnce bs → (i : ℕ) → times bs i ≤ 1
unfolding NamedOnce times
once_times [] o i = omega arith
once_times (b ∷ bs) o i = at (naming b i) refl (once_times bs o.1 i)
  where
    at : (c : Bool) → naming b i ≡ c → times bs i ≤ 1 → cond c 1 0 + times bs i ≤ 1
    at true e l =
        let z : 0 < times bs i → ⊥ = λ h. o.0 i (naming_names b i e) (times_named_lem bs i h) in
        omega arith
    at false e l = omega arith

times_order : {bs cs : List Block} → Permutation bs cs → (i : ℕ) → times bs i ≡ times cs i
unfolding times
times_order (same bs) i = refl
times_order (cons b p) i = let h = times_order p i in omega arith
times_order (swap a b bs) i = omega arith
times_order (trans p q) i = times_order p i ∙ times_order q i

pub once_order : {bs cs : List Block} → Permutation bs cs → NamedOnce bs → NamedOnce cs
once_order {bs} {cs} p o = times_once cs (λ i. let l = once_times bs o i in omega (arith, times_order p i))

-- ---- the records of a tape

module _ {k : ℕ} {p t w : List ℕ} (r : Reads k p t w) (i : ℕ) where
  times_next : times_named (records_of w) i ≡ cond (names w i) 1 0 + times_named (records_of t) i
  unfolding times_named
  times_next = ap (λ (ts : List (List ℕ)). times_named ts i) (first_record r)

  times_other : (k ≡ 1 → ⊥) → times_named (records_of w) i ≡ times_named (records_of t) i
  times_other o = times_next ∙ rw (not_block w i (λ e. o (sym r.kind ∙ e))) (omega arith)

naming_is : {p t w : List ℕ} → Reads 1 p t w → (i : ℕ) → names w i ≡ naming (record { first = first_cell p; cells = block_cells p }) i
unfolding names naming block_cells
naming_is {p} {t} {w} r i = rw (r.kind, r.payload, length_cells p 4 (cell_count p))

times_is : {n : ℕ} {w : List ℕ} (r : Records n w) (i : ℕ) → times_named (records_of w) i ≡ times (blocks_of r) i
unfolding blocks_of times times_named
times_is (block_then h p t d b r) i = let k = reads h p t 1 d in times_next k i ∙ rw (naming_is k i, times_is r i)
times_is (remark_then h p t d l r) i = let k = reads h p t 4 d in times_other k i (λ e. omega arith) ∙ times_is r i
times_is (control_then_end h p e d c x) i =
    let k = reads h p e 2 d in
    times_other k i (λ z. omega arith) ∙ times_other (reads_end e x) i (λ z. omega arith) ∙ rw (records_none [] (omega arith))

pub once_blocks : {n : ℕ} {w : List ℕ} (r : Records n w) → OnceAfter [] w → NamedOnce (blocks_of r)
unfolding times_named
once_blocks r o = times_once (blocks_of r) (λ i. let l = o i in rw (← times_is r i) (omega arith))

pub blocks_once : {n : ℕ} {w : List ℕ} (r : Records n w) → NamedOnce (blocks_of r) → OnceAfter [] w
unfolding times_named
blocks_once r o i = let l = once_times (blocks_of r) o i in rw (times_is r i) (omega arith)

-- ---- two records that name one cell

no_record : (i : ℕ) → NamesCell [] i → ⊥
unfolding kind_of
no_record i n = let k = n.kind in omega arith

names_one : (ts : List (List ℕ)) (k i : ℕ) → NamesCell (get_or ts k []) i → 1 ≤ times_named ts i
unfolding times_named
names_one [] k i n = absurd (no_record i n)
names_one (t ∷ ts) zero i n = rw (cell_named t i n) (omega arith)
names_one (t ∷ ts) (suc k) i n = let h = names_one ts k i n in omega arith

pub names_two : (ts : List (List ℕ)) (j k i : ℕ) → j < k → NamesCell (get_or ts j []) i → NamesCell (get_or ts k []) i → 2 ≤ times_named ts i
unfolding times_named
names_two [] j k i h n m = absurd (no_record i n)
names_two (t ∷ ts) j zero i h n m = let no : ⊥ = omega arith in absurd no
names_two (t ∷ ts) zero (suc k) i h n m = let l = names_one ts k i m in rw (cell_named t i n) (omega arith)
names_two (t ∷ ts) (suc j) (suc k) i h n m = let l = names_two ts j k i (omega arith) n m in omega arith
