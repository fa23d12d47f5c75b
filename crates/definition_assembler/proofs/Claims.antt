-- The claims of specs/Claims.antt. Assumes nothing.
use Prim.Native.Nat.{ℕ, zero, suc, ◌+◌, ◌/◌, ◌%◌, ◌≤◌, ◌<◌}
use mathlib.Core.Path.{◌≡◌, refl, sym, ap, ◌∙◌}
use mathlib.Core.Bool.{Bool, true, false, ◌&&◌}
use mathlib.Core.Logic.{◌⊎◌, inl, inr}
use mathlib.Core.List.{List, [], ◌∷◌, ◌++◌}
use native.Mathlib.Omega.{arith}
use borrow.Author.Tests.{lt-ltb, le-ltb, ltb-true, ltb-false}
use lib.ListN.{length}
use lib.Dec.{ltb}
use Rattle.std.specs.Prelude.{Ok, Err}
use Rattle.machine.specs.declared.Refusal.TheVariants.{LineGrammar, LineDepth, LineValue}
use Rattle.machine.specs.Answers.{refusal_number}
use Rattle.machine.specs.Format.{instruction_fields}
use Rattle.definition_assembler.specs.Answers.{Assembled, Refused, Word}
use Rattle.definition_assembler.specs.Grammar.{Digit, Sum, Product, Primary, term, plus, minus, factor, times, number, group, digit_bytes, sum_bytes, product_bytes, primary_bytes, sum_depth, sum_in_range, sum_value}
use Rattle.definition_assembler.specs.Line.{Line, when, index_bytes, line_bytes, tree_evaluated, last_in_range, address_of, word_of, answer_with, line_answer}
use Rattle.definition_assembler.specs.Assembling.{assembling}
use Rattle.definition_assembler.specs.Claims.{Reads, OutsideGrammar, TooDeep, OutOfRange, line_fields, LineWord, EveryWord, Characters, LineCharacters}
use Rattle.definition_assembler.proofs.Parts.{both, letters_there}
use Rattle.definition_assembler.proofs.Lines.{inside, Judged, no_line, a_line, judged, long}
use Rattle.definition_assembler.proofs.Words.{word_of_fields, fields_of_word, displacement_small, mode_small, mode_of, address_for, short}

-- ---- the answer of a line, by cases
abbrev good : Line → Bool
good l = sum_in_range l.address && last_in_range (sum_value l.address)

data Answers (l : Line) : Assembled → Type 0 where
  deep : 16 < sum_depth l.address → Answers l (Refused LineDepth)
  out : sum_depth l.address ≤ 16 → good l ≡ false → Answers l (Refused LineValue)
  fine : sum_depth l.address ≤ 16 → good l ≡ true → Answers l (Word (word_of (line_fields l)))

answers : (l : Line) → Answers l (line_answer l)
unfolding line_answer tree_evaluated address_of answer_with
answers l = at (ltb 16 (sum_depth l.address)) (good l) refl refl
  where
    at : (a b : Bool) → ltb 16 (sum_depth l.address) ≡ a → good l ≡ b → Answers l (line_answer l)
    at true b e f = rw e (deep (ltb-true 16 (sum_depth l.address) e))
    at false true e f = rw (e, f) (fine (ltb-false 16 (sum_depth l.address) e) f)
    at false false e f = rw (e, f) (out (ltb-false 16 (sum_depth l.address) e) f)

-- an answer's number, 0 for a word
abbrev number_of : Assembled → ℕ
number_of (Err q) = refusal_number q
number_of (Ok v) = 0

abbrev word_of_lem : Assembled → ℕ
word_of_lem (Err q) = 0
word_of_lem (Ok v) = v

differ : (m n : ℕ) (a b : Assembled) → number_of a ≡ m → number_of b ≡ n → (m ≡ n → ⊥) → a ≡ b → ⊥
differ m n a b e f d g = d (sym e ∙ ap number_of g ∙ f)

not_grammar : (l : Line) (a : Assembled) → Answers l a → a ≡ Refused LineGrammar → ⊥
not_grammar l _ (deep h) e = differ 20 19 _ _ refl refl (λ n. omega arith) e
not_grammar l _ (out h f) e = differ 21 19 _ _ refl refl (λ n. omega arith) e
not_grammar l _ (fine h f) e = differ 0 19 _ _ refl refl (λ n. omega arith) e

is_deep : (l : Line) (a : Assembled) → Answers l a → a ≡ Refused LineDepth → 16 < sum_depth l.address
is_deep l _ (deep h) e = h
is_deep l _ (out h f) e = absurd (differ 21 20 _ _ refl refl (λ n. omega arith) e)
is_deep l _ (fine h f) e = absurd (differ 0 20 _ _ refl refl (λ n. omega arith) e)

is_out : (l : Line) (a : Assembled) → Answers l a → a ≡ Refused LineValue → (sum_depth l.address ≤ 16) × (good l ≡ false)
is_out l _ (deep h) e = absurd (differ 20 21 _ _ refl refl (λ n. omega arith) e)
is_out l _ (out h f) e = (h, f)
is_out l _ (fine h f) e = absurd (differ 0 21 _ _ refl refl (λ n. omega arith) e)

is_word : (l : Line) (v : ℕ) (a : Assembled) → Answers l a → a ≡ Word v → (sum_depth l.address ≤ 16) × (good l ≡ true) × (word_of (line_fields l) ≡ v)
is_word l v _ (deep h) e = absurd (differ 20 0 _ _ refl refl (λ n. omega arith) e)
is_word l v _ (out h f) e = absurd (differ 21 0 _ _ refl refl (λ n. omega arith) e)
is_word l v _ (fine h f) e = (h, f, ap word_of_lem e)

-- ---- 19
pub outside_grammar : OutsideGrammar
outside_grammar t = (there, back)
  where
    there : assembling t ≡ Refused LineGrammar → (255 < length t) ⊎ ((l : Line) → t ≡ line_bytes l → ⊥)
    there e = at (ltb 255 (length t)) refl
      where
        at : (b : Bool) → ltb 255 (length t) ≡ b → (255 < length t) ⊎ ((l : Line) → t ≡ line_bytes l → ⊥)
        at true d = inl (ltb-true 255 (length t) d)
        at false d = inr (λ l h. not_grammar l (line_answer l) (answers l) (sym (inside t l (h, ltb-false 255 (length t) d)) ∙ e))

    from : Judged t (assembling t) → ((l : Line) → t ≡ line_bytes l → ⊥) → assembling t ≡ Refused LineGrammar
    from (no_line e) none = e
    from (a_line l r) none = absurd (none l r.0)

    back : (255 < length t) ⊎ ((l : Line) → t ≡ line_bytes l → ⊥) → assembling t ≡ Refused LineGrammar
    back (inl h) = long t h
    back (inr none) = from (judged t) none

-- ---- 20, 21 and the word: the text is a line
line_for : (t : List ℕ) (a : Assembled) → assembling t ≡ a → (number_of a ≡ 19 → ⊥) → (l : Line) × Reads t l × (line_answer l ≡ a)
line_for t a e other = from (judged t)
  where
    from : Judged t (assembling t) → (l : Line) × Reads t l × (line_answer l ≡ a)
    from (no_line f) = absurd (other (ap number_of (sym e ∙ f)))
    from (a_line l r) = (l, r, sym (inside t l r) ∙ e)

pub too_deep : TooDeep
unfolding line_answer tree_evaluated address_of answer_with
too_deep t = (
  λ e. let r = line_for t (Refused LineDepth) e (λ n. omega arith) in (r.0, r.1, is_deep r.0 (line_answer r.0) (answers r.0) r.2),
  λ r. inside t r.0 r.1 ∙ rw (lt-ltb 16 (sum_depth r.0.address) r.2),
)

pub out_of_range : OutOfRange
unfolding line_answer tree_evaluated address_of answer_with
out_of_range t = (
  λ e.
      let r = line_for t (Refused LineValue) e (λ n. omega arith) in
      let o = is_out r.0 (line_answer r.0) (answers r.0) r.2 in
      (r.0, r.1, o.0, o.1),
  λ r. inside t r.0 r.1 ∙ rw (le-ltb 16 (sum_depth r.0.address) r.2, r.3),
)

line_taken_apart : (l : Line) → good l ≡ true → instruction_fields (word_of (line_fields l)) ≡ line_fields l
line_taken_apart l e =
    fields_of_word (line_fields l) l.register (mode_small l.relative l.indirect) l.index
    (displacement_small (sum_value l.address) (both (sum_in_range l.address) (last_in_range (sum_value l.address)) e).1)

pub line_word : LineWord
unfolding line_answer tree_evaluated address_of answer_with
line_word t v = (
  λ e.
      let r = line_for t (Word v) e (λ n. omega arith) in
      let o = is_word r.0 v (line_answer r.0) (answers r.0) r.2 in
      (r.0, r.1, o.0, o.1, ap instruction_fields (sym o.2) ∙ line_taken_apart r.0 o.1),
  λ r.
      let e : line_answer r.0 ≡ Word (word_of (line_fields r.0)) = rw (le-ltb 16 (sum_depth r.0.address) r.2, r.3) in
      inside t r.0 r.1 ∙ e ∙ ap Word (ap word_of (sym r.4) ∙ word_of_fields v),
)

-- ---- every word
pub every_word : EveryWord
unfolding instruction_fields line_answer answer_with
every_word v h =
    let m = mode_of (v / 16384 % 4) (omega arith) in
    let a = address_for (v % 4096) (omega arith) in
    let l : Line =
    record {
      code = v / 262144;
      assigned = h;
      relative = m.0;
      w = v / 65536 % 4;
      register = omega arith;
      indirect = m.1;
      x = v / 4096 % 4;
      index = omega arith;
      address = a.0;
    } in (
      l,
      inside (line_bytes l) l (refl, short l a.1)
          ∙ ap (answer_with (v / 262144) (v / 65536 % 4) m.0 m.1 (v / 4096 % 4)) a.2
          ∙ ap (λ n. Word (word_of (record { code = v / 262144; w = v / 65536 % 4; m = n; x = v / 4096 % 4; d = v % 4096 }))) m.2
          ∙ ap Word (word_of_fields v),
    )

-- ---- characters
append_characters : (xs ys : List ℕ) → Characters xs → Characters ys → Characters (xs ++ ys)
unfolding Characters
append_characters [] ys h k = k
append_characters (x ∷ xs) ys h k = (h.0, append_characters xs ys h.1 k)

digits_characters : (ds : List Digit) → Characters (digit_bytes ds)
unfolding Characters digit_bytes
digits_characters [] = tt
digits_characters (d ∷ ds) = let h = d.small in (omega arith, digits_characters ds)

mutual
  unfolding sum_bytes Characters

  sum_characters : (s : Sum) → Characters (sum_bytes s)
  sum_characters (term p) = product_characters p
  sum_characters (plus s p) = append_characters (sum_bytes s) _ (sum_characters s) (omega arith, product_characters p)
  sum_characters (minus s p) = append_characters (sum_bytes s) _ (sum_characters s) (omega arith, product_characters p)

  product_characters : (p : Product) → Characters (product_bytes p)
  product_characters (factor q) = primary_characters q
  product_characters (times p q) = append_characters (product_bytes p) _ (product_characters p) (omega arith, primary_characters q)

  primary_characters : (q : Primary) → Characters (primary_bytes q)
  primary_characters (number d ds) = let h = d.small in (omega arith, digits_characters ds)
  primary_characters (group s) = (omega arith, append_characters (sum_bytes s) _ (sum_characters s) (omega arith, tt))

when_characters : (r : Bool) (b : ℕ) → b < 128 → Characters (when r b)
unfolding Characters
when_characters true b h = (h, tt)
when_characters false b h = tt

index_characters : (x : ℕ) → x < 4 → Characters (index_bytes x)
unfolding Characters
index_characters zero h = tt
index_characters (suc n) h = (omega arith, (omega arith, (omega arith, tt)))

pub line_characters : LineCharacters
unfolding line_bytes Characters
line_characters l =
    let c = letters_there l.code l.assigned in
    let h = l.register in
    let end = append_characters (sum_bytes l.address) _ (sum_characters l.address) (when_characters l.indirect 93 (omega arith)) in
    let middle =
    append_characters (when l.indirect 91) _ (when_characters l.indirect 91 (omega arith))
    (append_characters (index_bytes l.x) _ (index_characters l.x l.index) end) in
    let start =
    append_characters (when l.relative 46) (32 ∷ 87 ∷ (48 + l.w) ∷ 32 ∷ _) (when_characters l.relative 46 (omega arith))
    (omega arith, (omega arith, (omega arith, (omega arith, middle)))) in
    (c.0.1, (c.1.1, start))
