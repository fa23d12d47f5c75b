-- A line, read part by part, has the answer of the definition. Assumes nothing.
use Prim.Native.Nat.{ℕ, ◌+◌, ◌-◌, ◌≤◌, ◌<◌}
use mathlib.Core.Path.{◌≡◌, refl, sym, ap, ap₂, ◌∙◌}
use mathlib.Core.Bool.{Bool, true, false, cond, ◌&&◌}
use mathlib.Core.List.{List, [], ◌∷◌}
use native.Mathlib.Omega.{arith}
use native.Mathlib.Nat.{add-zero}
use borrow.Author.Tests.{ne_eqb, lt-ltb, le-ltb, ltb-true}
use lib.ListN.{length, drop, length-drop}
use lib.Seq.{drop-drop, get_or-drop}
use lib.Dec.{ltb, eqb}
use Rattle.std.proofs.lemmas.Bool.Decides.{nat_tests}
use Rattle.std.specs.Option.{ok_or}
use Rattle.std.specs.Prelude.{Option, Some, None, Result, Ok, Err}
use Rattle.machine.specs.declared.Refusal.{Refusal}
use Rattle.machine.specs.declared.Refusal.TheVariants.{LineGrammar, LineDepth, LineValue}
use Rattle.definition_assembler.specs.Answers.{Address, Assembled, Refused}
use Rattle.definition_assembler.specs.Line.{Evaluated, last_in_range, displacement, address_of, word_of, fields, answer_with}
use Rattle.definition_assembler.specs.Reader.{Nothing, sum_at, Parsed, failed, parsed, parse}
use Rattle.definition_assembler.specs.Head.{code_of, byte, past, past_index, register_good, index_good, index_of, register_place, is_indirect, index_place, address_place, head_good}
use Rattle.definition_assembler.specs.Assembling.{evaluation, ended, head_answer, parsed_answer, assembling}
use Rattle.definition_assembler.proofs.Steps.{cond_has, inside, Moved, moved}
use Rattle.definition_assembler.proofs.Rest.{later, parse_there}
use Rattle.definition_assembler.proofs.Parts.{both, letters_there, code_sound, register_sound, index_sound}
use Rattle.definition_assembler.proofs.Words.{displacement_small}
use Rattle.address_expression.specs.Values.{found_of}
use Rattle.assembler.specs.declared.Head.{Head}
use Rattle.assembler.specs.Steps.{assigned, mark_of, register_of, index_from, head_fields, head_of}

pub apart : {A B : Type 0} (a a' : A) (b b' : B) → ◌≡◌ {A = Option (A × B)} (Some (a, b)) (Some (a', b')) → (a ≡ a') × (b ≡ b')
apart {A} {B} a a' b b' h =
    let p : A × B = (a, b) in
    let q : A × B = (a', b') in
    let e : p ≡ q = cc in
    (ap (λ (v : A × B). v.0) e, ap (λ (v : A × B). v.1) e)

abbrev Marked : Type 0
Marked = Bool × List ℕ

abbrev marked : Bool → List ℕ → Marked
marked b r = (b, r)

abbrev Part : Type 0
Part = ℕ × List ℕ

abbrev part : ℕ → List ℕ → Option Part
part n r = Some (n, r)

-- ---- the parts from a place on
module _ (t : List ℕ) where
  there : (n k : ℕ) → byte (drop n t) k ≡ byte t (n + k)
  there n k = get_or-drop n t k 0

  first : (n : ℕ) → byte (drop n t) 0 ≡ byte t n
  first n = there n 0 ∙ ap (byte t) (add-zero n)

  mark_there : (n b : ℕ) → 0 < b → mark_of b (drop n t) ≡ marked (eqb (byte t n) b) (drop (past t n b) t)
  mark_there n b h = go (drop n t) refl
    where
      go : (r : List ℕ) → drop n t ≡ r → mark_of b r ≡ marked (eqb (byte t n) b) (drop (past t n b) t)
      go [] e =
          let f : eqb (byte t n) b ≡ false = ap (λ c. eqb c b) (sym (first n) ∙ ap (λ l. byte l 0) e) ∙ ne_eqb 0 b (λ z. omega arith) in
          rw f (ap (marked false) (sym e))
      go (c ∷ r) e =
          let f : byte t n ≡ c = sym (first n) ∙ ap (λ l. byte l 0) e in
          let k : drop (n + 1) t ≡ r = sym (drop-drop 1 n t) ∙ ap (drop 1) e in
          rw f (at (eqb c b) k)
        where
          at : (s : Bool) → drop (n + 1) t ≡ r → cond s (marked true r) (marked false (c ∷ r)) ≡ marked s (drop (cond s (n + 1) n) t)
          at true k = ap (marked true) (sym k)
          at false k = ap (marked false) (sym e)

  register_there : (n : ℕ) → register_of (drop n t) ≡ cond (register_good t n) (Some (byte t (n + 2) - 48, drop (n + 4) t)) None
  unfolding register_good
  register_there n = rw (first n, there n 1, there n 2, there n 3, drop-drop 4 n t)

  index_there : (n : ℕ) → index_from (drop n t) ≡ cond (index_good t n) (Some (index_of t n, drop (past_index t n) t)) None
  unfolding index_good index_of past_index
  index_there n = rw (first n, there n 1, there n 2) (go (eqb (byte t n) 88) _ _)
    where
      go : (s g : Bool) (x : ℕ) → cond (cond s g true) (part (cond s x 0) (drop (cond s 3 0) (drop n t))) None ≡ cond (cond s g true) (part (cond s x 0) (drop (cond s (n + 3) n) t)) None
      go true g x = rw (drop-drop 3 n t)
      go false g x = refl

-- ---- the parts one after the other
abbrev then_ : {A B : Type 0} → Option A → (A → Option B) → Option B
then_ None f = None
then_ (Some a) f = f a

abbrev pub Heading : Type 0
Heading = Option (Head × List ℕ)

abbrev all_read : ℕ → Bool → ℕ → Bool → Part → Heading
all_read code dot w bracket x = Some (record { code = code; w = w; relative = dot; indirect = bracket; x = x.0 }, x.1)

abbrev bracket_read : ℕ → Bool → ℕ → Marked → Heading
bracket_read code dot w k = then_ (index_from k.1) (all_read code dot w k.0)

abbrev dot_read : ℕ → Marked → Heading
dot_read code m = then_ (register_of m.1) (λ w. bracket_read code m.0 w.0 (mark_of 91 w.1))

abbrev pub heading : List ℕ → List ℕ → Heading
heading t u = then_ (assigned (code_of (byte t 0) (byte t 1))) (λ c. dot_read c (mark_of 46 u))

module _ (t : List ℕ) where
  within_head : (a b i : Bool) (code w : ℕ) (dot : Bool) (r : List ℕ) (h : Head) (e : List ℕ)
      → bracket_read code dot w (mark_of 91 r) ≡ cond i (Some (h, e)) None
      → then_ (cond a (Some code) None) (λ c. then_ (cond b (part w r) None) (λ v. bracket_read c dot v.0 (mark_of 91 v.1))) ≡ cond (a && b && i) (Some (h, e)) None
  within_head true true i code w dot r h e k = k
  within_head true false i code w dot r h e k = refl
  within_head false b i code w dot r h e k = refl

  within_index : (i : Bool) (code w : ℕ) (dot bracket : Bool) (x : ℕ) (r : List ℕ)
      → then_ (cond i (part x r) None) (all_read code dot w bracket) ≡ cond i (all_read code dot w bracket (x, r)) None
  within_index true code w dot bracket x r = refl
  within_index false code w dot bracket x r = refl

  pub heading_is : heading t (drop 2 t) ≡ head_of t
  unfolding head_good address_place
  heading_is =
      let p = register_place t in
      let q = index_place t in
      let dot = eqb (byte t 2) 46 in
      let code = code_of (byte t 0) (byte t 1) in
      let w = byte t (p + 2) - 48 in
      ap (λ m. then_ (assigned (code_of (byte t 0) (byte t 1))) (λ c. dot_read c m)) (mark_there t 2 46 (omega arith))
      ∙ ap (λ r. then_ (assigned (code_of (byte t 0) (byte t 1))) (λ c. then_ r (λ w. bracket_read c dot w.0 (mark_of 91 w.1)))) (register_there t p)
      ∙ within_head _ _ (index_good t q) code w dot (drop (p + 4) t) (head_fields t) (drop (past_index t q) t)
      (ap (bracket_read code dot w) (mark_there t (p + 4) 91 (omega arith))
      ∙ ap (λ i. then_ i (all_read code dot w (is_indirect t))) (index_there t q)
      ∙ within_index (index_good t q) code w dot (is_indirect t) _ _)

  -- a text of one byte has no code
  pub head_short : length t < 2 → None ≡ head_of t
  unfolding head_good
  head_short h = go (ltb (code_of (byte t 0) (byte t 1)) 58) refl
    where
      no_code : ltb (code_of (byte t 0) (byte t 1)) 58 ≡ true → ⊥
      no_code e =
          let l = ltb-true (code_of (byte t 0) (byte t 1)) 58 e in
          let c = (code_sound (byte t 0) (byte t 1) l).1 in
          let b = (letters_there (code_of (byte t 0) (byte t 1)) l).1.0 in
          let i = inside t 1 (omega arith) in
          omega arith

      go : (a : Bool) → ltb (code_of (byte t 0) (byte t 1)) 58 ≡ a → ◌≡◌ {A = Heading} None (cond (a && register_good t (register_place t) && index_good t (index_place t)) (Some (head_fields t, drop (address_place t) t)) None)
      go true e = absurd (no_code e)
      go false e = refl

-- ---- the ways out of `read_head`: u is what stands behind the letters
module _ (t u : List ℕ) (f : u ≡ drop 2 t) where
  from : heading t u ≡ head_of t
  from = ap (heading t) f ∙ heading_is t

  pub head_no_code : None ≡ assigned (code_of (byte t 0) (byte t 1)) → None ≡ head_of t
  head_no_code a = ap (λ z. then_ z (λ c. dot_read c (mark_of 46 u))) a ∙ from

  module _ (code : ℕ) (a : Some code ≡ assigned (code_of (byte t 0) (byte t 1))) (m : Bool × List ℕ) (b : m ≡ mark_of 46 u) where
    from_dot : dot_read code m ≡ head_of t
    from_dot = ap (dot_read code) b ∙ ap (λ z. then_ z (λ c. dot_read c (mark_of 46 u))) a ∙ from

    pub head_no_register : None ≡ register_of m.1 → None ≡ head_of t
    head_no_register d = ap (λ z. then_ z (λ w. bracket_read code m.0 w.0 (mark_of 91 w.1))) d ∙ from_dot

    module _ (w : ℕ) (r : List ℕ) (d : part w r ≡ register_of m.1) (k : Bool × List ℕ) (e : k ≡ mark_of 91 r) where
      from_bracket : bracket_read code m.0 w k ≡ head_of t
      from_bracket = ap (bracket_read code m.0 w) e ∙ ap (λ z. then_ z (λ w. bracket_read code m.0 w.0 (mark_of 91 w.1))) d ∙ from_dot

      pub head_no_index : None ≡ index_from k.1 → None ≡ head_of t
      head_no_index i = ap (λ z. then_ z (all_read code m.0 w k.0)) i ∙ from_bracket

      pub head_read : (x : ℕ) (v : List ℕ) → part x v ≡ index_from k.1 → all_read code m.0 w k.0 (x, v) ≡ head_of t
      head_read x v i = ap (λ z. then_ z (all_read code m.0 w k.0)) i ∙ from_bracket

-- ---- the refusal of a part that is none
pub refusal_is : {A : Type 0} (o : Option A) (p q : Refusal) → o ≡ None → ◌≡◌ {A = Result A Refusal} (Err p) (ok_or o q) → ◌≡◌ {A = Assembled} (Err p) (Err q)
refusal_is {A} o p q e f = let g : ◌≡◌ {A = Result A Refusal} (Err p) (Err q) = f ∙ ap (λ x. ok_or x q) e in let h : p ≡ q = cc in ap Err h

-- ---- a displacement is below 4096
abbrev displaced : Address → ℕ
displaced (Err q) = 0
displaced (Ok d) = d

small_of : (e : Evaluated) (d : ℕ) → ◌≡◌ {A = Address} (Ok d) (address_of e) → d < 4096
unfolding address_of
small_of e d k =
    rw (ap displaced k)
    (cond_has (λ x. displaced x < 4096) (ltb 16 e.depth) (Err LineDepth) _
    (λ h. omega arith)
    (λ h. cond_has (λ x. displaced x < 4096) (e.fits && last_in_range e.value) (Ok (displacement e.value)) (Err LineValue)
    (λ k. displacement_small e.value (both e.fits (last_in_range e.value) k).1) (λ k. omega arith)))

-- ---- the whole line
module _ (t : List ℕ) where
  pub line_long : 255 < length t → Err LineGrammar ≡ assembling t
  unfolding assembling
  line_long h = rw (lt-ltb 255 (length t) h)

  ended_there : (n : ℕ) (i : Bool) → n ≤ length t → ended t i n ≡ ended (drop n t) i 0
  unfolding ended
  ended_there n true h = ap₂ (λ b c. eqb b 93 && c) (sym (first t n)) (shifted 1)
    where
      shifted : (k : ℕ) → eqb (n + k) (length t) ≡ eqb k (length (drop n t))
      shifted k = rw (length-drop n t) (grind (arith, nat_tests))
  ended_there n false h = rw (length-drop n t) (grind (arith, nat_tests))

  module _ (h : length t ≤ 255) where
    pub line_no_head : None ≡ head_of t → Err LineGrammar ≡ assembling t
    unfolding assembling
    line_no_head e = rw (le-ltb 255 (length t) h) (go (head_good t) e)
      where
        go : (g : Bool) → ◌≡◌ {A = Heading} None (cond g (Some (head_fields t, drop (address_place t) t)) None)
            → Err LineGrammar ≡ cond g (parsed_answer t (parse evaluation t (sum_at (address_place t) Nothing))) (Refused LineGrammar)
        go true e = cc
        go false e = refl

    module _ (f : Head) (r : List ℕ) (e : ◌≡◌ {A = Heading} (Some (f, r)) (head_of t)) where
      good : head_good t ≡ true
      good = go (head_good t) refl e
        where
          go : (g : Bool) → head_good t ≡ g → ◌≡◌ {A = Heading} (Some (f, r)) (cond g (Some (head_fields t, drop (address_place t) t)) None) → head_good t ≡ true
          go true d k = d
          go false d k = cc

      taken : (f ≡ head_fields t) × (r ≡ drop (address_place t) t)
      taken = let k : Some (f, r) ≡ Some (head_fields t, drop (address_place t) t) = rw good at e in apart f (head_fields t) r (drop (address_place t) t) k

      abbrev pub read : Parsed Evaluated
      read = parse evaluation r (sum_at 0 Nothing)

      reached : parse evaluation t (sum_at (address_place t) Nothing) ≡ later evaluation t (address_place t) read
      reached =
          ap (λ n. parse evaluation t (sum_at n Nothing)) (sym (add-zero (address_place t))) ∙ parse_there evaluation t (address_place t) (sum_at 0 Nothing)
          ∙ ap (λ l. later evaluation t (address_place t) (parse evaluation l (sum_at 0 Nothing))) (sym taken.1)

      started : assembling t ≡ parsed_answer t (later evaluation t (address_place t) read)
      unfolding assembling
      started = rw (le-ltb 255 (length t) h, good) (ap (parsed_answer t) reached)

      inside_text : Moved t (address_place t) (later evaluation t (address_place t) read)
      inside_text = rw reached at (moved evaluation t (sum_at (address_place t) Nothing))

      pub line_no_address : None ≡ found_of r read → Err LineGrammar ≡ assembling t
      line_no_address k = sym (started ∙ go read k)
        where
          go : (p : Parsed Evaluated) → None ≡ found_of r p → parsed_answer t (later evaluation t (address_place t) p) ≡ Err LineGrammar
          go failed j = refl
          go (parsed v n) j = cc

      abbrev pub answer : Address → List ℕ → Assembled
      answer a q = cond (ended q f.indirect 0) (answer_with f.code f.w f.relative f.indirect f.x a) (Refused LineGrammar)

      pub line_read : (a : Address) (q : List ℕ) → ◌≡◌ {A = Option (Address × List ℕ)} (Some (a, q)) (found_of r read) → answer a q ≡ assembling t
      line_read a q k = sym (started ∙ go read inside_text k)
        where
          go : (p : Parsed Evaluated) → Moved t (address_place t) (later evaluation t (address_place t) p) → ◌≡◌ {A = Option (Address × List ℕ)} (Some (a, q)) (found_of r p)
              → parsed_answer t (later evaluation t (address_place t) p) ≡ answer a q
          go failed m j = cc
          go (parsed v n) m j =
              let z = apart a (address_of v) q (drop n r) j in
              let s : drop (address_place t + n) t ≡ q = sym (drop-drop n (address_place t) t) ∙ ap (drop n) (sym taken.1) ∙ sym z.1 in
              let i = ended_there (address_place t + n) (is_indirect t) m.1 in
              ap₂ (λ b c. cond b (head_answer t c) (Refused LineGrammar)) (i ∙ ap (λ l. ended l (is_indirect t) 0) s) (sym z.0)
              ∙ ap (λ (g : Head). cond (ended q g.indirect 0) (answer_with g.code g.w g.relative g.indirect g.x a) (Refused LineGrammar)) (sym taken.0)

      module _ (a : Address) (q : List ℕ) (k : ◌≡◌ {A = Option (Address × List ℕ)} (Some (a, q)) (found_of r read)) (z : Bool) (i : z ≡ ended q f.indirect 0) where
        pub line_rest : z ≡ false → Err LineGrammar ≡ assembling t
        line_rest j = rw (← i, j) at (line_read a q k)

        pub line_refused : z ≡ true → (p : Refusal) → a ≡ Err p → Err p ≡ assembling t
        unfolding answer_with
        line_refused j p g = rw (← i, j, g) at (line_read a q k)

        pub line_word : z ≡ true → (d w : ℕ) → a ≡ Ok d → w ≡ word_of (fields f.code f.w f.relative f.indirect f.x d) → Ok w ≡ assembling t
        unfolding answer_with
        line_word j d w g l = ap Ok l ∙ rw (← i, j, g) at (line_read a q k)

      pub line_small : (a : Address) (d : ℕ) (q : List ℕ) → a ≡ Ok d → ◌≡◌ {A = Option (Address × List ℕ)} (Some (a, q)) (found_of r read) → (f.code < 64) × (f.w < 4) × (f.x < 4) × (d < 4096)
      unfolding head_good
      line_small a d q m k = rw taken.0 (
          let a = both _ (index_good t (index_place t)) good in
          let b = both (ltb (code_of (byte t 0) (byte t 1)) 58) (register_good t (register_place t)) a.0 in
          let s = register_sound t (register_place t) b.1 in
          let l = s.1 in
          let u = s.2 in
          let c = ltb-true (code_of (byte t 0) (byte t 1)) 58 b.0 in
          (omega arith, omega arith, (index_sound t (index_place t) a.1).1, go read (rw m at k)))
        where
          go : (p : Parsed Evaluated) → ◌≡◌ {A = Option (Address × List ℕ)} (Some (Ok d, q)) (found_of r p) → d < 4096
          go failed j = cc
          go (parsed v n) j = small_of v d (apart (Ok d) (address_of v) q (drop n r) j).0
