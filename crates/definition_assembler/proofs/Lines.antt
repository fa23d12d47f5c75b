-- Lines: what is written is read back, and what is read was written. Assumes nothing.
use Prim.Native.Nat.{ℕ, zero, suc, ◌+◌, ◌*◌, ◌-◌, ◌≤◌, ◌<◌}
use mathlib.Core.Path.{◌≡◌, refl, sym, ap, ap₂, ◌∙◌}
use mathlib.Core.HLevel.{is_prop→PathP}
use mathlib.Core.Bool.{Bool, true, false, cond}
use mathlib.Core.List.{List, [], ◌∷◌, ◌++◌}
use native.Mathlib.Omega.{arith}
use native.Mathlib.Bridge.{le_prop}
use borrow.Author.Tests.{eq-eqb, eqb-true, lt-ltb, le-ltb, ltb-true, ltb-false}
use lib.ListN.{length, get_or, drop, length-drop}
use lib.Seq.{drop-length}
use lib.Dec.{ltb, eqb}
use lib.IntN.{pos}
use Rattle.machine.specs.declared.Refusal.TheVariants.{LineGrammar}
use Rattle.definition_assembler.specs.Answers.{Address, Assembled, Refused}
use Rattle.definition_assembler.specs.Letters.{first_letter, second_letter}
use Rattle.definition_assembler.specs.Grammar.{Digit, Sum, Product, Primary, term, plus, minus, factor, times, number, group, digit_byte, digit_bytes, decimal, in_range, sum_bytes, sum_depth, sum_in_range, sum_value, product_depth, product_in_range, product_value, primary_depth, primary_in_range, primary_value}
use Rattle.definition_assembler.specs.Line.{Line, when, index_bytes, line_bytes, Evaluated, tree_evaluated, address_of, answer_with, line_answer}
use Rattle.definition_assembler.specs.Reader.{Nothing, sum_at, Parsed, failed, parsed, parse, of_sum, of_product, of_primary}
use Rattle.definition_assembler.specs.Head.{code_of, byte, register_good, index_good, index_of, register_place, is_indirect, index_place, address_place, head_good}
use Rattle.definition_assembler.specs.Assembling.{decimal_bytes, numeral, grouped, evaluation, ended, head_answer, parsed_answer, assembling}
use Rattle.definition_assembler.specs.Claims.{Unambiguous, Reads}
use Rattle.definition_assembler.proofs.Steps.{cond_has, moved}
use Rattle.definition_assembler.proofs.Back.{front, next, passed, cut, Stops, read_back}
use Rattle.definition_assembler.proofs.Sound.{read_sound}
use Rattle.definition_assembler.proofs.Trees.{same_sum}
use Rattle.definition_assembler.proofs.Parts.{both, code_back, letters_there, code_sound, sum_first, when_back, when_sound, cut_any, register_back, register_sound, index_back, index_sound}

-- ---- what evaluation gives for a tree
decimal_same : (a : ℕ) (ds : List Digit) → decimal_bytes a (digit_bytes ds) ≡ decimal a ds
unfolding decimal_bytes digit_bytes decimal
decimal_same a [] = refl
decimal_same a (d ∷ ds) =
    let e : 10 * a + (48 + d.value - 48) ≡ 10 * a + d.value = omega arith in
    ap (λ x. decimal_bytes x (digit_bytes ds)) e ∙ decimal_same (10 * a + d.value) ds

number_value : (d : Digit) (ds : List Digit) → decimal_bytes 0 (digit_byte d ∷ digit_bytes ds) ≡ decimal d.value ds
unfolding decimal_bytes
number_value d ds =
    let e : 10 * 0 + (48 + d.value - 48) ≡ d.value = omega arith in
    ap (λ x. decimal_bytes x (digit_bytes ds)) e ∙ decimal_same d.value ds

mutual
  unfolding of_sum sum_in_range sum_value sum_depth tree_evaluated numeral

  pub sum_evaluated : (s : Sum) → of_sum evaluation s ≡ tree_evaluated s
  sum_evaluated (term p) = product_evaluated p
  sum_evaluated (plus s p) = ap₂ evaluation.of_plus (sum_evaluated s) (product_evaluated p)
  sum_evaluated (minus s p) = ap₂ evaluation.of_minus (sum_evaluated s) (product_evaluated p)

  product_evaluated : (p : Product) → of_product evaluation p ≡ record { value = product_value p; fits = product_in_range p; depth = product_depth p }
  product_evaluated (factor q) = primary_evaluated q
  product_evaluated (times p q) = ap₂ evaluation.of_times (product_evaluated p) (primary_evaluated q)

  primary_evaluated : (q : Primary) → of_primary evaluation q ≡ record { value = primary_value q; fits = primary_in_range q; depth = primary_depth q }
  primary_evaluated (number d ds) = ap (λ n. record { value = pos n; fits = in_range (pos n); depth = 0 }) (number_value d ds)
  primary_evaluated (group s) = ap grouped (sum_evaluated s)

-- ---- what is written is read back
record Written (l : Line) (t : List ℕ) : Type 0 where
  code : code_of (byte t 0) (byte t 1) ≡ l.code
  relative : eqb (byte t 2) 46 ≡ l.relative
  space : register_good t (register_place t) ≡ true
  w : byte t (register_place t + 2) ≡ 48 + l.w
  indirect : is_indirect t ≡ l.indirect
  index : index_good t (index_place t) ≡ true
  x : index_of t (index_place t) ≡ l.x
  address : drop (address_place t) t ≡ sum_bytes l.address ++ when l.indirect 93

no_bracket : (x : ℕ) (s : Sum) (r : List ℕ) → eqb (get_or (index_bytes x ++ (sum_bytes s ++ r)) 0 0) 91 ≡ false
no_bracket zero s r = (sum_first s r).0
no_bracket (suc n) s r = refl

written : (l : Line) (t : List ℕ) → t ≡ line_bytes l → Written l t
unfolding line_bytes address_place
written l t e =
    let end = sum_bytes l.address ++ when l.indirect 93 in
    let middle = when l.indirect 91 ++ (index_bytes l.x ++ end) in
    let start = when l.relative 46 ++ (32 ∷ 87 ∷ (48 + l.w) ∷ 32 ∷ middle) in
    let h₀ : drop 0 t ≡ first_letter l.code ∷ second_letter l.code ∷ start = e in
    let h₁ : drop 1 t ≡ second_letter l.code ∷ start = next t 0 (first_letter l.code) _ h₀ in
    let h₂ : drop 2 t ≡ start = next t 1 (second_letter l.code) _ h₁ in
    let a = when_back t l.relative 2 46 (32 ∷ 87 ∷ (48 + l.w) ∷ 32 ∷ middle) h₂ refl in
    let b = register_back t (register_place t) l.w middle l.register a.1 in
    let c = when_back t l.indirect (register_place t + 4) 91 (index_bytes l.x ++ end) b.2 (no_bracket l.x l.address (when l.indirect 93)) in
    let d = index_back t l.x (index_place t) end l.index c.1 (sum_first l.address (when l.indirect 93)).1 in
    record {
      code = ap₂ code_of (front t 0 _ h₀) (front t 1 _ h₁) ∙ code_back l.code l.assigned;
      relative = a.0;
      space = b.0;
      w = b.1;
      indirect = c.0;
      index = d.0;
      x = d.1;
      address = d.2;
    }

stops : (r : Bool) → Stops (get_or (when r 93) 0 0)
stops true = (refl, refl, refl, refl)
stops false = (refl, refl, refl, refl)

line_path : (l m : Line) → l.code ≡ m.code → l.relative ≡ m.relative → l.w ≡ m.w → l.indirect ≡ m.indirect → l.x ≡ m.x → l.address ≡ m.address → l ≡ m
line_path l m c r w i x a =
    λ k. record {
      code = c k;
      assigned = is_prop→PathP (λ j. c j < 58) (λ j. le_prop) l.assigned m.assigned k;
      relative = r k;
      w = w k;
      register = is_prop→PathP (λ j. w j < 4) (λ j. le_prop) l.register m.register k;
      indirect = i k;
      x = x k;
      index = is_prop→PathP (λ j. x j < 4) (λ j. le_prop) l.index m.index k;
      address = a k;
    }

pub unambiguous : Unambiguous
unambiguous l m e =
    let t = line_bytes l in
    let a = written l t refl in
    let b = written m t e in
    let w : 48 + l.w ≡ 48 + m.w = sym a.w ∙ b.w in
    line_path l m (sym a.code ∙ b.code) (sym a.relative ∙ b.relative) (omega arith) (sym a.indirect ∙ b.indirect) (sym a.x ∙ b.x)
    (same_sum t (address_place t) l.address m.address (when l.indirect 93) (when m.indirect 93) a.address (stops l.indirect) b.address (stops m.indirect))

-- ---- the end
module _ (t : List ℕ) where
  ended_back : (i : Bool) (n : ℕ) → n ≤ length t → drop n t ≡ when i 93 → ended t i n ≡ true
  unfolding ended
  ended_back true n l h =
      let d : length (drop n t) ≡ 1 = ap length h in
      let e = length-drop n t in
      rw (front t n _ h, eq-eqb (n + 1) (length t) (omega arith))
  ended_back false n l h =
      let d : length (drop n t) ≡ 0 = ap length h in
      let e = length-drop n t in
      eq-eqb n (length t) (omega arith)

  ended_sound : (i : Bool) (n : ℕ) → ended t i n ≡ true → drop n t ≡ when i 93
  unfolding ended
  ended_sound true n h =
      let b = both (eqb (byte t n) 93) (eqb (n + 1) (length t)) h in
      cut t n 93 (omega arith) b.0 ∙ ap (◌∷◌ 93) (ap (λ k. drop k t) (eqb-true (n + 1) (length t) b.1) ∙ drop-length t)
  ended_sound false n h = ap (λ k. drop k t) (eqb-true n (length t) h) ∙ drop-length t

answer_same : (c c' w w' : ℕ) (r r' i i' : Bool) (x x' : ℕ) (a a' : Address) → c ≡ c' → w ≡ w' → r ≡ r' → i ≡ i' → x ≡ x' → a ≡ a'
    → answer_with c w r i x a ≡ answer_with c' w' r' i' x' a'
answer_same c c' w w' r r' i i' x x' a a' e f g h k m = λ j. answer_with (e j) (f j) (g j) (h j) (k j) (m j)

-- a line of at most 255 characters has the answer of its tree
pub inside : (t : List ℕ) (l : Line) → Reads t l → assembling t ≡ line_answer l
unfolding assembling head_good line_answer
inside t l (e, h) =
    let a = written l t e in
    let s = l.address in
    let r = read_back evaluation t s (address_place t) (when l.indirect 93) a.address (stops l.indirect) in
    let n = address_place t + length (sum_bytes s) in
    let m : (address_place t < n) × (n ≤ length t) = rw r at (moved evaluation t (sum_at (address_place t) Nothing)) in
    let q : ended t (is_indirect t) n ≡ true =
    rw a.indirect (ended_back t l.indirect n m.1 (passed t (address_place t) (sum_bytes s) (when l.indirect 93) a.address)) in
    let w = a.w in
    let g : head_good t ≡ true = rw (lt-ltb (code_of (byte t 0) (byte t 1)) 58 (rw a.code l.assigned), a.space, a.index) in
    ap (λ b. cond b (Refused LineGrammar) (cond (head_good t) (parsed_answer t (parse evaluation t (sum_at (address_place t) Nothing))) (Refused LineGrammar))) (le-ltb 255 (length t) h)
    ∙ ap (λ b. cond b (parsed_answer t (parse evaluation t (sum_at (address_place t) Nothing))) (Refused LineGrammar)) g
    ∙ ap (parsed_answer t) r
    ∙ ap (λ b. cond b (head_answer t (address_of (of_sum evaluation s))) (Refused LineGrammar)) q
    ∙ answer_same _ _ _ _ _ _ _ _ _ _ _ _ a.code (omega arith) a.relative a.indirect a.x (ap address_of (sum_evaluated s))

-- ---- what is read was written
line_of : (t : List ℕ) (v : Evaluated) (n : ℕ) → head_good t ≡ true → parse evaluation t (sum_at (address_place t) Nothing) ≡ parsed v n → ended t (is_indirect t) n ≡ true
    → (l : Line) × (t ≡ line_bytes l)
unfolding line_bytes head_good address_place
line_of t v n g e z =
    let c = code_of (byte t 0) (byte t 1) in
    let p = register_place t in
    let i = eqb (byte t (p + 4)) 91 in
    let g₁ = both _ (index_good t (index_place t)) g in
    let g₂ = both (ltb c 58) (register_good t p) g₁.0 in
    let k : c < 58 = ltb-true c 58 g₂.0 in
    let cs = code_sound (byte t 0) (byte t 1) k in
    let ls = letters_there c k in
    let d₀ : drop 0 t ≡ byte t 0 ∷ drop 1 t = cut_any t 0 1 refl (rw cs.0 ls.0.0) in
    let d₁ : drop 1 t ≡ byte t 1 ∷ drop 2 t = cut_any t 1 2 refl (rw cs.1 ls.1.0) in
    let sp = register_sound t p g₂.1 in
    let ix = index_sound t (index_place t) g₁.1 in
    let r = read_sound evaluation t (address_place t) n v e in
    let e₄ : drop (address_place t) t ≡ sum_bytes r.0 ++ when i 93 = r.2 ∙ ap (◌++◌ (sum_bytes r.0)) (ended_sound t i n z) in
    let e₃ : drop (index_place t) t ≡ index_bytes (index_of t (index_place t)) ++ (sum_bytes r.0 ++ when i 93) = ix.0 ∙ ap (◌++◌ (index_bytes (index_of t (index_place t)))) e₄ in
    let e₂ : drop (p + 4) t ≡ when i 91 ++ (index_bytes (index_of t (index_place t)) ++ (sum_bytes r.0 ++ when i 93)) = when_sound t (p + 4) 91 (omega arith) ∙ ap (◌++◌ (when i 91)) e₃ in
    let l₁ = sp.1 in
    let l₂ = sp.2 in
    let b : byte t (p + 2) ≡ 48 + (byte t (p + 2) - 48) = omega arith in
    let e₁ = sp.0 ∙ ap₂ (λ y u. 32 ∷ 87 ∷ y ∷ 32 ∷ u) b e₂ in
    let e₀ = when_sound t 2 46 (omega arith) ∙ ap (◌++◌ (when (eqb (byte t 2) 46) 46)) e₁ in (
      record {
        code = c;
        assigned = k;
        relative = eqb (byte t 2) 46;
        w = byte t (p + 2) - 48;
        register = omega arith;
        indirect = i;
        x = index_of t (index_place t);
        index = ix.1;
        address = r.0;
      },
      d₀ ∙ ap₂ ◌∷◌ cs.0 (d₁ ∙ ap₂ ◌∷◌ cs.1 e₀),
    )

-- ---- an answer is the grammar's refusal, or the text is a line of at most 255 characters
pub data Judged (t : List ℕ) (a : Assembled) : Type 0 where
  no_line : a ≡ Refused LineGrammar → Judged t a
  a_line : (l : Line) → Reads t l → Judged t a

parsed_line : (t : List ℕ) → length t ≤ 255 → head_good t ≡ true → (p : Parsed Evaluated) → parse evaluation t (sum_at (address_place t) Nothing) ≡ p
    → Judged t (parsed_answer t p)
parsed_line t k g failed e = no_line refl
parsed_line t k g (parsed v n) e =
    cond_has (Judged t) (ended t (is_indirect t) n) _ _
    (λ d. let l = line_of t v n g e d in a_line l.0 (l.1, k))
    (λ d. no_line refl)

pub judged : (t : List ℕ) → Judged t (assembling t)
unfolding assembling
judged t =
    cond_has (Judged t) (ltb 255 (length t)) _ _
    (λ d. no_line refl)
    (λ d.
    cond_has (Judged t) (head_good t) _ _
    (λ g. parsed_line t (ltb-false 255 (length t) d) g (parse evaluation t (sum_at (address_place t) Nothing)) refl)
    (λ g. no_line refl))

pub long : (t : List ℕ) → 255 < length t → assembling t ≡ Refused LineGrammar
unfolding assembling
long t h = rw (lt-ltb 255 (length t) h)
