-- The parts of a line, read from its front. Assumes nothing.
use Prim.Native.Nat.{ℕ, zero, suc, ◌+◌, ◌-◌, ◌≤◌, ◌<◌}
use mathlib.Core.Path.{◌≡◌, refl, sym, ap, ap₂, ◌∙◌}
use mathlib.Core.Bool.{Bool, true, false, cond, not, ◌&&◌}
use mathlib.Core.List.{List, [], ◌∷◌}
use native.Mathlib.Omega.{arith}
use native.Mathlib.Nat.{zero-add}
use borrow.Author.Tests.{ne_eqb, eqb-true, le-leb, leb-true}
use lib.ListN.{length, take, drop, length-drop}
use lib.Seq.{take-length}
use lib.Dec.{ltb, leb, eqb}
use Rattle.std.specs.Prelude.{Option, Some, None}
use Rattle.std.specs.List.{position, position_or_len}
use Rattle.std.proofs.lemmas.Bool.Decides.{nat_tests}
use Rattle.definition_assembler.specs.Letters.{first_letter, second_letter}
use Rattle.definition_assembler.specs.Head.{code_from, code_of, byte, is_register, is_index, register_good, index_good, index_of, past_index}
use Rattle.definition_assembler.specs.Assembling.{ended}
use Rattle.definition_assembler.proofs.Steps.{inside_eq}
use Rattle.definition_assembler.proofs.Parts.{both}
use Rattle.assembler.specs.Steps.{letters_from, letter_table, has_letters, assigned, register_of, index_from}

-- ---- the end of a line
pub ended_plain : (t : List ℕ) (i : Bool) → length t < 1 → not i ≡ ended t i 0
unfolding ended
ended_plain [] true h = refl
ended_plain [] false h = refl
ended_plain (b ∷ t) i h = absurd (omega arith)

pub ended_closed : (t : List ℕ) (i : Bool) → 1 ≤ length t → length t < 2 → byte t 0 ≡ 93 → i ≡ ended t i 0
unfolding ended
ended_closed [] i l h e = absurd (omega arith)
ended_closed (b ∷ []) true l h e = rw e
ended_closed (b ∷ []) false l h e = refl
ended_closed (b ∷ c ∷ t) i l h e = absurd (omega arith)

pub ended_not : (t : List ℕ) (i : Bool) → 1 ≤ length t → (length t < 2 → byte t 0 ≡ 93 → ⊥) → false ≡ ended t i 0
unfolding ended
ended_not [] i l h = absurd (omega arith)
ended_not (b ∷ []) true l h = rw (ne_eqb b 93 (h (omega arith)))
ended_not (b ∷ []) false l h = refl
ended_not (b ∷ c ∷ t) true l h = go (eqb b 93) _ (ne_eqb 1 (suc (suc (length t))) (λ e. omega arith))
  where
    go : (r s : Bool) → s ≡ false → false ≡ r && s
    go true s e = sym e
    go false s e = refl
ended_not (b ∷ c ∷ t) false l h = sym (ne_eqb 0 (suc (suc (length t))) (λ e. omega arith))

-- ---- a part of the text, and the rest as a slice has it
pub rest_is : (k : ℕ) (t : List ℕ) → take (length t - k) (drop k t) ≡ drop k t
rest_is k t = ap (λ n. take n (drop k t)) (sym (length-drop k t)) ∙ take-length (drop k t)

pub register_there : (t : List ℕ) (w : ℕ) → byte t 0 ≡ 32 → byte t 1 ≡ 87 → 48 ≤ byte t 2 → byte t 2 < 52 → byte t 3 ≡ 32 → w ≡ byte t 2 - 48
    → Some (w, take (length t - 4) (drop 4 t)) ≡ register_of t
unfolding register_good
register_there t w e₀ e₁ l u e₃ k = rw (e₀, e₁, le-leb 48 (byte t 2) l, le-leb (byte t 2) 51 (omega arith), e₃) (ap₂ (λ n r. Some (n, r)) k (rest_is 4 t))

pub register_none : (t : List ℕ) → (4 ≤ length t → byte t 0 ≡ 32 → byte t 1 ≡ 87 → 48 ≤ byte t 2 → byte t 2 < 52 → byte t 3 ≡ 32 → ⊥) → None ≡ register_of t
unfolding register_good
register_none t h = go (register_good t 0) refl
  where
    found : register_good t 0 ≡ true → ⊥
    found e =
        let a = both _ (eqb (byte t 3) 32) e in
        let b = both _ (is_register (byte t 2)) a.0 in
        let c = both (eqb (byte t 0) 32) (eqb (byte t 1) 87) b.0 in
        let d = both (leb 48 (byte t 2)) (leb (byte t 2) 51) b.1 in
        let u = leb-true (byte t 2) 51 d.1 in
        h (inside_eq t 3 32 (omega arith) a.1) (eqb-true (byte t 0) 32 c.0) (eqb-true (byte t 1) 87 c.1) (leb-true 48 (byte t 2) d.0) (omega arith) (eqb-true (byte t 3) 32 a.1)

    go : (r : Bool) → register_good t 0 ≡ r → ◌≡◌ {A = Option (ℕ × List ℕ)} None (cond r (Some (byte t 2 - 48, drop 4 t)) None)
    go true e = absurd (found e)
    go false e = refl

pub index_there : (t : List ℕ) (x : ℕ) → byte t 0 ≡ 88 → 49 ≤ byte t 1 → byte t 1 < 52 → byte t 2 ≡ 44 → x ≡ byte t 1 - 48 → Some (x, take (length t - 3) (drop 3 t)) ≡ index_from t
unfolding index_good index_of past_index
index_there t x e₀ l u e₂ k = rw (e₀, le-leb 49 (byte t 1) l, le-leb (byte t 1) 51 (omega arith), e₂) (ap₂ (λ n r. Some (n, r)) k (rest_is 3 t))

pub index_bad : (t : List ℕ) → byte t 0 ≡ 88 → (3 ≤ length t → 49 ≤ byte t 1 → byte t 1 < 52 → byte t 2 ≡ 44 → ⊥) → None ≡ index_from t
unfolding index_good
index_bad t e₀ h = rw e₀ (go (is_index (byte t 1) && eqb (byte t 2) 44) refl)
  where
    found : is_index (byte t 1) && eqb (byte t 2) 44 ≡ true → ⊥
    found e =
        let a = both (is_index (byte t 1)) (eqb (byte t 2) 44) e in
        let d = both (leb 49 (byte t 1)) (leb (byte t 1) 51) a.0 in
        let u = leb-true (byte t 1) 51 d.1 in
        h (inside_eq t 2 44 (omega arith) a.1) (leb-true 49 (byte t 1) d.0) (omega arith) (eqb-true (byte t 2) 44 a.1)

    go : (r : Bool) → is_index (byte t 1) && eqb (byte t 2) 44 ≡ r → ◌≡◌ {A = Option (ℕ × List ℕ)} None (cond r (Some (index_of t 0, drop (past_index t 0) t)) None)
    go true e = absurd (found e)
    go false e = refl

pub index_none : (t : List ℕ) → (1 ≤ length t → byte t 0 ≡ 88 → ⊥) → Some (0, t) ≡ index_from t
unfolding index_good index_of past_index
index_none [] h = refl
index_none (b ∷ t) h = rw (ne_eqb b 88 (h (omega arith)))

-- ---- a code
swap : (m n : ℕ) → eqb m n ≡ eqb n m
swap m n = grind (arith, nat_tests)

found : (r : Bool) (i k m : ℕ) → k ≡ i + 1 + m → cond r i k ≡ i + cond (not r) (1 + m) 0
found true i k m h = omega arith
found false i k m h = omega arith

code_place : (n i a b : ℕ) → code_from n i a b ≡ i + position_or_len (has_letters a b) (letters_from n i)
unfolding code_from letters_from
code_place zero i a b = omega arith
code_place (suc n) i a b =
    rw (swap a (first_letter i), swap b (second_letter i)) (found (eqb (first_letter i) a && eqb (second_letter i) b) i _ _ (code_place n (i + 1) a b))

table_length : (n i : ℕ) → length (letters_from n i) ≡ n
unfolding letters_from
table_length zero i = refl
table_length (suc n) i = ap suc (table_length n (i + 1))

pub code_found : (a b : ℕ) → position (has_letters a b) letter_table ≡ assigned (code_of a b)
unfolding letter_table code_of
code_found a b =
    let p = position_or_len (has_letters a b) (letters_from 58 0) in
    let e : p ≡ code_from 58 0 a b = sym (code_place 58 0 a b ∙ zero-add p) in
    ap (λ n. cond (ltb p n) (Some p) None) (table_length 58 0) ∙ ap assigned e
