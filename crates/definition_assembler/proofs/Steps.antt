-- Laws on the reader: where it stops, and the equation by which it is known. Assumes nothing.
use Prim.Native.Nat.{ℕ, zero, suc, ◌+◌, ◌-◌, ◌≤◌, ◌<◌}
use mathlib.Core.Path.{◌≡◌, refl, ap, ◌∙◌}
use mathlib.Core.Bool.{Bool, true, false, cond}
use mathlib.Core.Logic.{◌⊎◌, inl, inr, ⊎_elim}
use mathlib.Core.List.{List, [], ◌∷◌}
use native.Mathlib.Omega.{arith}
use borrow.Author.Tests.{ltb-true, ltb-false, eqb-true}
use lib.ListN.{length, get_or, drop, length-drop, get_or-eq_default}
use lib.Dec.{ltb, eqb}
use Rattle.definition_assembler.specs.Reader.{Actions, Left, Nothing, Plus, Minus, Times, Nonterminal, sum_at, product_at, primary_at, Parsed, failed, parsed, is_digit, digits, measure, combined, number_at, closed, sum_on, sum_after, product_after, step, parse_within, parse}

-- ---- proofs by cases on a test
pub tested : (b : Bool) → (b ≡ true) ⊎ (b ≡ false)
tested true = inl refl
tested false = inr refl

pub cond_has : {B : Type 0} (P : B → Type 0) (b : Bool) (x y : B) → (b ≡ true → P x) → (b ≡ false → P y) → P (cond b x y)
cond_has P true x y p q = p refl
cond_has P false x y p q = q refl

pub cond_same : {B : Type 0} (b : Bool) (x x' y y' : B) → (b ≡ true → x ≡ x') → (b ≡ false → y ≡ y') → cond b x y ≡ cond b x' y'
cond_same true x x' y y' p q = p refl
cond_same false x x' y y' p q = q refl

-- a byte that is not 0 lies within the text
pub inside : (t : List ℕ) (n : ℕ) → 0 < get_or t n 0 → n < length t
inside t n h =
    ⊎_elim (λ e. ltb-true n (length t) e) (λ e. let no : ⊥ = omega (arith, get_or-eq_default t 0 (ltb-false n (length t) e)) in absurd no)
    (tested (ltb n (length t)))

pub inside_eq : (t : List ℕ) (n b : ℕ) → 0 < b → eqb (get_or t n 0) b ≡ true → n < length t
inside_eq t n b h e = inside t n (omega (arith, eqb-true (get_or t n 0) b e))

pub digits_fit : (l : List ℕ) → length (digits l) ≤ length l
unfolding digits
digits_fit [] = omega arith
digits_fit (b ∷ bs) = let h = digits_fit bs in cond_has (λ x. length x ≤ suc (length bs)) (is_digit b) (b ∷ digits bs) [] (λ e. omega arith) (λ e. omega arith)

-- ---- what was read ends after its start and within the text
abbrev pub place : {A : Type 0} → Nonterminal A → ℕ
place (sum_at at b) = at
place (product_at at b) = at
place (primary_at at) = at

abbrev pub Moved : {A : Type 0} → List ℕ → ℕ → Parsed A → Type 0
Moved t at failed = Unit {0}
Moved t at (parsed v n) = (at < n) × (n ≤ length t)

module _ {A : Type 0} (M : Actions A) (t : List ℕ) where
  later : (at n : ℕ) → at ≤ n → (p : Parsed A) → Moved t n p → Moved t at p
  later at n h failed m = tt
  later at n h (parsed v e) m = omega arith

  closed_moved : (at : ℕ) (p : Parsed A) → Moved t at p → Moved t at (closed M t p)
  closed_moved at failed m = tt
  closed_moved at (parsed v n) m =
      cond_has (Moved t at) (eqb (get_or t n 0) 41) _ failed (λ e. let i = inside_eq t n 41 (omega arith) e in omega arith) (λ e. tt)

  number_moved : (at : ℕ) (ds : List ℕ) → length ds ≤ length t - at → Moved t at (number_at M ds at)
  number_moved at [] h = tt
  number_moved at (b ∷ bs) h = omega arith

  digits_within : (at : ℕ) → length (digits (drop at t)) ≤ length t - at
  digits_within at = omega (arith, digits_fit (drop at t), length-drop at t)

  module _ (m : Nonterminal A → Parsed A) (ok : (j : Nonterminal A) → Moved t (place j) (m j)) where
    sum_on_moved : (at n : ℕ) (v : A) → at < n → n ≤ length t → Moved t at (sum_on M t m v n)
    sum_on_moved at n v h l =
        cond_has (Moved t at) (eqb (get_or t n 0) 43) _ _
        (λ e. later at (n + 1) (omega arith) (m (sum_at (n + 1) (Plus v))) (ok (sum_at (n + 1) (Plus v))))
        (λ e. cond_has (Moved t at) (eqb (get_or t n 0) 45) _ _
        (λ d. later at (n + 1) (omega arith) (m (sum_at (n + 1) (Minus v))) (ok (sum_at (n + 1) (Minus v))))
        (λ d. (h, l)))

    sum_moved : (at : ℕ) (b : Left A) (p : Parsed A) → Moved t at p → Moved t at (sum_after M t m b p)
    sum_moved at b failed h = tt
    sum_moved at b (parsed v n) h = sum_on_moved at n (combined M b v) h.0 h.1

    product_moved : (at : ℕ) (b : Left A) (p : Parsed A) → Moved t at p → Moved t at (product_after M t m b p)
    product_moved at b failed h = tt
    product_moved at b (parsed v n) h =
        cond_has (Moved t at) (eqb (get_or t n 0) 42) _ _
        (λ e. later at (n + 1) (omega arith) (m (product_at (n + 1) (Times (combined M b v)))) (ok (product_at (n + 1) (Times (combined M b v)))))
        (λ e. h)

    step_moved : (k : Nonterminal A) → Moved t (place k) (step M t m k)
    step_moved (sum_at at b) = sum_moved at b (m (product_at at Nothing)) (ok (product_at at Nothing))
    step_moved (product_at at b) = product_moved at b (m (primary_at at)) (ok (primary_at at))
    step_moved (primary_at at) =
        cond_has (Moved t at) (eqb (get_or t at 0) 40) _ _
        (λ e. later at (at + 1) (omega arith) (closed M t (m (sum_at (at + 1) Nothing))) (closed_moved (at + 1) (m (sum_at (at + 1) Nothing)) (ok (sum_at (at + 1) Nothing))))
        (λ e. number_moved at (digits (drop at t)) (digits_within at))

    -- two readers that agree on every smaller nonterminal agree on this one
    module _ (n : Nonterminal A → Parsed A) where
      sum_same : (at : ℕ) (b : Left A) → ((j : Nonterminal A) → measure t j < measure t (sum_at at b) → m j ≡ n j) → (p : Parsed A) → Moved t at p → sum_after M t m b p ≡ sum_after M t n b p
      unfolding measure
      sum_same at b ih failed h = refl
      sum_same at b ih (parsed v e) h =
          cond_same (eqb (get_or t e 0) 43) _ _ _ _
          (λ d. let i = inside_eq t e 43 (omega arith) d in ih (sum_at (e + 1) (Plus (combined M b v))) (omega arith))
          (λ d. cond_same (eqb (get_or t e 0) 45) _ _ _ _
          (λ g. let i = inside_eq t e 45 (omega arith) g in ih (sum_at (e + 1) (Minus (combined M b v))) (omega arith))
          (λ g. refl))

      product_same : (at : ℕ) (b : Left A) → ((j : Nonterminal A) → measure t j < measure t (product_at at b) → m j ≡ n j) → (p : Parsed A) → Moved t at p → product_after M t m b p ≡ product_after M t n b p
      unfolding measure
      product_same at b ih failed h = refl
      product_same at b ih (parsed v e) h =
          cond_same (eqb (get_or t e 0) 42) _ _ _ _
          (λ d. let i = inside_eq t e 42 (omega arith) d in ih (product_at (e + 1) (Times (combined M b v))) (omega arith))
          (λ d. refl)

      step_same : (k : Nonterminal A) → ((j : Nonterminal A) → measure t j < measure t k → m j ≡ n j) → step M t m k ≡ step M t n k
      unfolding measure
      step_same (sum_at at b) ih = sum_same at b ih (m (product_at at Nothing)) (ok (product_at at Nothing)) ∙ ap (sum_after M t n b) (ih (product_at at Nothing) (omega arith))
      step_same (product_at at b) ih = product_same at b ih (m (primary_at at)) (ok (primary_at at)) ∙ ap (product_after M t n b) (ih (primary_at at) (omega arith))
      step_same (primary_at at) ih =
          cond_same (eqb (get_or t at 0) 40) _ _ _ _
          (λ d. let i = inside_eq t at 40 (omega arith) d in ap (closed M t) (ih (sum_at (at + 1) Nothing) (omega arith)))
          (λ d. refl)

  -- ---- the reader with fuel
  within_moved : (f : ℕ) (k : Nonterminal A) → Moved t (place k) (parse_within M f t k)
  unfolding parse_within
  within_moved zero k = tt
  within_moved (suc f) k = step_moved (λ j. parse_within M f t j) (λ j. within_moved f j) k

  -- any fuel above the measure gives the same answer
  enough : (f g : ℕ) (k : Nonterminal A) → measure t k < f → measure t k < g → parse_within M f t k ≡ parse_within M g t k
  unfolding parse_within
  enough zero g k hf hg = let no : ⊥ = omega arith in absurd no
  enough (suc f) zero k hf hg = let no : ⊥ = omega arith in absurd no
  enough (suc f) (suc g) k hf hg =
      step_same (λ j. parse_within M f t j) (λ j. within_moved f j) (λ j. parse_within M g t j) k (λ j h. enough f g j (omega arith) (omega arith))

  pub moved : (k : Nonterminal A) → Moved t (place k) (parse M t k)
  unfolding parse
  moved k = within_moved (suc (measure t k)) k

  -- the reader is its own step
  pub read_is : (k : Nonterminal A) → parse M t k ≡ step M t (λ j. parse M t j) k
  unfolding parse parse_within
  read_is k =
      step_same (λ j. parse_within M (measure t k) t j) (λ j. within_moved (measure t k) j) (λ j. parse M t j) k (λ j h. enough (measure t k) (suc (measure t j)) j h (omega arith))
