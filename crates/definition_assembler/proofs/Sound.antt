-- What the reader accepts is written by a tree, for which the actions give what it reads. Assumes nothing.
use Prim.Native.Nat.{ℕ, zero, suc, ◌+◌}
use mathlib.Core.Path.{◌≡◌, refl, sym, ap, ap₂, ◌∙◌}
use mathlib.Core.Bool.{true}
use mathlib.Core.List.{List, [], ◌∷◌, ◌++◌, append_assoc}
use native.Mathlib.Omega.{arith}
use lib.ListN.{length, get_or, drop}
use lib.Seq.{drop-drop}
use lib.Dec.{eqb}
use Rattle.definition_assembler.specs.Grammar.{Sum, Product, Primary, term, plus, minus, factor, times, number, group, digit_bytes, sum_bytes, product_bytes, primary_bytes}
use Rattle.definition_assembler.specs.Reader.{Actions, Left, Nothing, Plus, Minus, Times, Nonterminal, sum_at, product_at, primary_at, Parsed, failed, parsed, digits, combined, number_at, closed, sum_after, product_after, step, parse_within, measure, parse, of_sum, of_product, of_primary}
use Rattle.definition_assembler.proofs.Steps.{cond_has}
use Rattle.definition_assembler.proofs.Back.{cut, cut_after}
use Rattle.definition_assembler.proofs.Digits.{to_digit, to_digits, bytes_of_digits, digits_front}

module _ {A : Type 0} (M : Actions A) (t : List ℕ) where
  -- ---- `pre`, and the text from `at` on, are a tree's bytes and the text from the end on
  abbrev pub SumRead : List ℕ → ℕ → Parsed A → Type 0
  SumRead pre at failed = Unit {0}
  SumRead pre at (parsed v n) = (s : Sum) × (v ≡ of_sum M s) × (pre ++ drop at t ≡ sum_bytes s ++ drop n t)

  abbrev pub ProductRead : List ℕ → ℕ → Parsed A → Type 0
  ProductRead pre at failed = Unit {0}
  ProductRead pre at (parsed v n) = (p : Product) × (v ≡ of_product M p) × (pre ++ drop at t ≡ product_bytes p ++ drop n t)

  abbrev pub PrimaryRead : ℕ → Parsed A → Type 0
  PrimaryRead at failed = Unit {0}
  PrimaryRead at (parsed v n) = (q : Primary) × (v ≡ of_primary M q) × (drop at t ≡ primary_bytes q ++ drop n t)

  -- `pre` is what stands before: a tree's bytes and an operator
  abbrev pub SumBefore : Left A → List ℕ → Type 0
  SumBefore Nothing pre = pre ≡ []
  SumBefore (Plus u) pre = (s : Sum) × (u ≡ of_sum M s) × (pre ≡ sum_bytes s ++ (43 ∷ []))
  SumBefore (Minus u) pre = (s : Sum) × (u ≡ of_sum M s) × (pre ≡ sum_bytes s ++ (45 ∷ []))
  SumBefore (Times u) pre = ⊥

  abbrev pub ProductBefore : Left A → List ℕ → Type 0
  ProductBefore Nothing pre = pre ≡ []
  ProductBefore (Plus u) pre = ⊥
  ProductBefore (Minus u) pre = ⊥
  ProductBefore (Times u) pre = (p : Product) × (u ≡ of_product M p) × (pre ≡ product_bytes p ++ (42 ∷ []))

  abbrev pub Sound : Nonterminal A → Parsed A → Type 0
  Sound (sum_at at b) x = (pre : List ℕ) → SumBefore b pre → SumRead pre at x
  Sound (product_at at b) x = (pre : List ℕ) → ProductBefore b pre → ProductRead pre at x
  Sound (primary_at at) x = PrimaryRead at x

  -- ---- pieces
  sum_from : (at k : ℕ) (pre l : List ℕ) → pre ++ drop at t ≡ l ++ drop k t → (x : Parsed A) → SumRead l k x → SumRead pre at x
  sum_from at k pre l h failed r = tt
  sum_from at k pre l h (parsed v n) r = (r.0, r.1, h ∙ r.2)

  product_from : (at k : ℕ) (pre l : List ℕ) → pre ++ drop at t ≡ l ++ drop k t → (x : Parsed A) → ProductRead l k x → ProductRead pre at x
  product_from at k pre l h failed r = tt
  product_from at k pre l h (parsed v n) r = (r.0, r.1, h ∙ r.2)

  sum_joined : (b : Left A) (pre : List ℕ) → SumBefore b pre → (p : Product) (v : A) → v ≡ of_product M p → (s : Sum) × (combined M b v ≡ of_sum M s) × (pre ++ product_bytes p ≡ sum_bytes s)
  unfolding of_sum sum_bytes
  sum_joined Nothing pre h p v e = (term p, e, ap (λ x. x ++ product_bytes p) h)
  sum_joined (Plus u) pre h p v e = (plus h.0 p, ap₂ M.of_plus h.1 e, ap (λ x. x ++ product_bytes p) h.2 ∙ append_assoc (sum_bytes h.0) (43 ∷ []) (product_bytes p))
  sum_joined (Minus u) pre h p v e = (minus h.0 p, ap₂ M.of_minus h.1 e, ap (λ x. x ++ product_bytes p) h.2 ∙ append_assoc (sum_bytes h.0) (45 ∷ []) (product_bytes p))
  sum_joined (Times u) pre h p v e = absurd h

  product_joined : (b : Left A) (pre : List ℕ) → ProductBefore b pre → (q : Primary) (v : A) → v ≡ of_primary M q → (p : Product) × (combined M b v ≡ of_product M p) × (pre ++ primary_bytes q ≡ product_bytes p)
  unfolding of_sum sum_bytes
  product_joined Nothing pre h q v e = (factor q, e, ap (λ x. x ++ primary_bytes q) h)
  product_joined (Plus u) pre h q v e = absurd h
  product_joined (Minus u) pre h q v e = absurd h
  product_joined (Times u) pre h q v e = (times h.0 q, ap₂ M.of_times h.1 e, ap (λ x. x ++ primary_bytes q) h.2 ∙ append_assoc (product_bytes h.0) (42 ∷ []) (primary_bytes q))

  -- pre, then m, then the rest
  chain : (pre m l : List ℕ) (x y : List ℕ) → x ≡ m ++ y → pre ++ m ≡ l → pre ++ x ≡ l ++ y
  chain pre m l x y h e = ap (◌++◌ pre) h ∙ sym (append_assoc pre m y) ∙ ap (λ z. z ++ y) e

  number_sound : (at : ℕ) (ds : List ℕ) → digits (drop at t) ≡ ds → PrimaryRead at (number_at M ds at)
  unfolding of_sum sum_bytes to_digits digit_bytes
  number_sound at [] e = tt
  number_sound at (b ∷ bs) e =
      let g : digit_bytes (to_digits (b ∷ bs)) ≡ b ∷ bs = ap (λ l. digit_bytes (to_digits l)) (sym e) ∙ bytes_of_digits (drop at t) ∙ e in
      let f : drop at t ≡ (b ∷ bs) ++ drop (length (b ∷ bs)) (drop at t) = digits_front (drop at t) ∙ ap (λ l. l ++ drop (length l) (drop at t)) e in (
        number (to_digit b) (to_digits bs),
        ap₂ M.of_number (sym (ap (λ l. get_or l 0 0) g)) (sym (ap (drop 1) g)),
        f ∙ ap₂ ◌++◌ (sym g) (drop-drop (length (b ∷ bs)) at t),
      )

  closed_sound : (at : ℕ) → eqb (get_or t at 0) 40 ≡ true → (x : Parsed A) → SumRead [] (at + 1) x → PrimaryRead at (closed M t x)
  unfolding of_sum sum_bytes
  closed_sound at o failed r = tt
  closed_sound at o (parsed v n) r =
      cond_has (PrimaryRead at) (eqb (get_or t n 0) 41) (parsed (M.of_group v) (n + 1)) failed
      (λ e. (group r.0, ap M.of_group r.1, cut t at 40 (omega arith) o ∙ ap (◌∷◌ 40) (r.2 ∙ cut_after t n 41 (sum_bytes r.0) (omega arith) e)))
      (λ e. tt)

  module _ (m : Nonterminal A → Parsed A) (ok : (j : Nonterminal A) → Sound j (m j)) where
    sum_sound : (at : ℕ) (b : Left A) (x : Parsed A) → ProductRead [] at x → (pre : List ℕ) → SumBefore b pre → SumRead pre at (sum_after M t m b x)
    sum_sound at b failed r pre h = tt
    sum_sound at b (parsed v n) r pre h =
        let j = sum_joined b pre h r.0 v r.1 in
        let here : pre ++ drop at t ≡ sum_bytes j.0 ++ drop n t = chain pre (product_bytes r.0) (sum_bytes j.0) (drop at t) (drop n t) r.2 j.2 in
        cond_has (SumRead pre at) (eqb (get_or t n 0) 43) _ _
        (λ e. sum_from at (n + 1) pre (sum_bytes j.0 ++ (43 ∷ [])) (here ∙ cut_after t n 43 (sum_bytes j.0) (omega arith) e) (m (sum_at (n + 1) (Plus (combined M b v))))
        (ok (sum_at (n + 1) (Plus (combined M b v))) (sum_bytes j.0 ++ (43 ∷ [])) (j.0, j.1, refl)))
        (λ d. cond_has (SumRead pre at) (eqb (get_or t n 0) 45) _ _
        (λ e. sum_from at (n + 1) pre (sum_bytes j.0 ++ (45 ∷ [])) (here ∙ cut_after t n 45 (sum_bytes j.0) (omega arith) e) (m (sum_at (n + 1) (Minus (combined M b v))))
        (ok (sum_at (n + 1) (Minus (combined M b v))) (sum_bytes j.0 ++ (45 ∷ [])) (j.0, j.1, refl)))
        (λ e. (j.0, j.1, here)))

    product_sound : (at : ℕ) (b : Left A) (x : Parsed A) → PrimaryRead at x → (pre : List ℕ) → ProductBefore b pre → ProductRead pre at (product_after M t m b x)
    product_sound at b failed r pre h = tt
    product_sound at b (parsed v n) r pre h =
        let j = product_joined b pre h r.0 v r.1 in
        let here : pre ++ drop at t ≡ product_bytes j.0 ++ drop n t = chain pre (primary_bytes r.0) (product_bytes j.0) (drop at t) (drop n t) r.2 j.2 in
        cond_has (ProductRead pre at) (eqb (get_or t n 0) 42) _ _
        (λ e. product_from at (n + 1) pre (product_bytes j.0 ++ (42 ∷ [])) (here ∙ cut_after t n 42 (product_bytes j.0) (omega arith) e) (m (product_at (n + 1) (Times (combined M b v))))
        (ok (product_at (n + 1) (Times (combined M b v))) (product_bytes j.0 ++ (42 ∷ [])) (j.0, j.1, refl)))
        (λ e. (j.0, j.1, here))

    step_sound : (k : Nonterminal A) → Sound k (step M t m k)
    step_sound (sum_at at b) = λ pre h. sum_sound at b (m (product_at at Nothing)) (ok (product_at at Nothing) [] refl) pre h
    step_sound (product_at at b) = λ pre h. product_sound at b (m (primary_at at)) (ok (primary_at at)) pre h
    step_sound (primary_at at) =
        cond_has (PrimaryRead at) (eqb (get_or t at 0) 40) _ _
        (λ e. closed_sound at e (m (sum_at (at + 1) Nothing)) (ok (sum_at (at + 1) Nothing) [] refl))
        (λ e. number_sound at (digits (drop at t)) refl)

  fault_sound : (k : Nonterminal A) → Sound k failed
  fault_sound (sum_at at b) = λ pre h. tt
  fault_sound (product_at at b) = λ pre h. tt
  fault_sound (primary_at at) = tt

  within_sound : (f : ℕ) (k : Nonterminal A) → Sound k (parse_within M f t k)
  unfolding parse_within
  within_sound zero k = fault_sound k
  within_sound (suc f) k = step_sound (λ j. parse_within M f t j) (λ j. within_sound f j) k

  pub sound : (k : Nonterminal A) → Sound k (parse M t k)
  unfolding parse
  sound k = within_sound (suc (measure t k)) k

  -- a sum that was read: its tree, what the actions give for it, its bytes
  pub read_sound : (at n : ℕ) (v : A) → parse M t (sum_at at Nothing) ≡ parsed v n → (s : Sum) × (v ≡ of_sum M s) × (drop at t ≡ sum_bytes s ++ drop n t)
  read_sound at n v e = rw e at (sound (sum_at at Nothing) [] refl)
