-- The reader from a place on reads what the rest of the text alone gives. Assumes nothing.
use Prim.Native.Nat.{ℕ, zero, suc, ◌+◌}
use mathlib.Core.Path.{◌≡◌, refl, sym, ap, ◌∙◌}
use mathlib.Core.Bool.{Bool, true, false, cond}
use mathlib.Core.List.{List, [], ◌∷◌}
use native.Mathlib.Omega.{arith}
use lib.ListN.{get_or, drop, length-drop}
use lib.Seq.{drop-drop, get_or-drop}
use lib.Dec.{eqb}
use Rattle.definition_assembler.specs.Reader.{Actions, Left, Nothing, Plus, Minus, Times, Nonterminal, sum_at, product_at, primary_at, Parsed, failed, parsed, digits, measure, combined, number_at, closed, sum_on, product_on, sum_after, product_after, step, parse_within, parse}

module _ {A : Type 0} (M : Actions A) (t : List ℕ) (at : ℕ) where
  abbrev pub shifted : Nonterminal A → Nonterminal A
  shifted (sum_at n b) = sum_at (at + n) b
  shifted (product_at n b) = product_at (at + n) b
  shifted (primary_at n) = primary_at (at + n)

  abbrev pub later : Parsed A → Parsed A
  later failed = failed
  later (parsed v n) = parsed v (at + n)

  there : (n : ℕ) → get_or (drop at t) n 0 ≡ get_or t (at + n) 0
  there n = get_or-drop at t n 0

  next : (n : ℕ) → at + n + 1 ≡ at + (n + 1)
  next n = omega arith

  both : (b c : Bool) (p q p' q' : Parsed A) → c ≡ b → p ≡ later p' → q ≡ later q' → cond b p q ≡ later (cond c p' q')
  both true c p q p' q' e h k = rw e h
  both false c p q p' q' e h k = rw e k

  byte_is : (n c : ℕ) → eqb (get_or (drop at t) n 0) c ≡ eqb (get_or t (at + n) 0) c
  byte_is n c = ap (λ b. eqb b c) (there n)

  number_there : (ds : List ℕ) (n : ℕ) → number_at M ds (at + n) ≡ later (number_at M ds n)
  number_there [] n = refl
  number_there (d ∷ ds) n = ap (parsed (M.of_number d ds)) (omega arith)

  pub closed_there : (p : Parsed A) → closed M t (later p) ≡ later (closed M (drop at t) p)
  closed_there failed = refl
  closed_there (parsed v n) = both _ _ _ _ _ _ (byte_is n 41) (ap (parsed (M.of_group v)) (next n)) refl

  module _ (m n : Nonterminal A → Parsed A) (ok : (k : Nonterminal A) → m (shifted k) ≡ later (n k)) where
    pub sum_on_there : (v : A) (e : ℕ) → sum_on M t m v (at + e) ≡ later (sum_on M (drop at t) n v e)
    sum_on_there v e =
        both _ _ _ _ _ _ (byte_is e 43) (ap (λ i. m (sum_at i (Plus v))) (next e) ∙ ok (sum_at (e + 1) (Plus v)))
        (both _ _ _ _ _ _ (byte_is e 45) (ap (λ i. m (sum_at i (Minus v))) (next e) ∙ ok (sum_at (e + 1) (Minus v))) refl)

    pub product_on_there : (v : A) (e : ℕ) → product_on M t m v (at + e) ≡ later (product_on M (drop at t) n v e)
    product_on_there v e = both _ _ _ _ _ _ (byte_is e 42) (ap (λ i. m (product_at i (Times v))) (next e) ∙ ok (product_at (e + 1) (Times v))) refl

    sum_after_there : (b : Left A) (p : Parsed A) → sum_after M t m b (later p) ≡ later (sum_after M (drop at t) n b p)
    sum_after_there b failed = refl
    sum_after_there b (parsed v e) = sum_on_there (combined M b v) e

    product_after_there : (b : Left A) (p : Parsed A) → product_after M t m b (later p) ≡ later (product_after M (drop at t) n b p)
    product_after_there b failed = refl
    product_after_there b (parsed v e) = product_on_there (combined M b v) e

    step_there : (k : Nonterminal A) → step M t m (shifted k) ≡ later (step M (drop at t) n k)
    step_there (sum_at i b) = ap (sum_after M t m b) (ok (product_at i Nothing)) ∙ sum_after_there b (n (product_at i Nothing))
    step_there (product_at i b) = ap (product_after M t m b) (ok (primary_at i)) ∙ product_after_there b (n (primary_at i))
    step_there (primary_at i) =
        both _ _ _ _ _ _ (byte_is i 40)
        (ap (λ j. closed M t (m (sum_at j Nothing))) (next i) ∙ ap (closed M t) (ok (sum_at (i + 1) Nothing)) ∙ closed_there (n (sum_at (i + 1) Nothing)))
        (ap (λ l. number_at M (digits l) (at + i)) (sym (drop-drop i at t)) ∙ number_there (digits (drop i (drop at t))) i)

  within_there : (f : ℕ) (k : Nonterminal A) → parse_within M f t (shifted k) ≡ later (parse_within M f (drop at t) k)
  unfolding parse_within
  within_there zero k = refl
  within_there (suc f) k = step_there (λ j. parse_within M f t j) (λ j. parse_within M f (drop at t) j) (within_there f) k

  same_measure : (k : Nonterminal A) → measure t (shifted k) ≡ measure (drop at t) k
  unfolding measure
  same_measure (sum_at n b) = omega (arith, length-drop at t)
  same_measure (product_at n b) = omega (arith, length-drop at t)
  same_measure (primary_at n) = omega (arith, length-drop at t)

  pub parse_there : (k : Nonterminal A) → parse M t (shifted k) ≡ later (parse M (drop at t) k)
  unfolding parse
  parse_there k = within_there (suc (measure t (shifted k))) k ∙ ap (λ f. later (parse_within M (suc f) (drop at t) k)) (same_measure k)
