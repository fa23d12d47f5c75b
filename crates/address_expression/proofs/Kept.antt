-- What the code keeps of an address is what its evaluation comes to. Assumes nothing.
use Prim.Native.Nat.{ℕ, zero, suc, ◌+◌, min}
use mathlib.Core.Path.{◌≡◌, refl, sym, ap, ap₂, ◌∙◌}
use mathlib.Core.Bool.{Bool, true, false, cond, ◌&&◌}
use mathlib.Core.List.{List, [], ◌∷◌}
use native.Mathlib.Omega.{arith}
use borrow.Author.Tests.{lt-ltb, le-ltb, ltb-true, ltb-false}
use lib.ListN.{length, get_or, drop}
use lib.Dec.{ltb, eqb}
use lib.IntN.{ℤ, ◌+ℤ◌, ◌-ℤ◌, ◌*ℤ◌}
use Rattle.std.specs.Prelude.{Option, Some, None}
use Rattle.address_expression.specs.declared.Value.{Value}
use Rattle.definition_assembler.specs.Answers.{Address}
use Rattle.definition_assembler.specs.Grammar.{in_range}
use Rattle.definition_assembler.specs.Line.{Evaluated, address_of}
use Rattle.definition_assembler.specs.Reader.{Left, Nothing, Plus, Minus, Times, Nonterminal, sum_at, product_at, primary_at, Parsed, failed, parsed, digits, measure, combined, number_at, closed, sum_on, product_on, sum_after, product_after, step, parse_within, parse}
use Rattle.definition_assembler.specs.Assembling.{numeral, grouped, result, evaluation}
use Rattle.definition_assembler.proofs.Steps.{cond_has}
use Rattle.address_expression.specs.Values.{kept_of, deeper, result_of, group_of, number_of, values, reading_of, evaluated_of, found_of}

-- ---- what is kept
abbrev kept : Evaluated → Value
kept e = record { number = cond e.fits (Some e.value) None; depth = min e.depth 17 }

both_kept : (op : ℤ → ℤ → ℤ) (g h : Bool) (z w : ℤ)
    → cond (g && h && in_range (op z w)) (Some (op z w)) None ≡ kept_of op (cond g (Some z) None) (cond h (Some w) None)
both_kept op true true z w = refl
both_kept op true false z w = refl
both_kept op false h z w = refl

result_kept : (op : ℤ → ℤ → ℤ) (e f : Evaluated) → result_of op (kept e) (kept f) ≡ kept (result (op e.value f.value) e f)
result_kept op e f = ap₂ (λ n d. record { number = n; depth = d }) (sym (both_kept op e.fits f.fits e.value f.value)) (omega arith)

deeper_capped : (d : ℕ) → deeper (min d 17) ≡ min (suc d) 17
deeper_capped d =
    cond_has (λ x. x ≡ min (suc d) 17) (ltb (min d 17) 17) (suc (min d 17)) (min d 17)
    (λ e. let h = ltb-true (min d 17) 17 e in omega arith)
    (λ e. let h = ltb-false (min d 17) 17 e in omega arith)

group_kept : (e : Evaluated) → group_of (kept e) ≡ kept (grouped e)
group_kept e = ap (λ d. record { number = cond e.fits (Some e.value) None; depth = d }) (deeper_capped e.depth)

number_kept : (bs : List ℕ) → number_of bs ≡ kept (numeral bs)
unfolding numeral
number_kept bs = refl

-- ---- the two readers
abbrev left : Left Evaluated → Left Value
left Nothing = Nothing
left (Plus e) = Plus (kept e)
left (Minus e) = Minus (kept e)
left (Times e) = Times (kept e)

abbrev same : Nonterminal Evaluated → Nonterminal Value
same (sum_at at b) = sum_at at (left b)
same (product_at at b) = product_at at (left b)
same (primary_at at) = primary_at at

abbrev all_kept : Parsed Evaluated → Parsed Value
all_kept failed = failed
all_kept (parsed e n) = parsed (kept e) n

combined_kept : (b : Left Evaluated) (e : Evaluated) → combined values (left b) (kept e) ≡ kept (combined evaluation b e)
combined_kept Nothing e = refl
combined_kept (Plus f) e = result_kept ◌+ℤ◌ f e
combined_kept (Minus f) e = result_kept ◌-ℤ◌ f e
combined_kept (Times f) e = result_kept ◌*ℤ◌ f e

either : (b : Bool) (p q : Parsed Evaluated) (p' q' : Parsed Value) → p' ≡ all_kept p → q' ≡ all_kept q → cond b p' q' ≡ all_kept (cond b p q)
either true p q p' q' h k = h
either false p q p' q' h k = k

module _ (t : List ℕ) where
  number_same : (ds : List ℕ) (at : ℕ) → number_at values ds at ≡ all_kept (number_at evaluation ds at)
  number_same [] at = refl
  number_same (b ∷ bs) at = ap (λ x. parsed x (at + length (b ∷ bs))) (number_kept (b ∷ bs))

  closed_same : (p : Parsed Evaluated) → closed values t (all_kept p) ≡ all_kept (closed evaluation t p)
  closed_same failed = refl
  closed_same (parsed e n) = either (eqb (get_or t n 0) 41) _ _ _ _ (ap (λ x. parsed x (n + 1)) (group_kept e)) refl

  module _ (m : Nonterminal Evaluated → Parsed Evaluated) (n : Nonterminal Value → Parsed Value) (ok : (k : Nonterminal Evaluated) → n (same k) ≡ all_kept (m k)) where
    sum_same : (b : Left Evaluated) (p : Parsed Evaluated) → sum_after values t n (left b) (all_kept p) ≡ all_kept (sum_after evaluation t m b p)
    sum_same b failed = refl
    sum_same b (parsed e i) =
        ap (λ x. sum_on values t n x i) (combined_kept b e)
        ∙ either (eqb (get_or t i 0) 43) _ _ _ _ (ok (sum_at (i + 1) (Plus (combined evaluation b e))))
        (either (eqb (get_or t i 0) 45) _ _ _ _ (ok (sum_at (i + 1) (Minus (combined evaluation b e)))) refl)

    product_same : (b : Left Evaluated) (p : Parsed Evaluated) → product_after values t n (left b) (all_kept p) ≡ all_kept (product_after evaluation t m b p)
    product_same b failed = refl
    product_same b (parsed e i) =
        ap (λ x. product_on values t n x i) (combined_kept b e)
        ∙ either (eqb (get_or t i 0) 42) _ _ _ _ (ok (product_at (i + 1) (Times (combined evaluation b e)))) refl

    step_same : (k : Nonterminal Evaluated) → step values t n (same k) ≡ all_kept (step evaluation t m k)
    step_same (sum_at at b) = ap (sum_after values t n (left b)) (ok (product_at at Nothing)) ∙ sum_same b (m (product_at at Nothing))
    step_same (product_at at b) = ap (product_after values t n (left b)) (ok (primary_at at)) ∙ product_same b (m (primary_at at))
    step_same (primary_at at) =
        either (eqb (get_or t at 0) 40) _ _ _ _
        (ap (closed values t) (ok (sum_at (at + 1) Nothing)) ∙ closed_same (m (sum_at (at + 1) Nothing)))
        (number_same (digits (drop at t)) at)

  within_same : (f : ℕ) (k : Nonterminal Evaluated) → parse_within values f t (same k) ≡ all_kept (parse_within evaluation f t k)
  unfolding parse_within
  within_same zero k = refl
  within_same (suc f) k = step_same (λ j. parse_within evaluation f t j) (λ j. parse_within values f t j) (within_same f) k

-- ---- the verdicts
capped_deep : (d : ℕ) → ltb 16 (min d 17) ≡ ltb 16 d
capped_deep d = go (ltb 16 d) refl
  where
    go : (b : Bool) → ltb 16 d ≡ b → ltb 16 (min d 17) ≡ b
    go true e = let h = ltb-true 16 d e in lt-ltb 16 (min d 17) (omega arith)
    go false e = let h = ltb-false 16 d e in le-ltb 16 (min d 17) (omega arith)

address_kept : (g : Bool) (z : ℤ) (d : ℕ)
    → address_of (evaluated_of (record { number = cond g (Some z) None; depth = min d 17 })) ≡ address_of (record { value = z; fits = g; depth = d })
unfolding address_of
address_kept true z d = rw (capped_deep d)
address_kept false z d = rw (capped_deep d)

-- the address of what was read
abbrev pub found : Option (Value × List ℕ) → Option (Address × List ℕ)
found None = None
found (Some p) = Some (address_of (evaluated_of p.0), p.1)

found_kept : (t : List ℕ) (p : Parsed Evaluated) → found (reading_of t (all_kept p)) ≡ found_of t p
found_kept t failed = refl
found_kept t (parsed e n) = ap (λ a. Some (a, drop n t)) (address_kept e.fits e.value e.depth)

pub address_found : (t : List ℕ) → found (reading_of t (parse values t (sum_at 0 Nothing))) ≡ found_of t (parse evaluation t (sum_at 0 Nothing))
unfolding parse measure
address_found t = ap (λ p. found (reading_of t p)) (within_same t _ (sum_at 0 Nothing)) ∙ found_kept t (parse evaluation t (sum_at 0 Nothing))
