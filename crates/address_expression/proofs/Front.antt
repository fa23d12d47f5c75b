-- The readers of sums and products, from the front of a text. Assumes nothing.
use Prim.Native.Nat.{ℕ, ◌+◌, ◌<◌}
use mathlib.Core.Path.{◌≡◌, refl, sym, ap, ◌∙◌}
use mathlib.Core.Bool.{Bool, true, false, cond}
use mathlib.Core.List.{List, [], ◌∷◌}
use native.Mathlib.Omega.{arith}
use native.Mathlib.Nat.{add-zero}
use lib.ListN.{length, get_or, drop, length-drop}
use lib.Seq.{drop-drop}
use lib.Dec.{eqb}
use borrow.Author.Tests.{eqb-true}
use Rattle.std.specs.Prelude.{Option, Some, None}
use Rattle.address_expression.specs.declared.Value.{Value}
use Rattle.address_expression.specs.declared.Operator.{Operator}
use Rattle.definition_assembler.specs.Reader.{Left, Nothing, Plus, Minus, Times, Nonterminal, sum_at, product_at, primary_at, Parsed, failed, parsed, digits, combined, number_at, closed, sum_on, product_on, sum_after, product_after, parse}
use Rattle.address_expression.specs.Values.{group_of, values, left_of, operator_of, reading_of}
use Rattle.definition_assembler.proofs.Steps.{place, Moved, moved, read_is}
use Rattle.definition_assembler.proofs.Rest.{later, parse_there, closed_there, sum_on_there, product_on_there}
use Rattle.definition_assembler.proofs.Back.{front, next}

abbrev R : List ℕ → Nonterminal Value → Parsed Value
R t k = parse values t k

abbrev pub Reading : Type 0
Reading = Option (Value × List ℕ)

abbrev pub read : List ℕ → Nonterminal Value → Reading
read t k = reading_of t (R t k)

-- x was read up to the front of t: an operator and more, or the end
abbrev pub sum_from : Value → List ℕ → Reading
sum_from x t = reading_of t (sum_on values t (R t) x 0)

abbrev pub product_from : Value → List ℕ → Reading
product_from x t = reading_of t (product_on values t (R t) x 0)

later_reading : (t : List ℕ) (at : ℕ) (p : Parsed Value) → reading_of t (later values t at p) ≡ reading_of (drop at t) p
later_reading t at failed = refl
later_reading t at (parsed v n) = ap (λ r. Some (v, r)) (sym (drop-drop n at t))

sum_rest : (t : List ℕ) (at : ℕ) (x : Value) → reading_of t (sum_on values t (R t) x at) ≡ sum_from x (drop at t)
sum_rest t at x =
    ap (λ n. reading_of t (sum_on values t (R t) x n)) (sym (add-zero at))
    ∙ ap (reading_of t) (sum_on_there values t at (R t) (R (drop at t)) (parse_there values t at) x 0)
    ∙ later_reading t at _

product_rest : (t : List ℕ) (at : ℕ) (x : Value) → reading_of t (product_on values t (R t) x at) ≡ product_from x (drop at t)
product_rest t at x =
    ap (λ n. reading_of t (product_on values t (R t) x n)) (sym (add-zero at))
    ∙ ap (reading_of t) (product_on_there values t at (R t) (R (drop at t)) (parse_there values t at) x 0)
    ∙ later_reading t at _

apart : {A B : Type 0} (a a' : A) (b b' : B) → ◌≡◌ {A = Option (A × B)} (Some (a, b)) (Some (a', b')) → (a' ≡ a) × (b' ≡ b)
apart {A} {B} a a' b b' h =
    let p : A × B = (a, b) in
    let q : A × B = (a', b') in
    let e : p ≡ q = cc in
    (sym (ap (λ (v : A × B). v.0) e), sym (ap (λ (v : A × B). v.1) e))

-- ---- a sum, after the left operand b
module _ (t : List ℕ) (b : Left Value) where
  pub sum_none : None ≡ read t (product_at 0 Nothing) → read t (sum_at 0 b) ≡ None
  sum_none e = ap (reading_of t) (read_is values t (sum_at 0 b)) ∙ go (R t (product_at 0 Nothing)) e
    where
      go : (p : Parsed Value) → None ≡ reading_of t p → reading_of t (sum_after values t (R t) b p) ≡ None
      go failed h = refl
      go (parsed v n) h = cc

  pub sum_some : (x : Value) (r : List ℕ) → Some (x, r) ≡ read t (product_at 0 Nothing) → read t (sum_at 0 b) ≡ sum_from (combined values b x) r
  sum_some x r e = ap (reading_of t) (read_is values t (sum_at 0 b)) ∙ go (R t (product_at 0 Nothing)) e
    where
      go : (p : Parsed Value) → Some (x, r) ≡ reading_of t p → reading_of t (sum_after values t (R t) b p) ≡ sum_from (combined values b x) r
      go failed h = cc
      go (parsed v n) h =
          let k = apart x v (r) (drop n t) h in
          let e₁ = k.0 in
          let e₂ = k.1 in
          sum_rest t n (combined values b v) ∙ ap (λ z. sum_from (combined values b z) (drop n t)) e₁ ∙ ap (sum_from (combined values b x)) e₂

  pub product_none : None ≡ read t (primary_at 0) → read t (product_at 0 b) ≡ None
  product_none e = ap (reading_of t) (read_is values t (product_at 0 b)) ∙ go (R t (primary_at 0)) e
    where
      go : (p : Parsed Value) → None ≡ reading_of t p → reading_of t (product_after values t (R t) b p) ≡ None
      go failed h = refl
      go (parsed v n) h = cc

  pub product_some : (x : Value) (r : List ℕ) → Some (x, r) ≡ read t (primary_at 0) → read t (product_at 0 b) ≡ product_from (combined values b x) r
  product_some x r e = ap (reading_of t) (read_is values t (product_at 0 b)) ∙ go (R t (primary_at 0)) e
    where
      go : (p : Parsed Value) → Some (x, r) ≡ reading_of t p → reading_of t (product_after values t (R t) b p) ≡ product_from (combined values b x) r
      go failed h = cc
      go (parsed v n) h =
          let k = apart x v (r) (drop n t) h in
          let e₁ = k.0 in
          let e₂ = k.1 in
          product_rest t n (combined values b v) ∙ ap (λ z. product_from (combined values b z) (drop n t)) e₁ ∙ ap (product_from (combined values b x)) e₂

-- ---- an operator in front
module _ (x : Value) (r : List ℕ) where
  sum_plus : sum_from x (43 ∷ r) ≡ read r (sum_at 0 (Plus x))
  sum_plus = ap (reading_of (43 ∷ r)) (parse_there values (43 ∷ r) 1 (sum_at 0 (Plus x))) ∙ later_reading (43 ∷ r) 1 (R r (sum_at 0 (Plus x)))

  sum_minus : sum_from x (45 ∷ r) ≡ read r (sum_at 0 (Minus x))
  sum_minus = ap (reading_of (45 ∷ r)) (parse_there values (45 ∷ r) 1 (sum_at 0 (Minus x))) ∙ later_reading (45 ∷ r) 1 (R r (sum_at 0 (Minus x)))

  pub product_times : (a : List ℕ) → r ≡ 42 ∷ a → product_from x r ≡ read a (product_at 0 (Times x))
  product_times a e =
      ap (product_from x) e ∙ ap (reading_of (42 ∷ a)) (parse_there values (42 ∷ a) 1 (product_at 0 (Times x))) ∙ later_reading (42 ∷ a) 1 (R a (product_at 0 (Times x)))

-- a is what stands after an operator, and the right operand y with the rest q was read there
module _ (t r a q : List ℕ) (x y z : Value) (b : Left Value) (k : z ≡ combined values b y) where
  pub sum_turn : read t (sum_at 0 Nothing) ≡ sum_from x r → sum_from x r ≡ read a (sum_at 0 b) → Some (y, q) ≡ read a (product_at 0 Nothing) → read t (sum_at 0 Nothing) ≡ sum_from z q
  sum_turn w g h = w ∙ g ∙ sum_some a b y q h ∙ ap (λ v. sum_from v q) (sym k)

  pub product_turn : read t (product_at 0 Nothing) ≡ product_from x r → product_from x r ≡ read a (product_at 0 b) → Some (y, q) ≡ read a (primary_at 0) → read t (product_at 0 Nothing) ≡ product_from z q
  product_turn w g h = w ∙ g ∙ product_some a b y q h ∙ ap (λ v. product_from v q) (sym k)

pub sum_goes : (x : Value) (r a : List ℕ) (o : Operator) → ◌≡◌ {A = Option (Operator × List ℕ)} (Some (o, a)) (operator_of r) → sum_from x r ≡ read a (sum_at 0 (left_of o x))
sum_goes x [] a o e = cc
sum_goes x (b ∷ r) a o e = go (eqb b 43) (eqb b 45) refl refl e
  where
    same : (p : Operator) → ◌≡◌ {A = Option (Operator × List ℕ)} (Some (o, a)) (Some (p, r)) → read r (sum_at 0 (left_of p x)) ≡ read a (sum_at 0 (left_of o x))
    same p h = let k = apart o p a r h in ap (λ l. read l (sum_at 0 (left_of p x))) k.1 ∙ ap (λ q. read a (sum_at 0 (left_of q x))) k.0

    go : (p q : Bool) → eqb b 43 ≡ p → eqb b 45 ≡ q → ◌≡◌ {A = Option (Operator × List ℕ)} (Some (o, a)) (cond p (Some (Operator.Plus, r)) (cond q (Some (Operator.Minus, r)) None)) → sum_from x (b ∷ r) ≡ read a (sum_at 0 (left_of o x))
    go true q h k l = ap (λ c. sum_from x (c ∷ r)) (eqb-true b 43 h) ∙ sum_plus x r ∙ same Operator.Plus l
    go false true h k l = ap (λ c. sum_from x (c ∷ r)) (eqb-true b 45 k) ∙ sum_minus x r ∙ same Operator.Minus l
    go false false h k l = cc

pub operator_shorter : (r a : List ℕ) (o : Operator) → ◌≡◌ {A = Option (Operator × List ℕ)} (Some (o, a)) (operator_of r) → length a < length r
operator_shorter [] a o e = cc
operator_shorter (b ∷ r) a o e = go (eqb b 43) (eqb b 45) e
  where
    go : (p q : Bool) → ◌≡◌ {A = Option (Operator × List ℕ)} (Some (o, a)) (cond p (Some (Operator.Plus, r)) (cond q (Some (Operator.Minus, r)) None)) → length a < length (b ∷ r)
    go true q l = omega (arith, ap length (apart o Operator.Plus a r l).1)
    go false true l = omega (arith, ap length (apart o Operator.Minus a r l).1)
    go false false l = cc

-- ---- primaries
pub primary_number : (t : List ℕ) → eqb (get_or t 0 0) 40 ≡ false → read t (primary_at 0) ≡ reading_of t (number_at values (digits t) 0)
primary_number t e = ap (reading_of t) (read_is values t (primary_at 0)) ∙ rw e

-- a sum in parentheses, t behind the first of them
module _ (u t : List ℕ) (f : u ≡ 40 ∷ t) where
  group : read u (primary_at 0) ≡ reading_of t (closed values t (R t (sum_at 0 Nothing)))
  group =
      ap (λ l. read l (primary_at 0)) f
      ∙ ap (reading_of (40 ∷ t)) (read_is values (40 ∷ t) (primary_at 0) ∙ ap (closed values (40 ∷ t)) (parse_there values (40 ∷ t) 1 (sum_at 0 Nothing)) ∙ closed_there values (40 ∷ t) 1 (R t (sum_at 0 Nothing)))
      ∙ later_reading (40 ∷ t) 1 (closed values t (R t (sum_at 0 Nothing)))

  pub group_none : None ≡ read t (sum_at 0 Nothing) → None ≡ read u (primary_at 0)
  group_none e = sym (group ∙ go (R t (sum_at 0 Nothing)) e)
    where
      go : (p : Parsed Value) → None ≡ reading_of t p → reading_of t (closed values t p) ≡ None
      go failed h = refl
      go (parsed v n) h = cc

  pub group_closed : (x y : Value) (v r : List ℕ) → v ≡ 41 ∷ r → Some (x, v) ≡ read t (sum_at 0 Nothing) → y ≡ group_of x → Some (y, r) ≡ read u (primary_at 0)
  group_closed x y v r d e k = ap (λ z. Some (z, r)) k ∙ sym (group ∙ go (R t (sum_at 0 Nothing)) (ap (λ z. Some (x, z)) (sym d) ∙ e))
    where
      go : (p : Parsed Value) → Some (x, 41 ∷ r) ≡ reading_of t p → reading_of t (closed values t p) ≡ Some (group_of x, r)
      go failed h = cc
      go (parsed v n) h =
          let k = apart x v (41 ∷ r) (drop n t) h in
          let e₁ = k.0 in
          let e₂ = k.1 in
          rw (front t n _ e₂) (ap (λ z. Some (group_of z, drop (n + 1) t)) e₁ ∙ ap (λ z. Some (group_of x, z)) (next t n 41 r e₂))

  pub group_open : (x : Value) (r : List ℕ) → Some (x, r) ≡ read t (sum_at 0 Nothing) → eqb (get_or r 0 0) 41 ≡ false → None ≡ read u (primary_at 0)
  group_open x r e d = sym (group ∙ go (R t (sum_at 0 Nothing)) e)
    where
      go : (p : Parsed Value) → Some (x, r) ≡ reading_of t p → reading_of t (closed values t p) ≡ None
      go failed h = cc
      go (parsed v n) h =
          let e₂ = (apart x v r (drop n t) h).1 in
          rw (front t n r e₂, d)

-- what was read is shorter
pub shorter : (t : List ℕ) (k : Nonterminal Value) (x : Value) (r : List ℕ) → Some (x, r) ≡ read t k → length r < length t
shorter t k x r e = go (R t k) (moved values t k) e
  where
    go : (p : Parsed Value) → Moved t (place k) p → Some (x, r) ≡ reading_of t p → length r < length t
    go failed m h = cc
    go (parsed v n) m h = omega (arith, ap length (apart x v r (drop n t) h).1, length-drop n t)
