-- Semantic actions that give the tree: what is read is the tree that was written. So no address has two readings. Assumes nothing.
use mathlib.Core.Path.{◌≡◌, refl, sym, ap, ap₂, ◌∙◌}
use Prim.Native.Nat.{ℕ}
use mathlib.Core.List.{List, ◌++◌}
use lib.ListN.{get_or, drop}
use Rattle.definition_assembler.specs.Grammar.{Sum, Product, Primary, term, plus, minus, factor, times, number, group, sum_bytes}
use Rattle.definition_assembler.specs.Reader.{Actions, Parsed, failed, parsed, of_sum, of_product, of_primary}
use Rattle.definition_assembler.proofs.Digits.{to_digit, to_digits, digit_of_byte, digits_of_bytes}
use Rattle.definition_assembler.proofs.Back.{Stops, read_back}

-- ---- nodes: a sum, a product or a primary
data Node : Type 0 where
  a_sum : Sum → Node
  a_product : Product → Node
  a_primary : Primary → Node

abbrev as_sum : Node → Sum
as_sum (a_sum s) = s
as_sum (a_product p) = term p
as_sum (a_primary q) = term (factor q)

abbrev as_product : Node → Product
as_product (a_sum s) = factor (group s)
as_product (a_product p) = p
as_product (a_primary q) = factor q

abbrev as_primary : Node → Primary
as_primary (a_sum s) = group s
as_primary (a_product p) = group (term p)
as_primary (a_primary q) = q

abbrev trees : Actions Node
trees =
    record {
      of_number = λ b bs. a_primary (number (to_digit b) (to_digits bs));
      of_group = λ u. a_primary (group (as_sum u));
      of_plus = λ u v. a_sum (plus (as_sum u) (as_product v));
      of_minus = λ u v. a_sum (minus (as_sum u) (as_product v));
      of_times = λ u v. a_product (times (as_product u) (as_primary v));
    }

-- the tree of a tree is the tree
mutual
  unfolding of_sum

  sum_is : (s : Sum) → as_sum (of_sum trees s) ≡ s
  sum_is (term p) = (product_is p).1
  sum_is (plus s p) = ap₂ plus (sum_is s) (product_is p).0
  sum_is (minus s p) = ap₂ minus (sum_is s) (product_is p).0

  product_is : (p : Product) → (as_product (of_product trees p) ≡ p) × (as_sum (of_product trees p) ≡ term p)
  product_is (factor q) = rw (primary_is q) (refl, refl)
  product_is (times p q) =
      let e = ap₂ times (product_is p).0 (ap as_primary (primary_is q)) in
      (e, ap term e)

  primary_is : (q : Primary) → of_primary trees q ≡ a_primary q
  primary_is (number d ds) = ap a_primary (ap₂ number (digit_of_byte d) (digits_of_bytes ds))
  primary_is (group s) = ap (λ x. a_primary (group x)) (sum_is s)

abbrev read_tree : Sum → Parsed Node → Sum
read_tree s failed = s
read_tree s (parsed v n) = as_sum v

-- two sums from one place on, each with a byte after it that goes on with no sum
pub same_sum : (w : List ℕ) (at : ℕ) (s t : Sum) (x y : List ℕ) → drop at w ≡ sum_bytes s ++ x → Stops (get_or x 0 0) → drop at w ≡ sum_bytes t ++ y → Stops (get_or y 0 0) → s ≡ t
same_sum w at s t x y e f g h =
    sym (sum_is s) ∙ ap (read_tree s) (sym (read_back trees w s at x e f) ∙ read_back trees w t at y g h) ∙ sum_is t
