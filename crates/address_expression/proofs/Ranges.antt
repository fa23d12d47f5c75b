-- The tests of a value against its limits. Assumes nothing.
use Prim.Native.Nat.{ℕ, suc, ◌≤◌, ◌<◌}
use mathlib.Core.Path.{◌≡◌, refl, sym, ap, ◌∙◌}
use mathlib.Core.Bool.{Bool, true, false}
use native.Mathlib.Omega.{arith}
use borrow.Author.Tests.{le-ltb, leb-true, leb-false, lt-ltb}
use lib.Dec.{ltb}
use lib.IntN.{ℤ, pos, negsuc, nat_abs, ◌+ℤ◌}
use lib.Signed.{le_z, lt_z}
use mir.Syntax.{w32, w64}
use mir.Val.{SFits, to_z, of_z}
use Rattle.std.specs.Prelude.{Some, None, Ok, Err, ◌≤ℤ◌}
use Rattle.std.proofs.lemmas.Int.{ints, to_z-of_z}
use Rattle.address_expression.specs.declared.Value.{Value}
use Rattle.machine.specs.declared.Refusal.TheVariants.{LineDepth, LineValue}
use Rattle.definition_assembler.specs.Grammar.{in_range}
use Rattle.definition_assembler.specs.Line.{last_in_range, displacement, address_of}
use Rattle.address_expression.specs.Values.{kept, evaluated_of}

-- ---- between -(k + 1) and k
abbrev between : ℕ → ℤ → Bool
between k (pos n) = ltb n (suc k)
between k (negsuc n) = ltb n (suc k)

within : (k : ℕ) (z : ℤ) → le_z (negsuc k) z ≡ true → le_z z (pos k) ≡ true → between k z ≡ true
within k (pos n) l u = let h = leb-true n k u in lt-ltb n (suc k) (omega arith)
within k (negsuc n) l u = let h = leb-true n k l in lt-ltb n (suc k) (omega arith)

above : (k : ℕ) (z : ℤ) → le_z z (pos k) ≡ false → between k z ≡ false
above k (pos n) u = let h = leb-false n k u in le-ltb n (suc k) (omega arith)
above k (negsuc n) u = cc

below : (k : ℕ) (z : ℤ) → le_z (negsuc k) z ≡ false → between k z ≡ false
below k (pos n) l = cc
below k (negsuc n) l = let h = leb-false n k l in le-ltb n (suc k) (omega arith)

in_range_is : (z : ℤ) → between 8388607 z ≡ in_range z
unfolding in_range
in_range_is (pos n) = refl
in_range_is (negsuc n) = refl

last_in_range_is : (z : ℤ) → between 2047 z ≡ last_in_range z
unfolding last_in_range
last_in_range_is (pos n) = refl
last_in_range_is (negsuc n) = refl

module _ (z : ℤ) (f : SFits w64 z) where
  back : to_z w64 (of_z w64 z) ≡ z
  back = to_z-of_z w64 z f

  pub kept_within : le_z (negsuc 8388607) (to_z w64 (of_z w64 z)) ≡ true → le_z (to_z w64 (of_z w64 z)) (pos 8388607) ≡ true
      → Some (to_z w32 (of_z w32 (to_z w64 (of_z w64 z)))) ≡ kept z
  kept_within l u =
      let l' : le_z (negsuc 8388607) z ≡ true = rw back at l in
      let u' : le_z z (pos 8388607) ≡ true = rw back at u in
      rw (sym (in_range_is z) ∙ within 8388607 z l' u') (ap Some (grind (arith, ints)))

  pub kept_above : le_z (to_z w64 (of_z w64 z)) (pos 8388607) ≡ false → None ≡ kept z
  kept_above u = rw (sym (in_range_is z) ∙ above 8388607 z (rw back at u))

  pub kept_below : le_z (negsuc 8388607) (to_z w64 (of_z w64 z)) ≡ false → None ≡ kept z
  kept_below l = rw (sym (in_range_is z) ∙ below 8388607 z (rw back at l))

-- ---- the verdict on a value
pub displaced_below : (z : ℤ) → SFits w32 z → negsuc 2047 ≤ℤ z → lt_z (to_z w32 (of_z w32 z)) (pos 0) ≡ true → nat_abs (to_z w32 (of_z w32 (to_z w32 (of_z w32 z) +ℤ pos 4096))) ≡ displacement z
unfolding displacement
displaced_below (pos n) f l u = absurd (grind (arith, ints))
displaced_below (negsuc n) f l u = omega (arith, ints)

pub displaced_above : (z : ℤ) → SFits w32 z → lt_z (to_z w32 (of_z w32 z)) (pos 0) ≡ false → nat_abs (to_z w32 (of_z w32 z)) ≡ displacement z
unfolding displacement
displaced_above (pos n) f u = omega (arith, ints)
displaced_above (negsuc n) f u = absurd (grind (arith, ints))

module _ (x : Value) where
  pub judged_deep : 16 < x.depth → Err LineDepth ≡ address_of (evaluated_of x)
  unfolding address_of
  judged_deep h = rw (lt-ltb 16 x.depth h)

  module _ (h : x.depth ≤ 16) where
    pub judged_none : x.number ≡ None → Err LineValue ≡ address_of (evaluated_of x)
    unfolding address_of
    judged_none e = rw (le-ltb 16 x.depth h, e)

    module _ (z : ℤ) (e : x.number ≡ Some z) (f : SFits w32 z) where
      here : to_z w32 (of_z w32 z) ≡ z
      here = to_z-of_z w32 z f

      verdict : (b : Bool) → between 2047 z ≡ b → last_in_range z ≡ b
      verdict b k = sym (last_in_range_is z) ∙ k

      pub judged_within : le_z (negsuc 2047) (to_z w32 (of_z w32 z)) ≡ true → le_z (to_z w32 (of_z w32 z)) (pos 2047) ≡ true
          → (d : ℕ) → d ≡ displacement (to_z w32 (of_z w32 z)) → Ok d ≡ address_of (evaluated_of x)
      unfolding address_of
      judged_within l u d k = rw (le-ltb 16 x.depth h, e, verdict true (within 2047 z (rw here at l) (rw here at u))) (ap Ok (k ∙ ap displacement here))

      pub judged_above : le_z (to_z w32 (of_z w32 z)) (pos 2047) ≡ false → Err LineValue ≡ address_of (evaluated_of x)
      unfolding address_of
      judged_above u = rw (le-ltb 16 x.depth h, e, verdict false (above 2047 z (rw here at u)))

      pub judged_below : le_z (negsuc 2047) (to_z w32 (of_z w32 z)) ≡ false → Err LineValue ≡ address_of (evaluated_of x)
      unfolding address_of
      judged_below l = rw (le-ltb 16 x.depth h, e, verdict false (below 2047 z (rw here at l)))
