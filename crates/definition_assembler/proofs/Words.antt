-- The word and its fields; an address for every displacement. Assumes nothing.
use Prim.Native.Nat.{ℕ, zero, suc, ◌+◌, ◌*◌, ◌-◌, ◌/◌, ◌%◌, ◌≤◌, ◌<◌}
use mathlib.Core.Path.{◌≡◌, refl, ap, ap₂, ◌∙◌}
use mathlib.Core.Bool.{Bool, true, false, cond, ◌&&◌}
use mathlib.Core.List.{[], ◌∷◌, ◌++◌}
use native.Mathlib.Omega.{arith}
use native.Mathlib.Nat.{div-div-eq-div-mul}
use borrow.Author.Tests.{lt-ltb, ltb-true, ltb-false}
use lib.ListN.{length, length-append}
use lib.Dec.{ltb}
use lib.IntN.{ℤ, pos, negsuc, ◌-ℤ◌}
use Rattle.machine.specs.declared.Instruction.{Instruction}
use Rattle.machine.specs.Format.{instruction_fields}
use Rattle.definition_assembler.specs.Answers.{Displacement}
use Rattle.definition_assembler.specs.Grammar.{Digit, Sum, Primary, term, minus, factor, number, digit_bytes, decimal, in_range, sum_bytes, sum_value, sum_in_range, sum_depth}
use Rattle.definition_assembler.specs.Line.{Line, when, index_bytes, line_bytes, tree_evaluated, last_in_range, displacement, address_of, word_of}

-- ---- word and fields
pub word_of_fields : (v : ℕ) → word_of (instruction_fields v) ≡ v
unfolding word_of instruction_fields
word_of_fields v =
    let a : v / 4096 % 4 + 4 * (v / 16384) ≡ v / 4096 = rw (← div-div-eq-div-mul v 4096 4) (omega arith) in
    let b : v / 16384 % 4 + 4 * (v / 65536) ≡ v / 16384 = rw (← div-div-eq-div-mul v 16384 4) (omega arith) in
    let c : v / 65536 % 4 + 4 * (v / 262144) ≡ v / 65536 = rw (← div-div-eq-div-mul v 65536 4) (omega arith) in
    omega arith

module _ (c w m x d : ℕ) (hw : w < 4) (hm : m < 4) (hx : x < 4) (hd : d < 4096) where
  abbrev whole : ℕ
  whole = c * 262144 + w * 65536 + m * 16384 + x * 4096 + d

  code_of_lem : whole / 262144 ≡ c
  code_of_lem = omega arith

  w_of : whole / 65536 % 4 ≡ w
  w_of = omega arith

  m_of : whole / 16384 % 4 ≡ m
  m_of = omega arith

  x_of : whole / 4096 % 4 ≡ x
  x_of = omega arith

  d_of : whole % 4096 ≡ d
  d_of = omega arith

pub fields_of_word : (i : Instruction) → i.w < 4 → i.m < 4 → i.x < 4 → i.d < 4096 → instruction_fields (word_of i) ≡ i
unfolding word_of instruction_fields
fields_of_word i w m x d =
    λ k. record {
      code = code_of_lem i.code i.w i.m i.x i.d w m x d k;
      w = w_of i.code i.w i.m i.x i.d w m x d k;
      m = m_of i.code i.w i.m i.x i.d w m x d k;
      x = x_of i.code i.w i.m i.x i.d w m x d k;
      d = d_of i.code i.w i.m i.x i.d w m x d k;
    }

pub displacement_small : (z : ℤ) → last_in_range z ≡ true → displacement z < 4096
unfolding last_in_range displacement
displacement_small (pos n) e = let h = ltb-true n 2048 e in omega arith
displacement_small (negsuc n) e = omega arith

pub mode_small : (r i : Bool) → cond r 2 0 + cond i 1 0 < 4
mode_small true true = omega arith
mode_small true false = omega arith
mode_small false true = omega arith
mode_small false false = omega arith

-- the two bits of M
pub mode_of : (m : ℕ) → m < 4 → (r : Bool) × (i : Bool) × (cond r 2 0 + cond i 1 0 ≡ m)
mode_of zero h = (false, false, refl)
mode_of (suc zero) h = (false, true, refl)
mode_of (suc (suc zero)) h = (true, false, refl)
mode_of (suc (suc (suc zero))) h = (true, true, refl)
mode_of (suc (suc (suc (suc n)))) h = let no : ⊥ = omega arith in absurd no

-- ---- a displacement in four digits, with 0 - in front where it is negative
abbrev digit : ℕ → Digit
digit n = record { value = n % 10; small = omega arith }

abbrev four_digits : ℕ → Primary
four_digits n = number (digit (n / 1000)) (digit (n / 100) ∷ digit (n / 10) ∷ digit n ∷ [])

four_value : (n : ℕ) → n < 10000 → decimal (n / 1000 % 10) (digit (n / 100) ∷ digit (n / 10) ∷ digit n ∷ []) ≡ n
unfolding decimal
four_value n h =
    let a : n / 10 % 10 + 10 * (n / 100) ≡ n / 10 = rw (← div-div-eq-div-mul n 10 10) (omega arith) in
    let b : n / 100 % 10 + 10 * (n / 1000) ≡ n / 100 = rw (← div-div-eq-div-mul n 100 10) (omega arith) in
    let c : n / 1000 % 10 ≡ n / 1000 = omega arith in
    omega arith

abbrev above : ℕ → Sum
above n = term (factor (four_digits n))

-- 0 - (k + 1)
abbrev below : ℕ → Sum
below k = minus (above 0) (factor (four_digits (suc k)))

zero_less : (k : ℕ) → pos 0 -ℤ pos (suc k) ≡ negsuc k
zero_less k = rw (lt-ltb 0 (suc k) (omega arith)) (ap negsuc (omega arith))

below_value : (k : ℕ) → suc k < 10000 → sum_value (below k) ≡ negsuc k
unfolding sum_value decimal
below_value k h = ap (λ n. pos 0 -ℤ pos n) (four_value (suc k) h) ∙ zero_less k

four_range : (n : ℕ) → n < 10000 → in_range (pos (decimal (n / 1000 % 10) (digit (n / 100) ∷ digit (n / 10) ∷ digit n ∷ []))) ≡ true
unfolding in_range
four_range n h = ap (λ m. in_range (pos m)) (four_value n h) ∙ lt-ltb n 8388608 (omega arith)

negative_range : (k : ℕ) → k < 8388608 → in_range (negsuc k) ≡ true
unfolding in_range
negative_range k h = lt-ltb k 8388608 h

below_range : (k : ℕ) → suc k < 10000 → sum_in_range (below k) ≡ true
unfolding sum_in_range sum_value
below_range k h =
    let r : in_range (sum_value (below k)) ≡ true = ap in_range (below_value k h) ∙ negative_range k (omega arith) in
    ap₂ ◌&&◌ (ap₂ ◌&&◌ (four_range 0 (omega arith)) (four_range (suc k) h)) r

-- a tree without parentheses, every value in range
address_is : (s : Sum) (z : ℤ) → sum_depth s ≡ 0 → sum_in_range s ≡ true → sum_value s ≡ z → last_in_range z ≡ true → address_of (tree_evaluated s) ≡ Displacement (displacement z)
unfolding address_of tree_evaluated
address_is s z d r v l = rw (d, r, v, l)

above_address : (n : ℕ) → n < 2048 → address_of (tree_evaluated (above n)) ≡ Displacement n
unfolding sum_depth sum_in_range sum_value last_in_range displacement
above_address n h = address_is (above n) (pos n) refl (four_range n (omega arith)) (ap pos (four_value n (omega arith))) (lt-ltb n 2048 h)

below_address : (k : ℕ) → k < 2048 → address_of (tree_evaluated (below k)) ≡ Displacement (4095 - k)
unfolding sum_depth last_in_range displacement
below_address k h = address_is (below k) (negsuc k) refl (below_range k (omega arith)) (below_value k (omega arith)) (lt-ltb k 2048 h)

pub address_for : (d : ℕ) → d < 4096 → (s : Sum) × (length (sum_bytes s) ≤ 9) × (address_of (tree_evaluated s) ≡ Displacement d)
unfolding sum_bytes digit_bytes
address_for d h = at (ltb d 2048) refl
  where
    at : (b : Bool) → ltb d 2048 ≡ b → (s : Sum) × (length (sum_bytes s) ≤ 9) × (address_of (tree_evaluated s) ≡ Displacement d)
    at true e = (above d, omega arith, above_address d (ltb-true d 2048 e))
    at false e =
        let u = ltb-false d 2048 e in
        (below (4095 - d), omega arith, below_address (4095 - d) (omega arith) ∙ ap Displacement (omega arith))

-- ---- the length of a line
when_short : (r : Bool) (b : ℕ) → length (when r b) ≤ 1
when_short true b = omega arith
when_short false b = omega arith

index_short : (x : ℕ) → length (index_bytes x) ≤ 3
index_short zero = omega arith
index_short (suc n) = omega arith

pub short : (l : Line) → length (sum_bytes l.address) ≤ 9 → length (line_bytes l) ≤ 255
unfolding line_bytes
short l h =
    let end = sum_bytes l.address ++ when l.indirect 93 in
    let e₁ = length-append (sum_bytes l.address) (when l.indirect 93) in
    let e₂ = length-append (index_bytes l.x) end in
    let e₃ = length-append (when l.indirect 91) (index_bytes l.x ++ end) in
    let e₄ = length-append (when l.relative 46) (32 ∷ 87 ∷ (48 + l.w) ∷ 32 ∷ (when l.indirect 91 ++ (index_bytes l.x ++ end))) in
    omega (arith, when_short l.indirect 93, index_short l.x, when_short l.indirect 91, when_short l.relative 46)
