-- The loop of `number`: what its digits come to. Assumes nothing.
use Prim.Native.Nat.{ℕ, ◌+◌, ◌*◌, suc, ◌-◌, ◌≤◌, ◌<◌}
use mathlib.Core.Path.{◌≡◌, refl, sym, ap, ap₂, ◌∙◌}
use mathlib.Core.Bool.{Bool, true, false}
use mathlib.Core.List.{List, [], ◌∷◌}
use native.Mathlib.Omega.{arith}
use native.Mathlib.Nat.{zero-add}
use borrow.Author.Tests.{ne_eqb, le-leb, le-ltb, ltb-false}
use lib.ListN.{length, get_or, take, drop}
use lib.Seq.{take-length}
use lib.Dec.{ltb, eqb}
use lib.IntN.{ℤ, pos}
use Rattle.std.specs.Prelude.{Option, Some, None}
use Rattle.definition_assembler.specs.Grammar.{in_range}
use Rattle.definition_assembler.specs.Reader.{is_digit, digits, number_at}
use Rattle.definition_assembler.specs.Assembling.{decimal_bytes}
use Rattle.address_expression.specs.Values.{kept, with_digit, number_of, values, reading_of}
use Rattle.definition_assembler.proofs.Steps.{cond_has}
use Rattle.definition_assembler.proofs.Digits.{digit_bounds, no_digits}

-- the rest of a text behind its first byte, as a slice has it
abbrev pub tail : List ℕ → List ℕ
tail r = take (length r - 1) (drop 1 r)

pub tail_is : (b : ℕ) (r : List ℕ) → tail (b ∷ r) ≡ r
tail_is b r = let e : suc (length r) - 1 ≡ length r = omega arith in rw e (take-length r)

pub tail_shorter : (r : List ℕ) → length (tail r) ≤ length r
tail_shorter [] = omega arith
tail_shorter (b ∷ r) = omega (arith, ap length (tail_is b r))

pub cut : (t : List ℕ) (c : ℕ) → 0 < length t → get_or t 0 0 ≡ c → t ≡ c ∷ tail t
cut [] c z e = absurd (omega arith)
cut (b ∷ t) c z e = ap₂ ◌∷◌ e (sym (tail_is b t))

pub not_first : (t : List ℕ) (c : ℕ) → 0 < c → (0 < length t → get_or t 0 0 ≡ c → ⊥) → eqb (get_or t 0 0) c ≡ false
not_first [] c l h = ne_eqb 0 c (λ e. omega arith)
not_first (b ∷ t) c l h = ne_eqb b c (h (omega arith))

decimal_grows : (a : ℕ) (bs : List ℕ) → a ≤ decimal_bytes a bs
unfolding decimal_bytes
decimal_grows a [] = omega arith
decimal_grows a (b ∷ bs) = let h = decimal_grows (10 * a + (b - 48)) bs in omega arith

out : (z : ℕ) → 8388608 ≤ z → kept (pos z) ≡ None
unfolding in_range
out z h = rw (le-ltb z 8388608 h)

-- a number that is out of range stays so
one_more_same : (n b : ℕ) (bs : List ℕ) → kept (pos (decimal_bytes (10 * n + (b - 48)) bs)) ≡ kept (pos (decimal_bytes (with_digit n b) bs))
one_more_same n b bs =
    cond_has (λ m. kept (pos (decimal_bytes (10 * n + (b - 48)) bs)) ≡ kept (pos (decimal_bytes m bs))) (ltb n 8388608) (10 * n + (b - 48)) n
    (λ e. refl)
    (λ e.
    let h = ltb-false n 8388608 e in
    let g = decimal_grows (10 * n + (b - 48)) bs in
    let k = decimal_grows n bs in
    out (decimal_bytes (10 * n + (b - 48)) bs) (omega arith) ∙ sym (out (decimal_bytes n bs) (omega arith)))

-- the digits of t come to the number n with the digits of the rest r
pub record Counted (t r : List ℕ) (n : ℕ) : Type 0 where
  pub rest : drop (length (digits t)) t ≡ drop (length (digits r)) r
  pub same : kept (pos (decimal_bytes 0 (digits t))) ≡ kept (pos (decimal_bytes n (digits r)))

digit_is : (b : ℕ) → 48 ≤ b → b < 58 → is_digit b ≡ true
digit_is b l u = rw (le-leb 48 b l, le-leb b 57 (omega arith))

-- b is no digit, or 0 for the end of a text
pub no_digit : (t : List ℕ) → (0 < length t → 48 ≤ get_or t 0 0 → get_or t 0 0 < 58 → ⊥) → is_digit (get_or t 0 0) ≡ false
no_digit [] h = refl
no_digit (b ∷ bs) h = go (is_digit b) refl
  where
    go : (r : Bool) → is_digit b ≡ r → is_digit b ≡ false
    go true e = let k = digit_bounds b e in absurd (h (omega arith) k.0 k.1)
    go false e = e

pub no_number : (t : List ℕ) → is_digit (get_or t 0 0) ≡ false → None ≡ reading_of t (number_at values (digits t) 0)
no_number t e = rw (no_digits t e)

pub counted_more : (t r : List ℕ) (n m : ℕ) → 0 < length r → 48 ≤ get_or r 0 0 → get_or r 0 0 < 58 → m ≡ with_digit n (get_or r 0 0) → Counted t r n → Counted t (tail r) m
unfolding digits decimal_bytes
counted_more t [] n m z l u q c = absurd (omega arith)
counted_more t (b ∷ a) n m z l u q c =
    let d : digits (b ∷ a) ≡ b ∷ digits a = rw (digit_is b l u) in
    let k = tail_is b a in
    rw (k, q) (record {
      rest = c.rest ∙ ap (λ x. drop (length x) (b ∷ a)) d;
      same = c.same ∙ ap (λ x. kept (pos (decimal_bytes n x))) d ∙ one_more_same n b (digits a);
    })

pub counted_all : (t r : List ℕ) (n : ℕ) (x : Option ℤ) → 0 < length t → 48 ≤ get_or t 0 0 → get_or t 0 0 < 58 → is_digit (get_or r 0 0) ≡ false → Counted t r n → x ≡ kept (pos n)
    → Some (record { number = x; depth = 0 }, r) ≡ reading_of t (number_at values (digits t) 0)
unfolding digits decimal_bytes
counted_all [] r n x z l u f c q = absurd (omega arith)
counted_all (b ∷ t) r n x z l u f c q =
    let d : digits (b ∷ t) ≡ b ∷ digits t = rw (digit_is b l u) in
    let e = no_digits r f in
    let k : x ≡ kept (pos (decimal_bytes 0 (b ∷ digits t))) = q ∙ sym (ap (λ y. kept (pos (decimal_bytes 0 y))) (sym d) ∙ c.same ∙ ap (λ y. kept (pos (decimal_bytes n y))) e) in
    let p : r ≡ drop (0 + length (b ∷ digits t)) (b ∷ t) =
    sym (ap (λ k. drop k (b ∷ t)) (zero-add (length (b ∷ digits t))) ∙ ap (λ y. drop (length y) (b ∷ t)) (sym d) ∙ c.rest ∙ ap (λ y. drop (length y) r) e) in
    let v : reading_of (b ∷ t) (number_at values (digits (b ∷ t)) 0) ≡ reading_of (b ∷ t) (number_at values (b ∷ digits t) 0) = ap (λ y. reading_of (b ∷ t) (number_at values y 0)) d in
    ap (λ y. Some (record { number = y; depth = 0 }, r)) k ∙ ap (λ y. Some (number_of (b ∷ digits t), y)) p ∙ sym v
