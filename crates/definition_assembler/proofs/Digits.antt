-- Digits and their bytes, both ways. Assumes nothing.
use Prim.Native.Nat.{ℕ, ◌+◌, ◌-◌, ◌%◌, ◌≤◌, ◌<◌}
use mathlib.Core.Path.{◌≡◌, refl, ap, ap₂}
use mathlib.Core.Bool.{Bool, true, false, ◌&&◌}
use mathlib.Core.HLevel.{is_prop→PathP}
use mathlib.Core.List.{List, [], ◌∷◌, ◌++◌}
use native.Mathlib.Omega.{arith}
use native.Mathlib.Bridge.{le_prop}
use borrow.Author.Tests.{le-leb, leb-true, ne_eqb}
use lib.ListN.{length, get_or, drop}
use lib.Dec.{leb, eqb}
use Rattle.definition_assembler.specs.Grammar.{Digit, digit_byte, digit_bytes}
use Rattle.definition_assembler.specs.Reader.{is_digit, digits}
use Rattle.definition_assembler.proofs.Steps.{cond_has}

-- ---- the digit of a byte
digit_path : (d e : Digit) → d.value ≡ e.value → d ≡ e
digit_path d e p = λ i. record { value = p i; small = is_prop→PathP (λ j. p j < 10) (λ j. le_prop) d.small e.small i }

abbrev pub to_digit : ℕ → Digit
to_digit b = record { value = (b - 48) % 10; small = omega arith }

unfoldable pub to_digits : List ℕ → List Digit
to_digits [] = []
to_digits (b ∷ bs) = to_digit b ∷ to_digits bs

pub digit_of_byte : (d : Digit) → to_digit (digit_byte d) ≡ d
digit_of_byte d = digit_path (to_digit (digit_byte d)) d (omega (arith, d.small))

pub digits_of_bytes : (ds : List Digit) → to_digits (digit_bytes ds) ≡ ds
unfolding to_digits digit_bytes
digits_of_bytes [] = refl
digits_of_bytes (d ∷ ds) = ap₂ ◌∷◌ (digit_of_byte d) (digits_of_bytes ds)

both : (a b : Bool) → a && b ≡ true → (a ≡ true) × (b ≡ true)
both true b e = (refl, e)
both false b e = let no : ⊥ = (let z : ◌≡◌ {A = ℕ} 0 1 = cc in omega arith) in absurd no

pub digit_bounds : (b : ℕ) → is_digit b ≡ true → (48 ≤ b) × (b < 58)
digit_bounds b e =
    let h = both (leb 48 b) (leb b 57) e in
    let u = leb-true b 57 h.1 in
    (leb-true 48 b h.0, omega arith)

pub byte_of_digit : (b : ℕ) → is_digit b ≡ true → digit_byte (to_digit b) ≡ b
byte_of_digit b e = let h = digit_bounds b e in omega arith

-- ---- the digits in front
pub bytes_of_digits : (l : List ℕ) → digit_bytes (to_digits (digits l)) ≡ digits l
unfolding digits to_digits digit_bytes
bytes_of_digits [] = refl
bytes_of_digits (b ∷ bs) =
    cond_has (λ x. digit_bytes (to_digits x) ≡ x) (is_digit b) (b ∷ digits bs) [] (λ e. ap₂ ◌∷◌ (byte_of_digit b e) (bytes_of_digits bs)) (λ e. refl)

pub digits_front : (l : List ℕ) → l ≡ digits l ++ drop (length (digits l)) l
unfolding digits
digits_front [] = refl
digits_front (b ∷ bs) =
    cond_has (λ x. b ∷ bs ≡ x ++ drop (length x) (b ∷ bs)) (is_digit b) (b ∷ digits bs) [] (λ e. ap (◌∷◌ b) (digits_front bs)) (λ e. refl)

digit_is : (d : Digit) → is_digit (digit_byte d) ≡ true
digit_is d = rw (le-leb 48 (48 + d.value) (omega arith), le-leb (48 + d.value) 57 (omega (arith, d.small)))

pub no_digits : (r : List ℕ) → is_digit (get_or r 0 0) ≡ false → digits r ≡ []
unfolding digits
no_digits [] h = refl
no_digits (b ∷ bs) h = rw h

pub digits_back : (ds : List Digit) (r : List ℕ) → is_digit (get_or r 0 0) ≡ false → digits (digit_bytes ds ++ r) ≡ digit_bytes ds
unfolding digits digit_bytes
digits_back [] r h = no_digits r h
digits_back (d ∷ ds) r h = rw (digit_is d) (ap (◌∷◌ (digit_byte d)) (digits_back ds r h))

pub digit_no_group : (d : Digit) → eqb (digit_byte d) 40 ≡ false
digit_no_group d = ne_eqb (digit_byte d) 40 (λ e. omega arith)
