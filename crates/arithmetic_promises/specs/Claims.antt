-- What is proved of the definitions of arithmetic, beside the contracts. Proofs: proofs/Adder.antt for 14.3, Again.antt for 14.7; for 14.8 Double.antt (AA, SS),
-- Product.antt (WM), Enough.antt (NS, ND), Ends.antt and Passes.antt (FD).
use Rattle.std.specs.Prelude.{ℕ, suc, ◌+◌, ◌-◌, ◌*◌, ◌/◌, ◌%◌, ◌^◌, ◌≤◌, ◌<◌, ◌≡◌, refl, true}
use Rattle.registers.specs.Reg.{bit_from_right, sign, signed, complement, shl, add_ar, sub_ar, until}
use Rattle.integer.specs.Sums.{sum, difference, sum_with_carry, difference_with_carry, sum24}
use Rattle.integer.specs.Skip.{comparison}
use Rattle.multiply.specs.Wm.{wm}
use Rattle.normalize.specs.Norm.{normal_at, normalize}
use Rattle.rounding.specs.declared.Unpacked.{Unpacked}
use Rattle.rounding.specs.Round.{af_normal, af_left, no_rounding, round_again, normalize_once, normalize_round}
use Rattle.floating.specs.Operands.{fraction, register_fraction, storage_fraction, signed_sf}
use Rattle.floating.specs.Divide.{fd_start, fd_add, fd_stop, fd_loop}
use Rattle.arithmetic_promises.specs.Elementary.{extension, left_shift, negation}
use Rattle.arithmetic_promises.specs.Adder.{addition, subtraction, two_additions, test_integer}

-- ---- 14.3: elementary operations, and the sums used

-- 14.3: for every width n the adder's loop gives R = (A + B) mod 2 ** n, and next carry is the carry out; c is a carry in, 0 as printed
abbrev pub AdderLaw : Type 0
AdderLaw =
    (n c a b : ℕ) → c < 2 → a < 2 ^ n → b < 2 ^ n
    → ((addition n c a b).result ≡ (a + b + c) % 2 ^ n) × ((addition n c a b).next_carry ≡ (a + b + c) / 2 ^ n)

-- 14.3: when the loop ends, carry is the carry into the left-most bit: for AR(-1:23) that out of bit 0
abbrev pub CarryLaw : Type 0
CarryLaw = (n c a b : ℕ) → c < 2 → (addition (suc n) c a b).carry ≡ (a % 2 ^ n + b % 2 ^ n + c) / 2 ^ n

-- 14.3: R := signed C, bit by bit, adds 2 ** m - 2 ** n where the sign is 1, for every width n and every longer one m = n + d
abbrev pub SignedLaw : Type 0
SignedLaw = (n d x : ℕ) → extension n d x ≡ signed n (n + d) x

-- 14.3: R := shiftleft R is 2 R mod 2 ** (n + 1), for every width
abbrev pub ShiftLeftLaw : Type 0
ShiftLeftLaw = (n x : ℕ) → left_shift n x ≡ shl (suc n) x

-- 14.3: R := not R, bit by bit, is 2 ** n - 1 - R
abbrev pub NotLaw : Type 0
NotLaw = (n x : ℕ) → x < 2 ^ n → negation n x ≡ complement n x

-- A - B in one pass: R = (A - B) mod 2 ** n, and it carries out where A is at least B
abbrev pub SubtractionLaw : Type 0
SubtractionLaw =
    (n a b : ℕ) → a < 2 ^ n → b < 2 ^ n
    → ((subtraction n a b).result ≡ (a + (2 ^ n - b)) % 2 ^ n) × ((subtraction n a b).next_carry ≡ (a + (2 ^ n - b)) / 2 ^ n)

-- word, overflow and carry of WA, BA, AA are those of the adder on AR(-1:23)
abbrev pub SumsByAdder : Type 0
SumsByAdder =
    (c a b : ℕ) → c < 2 → a < 2 ^ 24 → b < 2 ^ 24
    → (sum a b ≡ test_integer (addition 25 0 (signed 24 25 a) (signed 24 25 b)))
    × (sum_with_carry a b c ≡ test_integer (addition 25 c (signed 24 25 a) (signed 24 25 b)))

-- and those of WS, BS, AC, SS, a difference being one pass
abbrev pub DifferencesByAdder : Type 0
DifferencesByAdder =
    (c a b : ℕ) → c < 2 → a < 2 ^ 24 → b < 2 ^ 24
    → (difference a b ≡ test_integer (subtraction 25 (signed 24 25 a) (signed 24 25 b)))
    × (difference_with_carry a b c ≡ test_integer (addition 25 c (signed 24 25 a) (negation 25 (signed 24 25 b))))

-- AR := AR + x and AR := AR - x on ARBR (WM, WD) are the adder's on AR(-1:23); BR stays
abbrev pub AccumulatorByAdder : Type 0
AccumulatorByAdder =
    (x p : ℕ) → x < 2 ^ 25 → p < 2 ^ 49
    → (add_ar x p ≡ (addition 25 0 (p / 2 ^ 24) x).result * 2 ^ 24 + p % 2 ^ 24)
    × (sub_ar x p ≡ (subtraction 25 (p / 2 ^ 24) x).result * 2 ^ 24 + p % 2 ^ 24)

-- a sum of addresses is the adder's on 24 bits
abbrev pub AddressSumByAdder : Type 0
AddressSumByAdder = (a b : ℕ) → a < 2 ^ 24 → b < 2 ^ 24 → sum24 a b ≡ (addition 24 0 a b).result

-- AR of SH, SL, SE, SN is the adder's on AR(-1:23)
abbrev pub ComparisonByAdder : Type 0
ComparisonByAdder = (w sb : ℕ) → w < 2 ^ 24 → sb < 2 ^ 24 → comparison w sb ≡ (subtraction 25 (signed 24 25 w) (signed 24 25 sb)).result

-- the letter of 14.3, a difference by two additions, gives the same word, overflow and carry wherever B is not 0
abbrev pub TwoAdditions : Type 0
TwoAdditions = (a b : ℕ) → a < 2 ^ 24 → 0 < b → b < 2 ^ 24 → test_integer (two_additions 25 (signed 24 25 a) (signed 24 25 b)) ≡ difference a b

-- and for B = 0, whatever A: the word and no overflow; but one pass carries and the last of two additions does not
abbrev pub TwoAdditionsOfZero : Type 0
TwoAdditionsOfZero =
    (a : ℕ) → a < 2 ^ 24
    → (test_integer (two_additions 25 (signed 24 25 a) 0) ≡ record { word = a; over = 0; carry = 0 })
    × (difference a 0 ≡ record { word = a; over = 0; carry = 1 })

-- ---- 14.7: Normalize and Round Floating

-- the left shifts end: AF(0) <> AF(1) after them, for every AF but zero with AF(-1) = AF(0)
abbrev pub LeftShiftsEnd : Type 0
LeftShiftsEnd = (a : ℕ) → a < 2 ^ 39 → sign 39 a ≡ bit_from_right 37 a → (a ≡ 0 → ⊥) → af_normal (af_left a) ≡ true

-- two passes from Again are enough for every AF and SC: what they give has AF(36) = 0
abbrev pub TwoPasses : Type 0
TwoPasses = (x : Unpacked) → x.af < 2 ^ 39 → no_rounding (normalize_round x) ≡ true

-- so `goto Again` without a bound gives the same
abbrev pub AnyBound : Type 0
AnyBound = (x : Unpacked) (n : ℕ) → x.af < 2 ^ 39 → until no_rounding round_again (suc n) (normalize_once x) ≡ normalize_round x

-- ---- 14.8: AA, SS, WM, NS, ND

-- AA: W by the first sum, then Wpre with its carry, is the sum of the two double words at 48 bits
abbrev pub DoubleSum : Type 0
DoubleSum =
    (p a q b : ℕ) → p < 2 ^ 24 → a < 2 ^ 24 → q < 2 ^ 24 → b < 2 ^ 24
    → (sum_with_carry p q (sum a b).carry).word * 2 ^ 24 + (sum a b).word ≡ (p * 2 ^ 24 + a + (q * 2 ^ 24 + b)) % 2 ^ 48

-- SS: the same of the differences
abbrev pub DoubleDifference : Type 0
DoubleDifference =
    (p a q b : ℕ) → p < 2 ^ 24 → a < 2 ^ 24 → q < 2 ^ 24 → b < 2 ^ 24
    → (difference_with_carry p q (difference a b).carry).word * 2 ^ 24 + (difference a b).word ≡ (p * 2 ^ 24 + a + (2 ^ 48 - (q * 2 ^ 24 + b))) % 2 ^ 48

-- The add-and-shift steps give the signed product of 48 bits.
abbrev pub ProductLaw : Type 0
ProductLaw = (w s : ℕ) → w < 2 ^ 24 → s < 2 ^ 24 → wm w s ≡ (signed 24 48 w * signed 24 48 s) % 2 ^ 48

-- Normalizing ends for every register of 2 to 48 bits but zero: the two left-most bits differ.
abbrev pub NormalizingEnds : Type 0
NormalizingEnds = (n w : ℕ) → 2 ≤ n → n ≤ 48 → 0 < w → w < 2 ^ n → normal_at n (normalize n w) ≡ true

-- ---- 14.8: FD

-- the loop has ended after 71 passes: for every register fraction but 0 and every storage fraction, so wherever AR <> 0
abbrev pub DivideEnds : Type 0
DivideEnds =
    (pre word first second : ℕ) → pre < 2 ^ 24 → word < 2 ^ 24 → first < 2 ^ 24 → second < 2 ^ 24 → (fraction pre word ≡ 0 → ⊥)
    → fd_stop (fd_loop (signed_sf (storage_fraction (fraction first second))) (register_fraction (fraction pre word))) ≡ true

-- and it makes at least 35 passes and at most 71, for the same operands
abbrev pub DividePasses : Type 0
DividePasses =
    (pre word first second : ℕ) → pre < 2 ^ 24 → word < 2 ^ 24 → first < 2 ^ 24 → second < 2 ^ 24 → (fraction pre word ≡ 0 → ⊥)
    → (35 ≤ (fd_loop (signed_sf (storage_fraction (fraction first second))) (register_fraction (fraction pre word))).passes)
    × ((fd_loop (signed_sf (storage_fraction (fraction first second))) (register_fraction (fraction pre word))).passes ≤ 71)

-- 0.5 by 0.5: 35 passes (71: floating/specs/Divide.antt, fd_longest)
fd_shortest : (fd_loop (2 ^ 36) (2 ^ 36)).passes ≡ 35
unfolding fd_loop fd_start fd_add until
fd_shortest = refl
