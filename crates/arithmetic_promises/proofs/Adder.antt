-- The adder's loop by induction on its passes: next carry and R together are the sum of the operands' last bits. Assumes nothing.
use mathlib.Core.Path.{◌≡◌, refl, ap, ◌∙◌, sym, subst}
use mathlib.Core.Bool.{not, cond}
use Prim.Native.Nat.{ℕ, zero, suc, ◌+◌, ◌-◌, ◌*◌, ◌/◌, ◌%◌, ◌^◌, ◌≤◌, ◌<◌}
use native.Mathlib.Nat.{mod-eq_of_lt, mod-one, mod-lt, mul-le-mul_right, add-zero, add-suc}
use native.Mathlib.Omega.{arith}
use native.Mathlib.Numerals.{one-add}
use native.Mathlib.Decide.{ℕ_discrete, dec_lt}
use lib.Dec.{eqb}
use lib.Pow.{pow_mono, pow_pos, split, mod-pow-add, high, low}
use borrow.Author.Tests.{eq-eqb, ne_eqb}
use Rattle.registers.specs.Reg.{bit_from_right, sign, signed, complement}
use Rattle.integer.specs.Bitwise.{each}
use Rattle.integer.specs.Sums.{adder, sum, difference, sum_with_carry, difference_with_carry, sum24}
use Rattle.arithmetic_promises.specs.Elementary.{extension, not_bit, negation}
use Rattle.arithmetic_promises.specs.Adder.{AdderState, take_carry, add_bits, adder_loop, addition, test_integer}
use Rattle.arithmetic_promises.specs.Claims.{SignedLaw, ShiftLeftLaw, AccumulatorByAdder, AdderLaw, CarryLaw, NotLaw, SubtractionLaw, SumsByAdder, DifferencesByAdder, AddressSumByAdder, ComparisonByAdder, TwoAdditions, TwoAdditionsOfZero}

abbrev state : ℕ → ℕ → ℕ → AdderState
state r c n = record { result = r; carry = c; next_carry = n }

-- the printed rule for two bits is the sum of the bits and the carry; p is the weight of their place
rule : (x y t r p : ℕ) → x < 2 → y < 2 → t < 2
    → cond (not (eqb x y)) (state (complement 1 t * p + r) t t) (state (t * p + r) t x) ≡ state ((x + y + t) % 2 * p + r) t ((x + y + t) / 2)
rule x y t r p hx hy ht =
    elim (ℕ_discrete x y) [
      | yes e ↦ (let d : (x + y + t) % 2 ≡ t = omega arith in let q : (x + y + t) / 2 ≡ x = omega arith in rw (eq-eqb x y e, d, q) refl)
      | no e ↦ (let d : (x + y + t) % 2 ≡ complement 1 t = omega arith in let q : (x + y + t) / 2 ≡ t = omega arith in rw (ne_eqb x y e, d, q) refl)
    ]

-- the last k + 1 bits of a number
last : (k x : ℕ) → x % 2 ^ suc k ≡ bit_from_right k x * 2 ^ k + x % 2 ^ k
last k x = ap (λ (j : ℕ). x % 2 ^ j) (sym (one-add k)) ∙ mod-pow-add x 1 k

-- what a pass keeps: p is the weight of the place, m and n are the operands' bits to the right of it
kept : (x y t p r m n c : ℕ) → t * p + r ≡ m + n + c → (x + y + t) / 2 * (2 * p) + ((x + y + t) % 2 * p + r) ≡ x * p + m + (y * p + n) + c
kept x y t p r m n c e =
    let d : (x + y + t) % 2 + 2 * ((x + y + t) / 2) ≡ x + y + t = omega arith in
    omega (arith, ap (λ (z : ℕ). z * p) d)

below : (d p r : ℕ) → d < 2 → r < p → d * p + r < 2 * p
below d p r h l = omega (arith, mul-le-mul_right {m = d} {n = 1} p (omega arith))

-- the loop after k passes, from next carry c
module _ (a b c : ℕ) (hc : c < 2) where
  record Added (k : ℕ) (s : AdderState) : Type 0 where
    pub carries : s.next_carry < 2
    pub room : s.result < 2 ^ k
    pub total : s.next_carry * 2 ^ k + s.result ≡ a % 2 ^ k + b % 2 ^ k + c

  pass : (k : ℕ) (s : AdderState) → s.next_carry < 2
      → add_bits a b k (take_carry s) ≡ state ((bit_from_right k a + bit_from_right k b + s.next_carry) % 2 * 2 ^ k + s.result) s.next_carry ((bit_from_right k a + bit_from_right k b + s.next_carry) / 2)
  unfolding add_bits
  pass k s h = rule (bit_from_right k a) (bit_from_right k b) s.next_carry s.result (2 ^ k) (omega arith) (omega arith) h

  added : (k : ℕ) → Added k (addition k c a b)
  unfolding adder_loop
  added zero = record { carries = hc; room = omega arith; total = rw (mod-one a, mod-one b) (omega arith) }
  added (suc k) = go (addition k c a b) (added k)
    where
      go : (s : AdderState) → Added k s → Added (suc k) (add_bits a b k (take_carry s))
      go s h =
          let w : 2 ^ suc k ≡ 2 * 2 ^ k = omega arith in
          subst (Added (suc k)) (sym (pass k s h.carries))
          (record {
            carries = omega (arith, h.carries);
            room = omega (arith, below ((bit_from_right k a + bit_from_right k b + s.next_carry) % 2) (2 ^ k) s.result (omega arith) h.room);
            total = rw (last k a, last k b, w) (kept (bit_from_right k a) (bit_from_right k b) s.next_carry (2 ^ k) s.result (a % 2 ^ k) (b % 2 ^ k) c h.total);
          })

  -- R and next carry, of any operands
  result_is : (n : ℕ) → (addition n c a b).result ≡ (a % 2 ^ n + b % 2 ^ n + c) % 2 ^ n
  result_is n = sym (low (addition n c a b).next_carry n (added n).room) ∙ ap (λ (x : ℕ). x % 2 ^ n) (added n).total

  next_is : (n : ℕ) → (addition n c a b).next_carry ≡ (a % 2 ^ n + b % 2 ^ n + c) / 2 ^ n
  next_is n = sym (high (addition n c a b).next_carry n (added n).room) ∙ ap (λ (x : ℕ). x / 2 ^ n) (added n).total

  carry_is : (n : ℕ) → (addition (suc n) c a b).carry ≡ (a % 2 ^ n + b % 2 ^ n + c) / 2 ^ n
  unfolding adder_loop
  carry_is n = ap (λ (s : AdderState). s.carry) (pass n (addition n c a b) (added n).carries) ∙ next_is n

pub adder_law : AdderLaw
adder_law n c a b hc ha hb =
    (result_is a b c hc n ∙ rw (mod-eq_of_lt ha, mod-eq_of_lt hb) refl, next_is a b c hc n ∙ rw (mod-eq_of_lt ha, mod-eq_of_lt hb) refl)

pub carry_law : CarryLaw
carry_law n c a b hc = carry_is a b c hc n

-- ---- signed, shiftleft, not, and differences
sign_added : (s x p m : ℕ) → s * p + (x + s * m) ≡ x + s * (p + m)
sign_added s x p m = omega arith

pub signed_law : SignedLaw
unfolding extension
signed_law n zero x = rw (add-zero n) (let e : 2 ^ n - 2 ^ n ≡ 0 = omega arith in rw e (omega arith))
signed_law n (suc d) x =
    let w : 2 ^ (n + suc d) ≡ 2 * 2 ^ (n + d) = rw (add-suc n d) (omega arith) in
    let l : 2 ^ n ≤ 2 ^ (n + d) = pow_mono {i = n} {j = n + d} (omega arith) in
    let k : 2 * 2 ^ (n + d) - 2 ^ n ≡ 2 ^ (n + d) + (2 ^ (n + d) - 2 ^ n) = omega arith in
    rw (signed_law n d x, w, k) (sign_added (sign n x) x (2 ^ (n + d)) (2 ^ (n + d) - 2 ^ n))

pub shift_left_law : ShiftLeftLaw
shift_left_law n x =
    let w : 2 ^ suc n ≡ 2 * 2 ^ n = omega arith in
    let r : x % 2 ^ n < 2 ^ n = mod-lt x (pow_pos n) in
    let l : x % 2 ^ n * 2 < 2 ^ suc n = omega arith in
    let e : x / 2 ^ n * (2 * 2 ^ n) + x % 2 ^ n * 2 ≡ x * 2 = omega (arith, split x n) in
    let k : x / 2 ^ n * 2 ^ suc n + x % 2 ^ n * 2 ≡ x * 2 = rw w e in
    sym (low (x / 2 ^ n) (suc n) l) ∙ ap (λ (z : ℕ). z % 2 ^ suc n) k

not_digit : (x : ℕ) → x < 2 → not_bit x x + x ≡ 1
not_digit zero h = refl
not_digit (suc zero) h = refl
not_digit (suc (suc x)) h = absurd (omega arith)

negated : (n x : ℕ) → negation n x + x % 2 ^ n + 1 ≡ 2 ^ n
unfolding each
negated zero x = rw (mod-one x) refl
negated (suc n) x =
    rw (last n x)
    (let d : not_bit (bit_from_right n x) (bit_from_right n x) + bit_from_right n x ≡ 1 = not_digit (bit_from_right n x) (omega arith) in
    omega (arith, ap (λ (z : ℕ). z * 2 ^ n) d, negated n x))

pub not_law : NotLaw
not_law n x h = let e : x % 2 ^ n ≡ x = mod-eq_of_lt h in let f : negation n x + x % 2 ^ n + 1 ≡ 2 ^ n = negated n x in omega arith

pub subtraction_law : SubtractionLaw
subtraction_law n a b ha hb =
    let e : a + complement n b + 1 ≡ a + (2 ^ n - b) = omega arith in
    let l = adder_law n 1 a (complement n b) (omega arith) ha (omega arith) in
    rw (not_law n b hb, ← e) l

-- ---- the sums used
narrow : (t : ℕ) → t % 2 ^ 25 % 2 ^ 24 ≡ t % 2 ^ 24
narrow t = omega arith

bit_24 : (t : ℕ) → t % 2 ^ 25 / 2 ^ 24 % 2 ≡ t / 2 ^ 24 % 2
bit_24 t = omega arith

bit_23 : (t : ℕ) → t % 2 ^ 25 / 2 ^ 23 % 2 ≡ t / 2 ^ 23 % 2
bit_23 t = omega arith

-- one pass on AR(-1:23)
on_ar : (x y c : ℕ) → c < 2 → x < 2 ^ 25 → y < 2 ^ 25 → adder x y c ≡ test_integer (addition 25 c x y)
on_ar x y c hc hx hy =
    let r : (addition 25 c x y).result ≡ (x + y + c) % 2 ^ 25 = (adder_law 25 c x y hc hx hy).0 in
    let k : (addition 25 c x y).carry ≡ (x % 2 ^ 24 + y % 2 ^ 24 + c) / 2 ^ 24 = carry_law 24 c x y hc in
    rw (r, k, narrow (x + y + c), bit_24 (x + y + c), bit_23 (x + y + c)) refl

-- a word of 24 bits in AR(-1:23)
wide : (a : ℕ) → a < 2 ^ 24 → signed 24 25 a < 2 ^ 25
wide a h = omega arith

pub sums_by_adder : SumsByAdder
unfolding sum sum_with_carry
sums_by_adder c a b hc ha hb =
    (on_ar (signed 24 25 a) (signed 24 25 b) 0 (omega arith) (wide a ha) (wide b hb), on_ar (signed 24 25 a) (signed 24 25 b) c hc (wide a ha) (wide b hb))

-- and not B in the place of B
not_on_ar : (x y c : ℕ) → c < 2 → x < 2 ^ 25 → y < 2 ^ 25 → adder x (complement 25 y) c ≡ test_integer (addition 25 c x (negation 25 y))
not_on_ar x y c hc hx hy = rw (not_law 25 y hy) (on_ar x (complement 25 y) c hc hx (omega arith))

pub differences_by_adder : DifferencesByAdder
unfolding difference difference_with_carry
differences_by_adder c a b hc ha hb =
    (not_on_ar (signed 24 25 a) (signed 24 25 b) 1 (omega arith) (wide a ha) (wide b hb), not_on_ar (signed 24 25 a) (signed 24 25 b) c hc (wide a ha) (wide b hb))

-- AR in ARBR
on_arbr : (x p : ℕ) → (p + x * 2 ^ 24) % 2 ^ 49 ≡ (p / 2 ^ 24 + x) % 2 ^ 25 * 2 ^ 24 + p % 2 ^ 24
on_arbr x p = omega arith

pub accumulator_by_adder : AccumulatorByAdder
accumulator_by_adder x p hx hp =
    let a : p / 2 ^ 24 < 2 ^ 25 = omega arith in
    let z : p / 2 ^ 24 + x + 0 ≡ p / 2 ^ 24 + x = omega arith in
    (rw ((adder_law 25 0 (p / 2 ^ 24) x (omega arith) a hx).0, z) (on_arbr x p), rw (subtraction_law 25 (p / 2 ^ 24) x a hx).0 (on_arbr (2 ^ 25 - x) p))

pub address_sum_by_adder : AddressSumByAdder
unfolding sum24
address_sum_by_adder a b ha hb = omega (arith, (adder_law 24 0 a b (omega arith) ha hb).0)

pub comparison_by_adder : ComparisonByAdder
comparison_by_adder w sb hw hb =
    rw (not_law 25 (signed 24 25 sb) (wide sb hb))
    (sym (adder_law 25 1 (signed 24 25 w) (complement 25 (signed 24 25 sb)) (omega arith) (wide w hw) (omega arith)).0)

-- ---- the letter of 14.3
-- (not B) + 1 is 2 ** 25 - B, or 0
second : (y : ℕ) → y < 2 ^ 25 → (addition 25 0 (negation 25 y) 1).result ≡ (2 ^ 25 - y) % 2 ^ 25
second y h =
    rw (not_law 25 y h)
    (let e : complement 25 y + 1 + 0 ≡ 2 ^ 25 - y = omega arith in
    (adder_law 25 0 (complement 25 y) 1 (omega arith) (omega arith) (omega arith)).0 ∙ ap (λ (t : ℕ). t % 2 ^ 25) e)

-- where its last 24 bits are not 0, the carry of 1 goes no further than bit 0
same : (x y : ℕ) → x < 2 ^ 25 → y < 2 ^ 25 → 0 < y % 2 ^ 24 → adder x ((2 ^ 25 - y) % 2 ^ 25) 0 ≡ adder x (complement 25 y) 1
same x y hx hy p =
    let e : (2 ^ 25 - y) % 2 ^ 25 ≡ complement 25 y + 1 = omega arith in
    let s : x + (complement 25 y + 1) + 0 ≡ x + complement 25 y + 1 = omega arith in
    let m : (complement 25 y + 1) % 2 ^ 24 ≡ complement 25 y % 2 ^ 24 + 1 = omega arith in
    let k : x % 2 ^ 24 + (complement 25 y + 1) % 2 ^ 24 + 0 ≡ x % 2 ^ 24 + complement 25 y % 2 ^ 24 + 1 = omega arith in
    rw (e, s, k) refl

pub two_additions_lem : TwoAdditions
unfolding difference
two_additions_lem a b ha p hb =
    rw (second (signed 24 25 b) (wide b hb))
    (sym (on_ar (signed 24 25 a) ((2 ^ 25 - signed 24 25 b) % 2 ^ 25) 0 (omega arith) (wide a ha) (omega arith))
    ∙ same (signed 24 25 a) (signed 24 25 b) (wide a ha) (wide b hb) (omega arith))

-- an extended word has AR(-1) = AR(0), with 2 ** 25 added too
word_of_lem : (a d : ℕ) → a < 2 ^ 24 → (signed 24 25 a + d * 2 ^ 25) % 2 ^ 24 ≡ a
word_of_lem a d h = omega arith

even_places : (d : ℕ) → (2 * d % 2 + 4 * d % 2) % 2 ≡ 0
even_places d = omega arith

odd_places : (d : ℕ) → ((2 * d + 1) % 2 + (4 * d + 3) % 2) % 2 ≡ 0
odd_places d = omega arith

equal_signs : (a d : ℕ) → a < 2 ^ 24 → ((signed 24 25 a + d * 2 ^ 25) / 2 ^ 24 % 2 + (signed 24 25 a + d * 2 ^ 25) / 2 ^ 23 % 2) % 2 ≡ 0
equal_signs a d h =
    elim (dec_lt a (2 ^ 23)) [
      | yes l ↦ (let q : a / 2 ^ 23 ≡ 0 = omega arith in
          let x : (signed 24 25 a + d * 2 ^ 25) / 2 ^ 24 ≡ 2 * d = omega arith in
          let y : (signed 24 25 a + d * 2 ^ 25) / 2 ^ 23 ≡ 4 * d = omega arith in rw (x, y) (even_places d))
      | no n ↦ (let q : a / 2 ^ 23 ≡ 1 = omega arith in
          let x : (signed 24 25 a + d * 2 ^ 25) / 2 ^ 24 ≡ 2 * d + 1 = omega arith in
          let y : (signed 24 25 a + d * 2 ^ 25) / 2 ^ 23 ≡ 4 * d + 3 = omega arith in rw (x, y) (odd_places d))
    ]

pub two_additions_of_zero : TwoAdditionsOfZero
unfolding difference
two_additions_of_zero a h =
    let n : signed 24 25 a + 0 + 0 ≡ signed 24 25 a + 0 * 2 ^ 25 = omega arith in
    let m : signed 24 25 a + complement 25 0 + 1 ≡ signed 24 25 a + 1 * 2 ^ 25 = omega arith in
    let l : signed 24 25 a % 2 ^ 24 ≡ a = omega arith in
    let k : (a + 0 + 0) / 2 ^ 24 ≡ 0 = omega arith in
    let g : (a + complement 25 0 % 2 ^ 24 + 1) / 2 ^ 24 ≡ 1 = omega arith in (
      rw (second 0 (omega arith)) (sym (on_ar (signed 24 25 a) 0 0 (omega arith) (wide a h) (omega arith)) ∙ rw (n, word_of_lem a 0 h, equal_signs a 0 h, l, k) refl),
      rw (m, word_of_lem a 1 h, equal_signs a 1 h, l, g) refl,
    )
