-- Non-restoring division (14.8: WD, FD), for a register of any width and any number of passes. A pass doubles the register, then subtracts the
-- divisor's magnitude c where the register was not negative and adds it where it was. Let the register hold u - c: a pass makes u to 2 u, less 2 c where u
-- is at least c. So the digits, one where c was subtracted, are those of a / (2 c), if u starts as a, and u is the remainder. Assumes nothing.
use mathlib.Core.Path.{◌≡◌, ap, ◌∙◌}
use mathlib.Core.Bool.{cond}
use mathlib.Core.Logic.{◌⊎◌, inl, inr, ⊎_elim}
use Prim.Native.Nat.{ℕ, zero, suc, ◌+◌, ◌-◌, ◌*◌, ◌%◌, ◌^◌, ◌≤◌, ◌<◌}
use native.Mathlib.Omega.{arith}
use native.Mathlib.Decide.{dec_lt}
use native.Mathlib.Nat.{mod-eq_of_lt, mod-eq-sub-mod, mul-le-mul_left, mul-le-mul_right, lt_of_mul-lt-mul_left, le_of_mul-le-mul_left}
use lib.Pow.{pow_pos}
use lib.Dec.{ltb}
use borrow.Author.Tests.{lt-ltb, le-ltb}
use Rattle.registers.specs.Reg.{iter}

-- x mod m, of x below 3 m
reduced : (x m : ℕ) → x < 3 * m → (x % m < m) × ((x % m ≡ x) ⊎ ((x % m + m ≡ x) ⊎ (x % m + 2 * m ≡ x)))
reduced x m h =
    elim (dec_lt x m) [
      | yes l ↦ (let e = mod-eq_of_lt {n = x} {m = m} l in (omega arith, inl e))
      | no n ↦
          (let e : x % m ≡ (x - m) % m = mod-eq-sub-mod {n = x} {m = m} (omega arith) in
          elim (dec_lt (x - m) m) [
            | yes l ↦ (let f = mod-eq_of_lt {n = x - m} {m = m} l in (omega arith, inr (inl (omega arith))))
            | no k ↦
                (let f : (x - m) % m ≡ (x - m - m) % m = mod-eq-sub-mod {n = x - m} {m = m} (omega arith) in
                let g = mod-eq_of_lt {n = x - m - m} {m = m} (omega arith) in
                (omega arith, inr (inr (omega arith))))
          ])
    ]

pub twice : (i a : ℕ) → 2 ^ suc i * a ≡ 2 * (2 ^ i * a)
twice i a = let e : 2 ^ suc i ≡ 2 * 2 ^ i = omega arith in ap (λ (n : ℕ). n * a) e ∙ omega arith

digit_most : (d n : ℕ) → d < 2 → d * n ≤ n
digit_most d n l = let k : d * n ≤ 1 * n = mul-le-mul_right n (omega arith) in omega arith

-- from one multiple of k to the next
next : (k v z : ℕ) → k * v < k * z → k * v + k ≤ k * z
next k v z l = let m = lt_of_mul-lt-mul_left k {m = v} {n = z} l in let n : k * suc v ≤ k * z = mul-le-mul_left {m = suc v} {n = z} k m in omega arith

-- The register has the modulus 2 h: it is negative from h on. A pass shifts in `set` where c is subtracted, `clear` where it is added.
module _ (h c set clear : ℕ) where
  abbrev pub pass : ℕ → ℕ
  pass p = cond (ltb p h) ((2 * p + set + (2 * h - c)) % (2 * h)) ((2 * p + clear + c) % (2 * h))

  -- after i passes
  pub record Passed (a i p : ℕ) : Type 0 where
    pub ones : ℕ  -- the digits, as a number
    pub zeros : ℕ  -- and their complement
    pub rest : ℕ  -- u
    pub digits : ones + zeros + 1 ≡ 2 ^ i
    pub product : 2 ^ i * a ≡ ones * (2 * c) + rest
    pub below : rest < 2 * c
    pub range : p < 2 * h
    pub held : (p + c ≡ rest + (set * ones + clear * zeros)) ⊎ (p + c ≡ rest + (set * ones + clear * zeros) + 2 * h)

  -- what was shifted in does not reach u: u and c are multiples of a number above it
  pub record Apart {a i p : ℕ} (q : Passed a i p) : Type 0 where
    pub in_below : q.rest + (set * q.ones + clear * q.zeros) < 2 * c
    pub in_sign : q.rest < c → q.rest + (set * q.ones + clear * q.zeros) < c

  module _ (room : 2 * c ≤ h) (s : set < 2) (r : clear < 2) where
    -- the register is not negative: u is at least c
    subtracted : {a i p : ℕ} (q : Passed a i p) → Apart q → p < h → Passed a (suc i) ((2 * p + set + (2 * h - c)) % (2 * h))
    subtracted {a} {i} {p} q k l =
        let b : ℕ = set * q.ones + clear * q.zeros in
        let e : p + c ≡ q.rest + b = ⊎_elim (λ e. e) (λ e. absurd (omega arith)) q.held in
        let g : c ≤ q.rest = elim (dec_lt q.rest c) [ yes t ↦ (let f = k.in_sign t in absurd (omega arith)) | no n ↦ omega arith ] in
        let m = reduced (2 * p + set + (2 * h - c)) (2 * h) (omega arith) in
        record {
          ones = 2 * q.ones + 1;
          zeros = 2 * q.zeros;
          rest = 2 * q.rest - 2 * c;
          digits = omega (arith, q.digits);
          product = twice i a ∙ omega (arith, q.product);
          below = omega (arith, q.below);
          range = m.0;
          held = ⊎_elim (λ f. inr (omega arith)) (⊎_elim (λ f. inl (omega arith)) (λ f. absurd (omega arith))) m.1;
        }

    -- it is negative: u is below c
    added : {a i p : ℕ} (q : Passed a i p) → Apart q → h ≤ p → Passed a (suc i) ((2 * p + clear + c) % (2 * h))
    added {a} {i} {p} q k l =
        let b : ℕ = set * q.ones + clear * q.zeros in
        let n = q.range in
        let f = k.in_below in
        let e : p + c ≡ q.rest + b + 2 * h = ⊎_elim (λ e. absurd (omega arith)) (λ e. e) q.held in
        let m = reduced (2 * p + clear + c) (2 * h) (omega arith) in
        record {
          ones = 2 * q.ones;
          zeros = 2 * q.zeros + 1;
          rest = 2 * q.rest;
          digits = omega (arith, q.digits);
          product = twice i a ∙ omega (arith, q.product);
          below = omega arith;
          range = m.0;
          held = ⊎_elim (λ g. absurd (omega arith)) (⊎_elim (λ g. inr (omega arith)) (λ g. inl (omega arith))) m.1;
        }

    pub one_pass : {a i p : ℕ} (q : Passed a i p) → Apart q → Passed a (suc i) (pass p)
    one_pass {a} {i} {p} q k =
        elim (dec_lt p h) [
          | yes l ↦ rw (lt-ltb p h l) (subtracted q k l)
          | no n ↦ (let l : h ≤ p = omega arith in rw (le-ltb p h l) (added q k l))
        ]

    -- any number of passes, by a step that makes one wherever the register is in range
    pub passes : (f : ℕ → ℕ) → ((p : ℕ) → p < 2 * h → f p ≡ pass p)
        → {a p : ℕ} (i : ℕ) → ((j : ℕ) → j < i → (q : Passed a j (iter f j p)) → Apart q) → Passed a 0 p → Passed a i (iter f i p)
    unfolding iter
    passes f e zero k q = q
    passes f e (suc i) k q = let d = passes f e i (λ j l. k j (omega arith)) q in rw (e _ d.range) (one_pass d (k i (omega arith) d))

  -- the start: u is a
  pub begun : (a p : ℕ) → a < 2 * c → p < 2 * h → (p + c ≡ a) ⊎ (p + c ≡ a + 2 * h) → Passed a 0 p
  begun a p l r e =
      record { ones = 0; zeros = 0; rest = a; digits = omega arith; product = omega arith; below = l; range = r; held = ⊎_elim (λ f. inl (omega arith)) (λ f. inr (omega arith)) e }

  -- nothing is shifted in
  pub apart_none : set ≡ 0 → clear ≡ 0 → {a i p : ℕ} (q : Passed a i p) → Apart q
  apart_none s r q =
      let e : set * q.ones ≡ 0 = rw s (omega arith) in
      let f : clear * q.zeros ≡ 0 = rw r (omega arith) in
      let b = q.below in
      record { in_below = omega arith; in_sign = λ l. omega arith }

  -- c is a multiple of 2 ** i, and so is u
  pub apart_whole : set < 2 → clear < 2 → {a i p : ℕ} (z : ℕ) → c ≡ 2 ^ i * z → (q : Passed a i p) → Apart q
  apart_whole s r {a} {i} {p} z e q =
      let y : ℕ = q.ones * (2 * z) in
      let k : 0 < 2 ^ i = pow_pos i in
      let g : 2 ^ i * a ≡ 2 ^ i * y + q.rest = q.product ∙ ap (λ (n : ℕ). q.ones * (2 * n) + q.rest) e ∙ omega arith in
      let l : y ≤ a = le_of_mul-le-mul_left {m = y} {n = a} {k = 2 ^ i} (omega arith) k in
      let v : ℕ = a - y in
      let f : 2 ^ i * a ≡ 2 ^ i * (y + v) = ap (λ (n : ℕ). 2 ^ i * n) (omega arith) in
      let u : q.rest ≡ 2 ^ i * v = omega arith in
      let d : set * q.ones ≤ q.ones = digit_most set q.ones s in
      let w : clear * q.zeros ≤ q.zeros = digit_most clear q.zeros r in
      let b : set * q.ones + clear * q.zeros < 2 ^ i = omega (arith, q.digits) in
      let n : 2 ^ i * v + 2 ^ i ≤ 2 ^ i * (2 * z) = next (2 ^ i) v (2 * z) (omega (arith, q.below)) in
      record {
        in_below = omega arith;
        in_sign = λ l. (let m : 2 ^ i * v + 2 ^ i ≤ 2 ^ i * z = next (2 ^ i) v z (omega arith) in omega arith);
      }
