-- The parts of a line before its address: what is written is read back, and what is read was written. Assumes nothing.
use Prim.Native.Nat.{ℕ, zero, suc, ◌+◌, ◌-◌, ◌≤◌, ◌<◌}
use mathlib.Core.Path.{◌≡◌, refl, sym, ap, ◌∙◌}
use mathlib.Core.Bool.{Bool, true, false, cond, ◌&&◌}
use mathlib.Core.List.{List, ◌∷◌, ◌++◌, append_assoc}
use native.Mathlib.Omega.{arith}
use native.Mathlib.Decide.{ℕ_discrete}
use borrow.Author.Tests.{eq-eqb, ne_eqb, eqb-true, le-leb, leb-true, ltb-true}
use lib.ListN.{get_or, drop}
use lib.Dec.{leb, ltb, eqb}
use Rattle.definition_assembler.specs.Grammar.{Sum, Product, Primary, term, plus, minus, factor, times, number, group, digit_byte, sum_bytes, product_bytes, primary_bytes}
use Rattle.definition_assembler.proofs.Back.{front, next, cut}
use Rattle.definition_instructions.specs.Codes.{codes, lookup}
use Rattle.definition_assembler.specs.Letters.{letters, first_letter, second_letter}
use Rattle.definition_assembler.specs.Line.{when, index_bytes}
use Rattle.definition_assembler.specs.Head.{code_from, code_of, byte, past, is_register, register_good, index_good, index_of, past_index}

pub both : (a b : Bool) → a && b ≡ true → (a ≡ true) × (b ≡ true)
both true b e = (refl, e)
both false b e = let no : ⊥ = (let z : ◌≡◌ {A = ℕ} 0 1 = cc in omega arith) in absurd no

-- ---- codes: tests of all 58, by computation
all_below_lem : (ℕ → Bool) → ℕ → Bool
all_below_lem p zero = true
all_below_lem p (suc n) = p n && all_below_lem p n

all_below : (p : ℕ → Bool) (k n : ℕ) → all_below_lem p k ≡ true → n < k → p n ≡ true
unfolding all_below_lem
all_below p zero n e h = let no : ⊥ = omega arith in absurd no
all_below p (suc k) n e h = at (ℕ_discrete n k) (λ l. all_below p k n (both (p k) (all_below_lem p k) e).1 l)
  where
    at : Dec (n ≡ k) → (n < k → p n ≡ true) → p n ≡ true
    at (yes d) ih = ap p d ∙ (both (p k) (all_below_lem p k) e).0
    at (no d) ih = ih (omega arith)

abbrev found : ℕ → Bool
found n = eqb (code_of (first_letter n) (second_letter n)) n

abbrev within : ℕ → Bool
within b = ltb 0 b && ltb b 128

all_found : all_below_lem found 58 ≡ true
unfolding all_below_lem code_of code_from first_letter second_letter letters lookup codes
all_found = refl

all_within : all_below_lem (λ n. within (first_letter n) && within (second_letter n)) 58 ≡ true
unfolding all_below_lem first_letter second_letter letters lookup codes
all_within = refl

pub code_back : (n : ℕ) → n < 58 → code_of (first_letter n) (second_letter n) ≡ n
code_back n h = eqb-true _ n (all_below found 58 n all_found h)

within_bounds : (b : ℕ) → within b ≡ true → (0 < b) × (b < 128)
within_bounds b e = let h = both (ltb 0 b) (ltb b 128) e in (ltb-true 0 b h.0, ltb-true b 128 h.1)

pub letters_there : (n : ℕ) → n < 58 → ((0 < first_letter n) × (first_letter n < 128)) × ((0 < second_letter n) × (second_letter n < 128))
letters_there n h =
    let w = both (within (first_letter n)) (within (second_letter n)) (all_below (λ k. within (first_letter k) && within (second_letter k)) 58 n all_within h) in
    (within_bounds (first_letter n) w.0, within_bounds (second_letter n) w.1)

from_sound : (n i a b : ℕ) → code_from n i a b < i + n → (a ≡ first_letter (code_from n i a b)) × (b ≡ second_letter (code_from n i a b))
unfolding code_from
from_sound zero i a b h = let no : ⊥ = omega arith in absurd no
from_sound (suc n) i a b h =
    go (eqb a (first_letter i) && eqb b (second_letter i)) refl h (from_sound n (i + 1) a b)
  where
    go : (r : Bool) → eqb a (first_letter i) && eqb b (second_letter i) ≡ r → cond r i (code_from n (i + 1) a b) < i + suc n
        → (code_from n (i + 1) a b < i + 1 + n → (a ≡ first_letter (code_from n (i + 1) a b)) × (b ≡ second_letter (code_from n (i + 1) a b)))
        → (a ≡ first_letter (cond r i (code_from n (i + 1) a b))) × (b ≡ second_letter (cond r i (code_from n (i + 1) a b)))
    go true e l ih = let p = both (eqb a (first_letter i)) (eqb b (second_letter i)) e in (eqb-true a (first_letter i) p.0, eqb-true b (second_letter i) p.1)
    go false e l ih = ih (omega arith)

pub code_sound : (a b : ℕ) → code_of a b < 58 → (a ≡ first_letter (code_of a b)) × (b ≡ second_letter (code_of a b))
unfolding code_of
code_sound a b h = from_sound 58 0 a b (omega arith)

-- ---- the first byte of a sum
mutual
  unfolding sum_bytes

  pub sum_first : (s : Sum) (r : List ℕ) → (eqb (get_or (sum_bytes s ++ r) 0 0) 91 ≡ false) × (eqb (get_or (sum_bytes s ++ r) 0 0) 88 ≡ false)
  sum_first (term p) r = product_first p r
  sum_first (plus s p) r = rw (append_assoc (sum_bytes s) (43 ∷ product_bytes p) r) (sum_first s ((43 ∷ product_bytes p) ++ r))
  sum_first (minus s p) r = rw (append_assoc (sum_bytes s) (45 ∷ product_bytes p) r) (sum_first s ((45 ∷ product_bytes p) ++ r))

  product_first : (p : Product) (r : List ℕ) → (eqb (get_or (product_bytes p ++ r) 0 0) 91 ≡ false) × (eqb (get_or (product_bytes p ++ r) 0 0) 88 ≡ false)
  product_first (factor q) r = primary_first q r
  product_first (times p q) r = rw (append_assoc (product_bytes p) (42 ∷ primary_bytes q) r) (product_first p ((42 ∷ primary_bytes q) ++ r))

  primary_first : (q : Primary) (r : List ℕ) → (eqb (get_or (primary_bytes q ++ r) 0 0) 91 ≡ false) × (eqb (get_or (primary_bytes q ++ r) 0 0) 88 ≡ false)
  primary_first (number d ds) r = let h = d.small in (ne_eqb (digit_byte d) 91 (λ e. omega arith), ne_eqb (digit_byte d) 88 (λ e. omega arith))
  primary_first (group s) r = (refl, refl)

module _ (t : List ℕ) where
  shift : (n m : ℕ) (x : List ℕ) → n ≡ m → drop n t ≡ x → drop m t ≡ x
  shift n m x e h = ap (λ k. drop k t) (sym e) ∙ h

  cut_to : (n m b : ℕ) → n + 1 ≡ m → 0 < b → eqb (byte t n) b ≡ true → drop n t ≡ b ∷ drop m t
  cut_to n m b e h f = cut t n b h f ∙ ap (λ k. b ∷ drop k t) e

  pub cut_any : (n m : ℕ) → n + 1 ≡ m → 0 < byte t n → drop n t ≡ byte t n ∷ drop m t
  cut_any n m e h = cut_to n m (byte t n) e h (eq-eqb (byte t n) (byte t n) refl)

  -- ---- a byte that may stand there
  pub when_back : (r : Bool) (n b : ℕ) (x : List ℕ) → drop n t ≡ when r b ++ x → eqb (get_or x 0 0) b ≡ false → (eqb (byte t n) b ≡ r) × (drop (past t n b) t ≡ x)
  when_back true n b x h f = let e = eq-eqb (byte t n) b (front t n (b ∷ x) h) in (e, rw e (next t n b x h))
  when_back false n b x h f = let e : eqb (byte t n) b ≡ false = ap (λ c. eqb c b) (front t n x h) ∙ f in (e, rw e h)

  pub when_sound : (n b : ℕ) → 0 < b → drop n t ≡ when (eqb (byte t n) b) b ++ drop (past t n b) t
  when_sound n b h = go (eqb (byte t n) b) refl
    where
      go : (r : Bool) → eqb (byte t n) b ≡ r → drop n t ≡ when r b ++ drop (cond r (n + 1) n) t
      go true e = cut t n b h e
      go false e = refl

  -- ---- " W", a register, a space
  pub register_back : (p w : ℕ) (x : List ℕ) → w < 4 → drop p t ≡ 32 ∷ 87 ∷ (48 + w) ∷ 32 ∷ x → (register_good t p ≡ true) × (byte t (p + 2) ≡ 48 + w) × (drop (p + 4) t ≡ x)
  unfolding register_good
  register_back p w x l h =
      let h₁ : drop (p + 1) t ≡ 87 ∷ (48 + w) ∷ 32 ∷ x = next t p 32 _ h in
      let h₂ : drop (p + 2) t ≡ (48 + w) ∷ 32 ∷ x = shift (p + 1 + 1) (p + 2) _ (omega arith) (next t (p + 1) 87 _ h₁) in
      let h₃ : drop (p + 3) t ≡ 32 ∷ x = shift (p + 2 + 1) (p + 3) _ (omega arith) (next t (p + 2) (48 + w) _ h₂) in
      let h₄ : drop (p + 4) t ≡ x = shift (p + 3 + 1) (p + 4) _ (omega arith) (next t (p + 3) 32 _ h₃) in (
        rw (front t p _ h, front t (p + 1) _ h₁, front t (p + 2) _ h₂, front t (p + 3) _ h₃, le-leb 48 (48 + w) (omega arith), le-leb (48 + w) 51 (omega arith)),
        front t (p + 2) _ h₂,
        h₄,
      )

  pub register_sound : (p : ℕ) → register_good t p ≡ true
      → (drop p t ≡ 32 ∷ 87 ∷ byte t (p + 2) ∷ 32 ∷ drop (p + 4) t) × (48 ≤ byte t (p + 2)) × (byte t (p + 2) ≤ 51)
  unfolding register_good
  register_sound p e =
      let a = both _ (eqb (byte t (p + 3)) 32) e in
      let b = both _ (is_register (byte t (p + 2))) a.0 in
      let c = both (eqb (byte t p) 32) (eqb (byte t (p + 1)) 87) b.0 in
      let d = both (leb 48 (byte t (p + 2))) (leb (byte t (p + 2)) 51) b.1 in
      let l : 48 ≤ byte t (p + 2) = leb-true 48 (byte t (p + 2)) d.0 in
      let u : byte t (p + 2) ≤ 51 = leb-true (byte t (p + 2)) 51 d.1 in
      let c₀ : drop p t ≡ 32 ∷ drop (p + 1) t = cut t p 32 (omega arith) c.0 in
      let c₁ : drop (p + 1) t ≡ 87 ∷ drop (p + 2) t = cut_to (p + 1) (p + 2) 87 (omega arith) (omega arith) c.1 in
      let c₂ : drop (p + 2) t ≡ byte t (p + 2) ∷ drop (p + 3) t = cut_any (p + 2) (p + 3) (omega arith) (omega arith) in
      let c₃ : drop (p + 3) t ≡ 32 ∷ drop (p + 4) t = cut_to (p + 3) (p + 4) 32 (omega arith) (omega arith) a.1 in
      (c₀ ∙ ap (◌∷◌ 32) (c₁ ∙ ap (◌∷◌ 87) (c₂ ∙ ap (◌∷◌ (byte t (p + 2))) c₃)), l, u)

  -- ---- "X", an index, a comma; or none of them
  pub index_back : (x q : ℕ) (r : List ℕ) → x < 4 → drop q t ≡ index_bytes x ++ r → eqb (get_or r 0 0) 88 ≡ false
      → (index_good t q ≡ true) × (index_of t q ≡ x) × (drop (past_index t q) t ≡ r)
  unfolding index_good index_of past_index
  index_back zero q r l h f = let e : eqb (byte t q) 88 ≡ false = ap (λ c. eqb c 88) (front t q r h) ∙ f in rw e (refl, refl, h)
  index_back (suc n) q r l h f =
      let h₁ : drop (q + 1) t ≡ (48 + suc n) ∷ 44 ∷ r = next t q 88 _ h in
      let h₂ : drop (q + 2) t ≡ 44 ∷ r = shift (q + 1 + 1) (q + 2) _ (omega arith) (next t (q + 1) (48 + suc n) _ h₁) in
      let h₃ : drop (q + 3) t ≡ r = shift (q + 2 + 1) (q + 3) _ (omega arith) (next t (q + 2) 44 _ h₂) in
      rw (front t q _ h, front t (q + 1) _ h₁, front t (q + 2) _ h₂, le-leb 49 (48 + suc n) (omega arith), le-leb (48 + suc n) 51 (omega arith)) (refl, omega arith, h₃)

  pub index_sound : (q : ℕ) → index_good t q ≡ true → (drop q t ≡ index_bytes (index_of t q) ++ drop (past_index t q) t) × (index_of t q < 4)
  unfolding index_good index_of past_index
  index_sound q e = go (eqb (byte t q) 88) refl e
    where
      known : (n : ℕ) → 49 ≤ n → n ≤ 51 → 88 ∷ n ∷ 44 ∷ drop (q + 3) t ≡ index_bytes (n - 48) ++ drop (q + 3) t
      known n l u = at (n - 48) refl
        where
          at : (k : ℕ) → n - 48 ≡ k → 88 ∷ n ∷ 44 ∷ drop (q + 3) t ≡ index_bytes k ++ drop (q + 3) t
          at zero z = let no : ⊥ = omega arith in absurd no
          at (suc k) z = let v : n ≡ 48 + suc k = omega arith in ap (λ m. 88 ∷ m ∷ 44 ∷ drop (q + 3) t) v

      go : (r : Bool) → eqb (byte t q) 88 ≡ r → cond r (leb 49 (byte t (q + 1)) && leb (byte t (q + 1)) 51 && eqb (byte t (q + 2)) 44) true ≡ true
          → (drop q t ≡ index_bytes (cond r (byte t (q + 1) - 48) 0) ++ drop (cond r (q + 3) q) t) × (cond r (byte t (q + 1) - 48) 0 < 4)
      go true x g =
          let a = both _ (eqb (byte t (q + 2)) 44) g in
          let b = both (leb 49 (byte t (q + 1))) (leb (byte t (q + 1)) 51) a.0 in
          let l : 49 ≤ byte t (q + 1) = leb-true 49 (byte t (q + 1)) b.0 in
          let u : byte t (q + 1) ≤ 51 = leb-true (byte t (q + 1)) 51 b.1 in
          let c₀ : drop q t ≡ 88 ∷ drop (q + 1) t = cut t q 88 (omega arith) x in
          let c₁ : drop (q + 1) t ≡ byte t (q + 1) ∷ drop (q + 2) t = cut_any (q + 1) (q + 2) (omega arith) (omega arith) in
          let c₂ : drop (q + 2) t ≡ 44 ∷ drop (q + 3) t = cut_to (q + 2) (q + 3) 44 (omega arith) (omega arith) a.1 in
          (c₀ ∙ ap (◌∷◌ 88) (c₁ ∙ ap (◌∷◌ (byte t (q + 1))) c₂) ∙ known (byte t (q + 1)) l u, omega arith)
      go false x g = (refl, omega arith)
