-- The reader reads back what a tree is written with: what the actions give for it, and the place after it. Assumes nothing.
use Prim.Native.Nat.{ℕ, ◌+◌, ◌<◌}
use mathlib.Core.Path.{◌≡◌, refl, sym, ap, ap₂, ◌∙◌}
use mathlib.Core.Bool.{true, false}
use mathlib.Core.List.{List, [], ◌∷◌, ◌++◌, append_assoc}
use native.Mathlib.Omega.{arith}
use native.Mathlib.Nat.{add-zero}
use native.Mathlib.Numerals.{add-one}
use borrow.Author.Tests.{eqb-true}
use lib.ListN.{length, get_or, drop, length-append}
use lib.Seq.{drop-cons, drop-drop, drop-append_seam, get_or-drop}
use lib.Dec.{eqb}
use Rattle.definition_assembler.specs.Grammar.{Digit, Sum, Product, Primary, term, plus, minus, factor, times, number, group, digit_byte, digit_bytes, sum_bytes, product_bytes, primary_bytes}
use Rattle.definition_assembler.specs.Reader.{Actions, Left, Nothing, Plus, Minus, Times, Nonterminal, sum_at, product_at, primary_at, Parsed, parsed, is_digit, combined, number_at, closed, sum_on, product_on, sum_after, product_after, parse, of_sum, of_product, of_primary}
use Rattle.definition_assembler.proofs.Steps.{inside_eq, read_is}
use Rattle.definition_assembler.proofs.Digits.{digits_back, digit_no_group}

-- ---- what the text holds from a place on
module _ (t : List ℕ) where
  pub front : (at : ℕ) (x : List ℕ) → drop at t ≡ x → get_or t at 0 ≡ get_or x 0 0
  front at x h = ap (λ n. get_or t n 0) (sym (add-zero at)) ∙ sym (get_or-drop at t 0 0) ∙ ap (λ l. get_or l 0 0) h

  pub next : (at b : ℕ) (x : List ℕ) → drop at t ≡ b ∷ x → drop (at + 1) t ≡ x
  next at b x h = sym (drop-drop 1 at t) ∙ ap (drop 1) h

  pub passed : (at : ℕ) (l x : List ℕ) → drop at t ≡ l ++ x → drop (at + length l) t ≡ x
  passed at l x h = sym (drop-drop (length l) at t) ∙ ap (drop (length l)) h ∙ drop-append_seam l x

  pub cut : (n c : ℕ) → 0 < c → eqb (get_or t n 0) c ≡ true → drop n t ≡ c ∷ drop (n + 1) t
  cut n c h e = drop-cons t n 0 (inside_eq t n c h e) ∙ ap₂ ◌∷◌ (eqb-true (get_or t n 0) c e) (ap (λ k. drop k t) (sym (add-one n)))

  pub cut_after : (n c : ℕ) (l : List ℕ) → 0 < c → eqb (get_or t n 0) c ≡ true → l ++ drop n t ≡ l ++ (c ∷ []) ++ drop (n + 1) t
  cut_after n c l h e = ap (◌++◌ l) (cut n c h e) ∙ sym (append_assoc l (c ∷ []) (drop (n + 1) t))

pub far : (at b : ℕ) (l m : List ℕ) → at + length l + 1 + length m ≡ at + length (l ++ (b ∷ m))
far at b l m = rw (length-append l (b ∷ m)) (omega arith)

-- a byte after which a sum has ended
abbrev pub Stops : ℕ → Type 0
Stops b = (is_digit b ≡ false) × (eqb b 42 ≡ false) × (eqb b 43 ≡ false) × (eqb b 45 ≡ false)

module _ {A : Type 0} (M : Actions A) (t : List ℕ) where
  abbrev pub R : Nonterminal A → Parsed A
  R = λ j. parse M t j

  pub plus_on : (v : A) (n : ℕ) → get_or t n 0 ≡ 43 → sum_on M t R v n ≡ R (sum_at (n + 1) (Plus v))
  plus_on v n e = rw e

  pub minus_on : (v : A) (n : ℕ) → get_or t n 0 ≡ 45 → sum_on M t R v n ≡ R (sum_at (n + 1) (Minus v))
  minus_on v n e = rw e

  pub times_on : (v : A) (n : ℕ) → get_or t n 0 ≡ 42 → product_on M t R v n ≡ R (product_at (n + 1) (Times v))
  times_on v n e = rw e

  pub product_end : (v : A) (n : ℕ) → eqb (get_or t n 0) 42 ≡ false → product_on M t R v n ≡ parsed v n
  product_end v n e = rw e

  pub sum_end : (v : A) (n : ℕ) → eqb (get_or t n 0) 43 ≡ false → eqb (get_or t n 0) 45 ≡ false → sum_on M t R v n ≡ parsed v n
  sum_end v n e d = rw (e, d)

  closed_end : (v : A) (n : ℕ) → get_or t n 0 ≡ 41 → closed M t (sum_on M t R v n) ≡ parsed (M.of_group v) (n + 1)
  closed_end v n e = rw e (rw e)

  sum_part : (at n : ℕ) (b : Left A) (v : A) → R (product_at at Nothing) ≡ product_on M t R v n → eqb (get_or t n 0) 42 ≡ false → R (sum_at at b) ≡ sum_on M t R (combined M b v) n
  sum_part at n b v h e = read_is M t (sum_at at b) ∙ ap (sum_after M t R b) (h ∙ product_end v n e)

  product_part : (at n : ℕ) (b : Left A) (v : A) → R (primary_at at) ≡ parsed v n → R (product_at at b) ≡ product_on M t R (combined M b v) n
  product_part at n b v h = read_is M t (product_at at b) ∙ ap (product_after M t R b) h

  number_read : (d : Digit) (ds : List Digit) (at : ℕ) (r : List ℕ) → drop at t ≡ digit_byte d ∷ (digit_bytes ds ++ r) → is_digit (get_or r 0 0) ≡ false
      → R (primary_at at) ≡ parsed (M.of_number (digit_byte d) (digit_bytes ds)) (at + length (digit_byte d ∷ digit_bytes ds))
  unfolding digit_bytes
  number_read d ds at r h nd =
      read_is M t (primary_at at)
      ∙ rw (front t at _ h, digit_no_group d, h) (ap (λ l. number_at M l at) (digits_back (d ∷ ds) r nd))

  mutual
    unfolding sum_bytes of_sum

    pub sum_read : (s : Sum) (at : ℕ) (r : List ℕ) → drop at t ≡ sum_bytes s ++ r → is_digit (get_or r 0 0) ≡ false → eqb (get_or r 0 0) 42 ≡ false
        → R (sum_at at Nothing) ≡ sum_on M t R (of_sum M s) (at + length (sum_bytes s))
    sum_read (term p) at r h nd nt =
        sum_part at (at + length (product_bytes p)) Nothing (of_product M p) (product_read p at r h nd) (ap (λ b. eqb b 42) (front t _ r (passed t at (product_bytes p) r h)) ∙ nt)
    sum_read (plus s p) at r h nd nt =
        let k = at + length (sum_bytes s) in
        let h₁ = h ∙ append_assoc (sum_bytes s) (43 ∷ product_bytes p) r in
        let here = passed t at (sum_bytes s) _ h₁ in
        let h₂ = next t k 43 _ here in
        sum_read s at _ h₁ refl refl
        ∙ plus_on (of_sum M s) k (front t k _ here)
        ∙ sum_part (k + 1) (k + 1 + length (product_bytes p)) (Plus (of_sum M s)) (of_product M p) (product_read p (k + 1) r h₂ nd)
        (ap (λ b. eqb b 42) (front t _ r (passed t (k + 1) (product_bytes p) r h₂)) ∙ nt)
        ∙ ap (sum_on M t R (M.of_plus (of_sum M s) (of_product M p))) (far at 43 (sum_bytes s) (product_bytes p))
    sum_read (minus s p) at r h nd nt =
        let k = at + length (sum_bytes s) in
        let h₁ = h ∙ append_assoc (sum_bytes s) (45 ∷ product_bytes p) r in
        let here = passed t at (sum_bytes s) _ h₁ in
        let h₂ = next t k 45 _ here in
        sum_read s at _ h₁ refl refl
        ∙ minus_on (of_sum M s) k (front t k _ here)
        ∙ sum_part (k + 1) (k + 1 + length (product_bytes p)) (Minus (of_sum M s)) (of_product M p) (product_read p (k + 1) r h₂ nd)
        (ap (λ b. eqb b 42) (front t _ r (passed t (k + 1) (product_bytes p) r h₂)) ∙ nt)
        ∙ ap (sum_on M t R (M.of_minus (of_sum M s) (of_product M p))) (far at 45 (sum_bytes s) (product_bytes p))

    pub product_read : (p : Product) (at : ℕ) (r : List ℕ) → drop at t ≡ product_bytes p ++ r → is_digit (get_or r 0 0) ≡ false
        → R (product_at at Nothing) ≡ product_on M t R (of_product M p) (at + length (product_bytes p))
    product_read (factor q) at r h nd = product_part at (at + length (primary_bytes q)) Nothing (of_primary M q) (primary_read q at r h nd)
    product_read (times p q) at r h nd =
        let k = at + length (product_bytes p) in
        let h₁ = h ∙ append_assoc (product_bytes p) (42 ∷ primary_bytes q) r in
        let here = passed t at (product_bytes p) _ h₁ in
        let h₂ = next t k 42 _ here in
        product_read p at _ h₁ refl
        ∙ times_on (of_product M p) k (front t k _ here)
        ∙ product_part (k + 1) (k + 1 + length (primary_bytes q)) (Times (of_product M p)) (of_primary M q) (primary_read q (k + 1) r h₂ nd)
        ∙ ap (product_on M t R (M.of_times (of_product M p) (of_primary M q))) (far at 42 (product_bytes p) (primary_bytes q))

    pub primary_read : (q : Primary) (at : ℕ) (r : List ℕ) → drop at t ≡ primary_bytes q ++ r → is_digit (get_or r 0 0) ≡ false
        → R (primary_at at) ≡ parsed (of_primary M q) (at + length (primary_bytes q))
    primary_read (number d ds) at r h nd = number_read d ds at r h nd
    primary_read (group s) at r h nd =
        let k = at + 1 + length (sum_bytes s) in
        let h₁ = next t at 40 _ h ∙ append_assoc (sum_bytes s) (41 ∷ []) r in
        let here = passed t (at + 1) (sum_bytes s) _ h₁ in
        read_is M t (primary_at at)
        ∙ rw (front t at _ h) (ap (closed M t) (sum_read s (at + 1) _ h₁ refl refl))
        ∙ closed_end (of_sum M s) k (front t k _ here)
        ∙ ap (parsed (M.of_group (of_sum M s))) (let e = length-append (sum_bytes s) (41 ∷ []) in omega arith)

  -- ---- up to a byte that goes on with no sum
  pub read_back : (s : Sum) (at : ℕ) (r : List ℕ) → drop at t ≡ sum_bytes s ++ r → Stops (get_or r 0 0) → R (sum_at at Nothing) ≡ parsed (of_sum M s) (at + length (sum_bytes s))
  read_back s at r h z =
      let e = front t _ r (passed t at (sum_bytes s) r h) in
      sum_read s at r h z.0 z.1 ∙ sum_end (of_sum M s) (at + length (sum_bytes s)) (ap (λ b. eqb b 43) e ∙ z.2) (ap (λ b. eqb b 45) e ∙ z.3)
