-- A listing is its first line and the lines behind it. Assumes nothing.
use Prim.Native.Nat.{ℕ, suc, ◌+◌, ◌-◌, ◌≤◌, ◌<◌, min}
use mathlib.Core.Path.{◌≡◌, refl, sym, ap, ◌∙◌}
use mathlib.Core.Bool.{Bool, true, false, cond}
use mathlib.Core.List.{List, [], ◌∷◌}
use native.Mathlib.Omega.{arith}
use native.Mathlib.Numerals.{one-add}
use borrow.Author.Tests.{ltb-true, ltb-false}
use lib.ListN.{length, take, drop, length-drop, drop_of_length-le}
use lib.Seq.{take-length}
use lib.Dec.{ltb, eqb}
use Rattle.std.specs.Prelude.{Some, None}
use Rattle.std.specs.List.{position, position_or_len}
use Rattle.std.specs.Option.{unwrap_or}
use Rattle.std.proofs.lemmas.List.Recursion.{is_position_or_len}
use Rattle.listing.specs.Lines.{to_newline, longer, lines}

to_newline_is : (t : List ℕ) → to_newline t ≡ position_or_len (λ b. eqb b 10) t
unfolding to_newline
to_newline_is = is_position_or_len to_newline (λ b. eqb b 10) refl (λ b bs. refl)

pub newline_within : (t : List ℕ) → to_newline t ≤ length t
unfolding to_newline
newline_within [] = omega arith
newline_within (b ∷ bs) = go (eqb b 10) (newline_within bs)
  where
    go : (r : Bool) → to_newline bs ≤ length bs → cond r 0 (1 + to_newline bs) ≤ suc (length bs)
    go true h = omega arith
    go false h = omega arith

pub newline_found : (t : List ℕ) → unwrap_or (position (λ b. eqb b 10) t) (length t) ≡ to_newline t
newline_found t = go (position_or_len (λ b. eqb b 10) t) (sym (to_newline_is t)) (newline_within t)
  where
    go : (n : ℕ) → n ≡ to_newline t → to_newline t ≤ length t → unwrap_or (cond (ltb n (length t)) (Some n) None) (length t) ≡ to_newline t
    go n e l = at (ltb n (length t)) refl
      where
        at : (r : Bool) → ltb n (length t) ≡ r → unwrap_or (cond r (Some n) None) (length t) ≡ to_newline t
        at true h = e
        at false h = let k = ltb-false n (length t) h in omega arith

-- the first line, and the rest behind its newline
longer_cut : (b n : ℕ) (t : List ℕ) (l : List (List ℕ)) → longer b (take n t ∷ l) ≡ take (1 + n) (b ∷ t) ∷ l
longer_cut b n t l = rw one-add

pub cut : (b : ℕ) (t : List ℕ) → lines (b ∷ t) ≡ take (to_newline (b ∷ t)) (b ∷ t) ∷ lines (drop (to_newline (b ∷ t) + 1) (b ∷ t))
unfolding lines to_newline
cut b [] = at (eqb b 10)
  where
    at : (r : Bool) → cond r ([] ∷ []) ((b ∷ []) ∷ []) ≡ take (cond r 0 1) (b ∷ []) ∷ lines (drop (cond r 0 1 + 1) (b ∷ []))
    at true = refl
    at false = refl
cut b (d ∷ t) = at (eqb b 10) (to_newline (d ∷ t)) (cut d t)
  where
    at : (r : Bool) (n : ℕ) → lines (d ∷ t) ≡ take n (d ∷ t) ∷ lines (drop (n + 1) (d ∷ t))
        → cond r ([] ∷ lines (d ∷ t)) (longer b (lines (d ∷ t))) ≡ take (cond r 0 (1 + n)) (b ∷ d ∷ t) ∷ lines (drop (cond r 0 (1 + n) + 1) (b ∷ d ∷ t))
    at true n h = refl
    at false n h =
        ap (longer b) h ∙ longer_cut b n (d ∷ t) _
        ∙ ap (λ k. take (1 + n) (b ∷ d ∷ t) ∷ lines (drop k (b ∷ d ∷ t))) (let e : suc (n + 1) ≡ 1 + n + 1 = omega arith in e)

rest_is : (k : ℕ) (t : List ℕ) → take (length t - k) (drop k t) ≡ drop k t
rest_is k t = ap (λ n. take n (drop k t)) (sym (length-drop k t)) ∙ take-length (drop k t)

pub to_newline_from : (t : List ℕ) (k : ℕ) → to_newline (take (length t - k) (drop k t)) ≡ to_newline (drop k t)
to_newline_from t k = ap to_newline (rest_is k t)

drop_at_most : (n : ℕ) (t : List ℕ) → drop n t ≡ drop (min n (length t)) t
drop_at_most n t = at (ltb (length t) n) refl
  where
    at : (r : Bool) → ltb (length t) n ≡ r → drop n t ≡ drop (min n (length t)) t
    at true h = let k = ltb-true (length t) n h in drop_of_length-le t (omega arith) ∙ sym (drop_of_length-le t (omega arith))
    at false h = let k = ltb-false (length t) n h in ap (λ m. drop m t) (omega arith)

pub no_lines : (t : List ℕ) → length t ≡ 0 → lines t ≡ []
unfolding lines
no_lines [] h = refl
no_lines (b ∷ t) h = absurd (omega arith)

-- e is where the first line ends, k where the rest starts
pub next_line : (t : List ℕ) (e k : ℕ) → 0 < length t → e ≡ to_newline t → k ≡ min (e + 1) (length t) → lines t ≡ take e t ∷ lines (take (length t - k) (drop k t))
next_line [] e k h p q = absurd (omega arith)
next_line (b ∷ t) e k h p q = rw p (cut b t ∙ ap (λ l. take (to_newline (b ∷ t)) (b ∷ t) ∷ lines l) (same (newline_within (b ∷ t)) ∙ sym (rest_is k (b ∷ t))))
  where
    same : to_newline (b ∷ t) ≤ length (b ∷ t) → drop (to_newline (b ∷ t) + 1) (b ∷ t) ≡ drop k (b ∷ t)
    same l = rw (q, p) (drop_at_most (to_newline (b ∷ t) + 1) (b ∷ t))
