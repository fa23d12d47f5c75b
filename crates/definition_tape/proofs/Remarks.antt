-- On an accepted tape the first record of a kind is whole; the span of the first remark is a part of the tape, and holds its text. Assumes nothing.
use Prim.Native.Nat.{ℕ, ◌-◌, ◌≤◌}
use mathlib.Core.Path.{◌≡◌, refl, sym}
use mathlib.Core.Bool.{Bool, true, false, cond}
use mathlib.Core.List.{List, [], ◌∷◌}
use native.Mathlib.Omega.{arith}
use native.Mathlib.Decide.{ℕ_discrete}
use borrow.Author.Tests.{eqb-true, eqb-false}
use lib.ListN.{length, take, drop}
use lib.Seq.{take-nil}
use lib.Dec.{eqb}
use Rattle.machine.specs.Verdicts.{Verdict, Accepted, Rejected}
use Rattle.definition_tape.specs.Remark.{Span, remark_reading}
use Rattle.definition_tape.specs.Layout.{length_of, kind_of, payload_of, rest_of, records_of, first_of, Whole}
use Rattle.definition_tape.specs.Remark.{judge_reading, no_span, span_at, span_by, remark_span, text_by, remark_text}
use Rattle.definition_tape.proofs.Records.{length_rest}
use Rattle.definition_tape.proofs.Firsts.{first_none, first_here, first_next, Suffix, suffix, part_is}
use Rattle.definition_tape.proofs.Judged.{Judged, last, more, reading_judged}

none_whole : (t : List ℕ) → length t ≤ 0 → Whole t
none_whole t h l = let no : ⊥ = omega arith in absurd no

pub whole_first : {n : ℕ} {after : Bool} {earlier : List (List ℕ)} {t : List ℕ} (k : ℕ) → Judged n after earlier t → Whole (first_of k (records_of t))
whole_first {n} {after} {earlier} {t} k (last g e h) = at (ℕ_discrete (kind_of t) k)
  where
    at : Dec (kind_of t ≡ k) → Whole (first_of k (records_of t))
    at (yes e) = let w = g.whole in rw (first_here k t (omega arith) e) (λ l. w)
    at (no e) =
        let w = g.whole in
        rw (first_next k t (omega arith) e, first_none k (rest_of t) (omega (arith, length_rest t)))
        (none_whole [] (omega arith))
whole_first {n} {after} {earlier} {t} k (more g e j) = at (ℕ_discrete (kind_of t) k) (whole_first k j)
  where
    at : Dec (kind_of t ≡ k) → Whole (first_of k (records_of (rest_of t))) → Whole (first_of k (records_of t))
    at (yes e) ih = let w = g.whole in rw (first_here k t (omega arith) e) (λ l. w)
    at (no e) ih = let w = g.whole in rw (first_next k t (omega arith) e) ih

pub record SpanPart (t x : List ℕ) (s : Span) : Type 0 where
  pub start : s.start ≤ s.end
  pub end : s.end ≤ length t
  pub text : take (s.end - s.start) (drop s.start t) ≡ x

no_payload : (m : List ℕ) → length m ≡ 0 → [] ≡ payload_of m
unfolding payload_of
no_payload [] e = sym (take-nil (length_of []))
no_payload (x ∷ m) e = let no : ⊥ = omega arith in absurd no

part_found : (t m : List ℕ) (b : Bool) → eqb (length m) 0 ≡ b → Suffix m t → Whole m → SpanPart t (payload_of m) (cond b (no_span 0) (span_at t m))
part_found t m true e s w = record { start = omega arith; end = omega arith; text = no_payload m (eqb-true (length m) 0 e) }
part_found t m false e s w =
    let n = eqb-false (length m) 0 e in
    let h = w (omega arith) in
    let l = s.size in
    record { start = omega arith; end = omega arith; text = part_is m t s }

part_by : (t m : List ℕ) (v : Verdict) → Suffix m t → (v ≡ Accepted → Whole m) → SpanPart t (text_by v m) (span_by v t m)
part_by t m (Rejected r) s w = record { start = omega arith; end = omega arith; text = refl }
part_by t m Accepted s w = part_found t m (eqb (length m) 0) refl s (w refl)

pub remark_part : (t : List ℕ) (n : ℕ) → SpanPart t (remark_text t n) (remark_span t n)
unfolding remark_text remark_span
remark_part t n = part_by t (first_of 4 (records_of t)) (judge_reading t n) (suffix 4 t) (λ e. whole_first 4 (reading_judged t n e))

pub reading_none : (t : List ℕ) (n r : ℕ) → remark_span t n ≡ no_span r → remark_reading t n ≡ record { found = false; refusal = r; text = [] }
reading_none t n r e =
    let p : SpanPart t (remark_text t n) (no_span r) = rw (sym e) (remark_part t n) in
    rw (sym p.text, e) refl

pub reading_some : (t : List ℕ) (n a b : ℕ) (x : List ℕ) → remark_span t n ≡ record { start = a; end = b; found = true; refusal = 0 } → x ≡ remark_text t n → remark_reading t n ≡ record { found = true; refusal = 0; text = x }
reading_some t n a b x e f = rw (f, e) refl
