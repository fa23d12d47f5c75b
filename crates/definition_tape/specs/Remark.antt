-- The first remark of a tape that loads into a store of n cells (document 01, "Load tape").
-- Assumes nothing.
use Rattle.std.specs.Prelude.{ℕ, ◌+◌, ◌-◌, Bool, true, false, cond, List, [], length, eqb, Option, Some, None, Result, Ok, Err}
use denote.Ref.{Bor}
use Rattle.std.specs.declared.ops.Range.{Range}
use Rattle.machine.specs.Answers.{refusal_number}
use Rattle.machine.specs.declared.Refusal.{Refusal}
use Rattle.machine.specs.declared.Refusal.TheVariants.{StoreSize}
use Rattle.machine.specs.Verdicts.{Verdict, Accepted, Rejected}
use Rattle.acceptance.specs.Accept.{size_fits}
use Rattle.definition_tape.specs.Layout.{length_of, payload_of, records_of, first_of}
use Rattle.definition_tape.specs.Judge.{judge_tape}

-- 1 on the number of cells, then the tape (docs/DECISIONS.md E5)
unfoldable pub judge_reading : List ℕ → ℕ → Verdict
judge_reading t n = cond (size_fits n) (judge_tape n t) (Rejected StoreSize)

-- where a remark's text starts and ends on the tape, whether there is one, and the refusal's number, 0 for none
pub record Span : Type 0 where
  pub start : ℕ
  pub end : ℕ
  pub found : Bool
  pub refusal : ℕ

abbrev pub no_span : ℕ → Span
no_span r = record { start = 0; end = 0; found = false; refusal = r }

-- where the payload of the record m of the tape t starts and ends
abbrev pub span_at : List ℕ → List ℕ → Span
span_at t m = record { start = length t - length m + 6; end = length t - length m + 6 + length_of m; found = true; refusal = 0 }

abbrev pub span_by : Verdict → List ℕ → List ℕ → Span
span_by (Rejected r) t m = no_span (refusal_number r)
span_by Accepted t m = cond (eqb (length m) 0) (no_span 0) (span_at t m)

-- start and end of the first remark's text, whether there is one, and the refusal's number, 0 for none
unfoldable pub remark_span : List ℕ → ℕ → Span
remark_span t n = span_by (judge_reading t n) t (first_of 4 (records_of t))

-- what a reader hands back: the span as a range of places, none, or the refusal
abbrev pub span_read : Result (Option (Range ℕ)) Refusal → Span
span_read (Ok (Some x)) = record { start = x.start; end = x.end; found = true; refusal = 0 }
span_read (Ok None) = no_span 0
span_read (Err q) = no_span (refusal_number q)

-- the text, empty for none and on a refusal
abbrev pub text_by : Verdict → List ℕ → List ℕ
text_by (Rejected r) m = []
text_by Accepted m = payload_of m

unfoldable pub remark_text : List ℕ → ℕ → List ℕ
remark_text t n = text_by (judge_reading t n) (first_of 4 (records_of t))

-- what the reader says of a tape: whether there is a remark, the refusal's number, 0 for none, and the text
pub record Reading : Type 0 where
  pub found : Bool
  pub refusal : ℕ
  pub text : List ℕ

abbrev pub remark_reading : List ℕ → ℕ → Reading
remark_reading t n = record { found = (remark_span t n).found; refusal = (remark_span t n).refusal; text = remark_text t n }

-- what a reader hands back: the text, none, or the refusal
abbrev pub text_read : Result (Option (Bor (List ℕ))) Refusal → Reading
text_read (Ok (Some x)) = record { found = true; refusal = 0; text = x.now }
text_read (Ok None) = record { found = false; refusal = 0; text = [] }
text_read (Err q) = record { found = false; refusal = refusal_number q; text = [] }

-- the place in memory (block, offset) so many bytes after a place
abbrev pub place_from : ℕ × ℕ → ℕ → ℕ × ℕ
place_from p n = (p.0, n + p.1)
