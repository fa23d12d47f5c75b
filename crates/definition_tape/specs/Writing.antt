-- Who is refused a tape, for what, and what the buffer holds after a call (document 02, E2 and E6).
-- Assumes nothing.
use Rattle.std.specs.Prelude.{ℕ, ◌≤◌, ◌≡◌, Bool, true, false, cond, List, ◌++◌, length, drop, leb, Option as Given, Some, None, Result, Ok, Err}
use denote.Ref.{Bor}
use Rattle.std.proofs.Math.Option.{Option, none, some}
use Rattle.machine.specs.declared.Record.{Record}
use Rattle.machine.specs.declared.Refusal.{Refusal}
use Rattle.machine.specs.declared.Refusal.TheVariants.{RemarkLength, WrittenLength, BufferLength}
use Rattle.machine.specs.Verdicts.{Verdict, Accepted, Rejected}
use Rattle.acceptance.specs.Accept.{judge_machine}
use Rattle.definition_tape.specs.Load.{judge_then}
use Rattle.definition_tape.specs.Judge.{most_bytes}
use Rattle.definition_tape.specs.Bytes.{tape_of}

-- the remark that a flag and a text stand for: none where the flag is no, else the text
abbrev pub remark_of : Bool → List ℕ → Option (List ℕ)
remark_of true r = some r
remark_of false r = none

-- the remark that a writer is lent
abbrev pub remark_lent : Given (Bor (List ℕ)) → Option (List ℕ)
remark_lent (Some r) = some r.now
remark_lent None = none

-- 14: a remark over 255 bytes
unfoldable pub remark_fits : Option (List ℕ) → Bool
remark_fits none = true
remark_fits (some r) = leb (length r) 255

-- a machine and remark that have a tape: 1, 2, 3, 18, 14 and 15 passed
pub record Writable (s : List ℕ) (c : Record) (m : Option (List ℕ)) : Type 0 where
  pub machine : judge_machine s c ≡ Accepted
  pub remark : remark_fits m ≡ true
  pub size : length (tape_of s c m) ≤ most_bytes

-- 15: a tape over 65,536 bytes; 16: a buffer of n bytes that is shorter than the tape of l bytes
unfoldable pub judge_size : ℕ → ℕ → Verdict
judge_size l n = cond (leb l most_bytes) (cond (leb l n) Accepted (Rejected BufferLength)) (Rejected WrittenLength)

-- 14, 15, 16
unfoldable pub judge_parts : List ℕ → Record → Option (List ℕ) → ℕ → Verdict
judge_parts s c m n = cond (remark_fits m) (judge_size (length (tape_of s c m)) n) (Rejected RemarkLength)

-- for a buffer of n bytes: 1, 2, 3, 18, then 14, 15, 16
unfoldable pub judge_writing : List ℕ → Record → Option (List ℕ) → ℕ → Verdict
judge_writing s c m n = judge_then (judge_machine s c) (judge_parts s c m n)

-- how many bytes the tape of a machine has, 0 on a refusal, and the verdict
pub record Written : Type 0 where
  pub length : ℕ
  pub verdict : Verdict

pub record Writing : Type 0 where
  pub bytes : List ℕ
  pub answer : Written

-- refused: the length is 0
abbrev pub refused_writing : Refusal → Written
refused_writing q = record { length = 0; verdict = Rejected q }

-- what a writer hands back: the length, or the refusal
abbrev pub written : Result ℕ Refusal → Written
written (Ok n) = record { length = n; verdict = Accepted }
written (Err q) = refused_writing q

-- the tape t into a buffer: its first bytes are the tape, the others stay; refused, all stay
abbrev pub writing_by : Verdict → List ℕ → List ℕ → Writing
writing_by Accepted t out = record { bytes = t ++ drop (length t) out; answer = record { length = length t; verdict = Accepted } }
writing_by (Rejected r) t out = record { bytes = out; answer = refused_writing r }

-- the machine with the cells s and the control record c and its remark, written into a buffer
unfoldable pub writing : List ℕ → Record → Option (List ℕ) → List ℕ → Writing
writing s c m out = writing_by (judge_writing s c m (length out)) (tape_of s c m) out
