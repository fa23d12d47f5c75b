-- The kinds of records by name. The definition speaks of their numbers (Layout.antt, `kind_of`; Judge.antt, `kind_known`).
-- Assumes nothing.
use Rattle.std.specs.Prelude.{ℕ, ◌≡◌, false, Result, MatchResult}
use Rattle.machine.specs.declared.Refusal.{Refusal}
use Rattle.machine.specs.declared.Refusal.TheVariants.{RecordKind as UnknownKind}
use Rattle.definition_tape.specs.Judge.{kind_known}
use Rattle.tape_records.specs.declared.RecordKind.{RecordKind}
use Rattle.tape_records.specs.declared.RecordKind.TheVariants.{Block, Control, End, Remark}

-- the number that stands for a kind on a tape
abbrev pub kind_number : RecordKind → ℕ
kind_number Block = 1
kind_number Control = 2
kind_number End = 3
kind_number Remark = 4

-- the result is the kind with this number, or 7 where no kind has it
abbrev pub IsKind : ℕ → Result RecordKind Refusal → Type 0
IsKind n r = MatchResult r (λ k. kind_number k ≡ n) (λ q. (q ≡ UnknownKind) × (kind_known n ≡ false))
