-- The kinds by name have the numbers that the definition knows. Assumes nothing.
use mathlib.Core.Path.{◌≡◌, refl}
use mathlib.Core.Bool.{true}
use Rattle.definition_tape.specs.Judge.{kind_known}
use Rattle.tape_records.specs.declared.RecordKind.{RecordKind}
use Rattle.tape_records.specs.declared.RecordKind.TheVariants.{Block, Control, End, Remark}
use Rattle.tape_records.specs.Kinds.{kind_number}

pub known : (k : RecordKind) → kind_known (kind_number k) ≡ true
unfolding kind_known
known Block = refl
known Control = refl
known End = refl
known Remark = refl
