-- What is proved of the assembler besides the contracts, in the words of document 02, E7. Assumes nothing.
use Rattle.std.specs.Prelude.{ℕ, ◌≤◌, ◌<◌, ◌≡◌, true, false, ◌&&◌, ◌⊎◌, List, [], ◌∷◌, length}
use Rattle.machine.specs.declared.Instruction.{Instruction}
use Rattle.machine.specs.declared.Refusal.TheVariants.{LineGrammar, LineDepth, LineValue}
use Rattle.machine.specs.Format.{instruction_fields}
use Rattle.definition_assembler.specs.Answers.{Refused, Word}
use Rattle.definition_assembler.specs.Grammar.{sum_value, sum_in_range, sum_depth}
use Rattle.definition_assembler.specs.Line.{Line, line_bytes, last_in_range, displacement, fields}
use Rattle.definition_assembler.specs.Assembling.{assembling}

abbrev pub Exactly : Type 0 → Type 0 → Type 0
Exactly A B = (A → B) × (B → A)

-- no line has two readings
abbrev pub Unambiguous : Type 0
Unambiguous = (l m : Line) → line_bytes l ≡ line_bytes m → l ≡ m

-- 19: a line over 255 characters or outside the grammar taken without its depth limit
abbrev pub OutsideGrammar : Type 0
OutsideGrammar =
    (t : List ℕ)
    → Exactly (assembling t ≡ Refused LineGrammar) ((255 < length t) ⊎ ((l : Line) → t ≡ line_bytes l → ⊥))

-- t is the line l, of at most 255 characters
abbrev pub Reads : List ℕ → Line → Type 0
Reads t l = (t ≡ line_bytes l) × (length t ≤ 255)

-- 20: a depth over 16, after 19
abbrev pub TooDeep : Type 0
TooDeep = (t : List ℕ) → Exactly (assembling t ≡ Refused LineDepth) ((l : Line) × Reads t l × (16 < sum_depth l.address))

-- 21: a value out of range, last
abbrev pub OutOfRange : Type 0
OutOfRange =
    (t : List ℕ)
    → Exactly (assembling t ≡ Refused LineValue)
    ((l : Line) × Reads t l × (sum_depth l.address ≤ 16) × (sum_in_range l.address && last_in_range (sum_value l.address) ≡ false))

-- the fields of a line's instruction
abbrev pub line_fields : Line → Instruction
line_fields l = fields l.code l.w l.relative l.indirect l.x (displacement (sum_value l.address))

-- any other line has its word, which is taken apart into the line's fields
abbrev pub LineWord : Type 0
LineWord =
    (t : List ℕ) (v : ℕ)
    → Exactly (assembling t ≡ Word v)
    ((l : Line) × Reads t l × (sum_depth l.address ≤ 16) × (sum_in_range l.address && last_in_range (sum_value l.address) ≡ true) × (instruction_fields v ≡ line_fields l))

-- every word with an assigned code is the word of a line
abbrev pub EveryWord : Type 0
EveryWord = (v : ℕ) → (instruction_fields v).code < 58 → (l : Line) × (assembling (line_bytes l) ≡ Word v)

-- a line is written in characters
unfoldable pub Characters : List ℕ → Type 0
Characters [] = Unit {0}
Characters (b ∷ bs) = (b < 128) × Characters bs

abbrev pub LineCharacters : Type 0
LineCharacters = (l : Line) → Characters (line_bytes l)
