-- What is proved of the written tapes besides the contracts (document 02, E2 and E6). Each has its proof under its name, as `round_trip`.
-- Assumes nothing.
use Rattle.std.specs.Prelude.{ℕ, zero, suc, ◌+◌, ◌*◌, ◌≤◌, ◌<◌, ◌≡◌, true, false, cond, List, [], ◌∷◌, ◌++◌, map, length, get_or, take, drop, eqb}
use Rattle.std.proofs.Math.Option.{Option, none, some}
use Rattle.machine.specs.declared.Record.{Record}
use Rattle.machine.specs.Answers.{refusal_number}
use Rattle.machine.specs.declared.Refusal.{Refusal}
use Rattle.machine.specs.Verdicts.{Accepted, Rejected}
use Rattle.definition_tape.specs.Layout.{number_at, kind_of, payload_of, records_of, first_cell, block_cells, control_record_of}
use Rattle.definition_tape.specs.Judge.{judge_tape}
use Rattle.definition_tape.specs.Load.{loading}
use Rattle.definition_tape.specs.Remark.{remark_span, remark_text}
use Rattle.acceptance.specs.Accept.{cells_fit, control_fits}
use Rattle.definition_tape.specs.Blocks.{Block, Named, store_blocks}
use Rattle.definition_tape.specs.Bytes.{bytes4, control_bytes, TimerWidths, tape_of}
use Rattle.definition_tape.specs.Writing.{remark_of, Writable, judge_writing, writing}
use Rattle.tape_promises.specs.Grammar.{TimerRules}
use Rattle.tape_promises.specs.Numbers.{Test, Passed, SizeRefused}

-- how many cells are not zero
unfoldable pub occupied : List ℕ → ℕ
occupied [] = 0
occupied (zero ∷ s) = occupied s
occupied (suc x ∷ s) = 1 + occupied s

-- ---- what lists of blocks are compared by

-- the blocks name every cell that is not zero, and no other
unfoldable pub Covers : List ℕ → List Block → Type 0
Covers s bs = (i : ℕ) → (0 < get_or s i 0 → Named i bs) × (Named i bs → 0 < get_or s i 0)

-- each block has a cell or more and begins at the cell i or later; one cell or more stands between it and the next
unfoldable pub Rising : ℕ → List Block → Type 0
Rising i [] = Unit {0}
Rising i (b ∷ bs) = (i ≤ b.first) × (0 < length b.cells) × Rising (b.first + length b.cells + 1) bs

-- each block holds the store's cells
unfoldable pub HoldsCells : List ℕ → List Block → Type 0
HoldsCells s [] = Unit {0}
HoldsCells s (b ∷ bs) = ((j : ℕ) → j < length b.cells → get_or b.cells j 0 ≡ get_or s (b.first + j) 0) × HoldsCells s bs

-- every number is one of eight bits
unfoldable pub AllBytes : List ℕ → Type 0
AllBytes [] = Unit {0}
AllBytes (x ∷ t) = (x < 256) × AllBytes t

-- ---- what a record holds, as the layout reads it

pub data Content : Type 0 where
  block : Block → Content
  control : Record → Content
  end : Content
  remark : List ℕ → Content

-- the record at the start of t, by its kind: the judge lets none but 1 to 4 pass
unfoldable pub content_of : List ℕ → Content
content_of t =
    cond (eqb (kind_of t) 1) (block (record { first = first_cell (payload_of t); cells = block_cells (payload_of t) }))
    (cond (eqb (kind_of t) 2) (control (control_record_of (payload_of t)))
    (cond (eqb (kind_of t) 3) end (remark (payload_of t))))

-- no record for no remark
abbrev pub remark_contents : Option (List ℕ) → List Content
remark_contents none = []
remark_contents (some r) = remark r ∷ []

-- ---- the claims

-- four bytes are read back as the number they were written from
abbrev pub ReadNumbers : Type 0
ReadNumbers = (n : ℕ) → n < 4294967296 → number_at (bytes4 n) 0 ≡ n

-- a control record within its widths is read back, the timer's fields included, with a period of 0 too
abbrev pub ReadControl : Type 0
ReadControl = (c : Record) → control_fits c.registers ≡ true → TimerWidths c.timer → control_record_of (control_bytes c) ≡ c

-- the tape's records: the remark first if given, then the blocks, then control and end
abbrev pub TapeRecords : Type 0
TapeRecords =
    (s : List ℕ) (c : Record) (m : Option (List ℕ)) → Writable s c m → TimerWidths c.timer
    → map content_of (records_of (tape_of s c m)) ≡ remark_contents m ++ (map block (store_blocks s) ++ (control c ∷ end ∷ []))

-- the tape is a row of bytes, where the remark is
abbrev pub TapeBytes : Type 0
TapeBytes = (s : List ℕ) (c : Record) (m : Option (List ℕ)) → ((r : List ℕ) → m ≡ some r → AllBytes r) → AllBytes (tape_of s c m)

-- the bytes of a remark: its record has a header of six
abbrev pub remark_length : Option (List ℕ) → ℕ
remark_length none = 0
remark_length (some r) = 6 + length r

-- the bytes of the tape: the remark's, 10 for each block, 4 for each cell that is not zero, 39 for the control record, 6 for the end
abbrev pub tape_size : List ℕ → Option (List ℕ) → ℕ
tape_size s m = remark_length m + (10 * length (store_blocks s) + 4 * occupied s) + 39 + 6

abbrev pub WrittenTapeLength : Type 0
WrittenTapeLength = (s : List ℕ) (c : Record) (m : Option (List ℕ)) → length (tape_of s c m) ≡ tape_size s m

-- the judge accepts the tape for a store of that size
abbrev pub GoodTape : Type 0
GoodTape = (s : List ℕ) (c : Record) (m : Option (List ℕ)) → Writable s c m → TimerWidths c.timer → judge_tape (length s) (tape_of s c m) ≡ Accepted

-- loading the tape into any store of equal size, whatever it held that 2 lets pass, gives the same machine, elapsed, period, phase and line
-- included, and the reader gives the same remark, or none
abbrev pub RoundTrip : Type 0
RoundTrip =
    (s u : List ℕ) (c d : Record) (m : Option (List ℕ)) → Writable s c m → TimerWidths c.timer → length u ≡ length s → cells_fit u ≡ true
    → (loading (tape_of s c m) u d ≡ record { cells = s; state = record { control = c; verdict = Accepted } })
    × (remark_of (remark_span (tape_of s c m) (length s)).found (remark_text (tape_of s c m) (length s)) ≡ m)

-- two machines of one size and their remarks have equal tapes exactly when they are equal
abbrev pub EqualTapes : Type 0
EqualTapes =
    (s₁ s₂ : List ℕ) (c₁ c₂ : Record) (m₁ m₂ : Option (List ℕ)) → length s₁ ≡ length s₂ → Writable s₁ c₁ m₁ → TimerWidths c₁.timer → Writable s₂ c₂ m₂
    → TimerWidths c₂.timer
    → (tape_of s₁ c₁ m₁ ≡ tape_of s₂ c₂ m₂ → (s₁ ≡ s₂) × (c₁ ≡ c₂) × (m₁ ≡ m₂))
    × ((s₁ ≡ s₂) × (c₁ ≡ c₂) × (m₁ ≡ m₂) → tape_of s₁ c₁ m₁ ≡ tape_of s₂ c₂ m₂)

-- the blocks name every cell that is not zero and no other, and every list of blocks that does so has at least as many
abbrev pub FewestBlocks : Type 0
FewestBlocks = (s : List ℕ) → Covers s (store_blocks s) × ((bs : List Block) → Covers s bs → length (store_blocks s) ≤ length bs)

-- they rise, do not touch, and hold the store's cells
abbrev pub RisingBlocks : Type 0
RisingBlocks = (s : List ℕ) → Rising 0 (store_blocks s) × HoldsCells s (store_blocks s)

-- a tape is written exactly if the machine and its remark have one and it goes into the buffer
abbrev pub WrittenTapes : Type 0
WrittenTapes =
    (s : List ℕ) (c : Record) (m : Option (List ℕ)) (n : ℕ)
    → (judge_writing s c m n ≡ Accepted → Writable s c m × (length (tape_of s c m) ≤ n)) × (Writable s c m × (length (tape_of s c m) ≤ n) → judge_writing s c m n ≡ Accepted)

-- written: the tape stands at the front of the buffer, the answer is its length, and every other byte is as it came
abbrev pub TapeInBuffer : Type 0
TapeInBuffer =
    (s : List ℕ) (c : Record) (m : Option (List ℕ)) (out : List ℕ) → judge_writing s c m (length out) ≡ Accepted
    → let w = writing s c m out in
    (w.answer ≡ record { length = tape_size s m; verdict = Accepted }) × (length w.bytes ≡ length out)
    × (take (tape_size s m) w.bytes ≡ tape_of s c m) × (drop (tape_size s m) w.bytes ≡ drop (tape_size s m) out)

-- refused: the length is 0, and every byte of the buffer is as it came
abbrev pub BufferAsGiven : Type 0
BufferAsGiven =
    (s : List ℕ) (c : Record) (m : Option (List ℕ)) (out : List ℕ) (q : Refusal) → judge_writing s c m (length out) ≡ Rejected q
    → writing s c m out ≡ record { bytes = out; answer = record { length = 0; verdict = Rejected q } }

-- ---- the numbers of the refusals

-- a remark is given, and it is over 255 bytes
abbrev pub LongRemark : Option (List ℕ) → Type 0
LongRemark none = ⊥
LongRemark (some r) = 255 < length r

-- 1, 2, 3, 18 on the machine, then 14, 15, 16
abbrev pub WritingRefused : List ℕ → Record → Option (List ℕ) → ℕ → ℕ → Type 0
WritingRefused s c m n =
    Test 1 (SizeRefused (length s))
    (Test 2 (cells_fit s ≡ false)
    (Test 3 (control_fits c.registers ≡ false)
    (Test 18 (TimerRules c.timer → ⊥)
    (Test 14 (LongRemark m)
    (Test 15 (65536 < tape_size s m)
    (Test 16 (n < tape_size s m) Passed))))))

-- a tape is refused with a number exactly if it is due
abbrev pub WritingNumbers : Type 0
WritingNumbers =
    (s : List ℕ) (c : Record) (m : Option (List ℕ)) (n : ℕ) (q : Refusal)
    → (judge_writing s c m n ≡ Rejected q → WritingRefused s c m n (refusal_number q)) × (WritingRefused s c m n (refusal_number q) → judge_writing s c m n ≡ Rejected q)
