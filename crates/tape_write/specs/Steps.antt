-- For the functions inside the crate; no public contract rests on it. Bytes put into a buffer, and the blocks from a cell on.
-- Assumes nothing.
use Rattle.std.specs.Prelude.{ℕ, ◌+◌, ◌*◌, Bool, true, false, cond, List, [], ◌∷◌, ◌++◌, length, take, drop, eqb}
use Rattle.std.proofs.Math.Option.{Option}
use Rattle.machine.specs.declared.Record.{Record}
use Rattle.definition_tape.specs.Blocks.{blocks_from}
use Rattle.definition_tape.specs.Bytes.{record_bytes, block_bytes, blocks_bytes, tape_of}
use Rattle.definition_tape.specs.Writing.{judge_parts, Writing, writing_by}

-- the bytes bs from the place `at` of the buffer on, the others as they are
unfoldable pub put : List ℕ → ℕ → List ℕ → List ℕ
put out at bs = take at out ++ (bs ++ drop (at + length bs) out)

-- the blocks of the store s from its cell i on
unfoldable pub blocks_after : List ℕ → ℕ → List ℕ
blocks_after s i = blocks_bytes (blocks_from false i (drop i s))

-- no cell but zeros
unfoldable pub all_zero : List ℕ → Bool
all_zero [] = true
all_zero (x ∷ s) = cond (eqb x 0) (all_zero s) false

-- the block of the cells cs, the first of which is the cell i
unfoldable pub stretch_bytes : ℕ → List ℕ → List ℕ
stretch_bytes i cs = record_bytes 1 (block_bytes (record { first = i; cells = cs }))

-- how many bytes a block of k cells takes
abbrev pub block_size : ℕ → ℕ
block_size k = 10 + 4 * k

-- what is written of a machine that passed 1, 2, 3 and 18
unfoldable pub written_as : List ℕ → Record → Option (List ℕ) → List ℕ → Writing
written_as s c m out = writing_by (judge_parts s c m (length out)) (tape_of s c m) out
