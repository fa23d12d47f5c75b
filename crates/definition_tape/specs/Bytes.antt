-- The bytes of a machine's tape (document 02, E2 and E6): what Layout.antt reads, written.
-- Assumes nothing.
use Rattle.std.specs.Prelude.{ℕ, ◌+◌, ◌/◌, ◌%◌, ◌<◌, Bool, true, false, List, [], ◌∷◌, ◌++◌, length}
use Rattle.std.proofs.Math.Option.{Option, none, some}
use Rattle.machine.specs.declared.Control.{Control}
use Rattle.machine.specs.declared.Timer.{Timer}
use Rattle.machine.specs.declared.Record.{Record}
use Rattle.definition_tape.specs.Blocks.{Block, store_blocks}

-- ---- numbers, little-endian: `number_at` reads back the four bytes of a number below 4,294,967,296
abbrev pub bytes2 : ℕ → List ℕ
bytes2 n = n % 256 ∷ n / 256 % 256 ∷ []

abbrev pub bytes4 : ℕ → List ℕ
bytes4 n = n % 256 ∷ n / 256 % 256 ∷ n / 65536 % 256 ∷ n / 16777216 % 256 ∷ []

-- ---- a record: payload length (4 bytes), kind (2 bytes), payload
unfoldable pub header_bytes : ℕ → ℕ → List ℕ
header_bytes k l = bytes4 l ++ bytes2 k

unfoldable pub record_bytes : ℕ → List ℕ → List ℕ
record_bytes k p = header_bytes k (length p) ++ p

-- ---- kind 1, block: first cell index (4), then the cells (4 each)
unfoldable pub cells_bytes : List ℕ → List ℕ
cells_bytes [] = []
cells_bytes (x ∷ s) = bytes4 x ++ cells_bytes s

unfoldable pub block_bytes : Block → List ℕ
block_bytes b = bytes4 b.first ++ cells_bytes b.cells

unfoldable pub blocks_bytes : List Block → List ℕ
blocks_bytes [] = []
blocks_bytes (b ∷ bs) = record_bytes 1 (block_bytes b) ++ blocks_bytes bs

-- ---- kind 2, control: IC, IR, IM, pending (4 each), PR, EX, flags (1 each: 1 monitor, 2 enabled, 4 reset, summed), a zero byte, then elapsed,
-- period, phase (4 each) and line (1): 33 bytes
abbrev pub flag : Bool → ℕ → ℕ
flag true v = v
flag false v = 0

abbrev pub flags_byte : Control → ℕ
flags_byte c = flag c.monitor 1 + flag c.enabled 2 + flag c.reset 4

-- PR, EX, flags, the zero byte
abbrev pub state_bytes : Control → List ℕ
state_bytes c = c.pr % 256 ∷ c.ex % 256 ∷ flags_byte c ∷ 0 ∷ []

-- elapsed, period, phase, line
abbrev pub timer_bytes : Timer → List ℕ
timer_bytes t = bytes4 t.elapsed ++ (bytes4 t.period ++ (bytes4 t.phase ++ (t.line % 256 ∷ [])))

unfoldable pub control_bytes : Record → List ℕ
control_bytes r =
    let c = r.registers in
    bytes4 c.ic ++ (bytes4 c.ir ++ (bytes4 c.im ++ (bytes4 c.pending ++ (state_bytes c ++ timer_bytes r.timer))))

-- a timer whose fields fit these bytes, as those of every `machine::Timer` do (u32 and u8)
pub record TimerWidths (t : Timer) : Type 0 where
  pub elapsed : t.elapsed < 4294967296
  pub period : t.period < 4294967296
  pub phase : t.phase < 4294967296
  pub line : t.line < 256

-- ---- kind 4, remark: its text, which may be empty; no record for none
unfoldable pub remark_record : Option (List ℕ) → List ℕ
remark_record none = []
remark_record (some r) = record_bytes 4 r

-- ---- the tape of the machine with the cells s and the control record c: remark, blocks, control, end (kind 3)
unfoldable pub tape_of : List ℕ → Record → Option (List ℕ) → List ℕ
tape_of s c m = remark_record m ++ (blocks_bytes (store_blocks s) ++ (record_bytes 2 (control_bytes c) ++ record_bytes 3 []))
