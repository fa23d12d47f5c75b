-- A tape for a store of n cells, built from its records: blocks and remarks, one control record, the end; no cell is named twice. The judge is not
-- named here.
-- Assumes nothing.
use Rattle.std.specs.Prelude.{ℕ, ◌+◌, ◌*◌, ◌%◌, ◌≤◌, ◌<◌, ◌≡◌, true, List, [], ◌∷◌, ◌++◌, ◌⊎◌, length, get_or}
use Rattle.machine.specs.declared.Timer.{Timer}
use Rattle.acceptance.specs.Accept.{cells_fit, control_fits}
use Rattle.definition_tape.specs.Layout.{number_at, first_cell, cell_count, block_cells, flags_of, zero_byte, control_of, timer_of}
use Rattle.definition_tape.specs.Blocks.{Block, NamedOnce}

-- a record's header: the payload's length l (4 bytes), the kind k (2 bytes)
pub record Header (k l : ℕ) (h : List ℕ) : Type 0 where
  pub bytes : length h ≡ 6
  pub size : number_at h 0 ≡ l
  pub kind : get_or h 4 0 + 256 * get_or h 5 0 ≡ k

-- a block's payload: an index and one or more cells, all within the store, none of 134,217,728 or more
pub record BlockPayload (n : ℕ) (p : List ℕ) : Type 0 where
  pub fours : length p % 4 ≡ 0
  pub some : 8 ≤ length p
  pub place : first_cell p + cell_count p ≤ n
  pub cells : cells_fit (block_cells p) ≡ true

-- the first 20 bytes of a control record's payload: fields within their widths and rules, flags of three bits, a zero byte
pub record RegistersPayload (p : List ℕ) : Type 0 where
  pub flags : flags_of p ≤ 7
  pub zero : zero_byte p ≡ 0
  pub fields : control_fits (control_of p) ≡ true

-- the interval timer (document 02, E6): a line of 3 to 23 when the period is not 0, and a phase below a nonzero period
pub record TimerRules (t : Timer) : Type 0 where
  pub line : 0 < t.period → (3 ≤ t.line) × (t.line ≤ 23)
  pub phase : 0 < t.period → t.phase < t.period

-- a control record's payload: 20 bytes, or 33 with the timer
pub record ControlPayload (p : List ℕ) : Type 0 where
  pub bytes : (length p ≡ 20) ⊎ (length p ≡ 33)
  pub registers : RegistersPayload p
  pub timer : TimerRules (timer_of p)

-- from a record on
pub data Records (n : ℕ) : List ℕ → Type 0 where
  block_then : (h p t : List ℕ) → Header 1 (length p) h → BlockPayload n p → Records n t → Records n (h ++ (p ++ t))
  remark_then : (h p t : List ℕ) → Header 4 (length p) h → length p ≤ 255 → Records n t → Records n (h ++ (p ++ t))
  control_then_end : (h p e : List ℕ) → Header 2 (length p) h → ControlPayload p → Header 3 0 e → Records n (h ++ (p ++ e))

-- its blocks, first cell index and cells, in the tape's order
unfoldable pub blocks_of : {n : ℕ} {t : List ℕ} → Records n t → List Block
blocks_of (block_then h p t d b r) = record { first = first_cell p; cells = block_cells p } ∷ blocks_of r
blocks_of (remark_then h p t d l r) = blocks_of r
blocks_of (control_then_end h p e d c x) = []

pub record TapeFor (n : ℕ) (t : List ℕ) : Type 0 where
  pub size : length t ≤ 65536
  pub layout : Records n t
  pub once : NamedOnce (blocks_of layout)
