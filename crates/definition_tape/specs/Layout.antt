-- The layout of a load tape (document 01, "Load tape"; document 02, E6): bytes, records, and the payloads of blocks and control records.
-- A record is spoken of by the tape from its header on. A byte that is not there reads as 0.
-- Assumes nothing.
use Rattle.std.specs.Prelude.{ℕ, zero, suc, ◌+◌, ◌-◌, ◌*◌, ◌/◌, ◌%◌, ◌≤◌, ◌<◌, ◌≡◌, cond, List, [], ◌∷◌, length, take, drop, get_or, eqb, ltb}
use Rattle.machine.specs.declared.Control.{Control}
use Rattle.machine.specs.declared.Timer.{Timer}
use Rattle.machine.specs.declared.Record.{Record}
use Rattle.machine.specs.Records.{timer_off}

-- all numbers little-endian: the four bytes from i on
abbrev pub number_at : List ℕ → ℕ → ℕ
number_at s i = get_or s i 0 + 256 * get_or s (i + 1) 0 + 65536 * get_or s (i + 2) 0 + 16777216 * get_or s (i + 3) 0

-- ---- a record: payload length (4 bytes), kind (2 bytes), payload
unfoldable pub length_of : List ℕ → ℕ
length_of t = number_at t 0

unfoldable pub kind_of : List ℕ → ℕ
kind_of t = get_or t 4 0 + 256 * get_or t 5 0

unfoldable pub payload_of : List ℕ → List ℕ
payload_of t = take (length_of t) (drop 6 t)

-- the tape after the record
unfoldable pub rest_of : List ℕ → List ℕ
rest_of t = drop (6 + length_of t) t

-- ---- a tape is a row of records: the tape from each header on, as long as six bytes are there
unfoldable pub records_within : ℕ → List ℕ → List (List ℕ)
records_within zero t = []
records_within (suc f) t = let rest = records_within f (rest_of t) in cond (ltb (length t) 6) [] (t ∷ rest)

-- each record takes six bytes at least, so there are fewer than the tape has bytes
unfoldable pub records_of : List ℕ → List (List ℕ)
records_of t = records_within (suc (length t)) t

-- the first record of a kind, [] for none
unfoldable pub first_of : ℕ → List (List ℕ) → List ℕ
first_of k [] = []
first_of k (t ∷ ts) = let rest = first_of k ts in cond (eqb (kind_of t) k) t rest

-- a whole record, or none
abbrev pub Whole : List ℕ → Type 0
Whole t = 0 < length t → 6 + length_of t ≤ length t

-- ---- a block's payload: first cell index (4), then the cells (4 each)
abbrev pub first_cell : List ℕ → ℕ
first_cell p = number_at p 0

abbrev pub cell_count : List ℕ → ℕ
cell_count p = (length p - 4) / 4

-- k cells, from the byte at on
unfoldable pub cells_from : List ℕ → ℕ → ℕ → List ℕ
cells_from p at zero = []
cells_from p at (suc k) = number_at p at ∷ cells_from p (at + 4) k

unfoldable pub block_cells : List ℕ → List ℕ
block_cells p = cells_from p 4 (cell_count p)

-- the record t is a block that names the cell i
pub record NamesCell (t : List ℕ) (i : ℕ) : Type 0 where
  pub kind : kind_of t ≡ 1
  pub from : first_cell (payload_of t) ≤ i
  pub below : i < first_cell (payload_of t) + cell_count (payload_of t)

-- ---- a control record's payload: IC, IR, IM, pending (4 each), PR, EX, flags (1 each: 1 monitor, 2 enabled, 4 reset, summed), a zero byte; of 33
-- bytes also elapsed, period and phase (4 each) and the line (1)
abbrev pub flags_of : List ℕ → ℕ
flags_of p = get_or p 18 0

-- the twentieth, after the flags
abbrev pub zero_byte : List ℕ → ℕ
zero_byte p = get_or p 19 0

-- the control registers, in the first 20 bytes
unfoldable pub control_of : List ℕ → Control
control_of p =
    record {
      ic = number_at p 0;
      ir = number_at p 4;
      im = number_at p 8;
      pending = number_at p 12;
      pr = get_or p 16 0;
      ex = get_or p 17 0;
      monitor = eqb (flags_of p % 2) 1;
      enabled = eqb (flags_of p / 2 % 2) 1;
      reset = eqb (flags_of p / 4 % 2) 1;
    }

-- elapsed time and interval timer, in the 13 bytes after them; of 20 bytes four zeroes
unfoldable pub timer_of : List ℕ → Timer
timer_of p = cond (ltb (length p) 33) timer_off (record { elapsed = number_at p 20; period = number_at p 24; phase = number_at p 28; line = get_or p 32 0 })

-- the whole control record
unfoldable pub control_record_of : List ℕ → Record
control_record_of p = record { registers = control_of p; timer = timer_of p }
