-- What the records of a tape hold, by their layout (document 01, "Load tape"; document 02, E6). Neither judge nor loader is named here.
-- Assumes nothing.
use Rattle.std.specs.Prelude.{ℕ, ◌+◌, ◌-◌, ◌*◌, ◌≡◌, Bool, true, false, List, [], ◌∷◌, ◌⊎◌, length, get_or}
use Rattle.machine.specs.declared.Control.{Control}
use Rattle.machine.specs.declared.Timer.{Timer}
use Rattle.machine.specs.declared.Record.{Record}
use Rattle.definition_tape.specs.Remark.{Span}
use Rattle.definition_tape.specs.Layout.{number_at, flags_of}
use Rattle.definition_tape.specs.Blocks.{Block, Names, Named}
use Rattle.tape_promises.specs.Grammar.{Records, block_then, remark_then, control_then_end}

-- ---- kind 1, block: the blocks as a set, in no order

-- b is one of the blocks
unfoldable pub Among : Block → List Block → Type 0
Among b [] = ⊥
Among b (a ∷ bs) = (b ≡ a) ⊎ Among b bs

-- b is the one block that names the cell i
pub record TheOne (bs : List Block) (i : ℕ) (b : Block) : Type 0 where
  pub among : Among b bs
  pub names : Names b i
  pub only : (a : Block) → Among a bs → Names a i → a ≡ b

-- the cell i, with `held` under the blocks, holds x: what the one that names it has there, or, where none does, what is under them
pub data Holds (i held : ℕ) (bs : List Block) : ℕ → Type 0 where
  written : (b : Block) → TheOne bs i b → Holds i held bs (get_or b.cells (i - b.first) 0)
  kept : (Named i bs → ⊥) → Holds i held bs held

-- the cell i holds x after the blocks of a border tape over those of a ground tape over zero (document 02, E5)
pub record HoldsOver (i : ℕ) (ground_blocks border : List Block) (x : ℕ) : Type 0 where
  pub below : ℕ
  pub by_ground : Holds i 0 ground_blocks below
  pub by_border : Holds i below border x

-- the same blocks, in whatever order
abbrev pub SameBlocks : List Block → List Block → Type 0
SameBlocks bs cs = (b : Block) → (Among b bs → Among b cs) × (Among b cs → Among b bs)

-- the same blocks, each as often, in another order or the same
pub data Permutation : List Block → List Block → Type 0 where
  same : (bs : List Block) → Permutation bs bs
  cons : (b : Block) {bs cs : List Block} → Permutation bs cs → Permutation (b ∷ bs) (b ∷ cs)
  swap : (a b : Block) (bs : List Block) → Permutation (a ∷ b ∷ bs) (b ∷ a ∷ bs)
  trans : {bs cs ds : List Block} → Permutation bs cs → Permutation cs ds → Permutation bs ds

-- ---- kind 2, control

unfoldable pub control_payload : {n : ℕ} {t : List ℕ} → Records n t → List ℕ
control_payload (block_then h p t d b r) = control_payload r
control_payload (remark_then h p t d l r) = control_payload r
control_payload (control_then_end h p e d c x) = p

abbrev pub one_if : Bool → ℕ
one_if true = 1
one_if false = 0

-- IC, IR, IM, pending (4 each), PR, EX, flags (1 each: values 1 monitor, 2 enabled, 4 reset, summed)
pub record ControlFields (p : List ℕ) (c : Control) : Type 0 where
  pub ic : c.ic ≡ number_at p 0
  pub ir : c.ir ≡ number_at p 4
  pub im : c.im ≡ number_at p 8
  pub pending : c.pending ≡ number_at p 12
  pub pr : c.pr ≡ get_or p 16 0
  pub ex : c.ex ≡ get_or p 17 0
  pub flags : flags_of p ≡ 1 * one_if c.monitor + 2 * one_if c.enabled + 4 * one_if c.reset

-- 20 bytes: the rest zero; 33: elapsed, period and phase (4 each), the line (1) (document 02, E6)
pub data TimerFields (p : List ℕ) (t : Timer) : Type 0 where
  zeroes : length p ≡ 20 → t ≡ record { elapsed = 0; period = 0; phase = 0; line = 0 } → TimerFields p t
  fields : length p ≡ 33 → t.elapsed ≡ number_at p 20 → t.period ≡ number_at p 24 → t.phase ≡ number_at p 28 → t.line ≡ get_or p 32 0 → TimerFields p t

-- the whole control record
pub record RecordFields (p : List ℕ) (r : Record) : Type 0 where
  pub registers : ControlFields p r.registers
  pub timer : TimerFields p r.timer

-- ---- kind 4, remark

-- where its text starts on the tape, and the text
pub data Remark : Type 0 where
  none : Remark
  remark : ℕ → List ℕ → Remark

-- the first remark of the records from the byte `at` of the tape on
unfoldable pub first_remark : {n : ℕ} {t : List ℕ} → ℕ → Records n t → Remark
first_remark at (block_then h p t d b r) = first_remark (at + 6 + length p) r
first_remark at (remark_then h p t d l r) = remark (at + 6) p
first_remark at (control_then_end h p e d c x) = none

abbrev pub span_of : Remark → Span
span_of none = record { start = 0; end = 0; found = false; refusal = 0 }
span_of (remark start text) = record { start = start; end = start + length text; found = true; refusal = 0 }

abbrev pub remark_bytes : Remark → List ℕ
remark_bytes none = []
remark_bytes (remark start text) = text
