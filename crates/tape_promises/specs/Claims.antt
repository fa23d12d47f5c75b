-- What is proved of tapes besides the contracts. Each has its proof under its name, as `accepted_tapes`.
-- Assumes nothing.
use Rattle.std.specs.Prelude.{ℕ, ◌-◌, ◌≤◌, ◌<◌, ◌≡◌, true, false, List, [], length, take, drop, get_or, replicate}
use Rattle.machine.specs.Answers.{refusal_number}
use Rattle.machine.specs.declared.Record.{Record}
use Rattle.machine.specs.declared.Refusal.{Refusal}
use Rattle.machine.specs.Verdicts.{Accepted, Rejected}
use Rattle.acceptance.specs.Accept.{size_fits, cells_fit, judge_store, judge_machine}
use Rattle.definition_tape.specs.Layout.{records_of, NamesCell}
use Rattle.definition_tape.specs.Blocks.{Named}
use Rattle.definition_tape.specs.Judge.{judge_tape}
use Rattle.definition_tape.specs.Load.{Loaded, judge_load, loading, overlaying}
use Rattle.definition_tape.specs.Remark.{judge_reading, remark_span, remark_text}
use Rattle.tape_promises.specs.Grammar.{Records, blocks_of, TapeFor}
use Rattle.tape_promises.specs.Contents.{Holds, HoldsOver, SameBlocks, Permutation, control_payload, RecordFields, first_remark, span_of, remark_bytes}
use Rattle.tape_promises.specs.Numbers.{TapeRefused, LoadRefused, ReadingRefused}

-- ---- which tapes are accepted

-- a tape is accepted exactly if it is a row of good records with one control record and the end, and names no cell twice
abbrev pub AcceptedTapes : Type 0
AcceptedTapes = (n : ℕ) (t : List ℕ) → (judge_tape n t ≡ Accepted → TapeFor n t) × (TapeFor n t → judge_tape n t ≡ Accepted)

-- no two records of an accepted tape name the same cell
abbrev pub NoCellTwice : Type 0
NoCellTwice =
    (n : ℕ) (t : List ℕ) → judge_tape n t ≡ Accepted → (j k i : ℕ) → j < k → NamesCell (get_or (records_of t) j []) i → NamesCell (get_or (records_of t) k []) i → ⊥

-- ---- load and overlay (document 02, E5)

-- the two calls
pub data Call : Type 0 where
  load : Call
  overlay : Call

-- the tape t into a store of the cells s, with the control record c
abbrev pub called : Call → List ℕ → List ℕ → Record → Loaded
called load t s c = loading t s c
called overlay t s c = overlaying t s c

-- what the cell i, where no block names it, holds after the call: a load clears it, word and key, an overlay keeps it
abbrev pub unnamed_cell : Call → List ℕ → ℕ → ℕ
unnamed_cell load s i = 0
unnamed_cell overlay s i = get_or s i 0

-- x is a store of n cells with the blocks and the control record of the records r; a cell i that no block names holds `held i`
pub record LoadedFrom {n : ℕ} {t : List ℕ} (r : Records n t) (held : ℕ → ℕ) (x : Loaded) : Type 0 where
  pub accepted : x.state.verdict ≡ Accepted
  pub size : length x.cells ≡ n
  pub cells : (i : ℕ) → Holds i (held i) (blocks_of r) (get_or x.cells i 0)
  pub control : RecordFields (control_payload r) x.state.control

-- a tape loads exactly what the layout says
abbrev pub LoadsLayout : Type 0
LoadsLayout =
    (k : Call) (t s : List ℕ) (c : Record) → judge_store s ≡ Accepted → (h : TapeFor (length s) t) → LoadedFrom h.layout (unnamed_cell k s) (called k t s c)

-- a load clears the cells that no block names
abbrev pub ClearedCells : Type 0
ClearedCells =
    (t s : List ℕ) (c : Record) → judge_store s ≡ Accepted → (h : TapeFor (length s) t) (i : ℕ) → (Named i (blocks_of h.layout) → ⊥)
    → get_or (loading t s c).cells i 0 ≡ 0

-- an overlay keeps them, in every store
abbrev pub KeptCells : Type 0
KeptCells =
    (t s : List ℕ) (c : Record) (h : TapeFor (length s) t) (i : ℕ) → (Named i (blocks_of h.layout) → ⊥)
    → get_or (overlaying t s c).cells i 0 ≡ get_or s i 0

-- after a load the machine depends on the tape and the number of cells alone: it is the same for two stores of one size, whatever they held that 2
-- lets pass
abbrev pub SameMachine : Type 0
SameMachine = (t s u : List ℕ) (c d : Record) → length s ≡ length u → (loading t s c).state.verdict ≡ Accepted → cells_fit u ≡ true → loading t s c ≡ loading t u d

-- a load gives what an overlay gives onto a store of as many cells of zero
abbrev pub LoadIsOverlay : Type 0
LoadIsOverlay =
    (t s : List ℕ) (c : Record) → cells_fit s ≡ true
    → let over = overlaying t (replicate (length s) 0) c in
    ((loading t s c).state ≡ over.state) × ((loading t s c).state.verdict ≡ Accepted → (loading t s c).cells ≡ over.cells)

-- x is a store of n cells with the blocks of a border tape over those of a ground tape, and the border tape's control record
pub record OverlaidFrom {n : ℕ} {t u : List ℕ} (ground_records : Records n t) (border : Records n u) (x : Loaded) : Type 0 where
  pub accepted : x.state.verdict ≡ Accepted
  pub size : length x.cells ≡ n
  pub cells : (i : ℕ) → HoldsOver i (blocks_of ground_records) (blocks_of border) (get_or x.cells i 0)
  pub control : RecordFields (control_payload border) x.state.control

-- the load of a ground tape, then the overlay of a border tape: what the second's blocks over the first's say
abbrev pub BorderOverGround : Type 0
BorderOverGround =
    (t u s : List ℕ) (c d : Record) → judge_store s ≡ Accepted → (ground_tape : TapeFor (length s) t) (border : TapeFor (length s) u)
    → OverlaidFrom ground_tape.layout border.layout (overlaying u (loading t s c).cells d)

-- the order of the blocks does not matter: two accepted tapes with the same blocks leave the same cells
abbrev pub AnyOrder : Type 0
AnyOrder =
    (k : Call) (t u s : List ℕ) (c d : Record) (h : TapeFor (length s) t) (j : TapeFor (length s) u) → SameBlocks (blocks_of h.layout) (blocks_of j.layout)
    → (called k t s c).cells ≡ (called k u s d).cells

-- nor for the judge: a tape of at most 65,536 bytes with the blocks of an accepted one in another order is accepted
abbrev pub AcceptedInAnyOrder : Type 0
AcceptedInAnyOrder =
    (n : ℕ) (t u : List ℕ) (h : TapeFor n t) (r : Records n u) → length u ≤ 65536 → Permutation (blocks_of h.layout) (blocks_of r) → judge_tape n u ≡ Accepted

-- the store keeps its number of cells
abbrev pub KeptSize : Type 0
KeptSize = (k : Call) (t s : List ℕ) (c : Record) → length (called k t s c).cells ≡ length s

-- a refusal changes nothing
abbrev pub KeptAll : Type 0
KeptAll =
    (k : Call) (t s : List ℕ) (c : Record) (q : Refusal) → (called k t s c).state.verdict ≡ Rejected q
    → ((called k t s c).cells ≡ s) × ((called k t s c).state.control ≡ c)

-- the machine that an accepted tape loads is accepted
abbrev pub LoadedMachines : Type 0
LoadedMachines =
    (k : Call) (t s : List ℕ) (c : Record) → (called k t s c).state.verdict ≡ Accepted
    → judge_machine (called k t s c).cells (called k t s c).state.control ≡ Accepted

-- ---- the reader of the first remark

-- it judges as the loader does, for every store of that many cells whose cells pass test 2
abbrev pub SameVerdict : Type 0
SameVerdict = (t s : List ℕ) → cells_fit s ≡ true → judge_reading t (length s) ≡ judge_load t s

-- it finds the first remark where the layout has it, or none
abbrev pub FirstRemark : Type 0
FirstRemark =
    (t : List ℕ) (n : ℕ) → size_fits n ≡ true → (h : TapeFor n t)
    → (remark_span t n ≡ span_of (first_remark 0 h.layout)) × (remark_text t n ≡ remark_bytes (first_remark 0 h.layout))

-- the text is the part of the tape between start and end
pub record PartOf (t text : List ℕ) (start end : ℕ) : Type 0 where
  pub ordered : start ≤ end
  pub inside : end ≤ length t
  pub is : text ≡ take (end - start) (drop start t)

abbrev pub RemarkPart : Type 0
RemarkPart = (t : List ℕ) (n : ℕ) → PartOf t (remark_text t n) (remark_span t n).start (remark_span t n).end

-- ---- the numbers of the refusals, as documents 01 and 02 print them

-- a tape is refused with a number exactly if it is due
abbrev pub TapeNumbers : Type 0
TapeNumbers =
    (n : ℕ) (t : List ℕ) (q : Refusal) → (judge_tape n t ≡ Rejected q → TapeRefused n t (refusal_number q)) × (TapeRefused n t (refusal_number q) → judge_tape n t ≡ Rejected q)

-- so are a load and an overlay
abbrev pub LoadNumbers : Type 0
LoadNumbers =
    (k : Call) (t s : List ℕ) (c : Record) (q : Refusal)
    → ((called k t s c).state.verdict ≡ Rejected q → LoadRefused s t (refusal_number q)) × (LoadRefused s t (refusal_number q) → (called k t s c).state.verdict ≡ Rejected q)

-- and the reading of the first remark; no remark is shown then
abbrev pub ReadingNumbers : Type 0
ReadingNumbers =
    (t : List ℕ) (n k : ℕ)
    → (0 < k → (remark_span t n).refusal ≡ k → ReadingRefused n t k)
    × (ReadingRefused n t k → (remark_span t n ≡ record { start = 0; end = 0; found = false; refusal = k }) × (remark_text t n ≡ []))
