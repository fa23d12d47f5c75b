-- What a tape loads: cells and control record (document 01, "Load tape"; document 02, E5 and E6). The whole tape is judged before a cell changes.
-- Assumes nothing.
use Rattle.std.specs.Prelude.{ℕ, cond, List, [], ◌∷◌, ◌++◌, length, take, drop, replicate, eqb}
use Rattle.machine.specs.declared.Record.{Record}
use Rattle.machine.specs.declared.State.{State}
use Rattle.machine.specs.Verdicts.{Verdict, Accepted, Rejected}
use Rattle.acceptance.specs.Accept.{judge_store}
use Rattle.definition_tape.specs.Layout.{kind_of, payload_of, records_of, first_of, first_cell, block_cells, control_record_of}
use Rattle.definition_tape.specs.Judge.{judge_tape}

-- the cells cs over the first ones of a part of the store
unfoldable pub pasted : List ℕ → List ℕ → List ℕ
pasted part cs = cs ++ drop (length cs) part

-- the cells cs go into the part of the store that begins at its cell i
unfoldable pub stored_block : List ℕ → ℕ → List ℕ → List ℕ
stored_block s i cs = take i s ++ pasted (drop i s) cs

-- kind 1, block
unfoldable pub load_record : List ℕ → List ℕ → List ℕ
load_record s t = cond (eqb (kind_of t) 1) (stored_block s (first_cell (payload_of t)) (block_cells (payload_of t))) s

-- record by record. An accepted tape names no cell twice
unfoldable pub load_records : List ℕ → List (List ℕ) → List ℕ
load_records s [] = s
load_records s (t ∷ ts) = load_records (load_record s t) ts

-- the tape's cells over those of s: cells that no block names are those of s
unfoldable pub tape_cells : List ℕ → List ℕ → List ℕ
tape_cells s t = load_records s (records_of t)

-- kind 2, the control record
unfoldable pub loaded_control : List ℕ → Record
loaded_control t = control_record_of (payload_of (first_of 2 (records_of t)))

-- ---- load and overlay

-- 1 and 2, then the tape
abbrev pub judge_then : Verdict → Verdict → Verdict
judge_then (Rejected r) v = Rejected r
judge_then Accepted v = v

-- the refusals of both, the store's first
unfoldable pub judge_load : List ℕ → List ℕ → Verdict
judge_load t s = judge_then (judge_store s) (judge_tape (length s) t)

pub record Loaded : Type 0 where
  pub cells : List ℕ
  pub state : State

-- accepted: the tape's cells over those of u, and its control record; refused: the store s and the control record c as given
abbrev pub loaded_by : Verdict → List ℕ → List ℕ → List ℕ → Record → Loaded
loaded_by (Rejected r) t u s c = record { cells = s; state = record { control = c; verdict = Rejected r } }
loaded_by Accepted t u s c = record { cells = tape_cells u t; state = record { control = loaded_control t; verdict = Accepted } }

-- n cells of word 0, key 0
unfoldable pub cleared : ℕ → List ℕ
cleared n = replicate n 0

-- load: the tape t into a store of the cells s, with the caller's control record c; its cells over zero (document 02, E5)
unfoldable pub loading : List ℕ → List ℕ → Record → Loaded
loading t s c = loaded_by (judge_load t s) t (cleared (length s)) s c

-- overlay: its cells over what was there
unfoldable pub overlaying : List ℕ → List ℕ → Record → Loaded
overlaying t s c = loaded_by (judge_load t s) t s s c
