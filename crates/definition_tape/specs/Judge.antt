-- The refusal of a tape (document 01, "Who can be refused, for what": whoever punched the tape; document 02, E4 and E6), for a store of n cells.
-- Assumes nothing.
use Rattle.std.specs.Prelude.{ℕ, zero, suc, ◌+◌, ◌%◌, Bool, true, false, not, cond, List, [], ◌∷◌, length, eqb, ltb, leb}
use Rattle.machine.specs.declared.Refusal.TheVariants.{ControlField, TapeEnds, RecordKind, RecordLength, BlockPlace, BlockCell, RecordOrder, TapeLength, BlockOverlap}
use Rattle.machine.specs.Verdicts.{Verdict, Accepted, Rejected}
use Rattle.acceptance.specs.Accept.{cells_fit, control_fits, judge_timer}
use Rattle.definition_tape.specs.Layout.{length_of, kind_of, payload_of, records_of, first_cell, cell_count, block_cells, flags_of, zero_byte, control_of, timer_of}

-- ---- the tests on one record

-- 7: kind not 1 to 4
unfoldable pub kind_known : ℕ → Bool
kind_known k = cond (ltb k 1) false (leb k 4)

-- 11: not the end after the control record, or an end with no control record
unfoldable pub in_order : Bool → ℕ → Bool
in_order after k = cond after (eqb k 3) (not (eqb k 3))

-- 8: length wrong for the kind: a block has an index and one or more cells, a control record 20 or 33 bytes, the end none,
-- a remark 0 to 255
unfoldable pub length_fits : ℕ → ℕ → Bool
length_fits k l = cond (eqb k 1) (cond (eqb (l % 4) 0) (leb 8 l) false) (cond (eqb k 2) (cond (eqb l 20) true (eqb l 33)) (cond (eqb k 3) (eqb l 0) (leb l 255)))

-- 9: block beyond the store; 17: it names a cell that an earlier block names; 10: a cell as in 2. `unnamed`: no earlier block names a cell of it
unfoldable pub judge_block : ℕ → Bool → List ℕ → Verdict
judge_block n unnamed p =
    cond (leb (first_cell p + cell_count p) n) (cond unnamed (cond (cells_fit (block_cells p)) Accepted (Rejected BlockCell)) (Rejected BlockOverlap)) (Rejected BlockPlace)

-- 3: a control field outside its widths and rules, flags over 7, a twentieth byte other than zero
unfoldable pub control_good : List ℕ → Bool
control_good p = cond (leb (flags_of p) 7) (cond (eqb (zero_byte p) 0) (control_fits (control_of p)) false) false

-- 18 (a line outside 3 to 23 when the period is not 0, or a phase not below a nonzero period) at the end of 3
unfoldable pub judge_control : List ℕ → Verdict
judge_control p = judge_timer (cond (control_good p) Accepted (Rejected ControlField)) (timer_of p)

unfoldable pub judge_payload : ℕ → Bool → ℕ → List ℕ → Verdict
judge_payload n unnamed k p = cond (eqb k 1) (judge_block n unnamed p) (cond (eqb k 2) (judge_control p) Accepted)

-- a record whose header stands at the start of t; `after`: the record before it was the control record
unfoldable pub judge_record : ℕ → Bool → Bool → List ℕ → Verdict
judge_record n after unnamed t =
    cond (kind_known (kind_of t))
    (cond (in_order after (kind_of t))
    (cond (length_fits (kind_of t) (length_of t))
    (cond (leb (6 + length_of t) (length t)) (judge_payload n unnamed (kind_of t) (payload_of t)) (Rejected TapeEnds)) (Rejected RecordLength)) (Rejected RecordOrder))
    (Rejected RecordKind)

-- ---- the cells that earlier records name

-- the record t is a block that names the cell i
unfoldable pub names : List ℕ → ℕ → Bool
names t i = let p = payload_of t in cond (eqb (kind_of t) 1) (cond (leb (first_cell p) i) (ltb i (first_cell p + cell_count p)) false) false

-- how many of the records name the cell i
unfoldable pub times_named : List (List ℕ) → ℕ → ℕ
times_named [] i = 0
times_named (t ∷ ts) i = cond (names t i) 1 0 + times_named ts i

-- none of the records names one of the k cells from i on
unfoldable pub unnamed_from : List (List ℕ) → ℕ → ℕ → Bool
unnamed_from ts i zero = true
unnamed_from ts i (suc k) = let rest = unnamed_from ts (i + 1) k in cond (eqb (times_named ts i) 0) rest false

-- none of them names a cell of the block with the payload p
abbrev pub unnamed_cells : List (List ℕ) → List ℕ → Bool
unnamed_cells ts p = unnamed_from ts (first_cell p) (cell_count p)

-- ---- record by record from the left

-- after a good record: the end has nothing after it (11 again); another record is followed by what is left
abbrev pub judge_after : Verdict → List ℕ → Verdict → Verdict
judge_after (Rejected r) t rest = Rejected r
judge_after Accepted t rest = cond (eqb (kind_of t) 3) (cond (leb (length t) (6 + length_of t)) Accepted (Rejected RecordOrder)) rest

-- 6: the tape stops inside a header, or before an end record. `earlier`: the records before
unfoldable pub judge_records : ℕ → Bool → List (List ℕ) → List (List ℕ) → Verdict
judge_records n after earlier [] = Rejected TapeEnds
judge_records n after earlier (t ∷ ts) =
    let rest = judge_records n (eqb (kind_of t) 2) (t ∷ earlier) ts in
    judge_after (judge_record n after (unnamed_cells earlier (payload_of t)) t) t rest

-- the bytes of the longest tape
abbrev pub most_bytes : ℕ
most_bytes = 65536

-- 12 first: over 65,536 bytes
unfoldable pub judge_tape : ℕ → List ℕ → Verdict
judge_tape n t = cond (leb (length t) most_bytes) (judge_records n false [] (records_of t)) (Rejected TapeLength)
