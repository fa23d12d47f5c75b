-- Tapes by computation: document 01's of 32 bytes, and others; the control record of 33 bytes (document 02, E6).
-- Assumes nothing.
use Rattle.std.specs.Prelude.{ℕ, ◌+◌, Bool, true, false, ◌≡◌, refl, List, [], ◌∷◌, ◌++◌, ◌⊎◌, length, take, drop, replicate}
use Rattle.std.proofs.Math.Option.{none, some}
use Rattle.std.proofs.Common.{inl, inr, arith}
use Rattle.machine.specs.Answers.{verdict_number}
use Rattle.machine.specs.Records.{fresh_control, timer_off, fresh_record}
use Rattle.machine.specs.declared.Timer.{Timer}
use Rattle.machine.specs.declared.Record.{Record}
use Rattle.machine.specs.declared.Refusal.TheVariants.{CellValue, ControlField, TimerField, TapeEnds, RecordKind, RecordOrder, WrittenLength, BufferLength, RemarkLength}
use Rattle.machine.specs.Verdicts.{Verdict, Accepted, Rejected}
use Rattle.acceptance.specs.Accept.{size_fits, cells_fit, state_fits, control_fits, timer_fits, judge_store, judge_registers, judge_machine}
use Rattle.definition_tape.specs.Layout.{length_of, kind_of, payload_of, rest_of, records_within, records_of, first_of, cells_from, block_cells, control_of, timer_of, control_record_of}
use Rattle.definition_tape.specs.Judge.{kind_known, in_order, length_fits, judge_block, control_good, judge_control, judge_payload, judge_record, names, times_named, unnamed_from, judge_records, judge_tape}
use Rattle.definition_tape.specs.Load.{pasted, stored_block, load_record, load_records, tape_cells, loaded_control, judge_load, cleared, loading, overlaying}
use Rattle.definition_tape.specs.Blocks.{Block, Names, Named, NamedOnce, stretch, blocks_from, store_blocks}
use Rattle.definition_tape.specs.Bytes.{header_bytes, record_bytes, cells_bytes, block_bytes, blocks_bytes, control_bytes, remark_record, tape_of}
use Rattle.definition_tape.specs.Writing.{remark_fits, judge_size, judge_parts, judge_writing, writing_by, writing}
use Rattle.definition_tape.specs.Remark.{judge_reading, no_span, remark_span, place_from}

-- opens what a tape is read by
unfoldable pub opened : ℕ
unfolding length_of kind_of payload_of rest_of records_within records_of first_of control_of timer_of control_record_of kind_known in_order length_fits control_good judge_control judge_payload judge_record names times_named unnamed_from judge_records judge_tape size_fits cells_fit state_fits control_fits timer_fits judge_store load_record load_records tape_cells loaded_control judge_load cleared loading overlaying judge_reading remark_span cells_from block_cells judge_block pasted stored_block
opened = 0

-- a control record with flags f, the twentieth byte z and the bytes q after it, then the end
abbrev pub timer_tape : ℕ → ℕ → List ℕ → List ℕ
timer_tape f z q = (20 + length q) ∷ 0 ∷ 0 ∷ 0 ∷ 2 ∷ 0 ∷ replicate 16 0 ++ (128 ∷ 0 ∷ f ∷ z ∷ q ++ (0 ∷ 0 ∷ 0 ∷ 0 ∷ 3 ∷ 0 ∷ []))

-- of 20 bytes
abbrev pub control_tape : ℕ → ℕ → List ℕ
control_tape f z = timer_tape f z []

abbrev pub flags_tape : ℕ → List ℕ
flags_tape f = control_tape f 0

abbrev pub scope_tape : List ℕ
scope_tape = flags_tape 5

-- IC, IR, IM, pending and EX zero, PR 128, monitor mode, the reset state, a timer of four zeroes; the cells are cleared; there is no remark
pub paper_tape : (c : Record) → (loading scope_tape (replicate 8 7) c ≡ record { cells = replicate 8 0; state = record { control = fresh_record; verdict = Accepted } }) × (remark_span scope_tape 8 ≡ no_span 0)
unfolding opened
paper_tape c = (refl, refl)

-- values 1 monitor, 2 enabled, 4 reset, each told apart
abbrev pub modes_after : ℕ → Record → Bool × Bool × Bool
modes_after f c = let d = (loading (flags_tape f) (replicate 8 7) c).state.control.registers in (d.monitor, d.enabled, d.reset)

pub flags_apart : (c : Record)
    → (modes_after 0 c ≡ (false, false, false))
    × (modes_after 1 c ≡ (true, false, false))
    × (modes_after 2 c ≡ (false, true, false))
    × (modes_after 3 c ≡ (true, true, false))
    × (modes_after 5 c ≡ (true, false, true))
unfolding opened
flags_apart c = (refl, refl, refl, refl, refl)

-- a block of two cells at the cell 6, a remark of one byte, then document 01's tape
abbrev pub block_tape : List ℕ
block_tape = 12 ∷ 0 ∷ 0 ∷ 0 ∷ 1 ∷ 0 ∷ 6 ∷ 0 ∷ 0 ∷ 0 ∷ 5 ∷ 0 ∷ 0 ∷ 0 ∷ 6 ∷ 0 ∷ 0 ∷ 7 ∷ 1 ∷ 0 ∷ 0 ∷ 0 ∷ 4 ∷ 0 ∷ 65 ∷ scope_tape

pub block_tape_lem : (c : Record) → ((loading block_tape (replicate 8 7) c).cells ≡ replicate 6 0 ++ (5 ∷ 117440518 ∷ [])) × (remark_span block_tape 8 ≡ record { start = 24; end = 25; found = true; refusal = 0 })
unfolding opened
block_tape_lem c = (refl, refl)

-- the text of that remark lies 24 bytes after the place of the tape
pub text_place : place_from (3, 1000) (remark_span block_tape 8).start ≡ (3, 1024)
unfolding opened
text_place = refl

-- a block of one cell and a control record with the bytes q after the 20, no two bytes of a number alike
abbrev pub bytes_tape : List ℕ → List ℕ
bytes_tape q =
    8 ∷ 0 ∷ 0 ∷ 0 ∷ 1 ∷ 0 ∷ 7 ∷ 0 ∷ 0 ∷ 0 ∷ 1 ∷ 2 ∷ 3 ∷ 4
    ∷ (20 + length q) ∷ 0 ∷ 0 ∷ 0 ∷ 2 ∷ 0 ∷ 1 ∷ 2 ∷ 3 ∷ 0 ∷ 4 ∷ 5 ∷ 6 ∷ 0 ∷ 7 ∷ 8 ∷ 9 ∷ 0 ∷ 10 ∷ 11 ∷ 12 ∷ 0 ∷ 130 ∷ 5 ∷ 2 ∷ 0 ∷ q
    ++ (0 ∷ 0 ∷ 0 ∷ 0 ∷ 3 ∷ 0 ∷ [])

-- the record that is read from it, with the timer t
abbrev pub bytes_record : Timer → Record
bytes_record t =
    record { registers = record { ic = 197121; ir = 394500; im = 591879; pending = 789258; pr = 130; ex = 5; monitor = false; enabled = true; reset = false }; timer = t }

-- elapsed, period and phase (4 bytes each), line (1)
abbrev pub full_timer : List ℕ
full_timer = 1 ∷ 2 ∷ 3 ∷ 4 ∷ 5 ∷ 6 ∷ 7 ∷ 8 ∷ 9 ∷ 10 ∷ 11 ∷ 4 ∷ 23 ∷ []

abbrev pub read_timer : Timer
read_timer = record { elapsed = 67305985; period = 134678021; phase = 67832329; line = 23 }

-- 20 bytes are read with a timer of four zeroes, 33 with the timer that they hold; by an overlay too
pub bytes_tape_lem : (c : Record)
    → (loading (bytes_tape []) (replicate 8 7) c ≡ record { cells = replicate 7 0 ++ (67305985 ∷ []); state = record { control = bytes_record timer_off; verdict = Accepted } })
    × (loading (bytes_tape full_timer) (replicate 8 7) c ≡ record { cells = replicate 7 0 ++ (67305985 ∷ []); state = record { control = bytes_record read_timer; verdict = Accepted } })
    × (overlaying (bytes_tape full_timer) (replicate 8 7) c ≡ record { cells = replicate 7 7 ++ (67305985 ∷ []); state = record { control = bytes_record read_timer; verdict = Accepted } })
unfolding opened
bytes_tape_lem c = (refl, refl, refl)

-- ---- 8, 3 and 18 on a control record (document 02, E6)

-- with the twentieth byte z and the bytes q after it
abbrev pub control_verdict : ℕ → List ℕ → ℕ
control_verdict z q = verdict_number (judge_tape 8 (timer_tape 5 z q))

-- 20 and 33 bytes pass; 21, 32 and 34 are 8
pub control_lengths :
    (control_verdict 0 [] ≡ 0)
    × (control_verdict 0 (replicate 13 0) ≡ 0)
    × (control_verdict 0 (replicate 1 0) ≡ 8)
    × (control_verdict 0 (replicate 12 0) ≡ 8)
    × (control_verdict 0 (replicate 14 0) ≡ 8)
unfolding opened
control_lengths = (refl, refl, refl, refl, refl)

-- the twentieth byte is zero in both forms
pub zero_byte_lem : (control_verdict 1 [] ≡ 3) × (control_verdict 1 (replicate 13 0) ≡ 3)
unfolding opened
zero_byte_lem = (refl, refl)

-- a timer with the period p, the phase f and the line l
abbrev pub timer_fields : ℕ → ℕ → ℕ → List ℕ
timer_fields p f l = 0 ∷ 0 ∷ 0 ∷ 0 ∷ p ∷ 0 ∷ 0 ∷ 0 ∷ f ∷ 0 ∷ 0 ∷ 0 ∷ l ∷ []

-- with a period of 2 the lines 3 and 23 and the phase 1 pass; 18 are line 2, line 24, and a phase equal to the period
pub timer_fields_lem :
    (control_verdict 0 (timer_fields 2 0 3) ≡ 0)
    × (control_verdict 0 (timer_fields 2 1 23) ≡ 0)
    × (control_verdict 0 (timer_fields 2 0 2) ≡ 18)
    × (control_verdict 0 (timer_fields 2 0 24) ≡ 18)
    × (control_verdict 0 (timer_fields 2 2 3) ≡ 18)
unfolding opened
timer_fields_lem = (refl, refl, refl, refl, refl)

-- with a period of 0 any line and phase are accepted and kept
pub timer_off_lem : (c : Record)
    → (loading (timer_tape 5 0 (timer_fields 0 255 254)) (replicate 8 7) c).state
    ≡ record { control = record { registers = fresh_control; timer = record { elapsed = 0; period = 0; phase = 255; line = 254 } }; verdict = Accepted }
unfolding opened
timer_off_lem c = refl

-- 3 before 18: the twentieth byte, flags over 7
pub fields_before_timer : (control_verdict 1 (timer_fields 2 2 2) ≡ 3) × (verdict_number (judge_tape 8 (timer_tape 8 0 (timer_fields 2 2 2))) ≡ 3)
unfolding opened
fields_before_timer = (refl, refl)

-- ---- load and overlay

-- a word in every cell, with a key in five of them
abbrev pub old_cells : List ℕ
old_cells = 117440513 ∷ 2 ∷ 16777219 ∷ 4 ∷ 5 ∷ 50331654 ∷ 7 ∷ 33554440 ∷ 83886089 ∷ []

-- a load clears the seven cells that no block names, words and keys; an overlay keeps them; the control record is the tape's by both
pub cleared_and_kept : (c : Record)
    → (loading block_tape old_cells c ≡ record { cells = 0 ∷ 0 ∷ 0 ∷ 0 ∷ 0 ∷ 0 ∷ 5 ∷ 117440518 ∷ 0 ∷ []; state = record { control = fresh_record; verdict = Accepted } })
    × (overlaying block_tape old_cells c ≡ record { cells = 117440513 ∷ 2 ∷ 16777219 ∷ 4 ∷ 5 ∷ 50331654 ∷ 5 ∷ 117440518 ∷ 83886089 ∷ []; state = record { control = fresh_record; verdict = Accepted } })
unfolding opened
cleared_and_kept c = (refl, refl)

-- refused with 6, both leave cells and control record as they came
pub refused_as_given : (c : Record)
    → (loading [] old_cells c ≡ record { cells = old_cells; state = record { control = c; verdict = Rejected TapeEnds } })
    × (overlaying [] old_cells c ≡ record { cells = old_cells; state = record { control = c; verdict = Rejected TapeEnds } })
unfolding opened
refused_as_given c = (refl, refl)

-- 2 is tested on the store as it came, though the cell would be cleared
abbrev pub bad_cells : List ℕ
bad_cells = 134217728 ∷ old_cells

pub cells_as_they_came : (c : Record)
    → (loading scope_tape bad_cells c ≡ record { cells = bad_cells; state = record { control = c; verdict = Rejected CellValue } })
    × (overlaying scope_tape bad_cells c ≡ record { cells = bad_cells; state = record { control = c; verdict = Rejected CellValue } })
unfolding opened
cells_as_they_came c = (refl, refl)

-- ---- 17

-- a block of two cells at the cell i, none of them zero
abbrev pub block_at : ℕ → List ℕ
block_at i = 12 ∷ 0 ∷ 0 ∷ 0 ∷ 1 ∷ 0 ∷ i ∷ 0 ∷ 0 ∷ 0 ∷ 1 ∷ 0 ∷ 0 ∷ 0 ∷ 2 ∷ 0 ∷ 0 ∷ 0 ∷ []

-- blocks of two cells at the cells i, j and 2, in this order, with a remark after the first, for a store of 8 cells
abbrev pub three_blocks : ℕ → ℕ → ℕ
three_blocks i j = verdict_number (judge_tape 8 (block_at i ++ (0 ∷ 0 ∷ 0 ∷ 0 ∷ 4 ∷ 0 ∷ block_at j ++ (block_at 2 ++ scope_tape))))

-- the last block touches others on both sides, equals one, has a cell of the block just before or of the first
pub overlaps : (three_blocks 0 4 ≡ 0) × (three_blocks 4 0 ≡ 0) × (three_blocks 2 6 ≡ 17) × (three_blocks 6 1 ≡ 17) × (three_blocks 3 6 ≡ 17)
unfolding opened
overlaps = (refl, refl, refl, refl, refl)

-- a block of one cell, of 134,217,728, at the cell i, after blocks of two cells at 0 and 6: 9 before 17, 17 before 10
abbrev pub bad_cell : ℕ → ℕ
bad_cell i = verdict_number (judge_tape 8 (block_at 0 ++ (block_at 6 ++ (8 ∷ 0 ∷ 0 ∷ 0 ∷ 1 ∷ 0 ∷ i ∷ 0 ∷ 0 ∷ 0 ∷ 0 ∷ 0 ∷ 0 ∷ 8 ∷ scope_tape))))

pub overlap_order : (bad_cell 8 ≡ 9) × (bad_cell 7 ≡ 17) × (bad_cell 1 ≡ 17) × (bad_cell 2 ≡ 10) × (verdict_number (judge_tape 8 (block_at 6 ++ (block_at 7 ++ scope_tape))) ≡ 9)
unfolding opened
overlap_order = (refl, refl, refl, refl, refl)

-- blocks of two cells that touch name no cell twice; the first and the last of three name the cell 3, or the cell 2
abbrev pub pair_at : ℕ → Block
pair_at i = record { first = i; cells = 1 ∷ 2 ∷ [] }

pub touching : NamedOnce (pair_at 2 ∷ pair_at 4 ∷ pair_at 0 ∷ [])
unfolding NamedOnce Named
touching = (at, (by, (λ i n m. m, tt)))
  where
    at : (i : ℕ) → Names (pair_at 2) i → Names (pair_at 4) i ⊎ (Names (pair_at 0) i ⊎ ⊥) → ⊥
    at i n (inl m) = omega (arith, n.below, m.from)
    at i n (inr (inl m)) = omega (arith, n.from, m.below)
    at i n (inr (inr x)) = elim x [ ]

    by : (i : ℕ) → Names (pair_at 4) i → Names (pair_at 0) i ⊎ ⊥ → ⊥
    by i n (inl m) = omega (arith, n.from, m.below)
    by i n (inr x) = elim x [ ]

pub overlapping : (NamedOnce (pair_at 2 ∷ pair_at 6 ∷ pair_at 3 ∷ []) → ⊥) × (NamedOnce (pair_at 2 ∷ pair_at 6 ∷ pair_at 1 ∷ []) → ⊥)
unfolding NamedOnce Named
overlapping = (
  λ o. o.0 3 (record { from = omega arith; below = omega arith }) (inr (inl (record { from = omega arith; below = omega arith }))),
  λ o. o.0 2 (record { from = omega arith; below = omega arith }) (inr (inl (record { from = omega arith; below = omega arith }))),
)

-- flags over 7 are 3
pub flags_8 : verdict_number (judge_tape 8 (control_tape 8 0)) ≡ 3
unfolding opened
flags_8 = refl

-- an unknown kind after the control record is 7, another record there is 11
pub unknown_kind : judge_tape 8 (take 26 scope_tape ++ (0 ∷ 0 ∷ 0 ∷ 0 ∷ 9 ∷ 0 ∷ [])) ≡ Rejected RecordKind
unfolding opened
unknown_kind = refl

pub second_control : judge_tape 8 (take 26 scope_tape ++ scope_tape) ≡ Rejected RecordOrder
unfolding opened
second_control = refl

-- ---- writing

-- opens what a tape is written by
unfoldable pub opened_writing : ℕ
unfolding stretch blocks_from store_blocks header_bytes record_bytes cells_bytes block_bytes blocks_bytes control_bytes remark_record tape_of size_fits cells_fit state_fits control_fits timer_fits judge_registers judge_machine remark_fits judge_size judge_parts judge_writing writing
opened_writing = 0

-- lengths and first cells in four bytes, kinds in two
pub numbers_in_bytes : (header_bytes 513 67305985 ≡ 1 ∷ 2 ∷ 3 ∷ 4 ∷ 1 ∷ 2 ∷ []) × (block_bytes (record { first = 67305985; cells = [] }) ≡ 1 ∷ 2 ∷ 3 ∷ 4 ∷ [])
unfolding opened_writing
numbers_in_bytes = (refl, refl)

-- document 01's tape with a control record of 33 bytes is the tape of a fresh machine: a timer of four zeroes is written too
abbrev pub fresh_tape : List ℕ
fresh_tape = timer_tape 5 0 (replicate 13 0)

pub fresh_tape_lem : (tape_of (replicate 8 0) fresh_record none ≡ fresh_tape) × (length fresh_tape ≡ 45)
unfolding opened_writing
fresh_tape_lem = (refl, refl)

-- a remark of one byte, then the cells 6 and 7 in one block: a key with no word is written
pub written_block : tape_of (replicate 6 0 ++ (5 ∷ 117440512 ∷ [])) fresh_record (some (65 ∷ []))
    ≡ 1 ∷ 0 ∷ 0 ∷ 0 ∷ 4 ∷ 0 ∷ 65 ∷ 12 ∷ 0 ∷ 0 ∷ 0 ∷ 1 ∷ 0 ∷ 6 ∷ 0 ∷ 0 ∷ 0 ∷ 5 ∷ 0 ∷ 0 ∷ 0 ∷ 0 ∷ 0 ∷ 0 ∷ 7 ∷ fresh_tape
unfolding opened_writing
written_block = refl

-- a remark of two bytes, two blocks in rising order, a control record with no two bytes of a number alike
pub written_machine :
    tape_of (67305985 ∷ replicate 5 0 ++ (5 ∷ 117440512 ∷ [])) (bytes_record read_timer) (some (65 ∷ 66 ∷ []))
    ≡ 2 ∷ 0 ∷ 0 ∷ 0 ∷ 4 ∷ 0 ∷ 65 ∷ 66
    ∷ 8 ∷ 0 ∷ 0 ∷ 0 ∷ 1 ∷ 0 ∷ 0 ∷ 0 ∷ 0 ∷ 0 ∷ 1 ∷ 2 ∷ 3 ∷ 4
    ∷ 12 ∷ 0 ∷ 0 ∷ 0 ∷ 1 ∷ 0 ∷ 6 ∷ 0 ∷ 0 ∷ 0 ∷ 5 ∷ 0 ∷ 0 ∷ 0 ∷ 0 ∷ 0 ∷ 0 ∷ 7
    ∷ drop 14 (bytes_tape full_timer)
unfolding opened_writing
written_machine = refl

-- with a period of 0 line and phase are written as they are
pub written_timer_off :
    tape_of (replicate 8 0) (record { registers = fresh_control; timer = record { elapsed = 0; period = 0; phase = 255; line = 254 } }) none ≡ timer_tape 5 0 (timer_fields 0 255 254)
unfolding opened_writing
written_timer_off = refl

-- an empty remark is written, no remark is not
pub empty_remark : tape_of (replicate 8 0) fresh_record (some []) ≡ 0 ∷ 0 ∷ 0 ∷ 0 ∷ 4 ∷ 0 ∷ fresh_tape
unfolding opened_writing
empty_remark = refl

-- 3 before 18, 18 before 14: PR 127, line 2 with a period of 2, a remark of 256 bytes
abbrev pub refused_write : ℕ → ℕ → Verdict
refused_write pr period =
    judge_writing (replicate 8 0)
    (record {
      registers = record { ic = 0; ir = 0; im = 0; pending = 0; pr = pr; ex = 0; monitor = true; enabled = false; reset = true };
      timer = record { elapsed = 0; period = period; phase = 0; line = 2 };
    }) (some (replicate 256 0)) 100

pub refused_writes : (refused_write 127 2 ≡ Rejected ControlField) × (refused_write 128 2 ≡ Rejected TimerField) × (refused_write 128 0 ≡ Rejected RemarkLength)
unfolding opened_writing
refused_writes = (refl, refl, refl)

-- 15 before 16; a tape of 65,536 bytes and a buffer as long as the tape pass
pub sizes : (judge_size 65537 65536 ≡ Rejected WrittenLength) × (judge_size 65536 65535 ≡ Rejected BufferLength) × (judge_size 65536 65536 ≡ Accepted)
unfolding judge_size
sizes = (refl, refl, refl)

-- the bytes of the buffer after the tape stay
pub buffer_behind : writing_by Accepted (1 ∷ 2 ∷ []) (7 ∷ 8 ∷ 9 ∷ []) ≡ record { bytes = 1 ∷ 2 ∷ 9 ∷ []; answer = record { length = 2; verdict = Accepted } }
buffer_behind = refl
