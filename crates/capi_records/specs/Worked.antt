-- Worked C calls, by computation: the flag bytes, the timer and their refusals, loads and overlays, written tapes.
-- Assumes nothing.
use Rattle.std.specs.Prelude.{ℕ, ◌≡◌, refl, Bool, true, false, List, [], ◌∷◌, ◌++◌, replicate}
use Rattle.machine.specs.declared.Timer.{Timer}
use Rattle.machine.specs.declared.Record.{Record}
use Rattle.machine.specs.declared.Devices.{Devices}
use Rattle.machine.specs.declared.Refusal.TheVariants.{StoreSize, CellValue, ControlField, TimerField, TapeEnds}
use Rattle.acceptance.specs.Accept.{size_fits, cell_fits, cells_fit, state_fits, control_fits, timer_fits, judge_store, judge_registers, judge_machine, judge_run, judge_autoload}
use Rattle.machine.specs.Store.{word}
use Rattle.definition_runs.specs.GenericRun.{call}
use Rattle.definition_runs.specs.Run.{run_machine}
use Rattle.definition_runs.specs.Keys.{reset_key, start_control, start_key, pressing_reset, pressing_start, pressing_autoload}
use Rattle.definition_runs.specs.Lent.{handed_back, run_lent, key_handed_back, autoload_lent}
use Rattle.definition_tape.specs.Layout.{records_within, records_of}
use Rattle.definition_tape.specs.Judge.{judge_records, judge_tape}
use Rattle.definition_tape.specs.Load.{judge_load, loading, overlaying}
use Rattle.definition_tape.specs.Examples.{opened, opened_writing, scope_tape, fresh_tape, bytes_tape, full_timer, old_cells}
use Rattle.capi_records.specs.declared.ControlRecord.{ControlRecord}
use Rattle.capi_records.specs.declared.StateResult.{StateResult}
use Rattle.capi_records.specs.Results.{flags_fit, flag_byte, registers_in, timer_in, record_in, record_of, judge_flags, refused_run, refused_state, Returned, returned, run_returned, write_returned, run_call, reset_call, start_call, autoload_call, load_call, overlay_call, write_call}

-- a control record with the flag bytes m, e and r and the timer's fields, and the record that it stands for
abbrev bytes_with : ℕ → ℕ → ℕ → Timer → ControlRecord
bytes_with m e r t =
    record {
      ic = 14;
      ir = 3;
      im = 5;
      pending = 7;
      pr = 129;
      ex = 2;
      monitor = m;
      enabled = e;
      reset = r;
      elapsed = t.elapsed;
      period = t.period;
      phase = t.phase;
      line = t.line;
    }

-- a timer with no two fields and no two bytes of a field alike
abbrev running : Timer
running = record { elapsed = 67305985; period = 134678021; phase = 67832329; line = 23 }

abbrev bytes : ℕ → ℕ → ℕ → ControlRecord
bytes m e r = bytes_with m e r running

abbrev flags : Bool → Bool → Bool → Record
flags m e r = record { registers = record { ic = 14; ir = 3; im = 5; pending = 7; pr = 129; ex = 2; monitor = m; enabled = e; reset = r }; timer = running }

-- a register of over 24 bits
abbrev registers : Devices
registers = record { reader = 16777216; typewriter = 3 }

-- each flag has its own byte; every other field goes through as it is, the timer's too
monitor_byte : (record_in (bytes 1 0 0) ≡ flags true false false) × (record_of (flags true false false) ≡ bytes 1 0 0)
unfolding registers_in timer_in record_in record_of flag_byte
monitor_byte = (refl, refl)

enabled_byte : (record_in (bytes 0 1 0) ≡ flags false true false) × (record_of (flags false true false) ≡ bytes 0 1 0)
unfolding registers_in timer_in record_in record_of flag_byte
enabled_byte = (refl, refl)

reset_byte : (record_in (bytes 0 0 1) ≡ flags false false true) × (record_of (flags false false true) ≡ bytes 0 0 1)
unfolding registers_in timer_in record_in record_of flag_byte
reset_byte = (refl, refl)

-- a flag byte of 2 and 7 cells: 1
size_first : run_call 0 0 (replicate 7 0) (bytes 2 0 0) registers [] (9 ∷ []) ≡ run_returned (refused_run StoreSize (bytes 2 0 0) registers) (replicate 7 0) (9 ∷ [])
unfolding run_call judge_flags flags_fit judge_store size_fits
size_first = refl

-- and a cell of 134,217,728: 2
cell_next : reset_call (replicate 8 134217728) (bytes 0 255 0) ≡ returned (refused_state CellValue (bytes 0 255 0)) (replicate 8 134217728)
unfolding reset_call judge_flags flags_fit judge_store size_fits cells_fit cell_fits
cell_next = refl

-- else 3, before lines, budget and characters, and the record comes back as given
then_flags :
    run_call 16777216 65536 (replicate 8 0) (bytes 0 1 2) registers (64 ∷ []) (9 ∷ []) ≡ run_returned (refused_run ControlField (bytes 0 1 2) registers) (replicate 8 0) (9 ∷ [])
unfolding run_call judge_flags flags_fit judge_store size_fits cells_fit cell_fits
then_flags = refl

-- the keys refuse each flag byte of 2 with 3
abbrev RefusedBy3 : (List ℕ → ControlRecord → Returned StateResult) → ControlRecord → Type 0
RefusedBy3 key r = key (replicate 8 0) r ≡ returned (record { control = r; refusal = 3 }) (replicate 8 0)

reset_flags : RefusedBy3 reset_call (bytes 2 0 0) × RefusedBy3 reset_call (bytes 1 2 0) × RefusedBy3 reset_call (bytes 1 0 2)
unfolding reset_call judge_flags flags_fit judge_store size_fits cells_fit cell_fits
reset_flags = (refl, refl, refl)

start_flags : RefusedBy3 start_call (bytes 2 0 0) × RefusedBy3 start_call (bytes 1 2 1) × RefusedBy3 start_call (bytes 1 0 2)
unfolding start_call judge_flags flags_fit judge_store size_fits cells_fit cell_fits
start_flags = (refl, refl, refl)

-- and so the autoload key, before 13
abbrev AutoloadBy3 : ControlRecord → Type 0
AutoloadBy3 r = autoload_call (replicate 8 0) r registers (64 ∷ []) ≡ returned (record { control = r; refusal = 3; devices = registers; taken = 0 }) (replicate 8 0)

autoload_flags : AutoloadBy3 (bytes 2 0 0) × AutoloadBy3 (bytes 1 2 1) × AutoloadBy3 (bytes 1 0 2)
unfolding autoload_call judge_flags flags_fit judge_store size_fits cells_fit cell_fits
autoload_flags = (refl, refl, refl)

-- a load and an overlay do not test the given record: an empty tape is refused with 6, and the cells stay
untested : (load_call [] old_cells (bytes 2 2 2) ≡ returned (refused_state TapeEnds (bytes 2 2 2)) old_cells)
    × (overlay_call [] old_cells (bytes 2 2 2) ≡ returned (refused_state TapeEnds (bytes 2 2 2)) old_cells)
unfolding load_call overlay_call loading overlaying judge_load judge_tape judge_records records_of records_within judge_store size_fits cells_fit cell_fits
untested = (refl, refl)

-- and document 01's tape loads: PR 128, monitor mode, the reset state, a timer of four zeroes; no block names a cell: a load clears them all, an overlay keeps them
abbrev fresh_bytes : ControlRecord
fresh_bytes = record { ic = 0; ir = 0; im = 0; pending = 0; pr = 128; ex = 0; monitor = 1; enabled = 0; reset = 1; elapsed = 0; period = 0; phase = 0; line = 0 }

load_accepted : load_call scope_tape old_cells (bytes 2 2 2) ≡ returned (record { control = fresh_bytes; refusal = 0 }) (replicate 9 0)
unfolding load_call record_of flag_byte opened
load_accepted = refl

overlay_accepted : overlay_call scope_tape old_cells (bytes 2 2 2) ≡ returned (record { control = fresh_bytes; refusal = 0 }) old_cells
unfolding overlay_call record_of flag_byte opened
overlay_accepted = refl

-- a tape's control record of 33 bytes, its timer read into the four fields
abbrev tape_bytes : ControlRecord
tape_bytes =
    record {
      ic = 197121;
      ir = 394500;
      im = 591879;
      pending = 789258;
      pr = 130;
      ex = 5;
      monitor = 0;
      enabled = 1;
      reset = 0;
      elapsed = 67305985;
      period = 134678021;
      phase = 67832329;
      line = 23;
    }

timer_loaded : (load_call (bytes_tape full_timer) old_cells fresh_bytes).result ≡ record { control = tape_bytes; refusal = 0 }
unfolding load_call record_of flag_byte opened
timer_loaded = refl

-- ---- the timer: 18 (document 02, E6)

-- in the reset state, with the period p, the phase f and the line l
abbrev timed : ℕ → ℕ → ℕ → ControlRecord
timed p f l = bytes_with 1 0 1 (record { elapsed = 4294967295; period = p; phase = f; line = l })

-- opens the tests 1, 2, 3 and 18 of a call
unfoldable opened_tests : ℕ
unfolding judge_flags flags_fit registers_in timer_in record_in record_of flag_byte judge_store judge_registers judge_machine judge_run judge_autoload size_fits cells_fit cell_fits control_fits state_fits timer_fits
opened_tests = 0

-- a key hands back the record as it came, refused with n
abbrev KeyGives : (List ℕ → ControlRecord → Returned StateResult) → ControlRecord → ℕ → Type 0
KeyGives key r n = key (replicate 8 0) r ≡ returned (record { control = r; refusal = n }) (replicate 8 0)

-- the reset key, in the reset state: lines 3 and 23 and a phase below the period pass, and the timer comes back as it was; 18 are line 2, line 24 and a
-- phase equal to the period; with the period 0 any phase and line pass
reset_timer :
    KeyGives reset_call (timed 2 1 3) 0
    × KeyGives reset_call (timed 2 0 23) 0
    × KeyGives reset_call (timed 2 0 2) 18
    × KeyGives reset_call (timed 2 0 24) 18
    × KeyGives reset_call (timed 2 2 3) 18
    × KeyGives reset_call (timed 0 4294967295 255) 0
unfolding opened_tests reset_call pressing_reset reset_key
reset_timer = (refl, refl, refl, refl, refl, refl)

-- the start key: the reset state is left, and the timer comes back as it was
start_timer :
    KeyGives start_call (timed 2 0 2) 18
    × ((start_call (replicate 8 9) (timed 2 1 3)).result.control ≡ record_of (record { registers = start_control (registers_in (timed 2 1 3)) 9; timer = timer_in (timed 2 1 3) }))
unfolding opened_tests start_call pressing_start start_key start_control word
start_timer = (refl, refl)

-- the autoload key: 18 before 13
autoload_timer :
    autoload_call (replicate 8 0) (timed 2 0 2) registers (64 ∷ [])
    ≡ returned (record { control = timed 2 0 2; refusal = 18; devices = registers; taken = 0 }) (replicate 8 0)
unfolding opened_tests autoload_call autoload_lent key_handed_back pressing_autoload
autoload_timer = refl

-- a run: 3 before 18, 18 before lines, budget and characters; the record, the registers and the typing buffer come back as given
run_timer :
    run_call 16777216 65536 (replicate 8 0) (timed 2 0 2) registers (64 ∷ []) (9 ∷ [])
    ≡ run_returned (refused_run TimerField (timed 2 0 2) registers) (replicate 8 0) (9 ∷ [])
unfolding opened_tests run_call run_lent handed_back run_machine call
run_timer = refl

fields_first :
    (run_call 0 0 (replicate 8 0) (bytes_with 0 0 1 (record { elapsed = 0; period = 2; phase = 2; line = 2 })) registers [] []).result.number ≡ 3
unfolding opened_tests run_call run_lent handed_back run_machine call
fields_first = refl

-- ---- a written tape

-- 0 is no remark, every other byte gives one
no_remark_by_0 : write_call (replicate 8 0) fresh_bytes 0 (65 ∷ []) (replicate 46 9) ≡ write_returned (record { refusal = 0; length = 45 }) (fresh_tape ++ (9 ∷ []))
unfolding write_call judge_flags flags_fit registers_in timer_in record_in opened_writing
no_remark_by_0 = refl

remark_by_2 :
    write_call (replicate 8 0) fresh_bytes 2 [] (replicate 52 9)
    ≡ write_returned (record { refusal = 0; length = 51 }) (0 ∷ 0 ∷ 0 ∷ 0 ∷ 4 ∷ 0 ∷ (fresh_tape ++ (9 ∷ [])))
unfolding write_call judge_flags flags_fit registers_in timer_in record_in opened_writing
remark_by_2 = refl

-- a remark's text, a cell and each field of the record in its place
written_whole :
    write_call (67305985 ∷ replicate 7 0) (bytes 0 1 0) 1 (65 ∷ 66 ∷ []) (replicate 68 9)
    ≡ write_returned (record { refusal = 0; length = 67 })
    (2 ∷ 0 ∷ 0 ∷ 0 ∷ 4 ∷ 0 ∷ 65 ∷ 66
    ∷ 8 ∷ 0 ∷ 0 ∷ 0 ∷ 1 ∷ 0 ∷ 0 ∷ 0 ∷ 0 ∷ 0 ∷ 1 ∷ 2 ∷ 3 ∷ 4
    ∷ 33 ∷ 0 ∷ 0 ∷ 0 ∷ 2 ∷ 0 ∷ 14 ∷ 0 ∷ 0 ∷ 0 ∷ 3 ∷ 0 ∷ 0 ∷ 0 ∷ 5 ∷ 0 ∷ 0 ∷ 0 ∷ 7 ∷ 0 ∷ 0 ∷ 0 ∷ 129 ∷ 2 ∷ 2 ∷ 0
    ∷ 1 ∷ 2 ∷ 3 ∷ 4 ∷ 5 ∷ 6 ∷ 7 ∷ 8 ∷ 9 ∷ 10 ∷ 11 ∷ 4 ∷ 23
    ∷ 0 ∷ 0 ∷ 0 ∷ 0 ∷ 3 ∷ 0 ∷ 9 ∷ [])
unfolding write_call judge_flags flags_fit registers_in timer_in record_in opened_writing
written_whole = refl

-- a flag byte of 2 is 3, before 14 and 16
write_flags : write_call (replicate 8 0) (bytes 2 0 0) 1 (replicate 256 0) (9 ∷ []) ≡ write_returned (record { refusal = 3; length = 0 }) (9 ∷ [])
unfolding write_call judge_flags flags_fit judge_store size_fits cells_fit cell_fits
write_flags = refl

-- the timer is tested after 3 and before 14
write_timer : write_call (replicate 8 0) (timed 2 0 2) 1 (replicate 256 0) (9 ∷ []) ≡ write_returned (record { refusal = 18; length = 0 }) (9 ∷ [])
unfolding write_call judge_flags flags_fit registers_in timer_in record_in opened_writing
write_timer = refl
