-- Document 01's table and edges, and worked keys, cycles and lists of budgets, by computation.
-- Assumes nothing.
use Rattle.std.specs.Prelude.{ℕ, ◌*◌, ◌+◌, ◌≡◌, refl, Bool, true, false, List, [], ◌∷◌, ◌++◌, replicate}
use Rattle.machine.specs.declared.Control.{Control}
use Rattle.machine.specs.declared.Record.{Record}
use Rattle.machine.specs.declared.Kind.TheVariants.{Exception, Line}
use Rattle.machine.specs.declared.Outcome.TheVariants.{Spent, Interrupted, Reset}
use Rattle.machine.specs.declared.Refusal.TheVariants.{ControlField}
use Rattle.machine.specs.Verdicts.{Accepted, Rejected, Ended}
use Rattle.machine.specs.Store.{word, absent}
use Rattle.machine.specs.Records.{timer_off}
use Rattle.machine.specs.Format.{instruction_fields}
use Rattle.definition_instructions.specs.Machine.{Machine, machine}
use Rattle.definition_instructions.specs.Channel.{lent}
use Rattle.definition_runs.specs.GenericRun.{refused_number, ended}
use Rattle.definition_runs.specs.Cycle.{address}
use Rattle.definition_runs.specs.Keys.{pressing_reset, pressing_start}
use Rattle.definition_runs.specs.Timed.{timed_computer, timed}
use Rattle.definition_runs.specs.Run.{without_timer, run_untimed, run_list}
use Rattle.definition_runs.specs.Opened.{opened}

-- no characters, no typing space, registers zero
abbrev alone : List ℕ → Control → Machine
alone s c = machine s c (lent 0 0 [] [])

-- in the monitor, every key forbidden
abbrev monitor : ℕ → ℕ → ℕ → Bool → Control
monitor ic ir im e = record { ic = ic; ir = ir; im = im; pending = 0; pr = 255; ex = 0; monitor = true; enabled = e; reset = false }

-- key 7 forbidden, in monitor mode or in task mode
abbrev keyed : ℕ → Bool → Control
keyed ic m = record { ic = ic; ir = 0; im = 0; pending = 0; pr = 129; ex = 0; monitor = m; enabled = false; reset = false }

abbrev task : ℕ → Control
task ic = keyed ic false

-- one instruction in cell 7, at address 14, with W0, W1 and W2 given
abbrev one : ℕ → ℕ → ℕ → ℕ → Machine
one x w₀ w₁ w₂ = alone (w₀ ∷ w₁ ∷ w₂ ∷ 0 ∷ 0 ∷ 0 ∷ 0 ∷ x ∷ []) (monitor 14 0 0 false)

-- W0, W1, EX and IR after it
abbrev Leaves : Machine → ℕ → ℕ → ℕ → ℕ → Type 0
Leaves m w₀ w₁ ex ir =
    (word (run_untimed 0 1 m).machine.cells 0 ≡ w₀)
    × (word (run_untimed 0 1 m).machine.cells 1 ≡ w₁)
    × ((run_untimed 0 1 m).machine.control.ex ≡ ex)
    × ((run_untimed 0 1 m).machine.control.ir ≡ ir)

-- WA 8388607 + 1: 8388608, EX 22 one, EX 23 zero, IR 1 set
wa_overflow : Leaves (one 1900548 0 8388607 1) 0 8388608 2 4194304
unfolding opened
wa_overflow = (refl, refl, refl, refl)

-- WA 16777215 + 1: 0, EX 22 zero, EX 23 one
wa_carry : Leaves (one 1900548 0 16777215 1) 0 0 1 0
unfolding opened
wa_carry = (refl, refl, refl, refl)

-- WM 8388608 by itself: Wpre 4194304, W 0
wm_least : Leaves (one 2686978 0 8388608 0) 4194304 0 0 0
unfolding opened
wm_least = (refl, refl, refl, refl)

-- WD pair -7 by 2: W 16777213, Wpre 16777215
wd_negative : Leaves (one 6356996 16777215 16777209 2) 16777215 16777213 0 0
unfolding opened
wd_negative = (refl, refl, refl, refl)

-- WD pair 0, 5 by 0: pair kept, EX 22 and IR 1 one
wd_by_zero : Leaves (one 6356996 0 5 0) 0 5 2 4194304
unfolding opened
wd_by_zero = (refl, refl, refl, refl)

-- AC of 8388608, here from X = 2: 8388608, EX 22 one
ac_least : Leaves (one 8724480 0 0 8388608) 0 8388608 2 4194304
unfolding opened
ac_least = (refl, refl, refl, refl)

-- M = 0, X = 0, D = 4095: address 16777215, here by AL
al_least : Leaves (one 2953215 0 0 0) 0 16777215 0 0
unfolding opened
al_least = (refl, refl, refl, refl)

-- M = 2, X = 0, IC 16777214, D = 4: address 2
address_wraps : address [] (monitor 16777214 0 0 false) (instruction_fields (2 * 16384 + 4)) ≡ 2
unfolding opened
address_wraps = refl

-- AA into W0, W1 from address 4; W0 = 0, W1 = 1, W2 = 2: W1 3, W0 3
aa_overlap : Leaves (one 14745604 0 1 2) 3 3 0 0
unfolding opened
aa_overlap = (refl, refl, refl, refl)

-- CI of 0: Wpre 0, W 2048
ci_zero : Leaves (one 8454144 7 0 0) 0 2048 0 0
unfolding opened
ci_zero = (refl, refl, refl, refl)

-- CI of 1, address 0: Wpre 4194304, W 1
ci_one : Leaves (one 8454144 0 1 0) 4194304 1 0 0
unfolding opened
ci_one = (refl, refl, refl, refl)

-- IR bits 3 and 5, both masked in, enabled: word 8 is 6, bit 5 stays; word 10 is IC, and IC is word 12 without its last bit
line_entry :
    run_untimed 1310720 5 (alone (0 ∷ 0 ∷ 0 ∷ 0 ∷ 7 ∷ 7 ∷ 9 ∷ 0 ∷ []) (monitor 14 0 1310720 true))
    ≡ ended (Interrupted (Line 6)) (alone (0 ∷ 0 ∷ 0 ∷ 0 ∷ 6 ∷ 14 ∷ 9 ∷ 0 ∷ []) (monitor 8 262144 1310720 false)) 0 1
unfolding opened
line_entry = refl

-- a given bit 0 of IR is a line like the others: number 0
line_0 :
    run_untimed 0 5 (alone (0 ∷ 0 ∷ 0 ∷ 0 ∷ 7 ∷ 7 ∷ 9 ∷ 0 ∷ []) (monitor 14 8388608 8388608 true))
    ≡ ended (Interrupted (Line 0)) (alone (0 ∷ 0 ∷ 0 ∷ 0 ∷ 0 ∷ 14 ∷ 9 ∷ 0 ∷ []) (monitor 8 0 8388608 false)) 0 1
unfolding opened
line_0 = refl

-- AL w1 5, AL w1 x1 + 3, and a code that is not assigned, from address 14
abbrev three : Control → Machine
three c = alone (0 ∷ 0 ∷ 0 ∷ 0 ∷ 7 ∷ 7 ∷ 14 ∷ 2949125 ∷ 2953219 ∷ 16515072 ∷ []) c

-- two cycles of it: both instructions are executed, and the budget is spent
two_cycles :
    run_untimed 0 2 (three (monitor 14 0 0 false))
    ≡ ended Spent (alone (0 ∷ 8 ∷ 0 ∷ 0 ∷ 7 ∷ 7 ∷ 14 ∷ 2949125 ∷ 2953219 ∷ 16515072 ∷ []) (monitor 18 0 0 false)) 2 0
unfolding opened
two_cycles = refl

-- with budget left, the third cycle is an entry, and ends the run
three_cycles :
    run_untimed 0 9 (three (monitor 14 0 0 false))
    ≡ ended (Interrupted Exception) (alone (0 ∷ 8 ∷ 0 ∷ 0 ∷ 0 ∷ 20 ∷ 14 ∷ 2949125 ∷ 2953219 ∷ 16515072 ∷ []) (monitor 14 0 0 false)) 2 1
unfolding opened
three_cycles = refl

-- ---- panel keys and cycles, in the manual's order

-- no two registers alike, no line requested, key 0 forbidden; IC, the pending modification and EX given
abbrev given : ℕ → ℕ → ℕ → Bool → Bool → Bool → Control
given ic p ex m e r = record { ic = ic; ir = 3; im = 4; pending = p; pr = 130; ex = ex; monitor = m; enabled = e; reset = r }

-- with a timer in the middle of an interval: the keys leave it as it is
abbrev counting : Control → Record
counting c = record { registers = c; timer = record { elapsed = 5; period = 100; phase = 7; line = 9 } }

-- the words 8, 10, 12 and 14 differ; word 10 given, its key is 3
abbrev constants : ℕ → List ℕ
constants a = 1 ∷ 2 ∷ 3 ∷ 4 ∷ 20 ∷ (50331648 + a) ∷ 25 ∷ 27 ∷ []

-- reset: IC in word 10 and in no other, no pending modification, the reset state with monitor mode and interrupts disabled
reset_key_lem : pressing_reset (constants 22) (counting (given 16 7 5 false true false)) ≡ record { machine = timed_computer (constants 16) (counting (given 16 0 5 true false true)); verdict = Accepted }
unfolding opened
reset_key_lem = refl

-- in the reset state it changes nothing
reset_again : pressing_reset (constants 22) (counting (given 16 7 5 true false true)) ≡ record { machine = timed_computer (constants 22) (counting (given 16 7 5 true false true)); verdict = Accepted }
unfolding opened
reset_again = refl

-- start: IC from word 14 without its last bit, and the reset state is left; no cell changes
start_key_lem : pressing_start (constants 22) (counting (given 16 7 5 true false true)) ≡ record { machine = timed_computer (constants 22) (counting (given 26 7 5 true false false)); verdict = Accepted }
unfolding opened
start_key_lem = refl

-- outside the reset state it changes nothing
start_elsewhere : pressing_start (constants 22) (counting (given 16 7 5 true false false)) ≡ record { machine = timed_computer (constants 22) (counting (given 16 7 5 true false false)); verdict = Accepted }
unfolding opened
start_elsewhere = refl

-- refused with 3 for a reset state with interrupts enabled, neither key changes anything
keys_refused :
    (pressing_reset (constants 22) (counting (given 16 7 5 true true true)) ≡ record { machine = timed_computer (constants 22) (counting (given 16 7 5 true true true)); verdict = Rejected ControlField })
    × (pressing_start (constants 22) (counting (given 16 7 5 true true true)) ≡ record { machine = timed_computer (constants 22) (counting (given 16 7 5 true true true)); verdict = Rejected ControlField })
unfolding opened
keys_refused = (refl, refl)

-- 3.4: F (6 bits), W (2), M (2), X (2), D (12)
abbrev instruction_word : ℕ → ℕ → ℕ → ℕ → ℕ → ℕ
instruction_word f w m x d = f * 262144 + w * 65536 + m * 16384 + x * 4096 + d

-- AL w1 5
abbrev al : ℕ
al = instruction_word 11 1 0 0 5

-- W1, the words 8 and 10 and the cell at address 14 given; word 12 is 4
abbrev eight : ℕ → ℕ → ℕ → ℕ → List ℕ
eight w₁ n a x = 0 ∷ w₁ ∷ 0 ∷ 0 ∷ n ∷ a ∷ 4 ∷ x ∷ []

-- a line raised while a modification is pending: the instruction is executed first, with 4 more, then the line is taken
line_waits :
    run_untimed 4 9 (alone (eight 0 7 7 al) (given 14 4 5 true true false)) ≡ ended (Interrupted (Line 42)) (alone (eight 9 42 16 al) (given 4 0 5 true false false)) 1 1
unfolding opened
line_waits = refl

-- the fetch finds an absent address: word 10 is IC itself
fetch_absent_lem : run_untimed 0 9 (alone (eight 0 7 7 al) (task 16)) ≡ ended (Interrupted Exception) (alone (eight 0 0 16 al) (keyed 4 true)) 0 1
unfolding opened
fetch_absent_lem = refl

-- an entry leaves no pending modification, not used up by an absent fetch
pending_cleared :
    run_untimed 0 9 (alone (eight 0 7 7 al) (given 16 4 5 true true false)) ≡ ended (Interrupted Exception) (alone (eight 0 0 16 al) (given 4 0 5 true false false)) 0 1
unfolding opened
pending_cleared = refl

-- in task mode the fetch finds a forbidden cell: word 10 is IC + 2, and nothing is executed
fetch_forbidden :
    run_untimed 0 9 (alone (eight 0 7 7 (117440512 + al)) (task 14)) ≡ ended (Interrupted Exception) (alone (eight 0 0 16 (117440512 + al)) (keyed 4 true)) 0 1
unfolding opened
fetch_forbidden = refl

-- in monitor mode an instruction in an allowed cell is executed in task mode
fetch_allowed : run_untimed 0 1 (alone (eight 0 7 7 (16777216 + al)) (keyed 14 true)) ≡ ended Spent (alone (eight 5 7 7 (16777216 + al)) (task 16)) 1 0
unfolding opened
fetch_allowed = refl

-- AL w1 with M and D given, X = 2, W2 = 2; word 10 is 33
abbrev Loads : ℕ → ℕ → ℕ → Type 0
Loads m d w₁ = word (run_untimed 0 1 (alone (0 ∷ 0 ∷ 2 ∷ 0 ∷ 0 ∷ 33 ∷ 0 ∷ instruction_word 11 1 m 2 d ∷ []) (monitor 14 0 0 false))).machine.cells 1 ≡ w₁

-- M chooses X + D, word(X + D), X + IC + D, word(X + IC + D); here D = 8 and -6
address_modes : Loads 0 8 10 × Loads 1 8 33 × Loads 2 4090 10 × Loads 3 4090 33
unfolding opened
address_modes = (refl, refl, refl, refl)

-- AM 4, AL w1 5, AL w2 5
abbrev modified : ℕ → ℕ → List ℕ
modified w₁ w₂ = 0 ∷ w₁ ∷ w₂ ∷ 0 ∷ 0 ∷ 0 ∷ 0 ∷ instruction_word 9 0 0 0 4 ∷ al ∷ instruction_word 11 2 0 0 5 ∷ []

-- AM leaves its address as the pending modification
am_pending : run_untimed 0 1 (alone (modified 0 0) (given 14 0 5 true true false)) ≡ ended Spent (alone (modified 0 0) (given 16 4 5 true true false)) 1 0
unfolding opened
am_pending = refl

-- AM changes the next displacement, and not the one after it
am_next : run_untimed 0 3 (alone (modified 0 0) (given 14 0 5 true true false)) ≡ ended Spent (alone (modified 9 5) (given 20 0 5 true true false)) 3 0
unfolding opened
am_next = refl

-- IO w1 2000, of an absent address
abbrev io : ℕ
io = instruction_word 1 1 0 0 2000

-- in the monitor: EX 22 one, EX 23 zero, EX 21 and W kept
io_monitor :
    (run_untimed 0 1 (alone (eight 9 7 7 io) (given 14 0 0 true true false)) ≡ ended Spent (alone (eight 9 7 7 io) (given 16 0 2 true true false)) 1 0)
    × (run_untimed 0 1 (alone (eight 9 7 7 io) (given 14 0 5 true true false)) ≡ ended Spent (alone (eight 9 7 7 io) (given 16 0 6 true true false)) 1 0)
unfolding opened
io_monitor = (refl, refl)

-- in task mode, and in an allowed cell: an exception
io_task :
    (run_untimed 0 9 (alone (eight 9 7 7 (16777216 + io)) (task 14)) ≡ ended (Interrupted Exception) (alone (eight 9 0 16 (16777216 + io)) (keyed 4 true)) 0 1)
    × (run_untimed 0 9 (alone (eight 9 7 7 (16777216 + io)) (keyed 14 true)) ≡ ended (Interrupted Exception) (alone (eight 9 0 16 (16777216 + io)) (keyed 4 true)) 0 1)
unfolding opened
io_task = (refl, refl)

-- AW w1 2000 in the monitor: word 10 is IC, already raised by 2; the reset state; one instruction executed
aw_monitor :
    run_untimed 0 9 (alone (eight 9 7 7 (instruction_word 0 1 0 0 2000)) (given 14 0 5 true true false))
    ≡ ended Reset (alone (eight 9 7 16 (instruction_word 0 1 0 0 2000)) (given 16 0 5 true false true)) 1 0
unfolding opened
aw_monitor = refl

-- ---- the list of budgets

-- IC 1, which clears bit 23 of IR, at address 14: the line raised for the first run does not join the second, and the counts are summed
lines_once :
    without_timer (run_list 1 1 (0 ∷ []) (timed timer_off (alone (eight 9 7 7 (instruction_word 47 0 0 0 1)) (monitor 14 0 0 false))))
    ≡ ended Spent (alone (eight 9 7 7 (instruction_word 47 0 0 0 1)) (monitor 16 0 0 false)) 1 0
unfolding opened
lines_once = refl

-- after a run that ended reset no other is made: a budget of 65,536 is not looked at
list_ends :
    run_list 0 1 (65536 ∷ []) (timed timer_off (alone (replicate 8 0) (given 0 0 0 true false true)))
    ≡ ended Reset (timed timer_off (alone (replicate 8 0) (given 0 0 0 true false true))) 0 0
unfolding opened
list_ends = refl

-- ---- edges

-- the number of a run's refusal, 0 for none
abbrev refusal_of : ℕ → ℕ → List ℕ → Control → ℕ
refusal_of l b s c = refused_number (run_untimed l b (alone s c)).answer

-- 8 cells pass, 7 do not; here JL 14, which jumps to itself
cells_8 : (run_untimed 0 1 (alone (0 ∷ 0 ∷ 0 ∷ 0 ∷ 0 ∷ 0 ∷ 0 ∷ 3407886 ∷ []) (monitor 14 0 0 false))).answer ≡ Ended Spent
unfolding opened
cells_8 = refl

cells_7 : refusal_of 0 1 (replicate 7 3407886) (monitor 14 0 0 false) ≡ 1
unfolding opened
cells_7 = refl

-- address 15 exists with 8 cells, 16 does not
address_15 : absent (replicate 8 0) 15 ≡ false
unfolding opened
address_15 = refl

address_16 : absent (replicate 8 0) 16 ≡ true
unfolding opened
address_16 = refl

-- a cell of 134,217,727 passes, 134,217,728 does not
cell_values : (refusal_of 0 0 (replicate 8 134217727) (monitor 0 0 0 false) ≡ 0) × (refusal_of 0 0 (replicate 7 0 ++ (134217728 ∷ [])) (monitor 0 0 0 false) ≡ 2)
unfolding opened
cell_values = (refl, refl)

-- IC, IR, IM, the pending modification, PR and EX given
abbrev of_fields : ℕ → ℕ → ℕ → ℕ → ℕ → ℕ → ℕ
of_fields ic ir im p pr ex = refusal_of 0 0 (replicate 8 0) (record { ic = ic; ir = ir; im = im; pending = p; pr = pr; ex = ex; monitor = false; enabled = true; reset = false })

-- IC, IR, IM, pending 24 bits each; PR 128 to 255; EX 3 bits
widths_pass : (of_fields 16777215 16777215 16777215 16777215 255 7 ≡ 0) × (of_fields 0 0 0 0 128 0 ≡ 0)
unfolding opened
widths_pass = (refl, refl)

widths_over :
    (of_fields 16777216 0 0 0 128 0 ≡ 3)
    × (of_fields 0 16777216 0 0 128 0 ≡ 3)
    × (of_fields 0 0 16777216 0 128 0 ≡ 3)
    × (of_fields 0 0 0 16777216 128 0 ≡ 3)
    × (of_fields 0 0 0 0 127 0 ≡ 3)
    × (of_fields 0 0 0 0 256 0 ≡ 3)
    × (of_fields 0 0 0 0 128 8 ≡ 3)
unfolding opened
widths_over = (refl, refl, refl, refl, refl, refl, refl)

-- monitor mode, interrupts enabled and reset state given
abbrev of_modes : Bool → Bool → Bool → ℕ
of_modes m e r = refusal_of 0 0 (replicate 8 0) (given 0 0 0 m e r)

-- reset state implies monitor mode and interrupts disabled
reset_implies : (of_modes true false true ≡ 0) × (of_modes false false true ≡ 3) × (of_modes true true true ≡ 3) × (of_modes false true false ≡ 0)
unfolding opened
reset_implies = (refl, refl, refl, refl)

-- lines with bits 3 to 23 pass, with bit 2 they do not; here in the reset state
lines_2097151 : (run_untimed 2097151 0 (alone (replicate 8 0) (given 0 0 0 true false true))).answer ≡ Ended Reset
unfolding opened
lines_2097151 = refl

lines_2097152 : refusal_of 2097152 0 (replicate 8 0) (given 0 0 0 true false true) ≡ 4
unfolding opened
lines_2097152 = refl

-- budget 65,535 passes, 65,536 does not
budget_65535 : (run_untimed 0 65535 (alone (replicate 8 0) (given 0 0 0 true false true))).answer ≡ Ended Reset
unfolding opened
budget_65535 = refl

budget_65536 : refusal_of 0 65536 (replicate 8 0) (given 0 0 0 true false true) ≡ 5
unfolding opened
budget_65536 = refl

-- ---- likely errors of document 01

-- DS w1 to 22, with 22 allowed and 20 forbidden: word 22 changes, and an exception follows
ds_halfway :
    run_untimed 0 9 (alone (16777221 ∷ 16777222 ∷ 0 ∷ 0 ∷ 16777216 ∷ 16777216 ∷ 16777240 ∷ 31260694 ∷ 0 ∷ 0 ∷ 117440512 ∷ 16777216 ∷ []) (task 14))
    ≡ ended (Interrupted Exception)
    (alone (16777221 ∷ 16777222 ∷ 0 ∷ 0 ∷ 16777216 ∷ 16777232 ∷ 16777240 ∷ 31260694 ∷ 0 ∷ 0 ∷ 117440512 ∷ 16777222 ∷ [])
    (keyed 24 true))
    0
    1
unfolding opened
ds_halfway = refl

-- RS w0 to the register W3, whose key is forbidden: an exception
store_to_forbidden_register :
    (run_untimed 0 9 (alone (16777221 ∷ 16777222 ∷ 0 ∷ 117440512 ∷ 16777216 ∷ 16777216 ∷ 16777240 ∷ 22806534 ∷ []) (task 14))).answer ≡ Ended (Interrupted Exception)
unfolding opened
store_to_forbidden_register = refl

-- the same with W3 allowed: the store is made, and the budget is spent
store_to_allowed_register :
    (run_untimed 0 1 (alone (16777221 ∷ 16777222 ∷ 0 ∷ 16777216 ∷ 16777216 ∷ 16777216 ∷ 16777240 ∷ 22806534 ∷ []) (task 14))).answer ≡ Ended Spent
unfolding opened
store_to_allowed_register = refl
