-- Worked runs with a timer, by computation (document 02, E6): times of whole cycles, and when the line is raised.
-- Assumes nothing.
use Rattle.std.specs.Prelude.{ℕ, ◌+◌, ◌-◌, ◌*◌, ◌^◌, ◌≡◌, refl, Bool, true, false, List, [], ◌∷◌}
use Rattle.machine.specs.declared.Control.{Control}
use Rattle.machine.specs.declared.Record.{Record}
use Rattle.machine.specs.declared.Kind.TheVariants.{Exception, Line}
use Rattle.machine.specs.declared.Outcome.TheVariants.{Spent, Interrupted, Reset}
use Rattle.machine.specs.Verdicts.{Accepted, Rejected}
use Rattle.machine.specs.declared.Refusal.TheVariants.{TimerField}
use Rattle.definition_instructions.specs.Channel.{lent}
use Rattle.definition_runs.specs.GenericRun.{refused_number, ended}
use Rattle.definition_runs.specs.Timed.{TimedMachine, timed_computer, timed_machine}
use Rattle.definition_runs.specs.Keys.{pressing_reset, pressing_start, pressing_autoload}
use Rattle.definition_runs.specs.Run.{run_machine, run_list}
use Rattle.definition_runs.specs.Opened.{opened}

-- 3.4: F (6 bits), W (2), M (2), X (2), D (12)
abbrev order : ℕ → ℕ → ℕ → ℕ → ℕ → ℕ
order f w m x d = f * 262144 + w * 65536 + m * 16384 + x * 4096 + d

-- IC, IR, monitor mode with interrupts enabled or not, reset state; every key forbidden, lines 9 and 23 masked in
abbrev registers : ℕ → ℕ → Bool → Bool → Control
registers ic ir e r = record { ic = ic; ir = ir; im = 16385; pending = 0; pr = 255; ex = 0; monitor = true; enabled = e; reset = r }

-- task mode, interrupts enabled, only cells with key 0 forbidden
abbrev task : ℕ → Control
task ic = record { ic = ic; ir = 0; im = 16385; pending = 0; pr = 128; ex = 0; monitor = false; enabled = true; reset = false }

-- with elapsed time, period, phase and line
abbrev with : ℕ → ℕ → ℕ → ℕ → Control → Record
with e p q l c = record { registers = c; timer = record { elapsed = e; period = p; phase = q; line = l } }

-- W1, the words 8 and 10, and the instruction at address 14 given; word 12 is 9
abbrev eight : ℕ → ℕ → ℕ → ℕ → List ℕ
eight w₁ w₈ w₁₀ x = 0 ∷ w₁ ∷ 0 ∷ 0 ∷ w₈ ∷ w₁₀ ∷ 9 ∷ x ∷ []

abbrev alone : List ℕ → Record → TimedMachine
alone s r = timed_machine s r (lent 0 0 [] [])

-- AL w1 5: 1.5
abbrev al : ℕ
al = order 11 1 0 0 5

-- the phase reaches the period: the line is raised at the end of the cycle and taken in the next one; the entry, of 7.5, ends five more periods, and the
-- line is raised again after its bit was cleared
raised_and_taken :
    run_machine 0 9 (alone (eight 0 7 7 al) (with 5 15 0 9 (registers 14 0 true false)))
    ≡ ended (Interrupted (Line 18)) (alone (eight 5 18 16 al) (with 95 15 0 9 (registers 8 16384 false false))) 1 1
unfolding opened
raised_and_taken = refl

-- below the period nothing is raised
not_yet :
    run_machine 0 1 (alone (eight 0 7 7 al) (with 5 100 84 9 (registers 14 0 true false)))
    ≡ ended Spent (alone (eight 5 7 7 al) (with 20 100 99 9 (registers 16 0 true false))) 1 0
unfolding opened
not_yet = refl

-- several periods in one cycle raise the line once, and the remainder stays
several_periods :
    run_machine 0 1 (alone (eight 0 7 7 al) (with (2 ^ 32 - 5) 4 3 23 (registers 14 0 true false)))
    ≡ ended Spent (alone (eight 5 7 7 al) (with 10 4 2 23 (registers 16 1 true false))) 1 0
unfolding opened
several_periods = refl

-- with period 0 phase and line stay, whatever they are, and elapsed time grows
timer_off_lem :
    run_machine 0 1 (alone (eight 0 7 7 al) (with 5 0 77 200 (registers 14 0 true false)))
    ≡ ended Spent (alone (eight 5 7 7 al) (with 20 0 77 200 (registers 16 0 true false))) 1 0
unfolding opened
timer_off_lem = refl

-- in task mode too, the instruction's key being 1
in_task_mode :
    run_machine 0 1 (alone (eight 0 7 7 (16777216 + al)) (with 5 100 20 9 (task 14)))
    ≡ ended Spent (alone (eight 5 7 7 (16777216 + al)) (with 20 100 35 9 (task 16))) 1 0
unfolding opened
in_task_mode = refl

-- an exception takes 7.5 in all: the code 60, relative and indexed, adds nothing; nor does RL of an absent address, or NS to one, W1 already shifted
exception :
    (run_machine 0 9 (alone (eight 0 7 7 (order 60 1 2 1 5)) (with 5 100 20 9 (registers 14 0 true false)))
    ≡ ended (Interrupted Exception) (alone (eight 0 0 16 (order 60 1 2 1 5)) (with 80 100 95 9 (registers 8 0 false false))) 0 1)
    × (run_machine 0 9 (alone (eight 0 7 7 (order 20 1 2 1 100)) (with 5 100 20 9 (registers 14 0 true false)))
    ≡ ended (Interrupted Exception) (alone (eight 0 0 16 (order 20 1 2 1 100)) (with 80 100 95 9 (registers 8 0 false false))) 0 1)
    × (run_machine 0 9 (alone (eight 1 7 7 (order 34 1 0 0 100)) (with 5 100 20 9 (registers 14 0 true false)))
    ≡ ended (Interrupted Exception) (alone (eight 4194304 0 16 (order 34 1 0 0 100)) (with 80 100 95 9 (registers 8 0 false false))) 0 1)
unfolding opened
exception = (refl, refl, refl)

-- IC 1, of 2.5, clears bit 23, and the timer raises it after that; with a longer period it stays cleared
cleared_and_raised :
    (run_machine 0 1 (alone (eight 0 7 7 (order 47 0 0 0 1)) (with 5 25 0 23 (registers 14 1 false false)))
    ≡ ended Spent (alone (eight 0 7 7 (order 47 0 0 0 1)) (with 30 25 0 23 (registers 16 1 false false))) 1 0)
    × (run_machine 0 1 (alone (eight 0 7 7 (order 47 0 0 0 1)) (with 5 26 0 23 (registers 14 1 false false)))
    ≡ ended Spent (alone (eight 0 7 7 (order 47 0 0 0 1)) (with 30 26 25 23 (registers 16 0 false false))) 1 0)
unfolding opened
cleared_and_raised = (refl, refl)

-- AW with no character brings the reset state, relative: 0.5; the line is raised in this cycle too
reset_state :
    run_machine 0 9 (alone (eight 0 7 7 (order 0 0 2 0 8)) (with 5 5 0 23 (registers 14 0 true false)))
    ≡ ended Reset (alone (eight 0 7 16 (order 0 0 2 0 8)) (with 10 5 0 23 (registers 16 1 false true))) 1 0
unfolding opened
reset_state = refl

-- LS w2 [x1 + 4], relative, 3 shifts: 3.0 + 1.5, and 1.5 for relative and indexed, and 1.0 for indirect; W1 is -14, so that W2 = 3 is its own address
abbrev shifting : ℕ → List ℕ
shifting w₂ = 0 ∷ (2 ^ 24 - 14) ∷ w₂ ∷ 0 ∷ 7 ∷ 7 ∷ 9 ∷ order 38 2 3 1 4 ∷ []

all_modifications :
    run_machine 0 1 (alone (shifting 3) (with 0 0 0 0 (registers 14 0 true false))) ≡ ended Spent (alone (shifting 24) (with 70 0 0 0 (registers 16 0 true false))) 1 0
unfolding opened
all_modifications = refl

-- JL 14 jumps to itself without a link, 3.0 each; line 5 is masked out and waits, and a second interval adds nothing; the same by two runs
abbrev jump : ℕ
jump = order 13 0 0 0 14

waits :
    (run_machine 0 2 (alone (eight 0 7 7 jump) (with 0 30 0 5 (registers 14 0 true false)))
    ≡ ended Spent (alone (eight 0 7 7 jump) (with 60 30 0 5 (registers 14 262144 true false))) 2 0)
    × (run_list 0 1 (1 ∷ []) (alone (eight 0 7 7 jump) (with 0 30 0 5 (registers 14 0 true false)))
    ≡ ended Spent (alone (eight 0 7 7 jump) (with 60 30 0 5 (registers 14 262144 true false))) 2 0)
unfolding opened
waits = (refl, refl)

-- the sum of phase and time has 33 bits
wide :
    run_machine 0 1 (alone (eight 0 7 7 al) (with (2 ^ 32 - 1) (2 ^ 32 - 1) (2 ^ 32 - 2) 3 (registers 14 0 true false)))
    ≡ ended Spent (alone (eight 5 7 7 al) (with 14 (2 ^ 32 - 1) 14 3 (registers 16 1048576 true false))) 1 0
unfolding opened
wide = refl

-- a run begun in the reset state makes no cycle
no_cycle :
    run_machine 0 9 (alone (eight 0 7 7 al) (with 5 1 0 9 (registers 14 0 false true)))
    ≡ ended Reset (alone (eight 0 7 7 al) (with 5 1 0 9 (registers 14 0 false true))) 0 0
unfolding opened
no_cycle = refl

-- 18 comes after 3 and before 4: a line outside 3 to 23, a phase not below the period
refused_timers :
    (refused_number (run_machine 0 1 (alone (eight 0 7 7 al) (with 0 1 0 2 (registers 14 0 true false)))).answer ≡ 18)
    × (refused_number (run_machine 0 1 (alone (eight 0 7 7 al) (with 0 1 0 24 (registers 14 0 true false)))).answer ≡ 18)
    × (refused_number (run_machine 0 1 (alone (eight 0 7 7 al) (with 0 9 9 3 (registers 14 0 true false)))).answer ≡ 18)
    × (refused_number (run_machine 0 1 (alone (eight 0 7 7 al) (with 0 9 8 23 (registers 14 0 true false)))).answer ≡ 0)
    × (refused_number (run_machine (2 ^ 24) 1 (alone (eight 0 7 7 al) (with 0 1 0 2 (registers 14 0 true false)))).answer ≡ 18)
    × (refused_number (run_machine 0 1 (alone (eight 0 7 7 al) (with 0 1 0 2 (registers (2 ^ 24) 0 true false)))).answer ≡ 3)
unfolding opened
refused_timers = (refl, refl, refl, refl, refl, refl)

-- the keys take no time
keys :
    (pressing_start (eight 0 7 7 20) (with 5 9 8 23 (registers 16 0 false true))
    ≡ record { machine = timed_computer (eight 0 7 7 20) (with 5 9 8 23 (registers 20 0 false false)); verdict = Accepted })
    × (pressing_reset (eight 0 7 7 20) (with 5 9 9 23 (registers 16 0 true false))
    ≡ record { machine = timed_computer (eight 0 7 7 20) (with 5 9 9 23 (registers 16 0 true false)); verdict = Rejected TimerField })
unfolding opened
keys = (refl, refl)

autoload_key_lem :
    pressing_autoload (timed_machine (eight 0 7 7 20) (with 5 9 8 23 (registers 14 0 false true)) (lent 0 0 (1 ∷ 2 ∷ 3 ∷ 63 ∷ []) []))
    ≡ record { machine = timed_machine (270591 ∷ 0 ∷ 0 ∷ 0 ∷ 7 ∷ 7 ∷ 9 ∷ 20 ∷ []) (with 5 9 8 23 (registers 0 0 false false)) (lent 63 0 [] []); verdict = Accepted }
unfolding opened
autoload_key_lem = refl
