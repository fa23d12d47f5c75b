-- Worked input and output, by computation: IO and AW on both devices, the autoload key, refusal 13, the bootstrap of section 11.5, and what is handed
-- back.
-- Assumes nothing.
use Rattle.std.specs.Prelude.{ℕ, ◌+◌, ◌*◌, ◌/◌, ◌%◌, ◌≡◌, refl, Bool, true, false, List, [], ◌∷◌, ◌++◌}
use Rattle.machine.specs.declared.Control.{Control}
use Rattle.machine.specs.declared.Record.{Record}
use Rattle.machine.specs.declared.Kind.TheVariants.{Exception}
use Rattle.machine.specs.declared.Outcome.TheVariants.{Spent, Interrupted, Reset}
use Rattle.machine.specs.Verdicts.{Ended, Accepted}
use Rattle.machine.specs.Answers.{verdict_number}
use Rattle.definition_instructions.specs.Machine.{Channel, Machine, machine}
use Rattle.definition_instructions.specs.Channel.{lent}
use Rattle.definition_runs.specs.GenericRun.{refused_number, ended}
use Rattle.definition_runs.specs.Timed.{TimedMachine, timed_machine, untimed}
use Rattle.definition_runs.specs.Keys.{pressing_reset, pressing_autoload}
use Rattle.definition_runs.specs.Run.{run_untimed}
use Rattle.definition_runs.specs.Lent.{returned, run_lent, key_returned, autoload_lent}
use Rattle.definition_runs.specs.Opened.{opened}

-- 3.4: F (6 bits), W (2), M (2), X (2), D (12); here M = X = 0
abbrev order : ℕ → ℕ → ℕ → ℕ
order f w d = f * 262144 + w * 65536 + d

-- the operations AW, IO, AL, JL
abbrev aw : ℕ → ℕ
aw d = order 0 0 d

abbrev io : ℕ → ℕ
io d = order 1 1 d

abbrev al : ℕ → ℕ
al d = order 11 1 d

abbrev jl : ℕ → ℕ
jl d = order 13 0 d

-- with a timer that is off, and the time that elapsed
abbrev off : ℕ → Control → Record
off e c = record { registers = c; timer = record { elapsed = e; period = 0; phase = 0; line = 0 } }

-- IC, EX, monitor mode and reset state given; key 0 forbidden, no two registers alike
abbrev given : ℕ → ℕ → Bool → Bool → Control
given ic ex m r = record { ic = ic; ir = 3; im = 4; pending = 0; pr = 130; ex = ex; monitor = m; enabled = false; reset = r }

-- W1 and the cell at address 14 given
abbrev eight : ℕ → ℕ → List ℕ
eight w₁ x = 1 ∷ w₁ ∷ 3 ∷ 4 ∷ 20 ∷ 21 ∷ 25 ∷ x ∷ []

-- the registers of reader and typewriter, the characters, the bytes typed and the space given
abbrev at : ℕ → ℕ → List ℕ → List ℕ → List ℕ → Channel
at r t cs ps space = record { reader = r; typewriter = t; characters = cs; typed = ps; space = space }

-- ---- IO

-- IO w1 d at address 14, W1 = 16711874, with the channel g and EX 7: W1, EX and the channel after it
abbrev Does : ℕ → Channel → ℕ → ℕ → Channel → Type 0
Does d g w ex h =
    run_untimed 0 1 (machine (eight 16711874 (io d)) (given 14 7 true false) g) ≡ ended Spent (machine (eight w (io d)) (given 16 ex true false) h) 1 0

-- sense finds both devices, also with nothing left: W1 := device buffer; the modifier is not looked at; device 2 is disconnected
sense_devices :
    Does 0 (at 5 6 [] [] []) 5 4 (at 5 6 [] [] [])
    × Does 64 (at 5 6 [] [] []) 6 4 (at 5 6 [] [] [])
    × Does 124 (at 5 16777215 [] [] []) 16777215 4 (at 5 16777215 [] [] [])
    × Does 128 (at 5 6 (9 ∷ []) [] (7 ∷ [])) 16711874 6 (at 5 6 (9 ∷ []) [] (7 ∷ []))
unfolding opened
sense_devices = (refl, refl, refl, refl)

-- control does nothing, also where there is typing space
control_devices :
    Does 1 (at 5 6 [] [] (7 ∷ [])) 16711874 4 (at 5 6 [] [] (7 ∷ []))
    × Does 65 (at 5 6 [] [] (7 ∷ [])) 16711874 4 (at 5 6 [] [] (7 ∷ []))
    × Does 129 (at 5 6 [] [] (7 ∷ [])) 16711874 6 (at 5 6 [] [] (7 ∷ []))
unfolding opened
control_devices = (refl, refl, refl)

-- a read takes the next character into the register; with none left the reader is disconnected; the typewriter gives zero
read_devices :
    Does 2 (at 5 6 (9 ∷ 8 ∷ []) [] []) 16711874 4 (at 9 6 (8 ∷ []) [] [])
    × Does 2 (at 5 6 [] [] []) 16711874 6 (at 5 6 [] [] [])
    × Does 66 (at 5 6 (9 ∷ []) [] []) 16711874 4 (at 5 0 (9 ∷ []) [] [])
unfolding opened
read_devices = (refl, refl, refl)

-- a write puts W1 into the register and types its right-most 8 bits; with no space left the typewriter is disconnected; to the reader it is dropped
write_devices :
    Does 67 (at 5 6 [] (1 ∷ []) (7 ∷ 8 ∷ [])) 16711874 4 (at 5 16711874 [] (1 ∷ 194 ∷ []) (8 ∷ []))
    × Does 67 (at 5 6 [] (1 ∷ []) []) 16711874 6 (at 5 6 [] (1 ∷ []) [])
    × Does 3 (at 5 6 [] [] (7 ∷ [])) 16711874 4 (at 5 6 [] [] (7 ∷ []))
unfolding opened
write_devices = (refl, refl, refl)

-- in task mode IO and AW are exceptions before a device is looked at: here in a cell with the key 1, which is allowed
abbrev InTaskMode : ℕ → Type 0
InTaskMode x =
    run_untimed 0 1 (machine (eight 2 (16777216 + x)) (given 14 7 false false) (at 5 6 (1 ∷ 2 ∷ 3 ∷ 4 ∷ []) [] (7 ∷ [])))
    ≡ ended (Interrupted Exception) (machine (1 ∷ 2 ∷ 3 ∷ 4 ∷ 0 ∷ 16 ∷ 25 ∷ (16777216 + x) ∷ []) (given 24 7 true false) (at 5 6 (1 ∷ 2 ∷ 3 ∷ 4 ∷ []) [] (7 ∷ []))) 0 1

task_mode : InTaskMode (io 2) × InTaskMode (io 67) × InTaskMode (aw 8)
unfolding opened
task_mode = (refl, refl, refl)

-- ---- AW

-- AW 6 at address 14: four characters go into W3, the first one left-most, and its key 5 becomes zero; the fifth character stays
four_characters :
    run_untimed 0 1 (machine (1 ∷ 2 ∷ 3 ∷ 83886084 ∷ 20 ∷ 21 ∷ 25 ∷ aw 6 ∷ []) (given 14 7 true false) (at 5 6 (1 ∷ 2 ∷ 3 ∷ 63 ∷ 9 ∷ []) [] []))
    ≡ ended Spent (machine (1 ∷ 2 ∷ 3 ∷ 270591 ∷ 20 ∷ 21 ∷ 25 ∷ aw 6 ∷ []) (given 16 4 true false) (at 63 6 (9 ∷ []) [] [])) 1 0
unfolding opened
four_characters = refl

-- with three it takes none, and the machine is reset: word 10 is IC
three_characters :
    run_untimed 0 9 (machine (eight 2 (aw 6)) (given 14 7 true false) (at 5 6 (1 ∷ 2 ∷ 3 ∷ []) [] []))
    ≡ ended Reset (machine (1 ∷ 2 ∷ 3 ∷ 4 ∷ 20 ∷ 16 ∷ 25 ∷ aw 6 ∷ []) (given 16 7 true true) (at 5 6 (1 ∷ 2 ∷ 3 ∷ []) [] [])) 1 0
unfolding opened
three_characters = refl

-- an absent address is an exception after the four are taken
absent_address :
    run_untimed 0 9 (machine (eight 2 (aw 16)) (given 14 7 true false) (at 5 6 (1 ∷ 2 ∷ 3 ∷ 4 ∷ []) [] []))
    ≡ ended (Interrupted Exception) (machine (1 ∷ 2 ∷ 3 ∷ 4 ∷ 0 ∷ 16 ∷ 25 ∷ aw 16 ∷ []) (given 24 4 true false) (at 4 6 [] [] [])) 0 1
unfolding opened
absent_address = refl

-- ---- autoload key

-- EX 7, W0 = 1 with the key 3
abbrev panel : Bool → List ℕ → TimedMachine
panel r cs = timed_machine ((50331648 + 1) ∷ 2 ∷ 3 ∷ 4 ∷ 20 ∷ 21 ∷ 25 ∷ 27 ∷ []) (off 9 (given 14 7 true r)) (at 5 6 cs [] [])

autoload_in_reset :
    pressing_autoload (panel true (1 ∷ 2 ∷ 3 ∷ 63 ∷ 9 ∷ []))
    ≡ record { machine = timed_machine (270591 ∷ 2 ∷ 3 ∷ 4 ∷ 20 ∷ 21 ∷ 25 ∷ 27 ∷ []) (off 9 (given 0 4 true false)) (at 63 6 (9 ∷ []) [] []); verdict = Accepted }
unfolding opened
autoload_in_reset = refl

-- a pending modification of 5 stays
abbrev pending : ℕ → ℕ → Bool → Control
pending ic ex r = record { ic = ic; ir = 3; im = 4; pending = 5; pr = 130; ex = ex; monitor = true; enabled = false; reset = r }

autoload_pending :
    pressing_autoload (timed_machine (eight 2 27) (off 9 (pending 14 7 true)) (at 5 6 (1 ∷ 2 ∷ 3 ∷ 63 ∷ []) [] []))
    ≡ record { machine = timed_machine (270591 ∷ 2 ∷ 3 ∷ 4 ∷ 20 ∷ 21 ∷ 25 ∷ 27 ∷ []) (off 9 (pending 0 4 false)) (at 63 6 [] [] []); verdict = Accepted }
unfolding opened
autoload_pending = refl

-- with three characters, and outside the reset state, nothing changes
autoload_elsewhere :
    (pressing_autoload (panel true (1 ∷ 2 ∷ 3 ∷ [])) ≡ record { machine = panel true (1 ∷ 2 ∷ 3 ∷ []); verdict = Accepted })
    × (pressing_autoload (panel false (1 ∷ 2 ∷ 3 ∷ 63 ∷ [])) ≡ record { machine = panel false (1 ∷ 2 ∷ 3 ∷ 63 ∷ []); verdict = Accepted })
unfolding opened
autoload_elsewhere = (refl, refl)

-- ---- refusal 13

-- the numbers of a run's and of the autoload key's refusal
abbrev Numbers : ℕ → ℕ → List ℕ → ℕ → Type 0
Numbers r t cs n =
    (refused_number (run_untimed 0 65535 (machine (eight 0 0) (given 0 0 true true) (at r t cs [] []))).answer ≡ n)
    × (verdict_number (pressing_autoload (timed_machine (eight 0 0) (off 9 (given 0 0 true false)) (at r t cs [] []))).verdict ≡ n)

-- characters of 63 and registers of 24 bits pass; 64, also as the last character, and 2^24 do not
widths : Numbers 16777215 16777215 (63 ∷ 0 ∷ []) 0 × Numbers 16777216 0 [] 13 × Numbers 0 16777216 [] 13 × Numbers 0 0 (0 ∷ 1 ∷ 2 ∷ 3 ∷ 64 ∷ []) 13
unfolding opened
widths = ((refl, refl), (refl, refl), (refl, refl), (refl, refl))

-- 5 before 13
budget_first : refused_number (run_untimed 0 65536 (machine (eight 0 0) (given 0 0 true true) (at 0 0 (64 ∷ []) [] []))).answer ≡ 5
unfolding opened
budget_first = refl

-- ---- the bootstrap of section 11.5

-- a word as four characters of the reader's tape
abbrev punched : ℕ → List ℕ
punched x = x / 262144 ∷ x / 4096 % 64 ∷ x / 64 % 64 ∷ x % 64 ∷ []

-- AW 2, AW 4, JL 0, AW 16, first program instruction, AW 18, second program instruction, JL 16
abbrev tape_of : ℕ → ℕ → List ℕ
tape_of first second =
    punched (aw 2) ++ punched (aw 4) ++ punched (jl 0) ++ punched (aw 16) ++ punched first ++ punched (aw 18) ++ punched second ++ punched (jl 16)

-- the program types the letter A: AL w1 65, IO w1 67; ten cells, W0 to W2 and the program given
abbrev ten : ℕ → ℕ → ℕ → ℕ → ℕ → List ℕ
ten w₀ w₁ w₂ first second = w₀ ∷ w₁ ∷ w₂ ∷ 4 ∷ 20 ∷ 16 ∷ 25 ∷ 27 ∷ first ∷ second ∷ []

-- the reset key in task mode, then the autoload key
abbrev loaded : Machine
loaded =
    let k = (pressing_reset (ten 7 8 9 0 0) (off 0 (given 16 7 false false))).machine in
    untimed (pressing_autoload (timed_machine k.cells k.control (lent 0 0 (tape_of (al 65) (io 67)) (0 ∷ 0 ∷ [])))).machine

-- eleven cycles leave the program at 16 and IC there; two more execute it, and the typewriter has typed the letter
bootstrap :
    (run_untimed 0 11 loaded ≡ ended Spent (machine (ten (aw 2) (jl 16) (jl 0) (al 65) (io 67)) (given 16 4 true false) (at 16 0 [] [] (0 ∷ 0 ∷ []))) 11 0)
    × (run_untimed 0 13 loaded ≡ ended Spent (machine (ten (aw 2) 65 (jl 0) (al 65) (io 67)) (given 20 4 true false) (at 16 65 [] (65 ∷ []) (0 ∷ []))) 13 0)
unfolding opened
bootstrap = (refl, refl)

-- ---- what is lent and handed back

-- IO w1 2, IO w1 67, W1 = 16711874: a read of the reader, then a write to the typewriter
abbrev orders : List ℕ
orders = ten 7 16711874 9 (io 2) (io 67)

-- after a run with the registers 5 and 6, three characters and three bytes lent: IC, the counts, the registers and the buffer
abbrev HandsBack : ℕ → ℕ → ℕ → ℕ → ℕ → ℕ → List ℕ → Type 0
HandsBack budget ic elapsed typewriter taken typed buffer =
    run_lent 0 budget orders (off 9 (given 16 7 true false)) (record { reader = 5; typewriter = 6 }) (9 ∷ 8 ∷ 7 ∷ []) (31 ∷ 32 ∷ 33 ∷ [])
    ≡ returned
    (record {
      control = off elapsed (given ic 4 true false);
      answer = Ended Spent;
      executed = budget;
      entries = 0;
      devices = record { reader = 9; typewriter = typewriter };
      taken = taken;
      typed = typed;
    })
    orders
    buffer

-- one cycle, of 5.0 microseconds, takes one of the three; the second, of 6.5, types one byte at the front
handed_back_lem : HandsBack 1 18 59 6 1 0 (31 ∷ 32 ∷ 33 ∷ []) × HandsBack 2 20 124 16711874 1 1 (194 ∷ 32 ∷ 33 ∷ [])
unfolding opened
handed_back_lem = (refl, refl)

-- the autoload key takes four of five
key_handed_back_lem :
    autoload_lent (eight 2 27) (off 9 (given 14 7 true true)) (record { reader = 5; typewriter = 6 }) (1 ∷ 2 ∷ 3 ∷ 63 ∷ 9 ∷ [])
    ≡ key_returned (record { control = off 9 (given 0 4 true false); verdict = Accepted; devices = record { reader = 63; typewriter = 6 }; taken = 4 })
    (270591 ∷ 2 ∷ 3 ∷ 4 ∷ 20 ∷ 21 ∷ 25 ∷ 27 ∷ [])
unfolding opened
key_handed_back_lem = refl
