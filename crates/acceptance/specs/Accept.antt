-- Who is refused, for what: the refusals 1 to 5 of document 01, 13 and 18 of document 02, in their order, each over everything before the next.
-- Assumes nothing.
use Rattle.std.specs.Prelude.{ℕ, Bool, true, false, not, cond, List, [], ◌∷◌, eqb, ltb, leb, length}
use Rattle.registers.specs.Reg.{word_range}
use Rattle.machine.specs.declared.Control.{Control}
use Rattle.machine.specs.declared.Timer.{Timer}
use Rattle.machine.specs.declared.Record.{Record}
use Rattle.machine.specs.declared.Refusal.TheVariants.{StoreSize, CellValue, ControlField, TimerField, Lines, Budget, Device}
use Rattle.machine.specs.Verdicts.{Verdict, Accepted, Rejected}

-- the cells of the largest store
abbrev pub most_cells : ℕ
most_cells = 8388608

-- 2 ** 27: one more than the largest cell, a word with a key of 3 bits over it
abbrev pub cell_range : ℕ
cell_range = 134217728

-- 2 ** 21: one more than the largest set of raised lines, bits 3 to 23
abbrev pub line_range : ℕ
line_range = 2097152

-- 2 ** 16: one more than the largest budget
abbrev pub budget_range : ℕ
budget_range = 65536

-- 1: fewer than 8 or more than 8,388,608 cells
unfoldable pub size_fits : ℕ → Bool
size_fits n = cond (ltb n 8) false (leb n most_cells)

-- 2: a cell of 134,217,728 or more
unfoldable pub cell_fits : ℕ → Bool
cell_fits x = ltb x cell_range

unfoldable pub cells_fit : List ℕ → Bool
unfolding cell_fits
cells_fit [] = true
cells_fit (x ∷ s) = let rest = cells_fit s in cond (cell_fits x) rest false

-- the reset state implies monitor mode and interrupts disabled
unfoldable pub state_fits : Control → Bool
state_fits c = cond c.reset (cond c.monitor (not c.enabled) false) true

-- 3: a control field outside the widths (24 bits, PR 128 to 255, EX 3 bits) and rules
unfoldable pub control_fits : Control → Bool
control_fits c =
    cond (ltb c.ic word_range)
    (cond (ltb c.ir word_range)
    (cond (ltb c.im word_range)
    (cond (ltb c.pending word_range)
    (cond (ltb c.pr 128) false (cond (ltb c.pr 256) (cond (ltb c.ex 8) (state_fits c) false) false)) false) false) false)
    false

-- a store: 1, 2
unfoldable pub judge_store : List ℕ → Verdict
judge_store s = cond (size_fits (length s)) (cond (cells_fit s) Accepted (Rejected CellValue)) (Rejected StoreSize)

-- cells and control registers: 1, 2, 3
unfoldable pub judge_registers : List ℕ → Control → Verdict
judge_registers s c =
    cond (size_fits (length s)) (cond (cells_fit s) (cond (control_fits c) Accepted (Rejected ControlField)) (Rejected CellValue)) (Rejected StoreSize)

-- 18: where the period is not 0, a line outside 3 to 23 or a phase not below the period (document 02, E6)
unfoldable pub timer_fits : Timer → Bool
timer_fits t =
    cond (eqb t.period 0) true (cond (ltb t.line 3) false (cond (ltb t.line 24) (ltb t.phase t.period) false))

-- tested at the end of 3
abbrev pub judge_timer : Verdict → Timer → Verdict
judge_timer Accepted t = cond (timer_fits t) Accepted (Rejected TimerField)
judge_timer (Rejected q) t = Rejected q

-- cells and control record, as the panel keys test them: 1, 2, 3, 18
unfoldable pub judge_machine : List ℕ → Record → Verdict
judge_machine s r = judge_timer (judge_registers s r.registers) r.timer

-- 4: lines with bit 0, 1 or 2 set, or over 24 bits; 5: budget over 65,535
abbrev pub judge_call : Verdict → ℕ → ℕ → Verdict
judge_call Accepted l b = cond (ltb l line_range) (cond (ltb b budget_range) Accepted (Rejected Budget)) (Rejected Lines)
judge_call (Rejected r) l b = Rejected r

-- 13: a reader character over 63 or a device buffer register over 24 bits (document 02, E1)
unfoldable pub character_fits : ℕ → Bool
character_fits x = ltb x 64

unfoldable pub characters_fit : List ℕ → Bool
unfolding character_fits
characters_fit [] = true
characters_fit (x ∷ s) = let rest = characters_fit s in cond (character_fits x) rest false

-- the registers of the reader and of the typewriter, and all characters lent
unfoldable pub devices_fit : ℕ → ℕ → List ℕ → Bool
devices_fit r t cs = cond (ltb r word_range) (cond (ltb t word_range) (characters_fit cs) false) false

abbrev pub judge_devices : Verdict → Bool → Verdict
judge_devices Accepted f = cond f Accepted (Rejected Device)
judge_devices (Rejected q) f = Rejected q

-- a run: 1, 2, 3, 18, 4, 5, 13
unfoldable pub judge_run : List ℕ → Record → ℕ → ℕ → ℕ → ℕ → List ℕ → Verdict
judge_run s c l b r t cs = judge_devices (judge_call (judge_machine s c) l b) (devices_fit r t cs)

-- the autoload key: 1, 2, 3, 18, 13
unfoldable pub judge_autoload : List ℕ → Record → ℕ → ℕ → List ℕ → Verdict
judge_autoload s c r t cs = judge_devices (judge_machine s c) (devices_fit r t cs)
