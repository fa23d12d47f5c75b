-- The elapsed time and the interval timer, at the end of a cycle that takes the time t (document 02, E6).
-- Assumes nothing.
use Rattle.std.specs.Prelude.{ℕ, ◌+◌, ◌-◌, ◌%◌, ◌^◌, Bool, false, cond, eqb, leb}
use Rattle.machine.specs.declared.Control.{Control}
use Rattle.machine.specs.declared.Timer.{Timer}
use Rattle.machine.specs.Fields.{raised}

-- elapsed time grows by every cycle's time and drops carries out of 32 bits
unfoldable pub elapsed_after : ℕ → Timer → ℕ
elapsed_after t r = (r.elapsed + t) % 2 ^ 32

-- the phase grows by each cycle's time; where it reaches or passes the period it keeps the remainder; with period 0 it stays
unfoldable pub phase_after : ℕ → Timer → ℕ
phase_after t r = cond (eqb r.period 0) r.phase ((r.phase + t) % r.period)

-- no cycle changes period and line
unfoldable pub timer_after : ℕ → Timer → Timer
timer_after t r = record { elapsed = elapsed_after t r; period = r.period; phase = phase_after t r; line = r.line }

-- the phase reaches or passes the period
unfoldable pub interval_ends : ℕ → Timer → Bool
interval_ends t r = cond (eqb r.period 0) false (leb r.period (r.phase + t))

-- the weight of the bit with this number, bit 0 the left-most of 24
abbrev pub line_bit : ℕ → ℕ
line_bit p = 2 ^ (23 - p)

-- where the phase reaches or passes the period the line is raised, once however many periods passed
unfoldable pub line_raised : ℕ → Timer → Control → Control
line_raised t r c = cond (interval_ends t r) (raised c (line_bit r.line)) c
