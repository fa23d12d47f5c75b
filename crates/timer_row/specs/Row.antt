-- The timer during a run: the time that passed since the timer was last worked out, and the timer as it stood then.
-- Assumes nothing.
use Rattle.std.specs.Prelude.{ℕ, ◌+◌, ◌-◌, ◌%◌, ◌^◌, ◌<◌, min, cond, ◌==◌}
use Rattle.machine.specs.declared.Timer.{Timer}
use Rattle.definition_times.specs.Timer.{timer_after}
use Rattle.control_row.specs.declared.End.{End}
use Rattle.control_row.specs.declared.End.TheVariants.{Done, Reset, Faulted}

pub record Clock : Type 0 where
  pub passed : ℕ
  pub timer : Timer

-- the timer that the row stands for
abbrev pub timer_at : Clock → Timer
timer_at t = timer_after t.passed t.timer

-- the time n passes
unfoldable pub passing : ℕ → Clock → Clock
passing n c = record { passed = (c.passed + n) % 2 ^ 32; timer = c.timer }

-- the clock with the time n passed
unfoldable pub with_passed : ℕ → Clock → Clock
with_passed n c = record { passed = n; timer = c.timer }

-- what counts of the clock after an operation: where it ended in a fault, the time that passed does not
abbrev pub clock_after : End → Clock → Clock
clock_after Done c = c
clock_after Reset c = c
clock_after Faulted c = with_passed 0 c

-- up to the end of the interval, and 2 ^ 31 at most: with the longest cycle the time that passed then has 32 bits
unfoldable pub limit_of : Timer → ℕ
limit_of r = cond (r.period == 0) (2 ^ 31) (min (r.period - r.phase) (2 ^ 31))

-- where a cycle begins
abbrev pub BelowLimit : Clock → Type 0
BelowLimit t = t.passed < limit_of t.timer
