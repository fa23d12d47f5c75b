-- Steps of the fetch as the code takes them: no public contract rests on them. Assumes nothing.
use Rattle.std.specs.Prelude.{ℕ, ◌/◌, ◌%◌, ◌≡◌, Bool, true, false, cond, List, eqb, ltb}
use Rattle.registers.specs.Reg.{word_range}
use Rattle.machine.specs.declared.Control.{Control}
use Rattle.machine.specs.Store.{key, absent, forbids}
use Rattle.integer.specs.Sums.{sum24}
use Rattle.definition_runs.specs.Cycle.{fetched}
use Rattle.control_row.specs.Row.{with_monitor}

-- v is the instruction at IC, with the key of its cell over it
pub record Fetched (s : List ℕ) (ic v : ℕ) : Type 0 where
  pub word : v % word_range ≡ fetched s ic
  pub key : v / word_range % 8 ≡ key s (ic / 2)

-- IC or IC + 1 does not exist
unfoldable pub fetch_absent : List ℕ → ℕ → Bool
fetch_absent s ic = cond (absent s ic) true (absent s (sum24 ic 1))

-- Test Protection of a cell with the key q
unfoldable pub violates : Control → ℕ → Bool
violates c q = cond c.monitor false (forbids c.pr q)

-- where it passes, monitor mode := PR(PK) = 1
unfoldable pub fetch_mode : Control → ℕ → Control
fetch_mode c q = cond (violates c q) c (with_monitor c (forbids c.pr q))

-- the time of relative addressing, with what indexing adds where both are done; that of indexing alone
unfoldable pub relative_time : ℕ → ℕ → ℕ
relative_time m x = cond (ltb m 2) 0 (cond (eqb x 0) 5 10)

unfoldable pub indexed_time : ℕ → ℕ
indexed_time x = cond (eqb x 0) 0 5
