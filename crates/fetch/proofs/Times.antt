-- The times of address modification, as the code adds them. Assumes nothing.
use Prim.Native.Nat.{ℕ, ◌+◌}
use mathlib.Core.Path.{◌≡◌, refl, ap, ◌∙◌}
use mathlib.Core.Bool.{Bool, true, false, cond}
use lib.Dec.{eqb, ltb}
use Rattle.definition_times.specs.Times.{modification_time}
use Rattle.timer_row.specs.Row.{Clock, passing}
use Rattle.timer_row.proofs.Laws.{passing_twice}
use Rattle.fetch.specs.Fetch.{relative_time, indexed_time}

summed : (m x : ℕ) → relative_time m x + indexed_time x ≡ modification_time m x
unfolding relative_time indexed_time modification_time
summed m x = by (ltb m 2) (eqb x 0)
  where
    by : (r i : Bool) → cond r 0 (cond i 5 10) + cond i 0 5 ≡ cond r (cond i 0 5) (cond i 5 15)
    by true true = refl
    by true false = refl
    by false true = refl
    by false false = refl

pub both_times : (m x : ℕ) (a : Clock) {b c : Clock} → b ≡ passing (relative_time m x) a → c ≡ passing (indexed_time x) b → c ≡ passing (modification_time m x) a
both_times m x a e f =
    f ∙ ap (passing (indexed_time x)) e ∙ passing_twice (relative_time m x) (indexed_time x) a ∙ ap (λ (n : ℕ). passing n a) (summed m x)
