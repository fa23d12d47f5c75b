-- What holds of the runs of every machine: how a run begins, and what each cycle keeps.
-- Assumes nothing.
use Prim.Native.Nat.{ℕ, zero, suc}
use mathlib.Core.Path.{◌≡◌, refl}
use mathlib.Core.Bool.{Bool, true, false}
use Rattle.machine.specs.declared.Kind.{Kind}
use Rattle.machine.specs.declared.Outcome.TheVariants.{Spent, Interrupted, Reset}
use Rattle.machine.specs.Verdicts.{Answer, Refused, Ended}
use Rattle.definition_runs.specs.GenericRun.{CycleResult, instruction, entry, RunResult, ended, after, run}

module _ {M : Type 0} (in_reset : M → Bool) (cycle : M → CycleResult M) where
  pub run_reset : (n : ℕ) (m : M) → in_reset m ≡ true → run in_reset cycle n m ≡ ended Reset m 0 0
  unfolding run
  run_reset zero m e = rw (e, run)
  run_reset (suc n) m e = rw (e, run)

  pub run_out : (m : M) → in_reset m ≡ false → run in_reset cycle zero m ≡ ended Spent m 0 0
  unfolding run
  run_out m e = rw (e, run)

  pub run_live : (n : ℕ) (m : M) → in_reset m ≡ false → run in_reset cycle (suc n) m ≡ after (cycle m) (run in_reset cycle n)
  unfolding run
  run_live n m e = rw (e, run)

-- ---- what every cycle keeps, a run keeps: I holds of the machine between cycles, E c of one that has entered with cause c

module _ {M : Type 0} (I : M → Type 0) (E : Kind → M → Type 0) where
  abbrev pub Meets : CycleResult M → Type 0
  Meets (instruction m) = I m
  Meets (entry c m) = E c m

  abbrev pub EndsIn : Answer → M → Type 0
  EndsIn (Refused q) m = I m
  EndsIn (Ended Spent) m = I m
  EndsIn (Ended (Interrupted c)) m = E c m
  EndsIn (Ended Reset) m = I m

  keeps_after : (t : CycleResult M) (k : M → RunResult M) → Meets t → ((m : M) → I m → EndsIn (k m).answer (k m).machine)
      → EndsIn (after t k).answer (after t k).machine
  keeps_after (instruction m) k h r = r m h
  keeps_after (entry c m) k h r = h

  module _ (in_reset : M → Bool) (cycle : M → CycleResult M) (step : (m : M) → in_reset m ≡ false → I m → Meets (cycle m)) where
    pub run_keeps : (n : ℕ) (m : M) → I m → EndsIn (run in_reset cycle n m).answer (run in_reset cycle n m).machine
    run_keeps zero m h = go (in_reset m) refl
      where
        go : (b : Bool) → in_reset m ≡ b → EndsIn (run in_reset cycle zero m).answer (run in_reset cycle zero m).machine
        go true e = rw (run_reset in_reset cycle zero m e) h
        go false e = rw (run_out in_reset cycle m e) h
    run_keeps (suc n) m h = go (run_keeps n) (in_reset m) refl
      where
        go : ((k : M) → I k → EndsIn (run in_reset cycle n k).answer (run in_reset cycle n k).machine)
            → (b : Bool) → in_reset m ≡ b → EndsIn (run in_reset cycle (suc n) m).answer (run in_reset cycle (suc n) m).machine
        go ih true e = rw (run_reset in_reset cycle (suc n) m e) h
        go ih false e = rw (run_live in_reset cycle n m e) (keeps_after (cycle m) (run in_reset cycle n) (step m e h) ih)
