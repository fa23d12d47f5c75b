-- What holds of the runs of every machine: the counts, the cycles made, a run in parts.
-- Assumes nothing.
use Prim.Native.Nat.{ℕ, zero, suc, ◌+◌, ◌<◌}
use native.Mathlib.Nat.{zero-add, suc-add}
use native.Mathlib.Omega.{arith}
use mathlib.Core.Path.{◌≡◌, refl, ap, ◌∙◌}
use mathlib.Core.Bool.{Bool, true, false}
use Rattle.machine.specs.declared.Outcome.{Outcome}
use Rattle.machine.specs.declared.Outcome.TheVariants.{Spent, Interrupted, Reset}
use Rattle.machine.specs.Verdicts.{Answer, Refused, Ended}
use Rattle.registers.specs.Reg.{iter}
use Rattle.definition_runs.specs.GenericRun.{CycleResult, instruction, entry, RunResult, ended, counted, after, added, then_by, then_run, run}
use Rattle.definition_runs.proofs.RunLaws.{run_reset, run_out, run_live}
use Rattle.run_promises.specs.Promises.{Counts, machine_of, entry_count, cycles, entries_among, EndsAs}

-- ---- the counts

count_after : {M : Type 0} (n : ℕ) (t : CycleResult M) (k : M → RunResult M) → ((m : M) → Counts n (k m)) → Counts (suc n) (after t k)
count_after n (instruction m) k h = record { most = omega (arith, (h m).most); all = λ e. omega (arith, (h m).all e); entry = (h m).entry }
count_after n (entry c m) k h = record { most = omega arith; all = λ e. let z : ◌≡◌ {A = ℕ} 0 1 = cc in omega arith; entry = refl }

module _ {M : Type 0} (in_reset : M → Bool) (cycle : M → CycleResult M) where
  count_reset : (n : ℕ) (m : M) → in_reset m ≡ true → Counts n (run in_reset cycle n m)
  count_reset n m e = rw (run_reset in_reset cycle n m e) (record { most = omega arith; all = λ s. let z : ◌≡◌ {A = ℕ} 0 1 = cc in omega arith; entry = refl })

  -- the cycles done are the executed instructions and the entries: the budget where the run ends spent, and never more
  pub run_counts : (n : ℕ) (m : M) → Counts n (run in_reset cycle n m)
  run_counts zero m = go (in_reset m) refl
    where
      go : (b : Bool) → in_reset m ≡ b → Counts zero (run in_reset cycle zero m)
      go true e = count_reset zero m e
      go false e = rw (run_out in_reset cycle m e) (record { most = omega arith; all = λ s. refl; entry = refl })
  run_counts (suc n) m = go (run_counts n) (in_reset m) refl
    where
      go : ((k : M) → Counts n (run in_reset cycle n k)) → (b : Bool) → in_reset m ≡ b → Counts (suc n) (run in_reset cycle (suc n) m)
      go h true e = count_reset (suc n) m e
      go h false e = rw (run_live in_reset cycle n m e) (count_after n (cycle m) (run in_reset cycle n) h)

-- ---- the cycles of a run

module _ {M : Type 0} (cycle : M → CycleResult M) where
  cycles_next : (n : ℕ) (m : M) → cycles cycle (suc n) m ≡ cycles cycle n (machine_of (cycle m))
  unfolding iter
  cycles_next zero m = refl
  cycles_next (suc n) m = ap (λ k. machine_of (cycle k)) (cycles_next n m)

  among_next : (n : ℕ) (m : M) → entries_among cycle (suc n) m ≡ entry_count (cycle m) + entries_among cycle n (machine_of (cycle m))
  unfolding entries_among iter
  among_next zero m = omega arith
  among_next (suc n) m = rw (cycles_next n m) (omega (arith, among_next n m))

  module _ (in_reset : M → Bool) where
    -- the run r from m with the budget n is executed + entries cycles, as many of them entries as it says, none begun in the reset state, and it ends by its answer
    pub record Cycled (n : ℕ) (m : M) (r : RunResult M) : Type 0 where
      pub machine : r.machine ≡ cycles cycle (r.executed + r.entries) m
      pub entries : r.entries ≡ entries_among cycle (r.executed + r.entries) m
      pub ends : EndsAs in_reset cycle n m r r.answer
      pub outside : (i : ℕ) → i < r.executed + r.entries → in_reset (cycles cycle i m) ≡ false

    no_cycle : (n : ℕ) (m : M) (o : Outcome) → EndsAs in_reset cycle n m (ended o m 0 0) (Ended o) → Cycled n m (ended o m 0 0)
    unfolding iter entries_among
    no_cycle n m o h = record { machine = refl; entries = refl; ends = h; outside = λ i l. absurd (omega arith) }

    ends_later : (n : ℕ) (m k : M) (r : RunResult M) (a : Answer) → machine_of (cycle m) ≡ k → EndsAs in_reset cycle n k r a → EndsAs in_reset cycle (suc n) m (counted r) a
    ends_later n m k r (Refused q) e h = h
    ends_later n m k r (Ended Spent) e h = (h.0, ap suc h.1)
    ends_later n m k r (Ended (Interrupted c)) e h = rw (cycles_next, e) h
    ends_later n m k r (Ended Reset) e h = h

    outside_later : (m k : M) (d : ℕ) → machine_of (cycle m) ≡ k → in_reset m ≡ false → ((i : ℕ) → i < d → in_reset (cycles cycle i k) ≡ false)
        → (i : ℕ) → i < suc d → in_reset (cycles cycle i m) ≡ false
    unfolding iter
    outside_later m k d e f h zero l = f
    outside_later m k d e f h (suc i) l = rw (cycles_next, e) (h i (omega arith))

    cycled_after : (n : ℕ) (m : M) (t : CycleResult M) (rest : M → RunResult M) → in_reset m ≡ false → cycle m ≡ t → ((k : M) → Cycled n k (rest k)) → Cycled (suc n) m (after t rest)
    unfolding iter entries_among
    cycled_after n m (instruction k) rest f e h =
        let moved : machine_of (cycle m) ≡ k = rw e in
        let none : entry_count (cycle m) ≡ 0 = rw e in
        record {
          machine = rw (suc-add, cycles_next, moved) (h k).machine;
          entries = rw (suc-add, among_next, moved, none) (omega (arith, (h k).entries));
          ends = ends_later n m k (rest k) (rest k).answer moved (h k).ends;
          outside = rw suc-add (outside_later m k ((rest k).executed + (rest k).entries) moved f (h k).outside);
        }
    cycled_after n m (entry c k) rest f e h = record { machine = rw e; entries = rw e; ends = e; outside = outside_later m k 0 (rw e) f (λ i l. absurd (omega arith)) }

    pub run_cycled : (n : ℕ) (m : M) → Cycled n m (run in_reset cycle n m)
    run_cycled zero m = go (in_reset m) refl
      where
        go : (b : Bool) → in_reset m ≡ b → Cycled zero m (run in_reset cycle zero m)
        go true e = rw (run_reset in_reset cycle zero m e) (no_cycle zero m Reset e)
        go false e = rw (run_out in_reset cycle m e) (no_cycle zero m Spent (e, refl))
    run_cycled (suc n) m = go (run_cycled n) (in_reset m) refl
      where
        go : ((k : M) → Cycled n k (run in_reset cycle n k)) → (b : Bool) → in_reset m ≡ b → Cycled (suc n) m (run in_reset cycle (suc n) m)
        go h true e = rw (run_reset in_reset cycle (suc n) m e) (no_cycle (suc n) m Reset e)
        go h false e = rw (run_live in_reset cycle n m e) (cycled_after n m (cycle m) (run in_reset cycle n) e refl h)

-- ---- a run that is made is not refused

abbrev pub is_refused : Answer → Bool
is_refused (Refused q) = true
is_refused (Ended o) = false

made_after : {M : Type 0} (t : CycleResult M) (k : M → RunResult M) → ((m : M) → is_refused (k m).answer ≡ false) → is_refused (after t k).answer ≡ false
made_after (instruction m) k h = h m
made_after (entry c m) k h = refl

module _ {M : Type 0} (in_reset : M → Bool) (cycle : M → CycleResult M) where
  pub run_made : (n : ℕ) (m : M) → is_refused (run in_reset cycle n m).answer ≡ false
  run_made zero m = go (in_reset m) refl
    where
      go : (b : Bool) → in_reset m ≡ b → is_refused (run in_reset cycle zero m).answer ≡ false
      go true e = rw (run_reset in_reset cycle zero m e)
      go false e = rw (run_out in_reset cycle m e)
  run_made (suc n) m = go (run_made n) (in_reset m) refl
    where
      go : ((k : M) → is_refused (run in_reset cycle n k).answer ≡ false) → (b : Bool) → in_reset m ≡ b → is_refused (run in_reset cycle (suc n) m).answer ≡ false
      go h true e = rw (run_reset in_reset cycle (suc n) m e)
      go h false e = rw (run_live in_reset cycle n m e) (made_after (cycle m) (run in_reset cycle n) h)

-- ---- a run in parts

added_none : {M : Type 0} (o : Outcome) (m : M) (s : RunResult M) → s ≡ added (ended o m 0 0) s
added_none o m s = simp zero-add

-- one more before the first part is one more before the whole
counted_by : {M : Type 0} (o : Answer) (r : RunResult M) (k : M → RunResult M) → counted (then_by o r k) ≡ then_by o (counted r) k
counted_by (Refused q) r k = refl
counted_by (Ended Spent) r k = simp suc-add
counted_by (Ended (Interrupted c)) r k = refl
counted_by (Ended Reset) r k = refl

counted_then : {M : Type 0} (r : RunResult M) (k : M → RunResult M) → counted (then_run r k) ≡ then_run (counted r) k
unfolding then_run
counted_then r k = counted_by r.answer r k

after_then : {M : Type 0} (t : CycleResult M) (whole first rest : M → RunResult M) → ((m : M) → whole m ≡ then_run (first m) rest)
    → after t whole ≡ then_run (after t first) rest
unfolding then_run
after_then (instruction m) whole first rest h = ap counted (h m) ∙ counted_then (first m) rest
after_then (entry c m) whole first rest h = refl

module _ {M : Type 0} (in_reset : M → Bool) (cycle : M → CycleResult M) where
  add_reset : (a b : ℕ) (m : M) → in_reset m ≡ true → run in_reset cycle (a + b) m ≡ then_run (run in_reset cycle a m) (run in_reset cycle b)
  unfolding then_run
  add_reset a b m e = rw (run_reset in_reset cycle (a + b) m e, run_reset in_reset cycle a m e)

  -- a run with budget a + b is a run with a and then, where that ended spent, one with b
  pub run_add : (a b : ℕ) (m : M) → run in_reset cycle (a + b) m ≡ then_run (run in_reset cycle a m) (run in_reset cycle b)
  unfolding then_run
  run_add zero b m = go (in_reset m) refl
    where
      go : (t : Bool) → in_reset m ≡ t → run in_reset cycle (zero + b) m ≡ then_run (run in_reset cycle zero m) (run in_reset cycle b)
      go true e = add_reset zero b m e
      go false e = rw (zero-add b, run_out in_reset cycle m e) (added_none Spent m (run in_reset cycle b m))
  run_add (suc a) b m = go (run_add a b) (in_reset m) refl
    where
      go : ((k : M) → run in_reset cycle (a + b) k ≡ then_run (run in_reset cycle a k) (run in_reset cycle b))
          → (t : Bool) → in_reset m ≡ t → run in_reset cycle (suc a + b) m ≡ then_run (run in_reset cycle (suc a) m) (run in_reset cycle b)
      go h true e = add_reset (suc a) b m e
      go h false e =
          rw (suc-add a b, run_live in_reset cycle (a + b) m e, run_live in_reset cycle a m e)
          (after_then (cycle m) (run in_reset cycle (a + b)) (run in_reset cycle a) (run in_reset cycle b) h)
