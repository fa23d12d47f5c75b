-- A run of any machine with any cycle (document 01, "A run"): nothing here depends on the RC 4000. The cycles by the budget; then a run as it is
-- called: the refusals first, then the lines join, then the cycles; and the list of budgets.
-- Assumes nothing.
use Rattle.std.specs.Prelude.{ℕ, zero, suc, ◌+◌, Bool, true, false, List, [], ◌∷◌}
use Rattle.machine.specs.declared.Kind.{Kind}
use Rattle.machine.specs.declared.Outcome.{Outcome}
use Rattle.machine.specs.declared.Outcome.TheVariants.{Spent, Interrupted, Reset}
use Rattle.machine.specs.declared.Refusal.{Refusal}
use Rattle.machine.specs.Verdicts.{Answer, Refused, Ended, Verdict, Accepted, Rejected}
use Rattle.machine.specs.Answers.{refusal_number}
use Rattle.acceptance.specs.Accept.{judge_call, judge_devices}

-- a cycle is either one executed instruction or one entry
pub data CycleResult (M : Type 0) : Type 0 where
  instruction : M → CycleResult M
  entry : Kind → M → CycleResult M

-- a cycle of the machine M as one of the machine N
abbrev pub cycle_mapped : {M N : Type 0} → (M → N) → CycleResult M → CycleResult N
cycle_mapped f (instruction m) = instruction (f m)
cycle_mapped f (entry k m) = entry k (f m)

-- what a run hands back
pub record RunResult (M : Type 0) : Type 0 where
  pub machine : M
  pub answer : Answer
  pub executed : ℕ
  pub entries : ℕ

-- the number of the refusal, 0 where the run is not refused
abbrev pub refused_number : Answer → ℕ
refused_number (Refused q) = refusal_number q
refused_number (Ended o) = 0

module _ {M : Type 0} where
  abbrev pub ended : Outcome → M → ℕ → ℕ → RunResult M
  ended o m d e = record { machine = m; answer = Ended o; executed = d; entries = e }

  -- a refusal: the machine as it came, counts zero
  abbrev pub refused : Refusal → M → RunResult M
  refused r m = record { machine = m; answer = Refused r; executed = 0; entries = 0 }

  -- one executed instruction more
  abbrev pub counted : RunResult M → RunResult M
  counted r = record { machine = r.machine; answer = r.answer; executed = suc r.executed; entries = r.entries }

  -- the run after its first cycle: an entry ends it
  abbrev pub after : CycleResult M → (M → RunResult M) → RunResult M
  after (instruction m) rest = counted (rest m)
  after (entry k m) rest = ended (Interrupted k) m 0 1

  -- the counts of r added to those of s
  abbrev pub added : RunResult M → RunResult M → RunResult M
  added r s = record { machine = s.machine; answer = s.answer; executed = r.executed + s.executed; entries = r.entries + s.entries }

  -- where the first run ended spent, the next is made
  abbrev pub then_by : Answer → RunResult M → (M → RunResult M) → RunResult M
  then_by (Refused q) r next = r
  then_by (Ended Spent) r next = added r (next r.machine)
  then_by (Ended (Interrupted k)) r next = r
  then_by (Ended Reset) r next = r

  unfoldable pub then_run : RunResult M → (M → RunResult M) → RunResult M
  then_run r next = then_by r.answer r next

-- cycles by the budget; the reset state ends the run before a cycle
module _ {M : Type 0} (in_reset : M → Bool) (cycle : M → CycleResult M) where
  unfoldable pub run : ℕ → M → RunResult M
  run zero m = elim (in_reset m) [ true ↦ ended Reset m 0 0 | false ↦ ended Spent m 0 0 ]
  run (suc n) m = elim (in_reset m) [ true ↦ ended Reset m 0 0 | false ↦ after (cycle m) (λ k. run n k) ]

-- ---- a call

-- the total of the list of budgets b ∷ bs, which is not empty
abbrev pub total : ℕ → List ℕ → ℕ
total b [] = b
total b (c ∷ cs) = b + total c cs

-- the refusals 1 to 5, 13 and 18
abbrev pub judged : {M : Type 0} → (M → Verdict) → (M → Bool) → ℕ → ℕ → M → Verdict
judged judge fits l b m = judge_devices (judge_call (judge m) l b) (fits m)

-- `judge` has the refusals 1 to 3 and 18, `fits` is true where 13 does not apply, `join l m` has the lines in the interrupt register
module _ {M : Type 0} (in_reset : M → Bool) (cycle : M → CycleResult M) (judge : M → Verdict) (fits : M → Bool) (join : ℕ → M → M) where
  -- the refusals; then the lines join and the cycles are made
  unfoldable pub call : ℕ → ℕ → M → RunResult M
  call l b m = elim (judged judge fits l b m) [ Accepted ↦ run in_reset cycle b (join l m) | Rejected q ↦ refused q m ]

  -- the first run gets the lines, every later one none; the list stops after the first that does not end spent
  unfoldable pub calls : ℕ → ℕ → List ℕ → M → RunResult M
  calls l b [] m = call l b m
  calls l b (c ∷ cs) m = then_run (call l b m) (λ n. calls 0 c cs n)
