-- The list of budgets: runs one after the other are one run with the total. Of any machine whose accepted states stay accepted.
-- Assumes nothing.
use Prim.Native.Nat.{ℕ, zero, suc, ◌+◌, ◌≤◌}
use native.Mathlib.Omega.{arith}
use mathlib.Core.Path.{◌≡◌, refl, ap, ◌∙◌}
use mathlib.Core.Bool.{Bool, true, false}
use mathlib.Core.List.{List, [], ◌∷◌}
use borrow.Author.Tests.{lt-ltb}
use Rattle.machine.specs.declared.Outcome.TheVariants.{Spent, Interrupted, Reset}
use Rattle.machine.specs.declared.Refusal.{Refusal}
use Rattle.machine.specs.Verdicts.{Answer, Refused, Ended, Verdict, Accepted, Rejected}
use Rattle.acceptance.specs.Accept.{judge_call, judge_devices}
use Rattle.definition_runs.specs.GenericRun.{CycleResult, instruction, entry, RunResult, refused, counted, after, added, then_by, then_run, run, total, judged, call, calls}
use Rattle.definition_runs.proofs.RunLaws.{run_reset, run_out, run_live}
use Rattle.run_promises.proofs.RunCounts.{run_add}

by_cong : {M : Type 0} (o : Answer) (r : RunResult M) (j k : M → RunResult M) → j r.machine ≡ k r.machine → then_by o r j ≡ then_by o r k
by_cong (Refused n) r j k e = refl
by_cong (Ended Spent) r j k e = ap (added r) e
by_cong (Ended (Interrupted c)) r j k e = refl
by_cong (Ended Reset) r j k e = refl

then_cong : {M : Type 0} (r : RunResult M) (j k : M → RunResult M) → j r.machine ≡ k r.machine → then_run r j ≡ then_run r k
unfolding then_run
then_cong r j k e = by_cong r.answer r j k e

module _ {M : Type 0} (in_reset : M → Bool) (cycle : M → CycleResult M) (judge : M → Verdict) (fits : M → Bool) (join : ℕ → M → M) where
  pub call_refused : (l b : ℕ) (m : M) (q : Refusal) → judged judge fits l b m ≡ Rejected q → call in_reset cycle judge fits join l b m ≡ refused q m
  unfolding call
  call_refused l b m q e = rw (e, call)

  pub call_run : (l b : ℕ) (m : M) → judged judge fits l b m ≡ Accepted → call in_reset cycle judge fits join l b m ≡ run in_reset cycle b (join l m)
  unfolding call
  call_run l b m e = rw (e, call)

  -- a call is refused, or it is a run: what holds of both holds of it
  pub call_cases : (P : RunResult M → Type 0) (l b : ℕ) (m : M) → ((q : Refusal) → judged judge fits l b m ≡ Rejected q → P (refused q m))
      → (judged judge fits l b m ≡ Accepted → P (run in_reset cycle b (join l m))) → P (call in_reset cycle judge fits join l b m)
  call_cases P l b m rejected made = go (judged judge fits l b m) refl
    where
      go : (v : Verdict) → judged judge fits l b m ≡ v → P (call in_reset cycle judge fits join l b m)
      go Accepted e = rw (call_run l b m e) (made e)
      go (Rejected q) e = rw (call_refused l b m q e) (rejected q e)

  -- the tests of a call whose budget is small enough depend on machine and lines alone
  call_budget : (v : Verdict) (l b c : ℕ) → b ≤ 65535 → c ≤ 65535 → judge_call v l b ≡ judge_call v l c
  call_budget Accepted l b c h k = rw (lt-ltb b 65536 (omega arith), lt-ltb c 65536 (omega arith))
  call_budget (Rejected q) l b c h k = refl

  small_budget : (l b c : ℕ) (m : M) → b ≤ 65535 → c ≤ 65535 → judged judge fits l b m ≡ judged judge fits l c m
  small_budget l b c m h k = ap (λ v. judge_devices v (fits m)) (call_budget (judge m) l b c h k)

  module _ (stays : (n l b : ℕ) (m : M) → judged judge fits l b m ≡ Accepted → (judge (run in_reset cycle n (join l m)).machine ≡ Accepted) × (fits (run in_reset cycle n (join l m)).machine ≡ true))
      (join-none : (m : M) → judge m ≡ Accepted → join zero m ≡ m) where
    no_lines : (m : M) (b : ℕ) → judge m ≡ Accepted → fits m ≡ true → b ≤ 65535 → judged judge fits zero b m ≡ Accepted
    no_lines m b e f h = rw (e, f, lt-ltb b 65536 (omega arith))

    pub calls_total : (l b : ℕ) (bs : List ℕ) (m : M) → total b bs ≤ 65535
        → calls in_reset cycle judge fits join l b bs m ≡ call in_reset cycle judge fits join l (total b bs) m
    unfolding calls then_run
    calls_total l b [] m h = refl
    calls_total l b (c ∷ cs) m h = go (calls_total zero c cs) (judged judge fits l b m) refl
      where
        go : ((n : M) → total c cs ≤ 65535 → calls in_reset cycle judge fits join zero c cs n ≡ call in_reset cycle judge fits join zero (total c cs) n)
            → (v : Verdict) → judged judge fits l b m ≡ v
            → then_run (call in_reset cycle judge fits join l b m) (calls in_reset cycle judge fits join zero c cs) ≡ call in_reset cycle judge fits join l (b + total c cs) m
        go ih Accepted e =
            let whole : total c cs ≤ 65535 = omega arith in
            let all : judged judge fits l (b + total c cs) m ≡ Accepted = small_budget l (b + total c cs) b m h (omega arith) ∙ e in
            let r : RunResult M = run in_reset cycle b (join l m) in
            let kept = stays b l b m e in
            rw (call_run l b m e, call_run l (b + total c cs) m all, run_add in_reset cycle b (total c cs) (join l m))
            (then_cong r (calls in_reset cycle judge fits join zero c cs) (run in_reset cycle (total c cs))
            (ih r.machine whole ∙ call_run zero (total c cs) r.machine (no_lines r.machine (total c cs) kept.0 kept.1 whole) ∙ ap (run in_reset cycle (total c cs)) (join-none r.machine kept.0)))
        go ih (Rejected q) e =
            let all : judged judge fits l (b + total c cs) m ≡ Rejected q = small_budget l (b + total c cs) b m h (omega arith) ∙ e in
            rw (call_refused l b m q e, call_refused l (b + total c cs) m q all)

-- ---- what commutes with a cycle commutes with runs and with lists of them

module _ {M : Type 0} (f : M → M) where
  abbrev pub carried_result : CycleResult M → CycleResult M
  carried_result (instruction m) = instruction (f m)
  carried_result (entry k m) = entry k (f m)

  abbrev pub carried : RunResult M → RunResult M
  carried r = record { machine = f r.machine; answer = r.answer; executed = r.executed; entries = r.entries }

  carried_after : (t : CycleResult M) (j k : M → RunResult M) → ((m : M) → j (f m) ≡ carried (k m)) → after (carried_result t) j ≡ carried (after t k)
  carried_after (instruction m) j k h = ap counted (h m)
  carried_after (entry c m) j k h = refl

  carried_by : (a : Answer) (r : RunResult M) (j k : M → RunResult M) → ((m : M) → j (f m) ≡ carried (k m)) → then_by a (carried r) j ≡ carried (then_by a r k)
  carried_by (Refused q) r j k h = refl
  carried_by (Ended Spent) r j k h = ap (added r) (h r.machine)
  carried_by (Ended (Interrupted c)) r j k h = refl
  carried_by (Ended Reset) r j k h = refl

  module _ (in_reset : M → Bool) (cycle : M → CycleResult M) (same-reset : (m : M) → in_reset (f m) ≡ in_reset m) (same-cycle : (m : M) → cycle (f m) ≡ carried_result (cycle m)) where
    pub run_carried : (n : ℕ) (m : M) → run in_reset cycle n (f m) ≡ carried (run in_reset cycle n m)
    run_carried zero m = go (in_reset m) refl
      where
        go : (b : Bool) → in_reset m ≡ b → run in_reset cycle zero (f m) ≡ carried (run in_reset cycle zero m)
        go true e = rw (run_reset in_reset cycle zero (f m) (same-reset m ∙ e), run_reset in_reset cycle zero m e)
        go false e = rw (run_out in_reset cycle (f m) (same-reset m ∙ e), run_out in_reset cycle m e)
    run_carried (suc n) m = go (run_carried n) (in_reset m) refl
      where
        go : ((k : M) → run in_reset cycle n (f k) ≡ carried (run in_reset cycle n k)) → (b : Bool) → in_reset m ≡ b
            → run in_reset cycle (suc n) (f m) ≡ carried (run in_reset cycle (suc n) m)
        go h true e = rw (run_reset in_reset cycle (suc n) (f m) (same-reset m ∙ e), run_reset in_reset cycle (suc n) m e)
        go h false e =
            rw (run_live in_reset cycle n (f m) (same-reset m ∙ e), run_live in_reset cycle n m e, same-cycle m)
            (carried_after (cycle m) (run in_reset cycle n) (run in_reset cycle n) h)

    module _ (judge : M → Verdict) (fits : M → Bool) (join : ℕ → M → M) (same-judge : (m : M) → judge (f m) ≡ judge m) (same-fits : (m : M) → fits (f m) ≡ fits m)
        (same-join : (l : ℕ) (m : M) → join l (f m) ≡ f (join l m)) where
      same_judged : (l b : ℕ) (m : M) → judged judge fits l b (f m) ≡ judged judge fits l b m
      same_judged l b m = rw (same-judge m, same-fits m)

      pub call_carried : (l b : ℕ) (m : M) → call in_reset cycle judge fits join l b (f m) ≡ carried (call in_reset cycle judge fits join l b m)
      call_carried l b m = go (judged judge fits l b m) refl
        where
          go : (v : Verdict) → judged judge fits l b m ≡ v → call in_reset cycle judge fits join l b (f m) ≡ carried (call in_reset cycle judge fits join l b m)
          go Accepted e =
              rw (call_run in_reset cycle judge fits join l b (f m) (same_judged l b m ∙ e), call_run in_reset cycle judge fits join l b m e, same-join l m)
              (run_carried b (join l m))
          go (Rejected q) e =
              rw (call_refused in_reset cycle judge fits join l b (f m) q (same_judged l b m ∙ e), call_refused in_reset cycle judge fits join l b m q e)

      pub calls_carried : (l b : ℕ) (bs : List ℕ) (m : M) → calls in_reset cycle judge fits join l b bs (f m) ≡ carried (calls in_reset cycle judge fits join l b bs m)
      unfolding calls then_run
      calls_carried l b [] m = call_carried l b m
      calls_carried l b (c ∷ cs) m =
          rw (call_carried l b m) (carried_by (call in_reset cycle judge fits join l b m).answer (call in_reset cycle judge fits join l b m) _ _ (calls_carried zero c cs))
