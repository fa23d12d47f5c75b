-- Mission demand 3 where it speaks of several runs, in the words of the contract of `rc4000::run`: a call is anything that meets the contract's equation.
-- Proved in proofs/Several.antt.
-- Assumes nothing.
use Rattle.std.specs.Prelude.{ℕ, ◌+◌, ◌/◌, ◌≤◌, ◌≡◌, true, List, [], ◌∷◌, ◌++◌, take, drop}
use Rattle.machine.specs.declared.Record.{Record}
use Rattle.machine.specs.declared.Devices.{Devices}
use Rattle.machine.specs.declared.Kind.{Kind}
use Rattle.machine.specs.declared.Outcome.TheVariants.{Spent, Interrupted}
use Rattle.machine.specs.Verdicts.{Ended}
use Rattle.machine.specs.Records.{interruption_program}
use Rattle.definition_instructions.specs.Protected.{forbidden_in, InTaskMode, EqualProtected}
use Rattle.definition_runs.specs.GenericRun.{total}
use Rattle.definition_runs.specs.Timed.{TimedComputer, timed_computer}
use Rattle.definition_runs.specs.Lent.{Returned, run_lent}
use Rattle.run_promises.specs.Promises.{computer_in, SameTimer, EqualEntries}

-- what is lent to a call
pub record Lent : Type 0 where
  pub cells : List ℕ
  pub control : Record
  pub devices : Devices
  pub characters : List ℕ
  pub typing : List ℕ

-- the clause `exact` of `rc4000::run`: x is what the call hands back, with the store and the typing buffer
abbrev pub Called : ℕ → ℕ → Lent → Returned → Type 0
Called lines budget y x = x ≡ run_lent lines budget y.cells y.control y.devices y.characters y.typing

abbrev pub computer_lent : Lent → TimedComputer
computer_lent y = timed_computer y.cells y.control

abbrev pub computer_returned : Returned → TimedComputer
computer_returned x = timed_computer x.cells x.run.control

-- two calls begun in task mode with equal protected parts, word 12 forbidden, that both end interrupted, end so too
abbrev pub TwoCalls : Type 0
TwoCalls =
    (y z : Lent) (x w : Returned) (lines₁ budget₁ lines₂ budget₂ : ℕ) (k₁ k₂ : Kind) → Called lines₁ budget₁ y x → Called lines₂ budget₂ z w
    → InTaskMode (computer_in (computer_lent y)) → InTaskMode (computer_in (computer_lent z)) → EqualProtected 8 (computer_in (computer_lent y)) (computer_in (computer_lent z))
    → forbidden_in (computer_in (computer_lent y)) (interruption_program / 2) ≡ true
    → x.run.answer ≡ Ended (Interrupted k₁) → w.run.answer ≡ Ended (Interrupted k₂)
    → EqualEntries (computer_returned x) (computer_returned w) × (SameTimer y.control.timer z.control.timer → SameTimer x.run.control.timer w.run.control.timer)

-- what a later call is lent: store, control record and registers as handed back, the characters not taken and the typing space not used
abbrev pub lent_later : Lent → Returned → Lent
lent_later y x =
    record {
      cells = x.cells;
      control = x.run.control;
      devices = x.run.devices;
      characters = drop x.run.taken y.characters;
      typing = drop x.run.typed x.typing;
    }

-- the calls made with the budgets b ∷ bs, one after the other, handed back x ∷ xs: each later call is lent what the one before left, and gets no lines;
-- the list stops after the first that does not end spent
abbrev pub CallsMade : ℕ → ℕ → List ℕ → Lent → Returned → List Returned → Type 0
CallsMade l b [] y x [] = Called l b y x
CallsMade l b [] y x (w ∷ ws) = ⊥
CallsMade l b (c ∷ cs) y x [] = Called l b y x × (x.run.answer ≡ Ended Spent → ⊥)
CallsMade l b (c ∷ cs) y x (w ∷ ws) = Called l b y x × (x.run.answer ≡ Ended Spent) × CallsMade 0 c cs (lent_later y x) w ws

-- x, then y: counts, characters taken and bytes typed are summed, and the typing buffer has what x typed before what y was lent of it
abbrev pub followed_by : Returned → Returned → Returned
followed_by x y =
    record {
      run =
          record {
            control = y.run.control;
            answer = y.run.answer;
            executed = x.run.executed + y.run.executed;
            entries = x.run.entries + y.run.entries;
            devices = y.run.devices;
            taken = x.run.taken + y.run.taken;
            typed = x.run.typed + y.run.typed;
          };
      cells = y.cells;
      typing = take x.run.typed x.typing ++ y.typing;
    }

abbrev pub summed : Returned → List Returned → Returned
summed x [] = x
summed x (y ∷ ys) = followed_by x (summed y ys)

-- they equal the one call with the total
abbrev pub OneCall : Type 0
OneCall =
    (l b : ℕ) (bs : List ℕ) (y : Lent) (x : Returned) (xs : List Returned) (z : Returned) → total b bs ≤ 65535
    → CallsMade l b bs y x xs → Called l (total b bs) y z → summed x xs ≡ z
