-- A cycle in task mode keeps the protected part, save words 8 and 10 where it enters an interruption, and touches no device. No instruction is looked at.
-- Assumes nothing.
use Prim.Native.Nat.{ℕ, ◌*◌, ◌/◌, ◌<◌}
use native.Mathlib.Omega.{arith}
use mathlib.Core.Path.{◌≡◌, refl, sym, subst, ◌∙◌}
use mathlib.Core.Bool.{Bool, true, false, not, cond, true≢false}
use Rattle.machine.specs.declared.Control.{Control}
use Rattle.machine.specs.Store.{word, put_word, violation}
use Rattle.machine.specs.Fields.{with_ic, with_ir}
use Rattle.machine.specs.Records.{interruption_program}
use Rattle.integer.specs.Sums.{sum24}
use Rattle.acceptance.specs.Accept.{state_fits}
use Rattle.definition_instructions.specs.Machine.{Computer, computer, Machine, machine, computer_of, reached}
use Rattle.definition_instructions.specs.Codes.{execute, execute_device, execute_code}
use Rattle.definition_instructions.specs.Protected.{EqualProtected}
use Rattle.definition_instructions.proofs.Isolation.{equal_trans, equal_fewer, equal_put, equal_control, Isolated, isolated_control, allowed_cell, isolated_operation}
use Rattle.definition_instructions.proofs.DeviceLaws.{task_device, ValidComputer}
use Rattle.definition_runs.specs.Cycle.{line_cleared, entry_control, enter, fetch_control, fetch, cycle}
use Rattle.definition_runs.proofs.RunLaws.{Meets}
use Rattle.definition_runs.proofs.CycleLaws.{code_meets, stepped, begun, fetch_meets, entered, lined, cycle_meets}
use Rattle.definition_runs.proofs.CycleValid.{valid_lined, valid_fetch}

-- `n` has entered an interruption with the protected part of `m`, save words 8 and 10
pub record Entry (m n : Computer) : Type 0 where
  pub equal : EqualProtected 12 m n
  pub monitor : n.control.monitor ≡ true
  pub disabled : n.control.enabled ≡ false
  pub pending : n.control.pending ≡ 0
  pub starts : n.control.ic ≡ word n.cells (interruption_program / 2) / 2 * 2

two_words : (v i : ℕ) (n : Computer) (c : Control) → c.pr ≡ n.control.pr → c.im ≡ n.control.im
    → EqualProtected 12 n (computer (put_word (put_word n.cells 4 v) 5 i) c)
two_words v i n c p q =
    let first : Computer = computer (put_word n.cells 4 v) n.control in
    equal_trans (equal_put 12 n 4 v (λ j l f. omega arith))
    (equal_trans (equal_put 12 first 5 i (λ j l f. omega arith)) (equal_control 12 (computer (put_word first.cells 5 i) n.control) c p q))

enter_entry : {m : Computer} (v : ℕ) (n : Computer) → Isolated m n → Entry m (enter v n.cells n.control)
unfolding enter entry_control
enter_entry v n h =
    record {
      equal = equal_trans (equal_fewer 12 (omega arith) h.equal) (two_words v _ n _ refl refl);
      monitor = refl;
      disabled = refl;
      pending = refl;
      starts = refl;
    }

-- ---- with the devices of `m`

pub record Confined (m n : Machine) : Type 0 where
  pub isolated : Isolated (computer_of m) (computer_of n)
  pub channel : n.channel ≡ m.channel

pub record ConfinedEntry (m n : Machine) : Type 0 where
  pub entry : Entry (computer_of m) (computer_of n)
  pub channel : n.channel ≡ m.channel

confined_control : {m : Machine} (n : Machine) (c : Control) → c.pr ≡ n.control.pr → c.im ≡ n.control.im → c.monitor ≡ n.control.monitor → Confined m n
    → Confined m (machine n.cells c n.channel)
confined_control n c p q t h = record { isolated = isolated_control c p q t h.isolated; channel = h.channel }

confined_stepped : {m : Machine} (n : Machine) → Confined m n → Confined m (stepped n)
unfolding with_ic
confined_stepped n h = confined_control n (with_ic n.control (sum24 n.control.ic 2)) refl refl refl h

confined_begun : {m : Machine} (n : Machine) → violation n.cells n.control (n.control.ic / 2) ≡ false → Confined m n → Confined m (begun n)
unfolding fetch_control
confined_begun n e h = confined_control n _ refl refl (allowed_cell (computer_of n) (n.control.ic / 2) h.isolated.task e ∙ sym h.isolated.task) h

-- Test Mode: IO and AW reach nothing
confined_code : {m : Machine} (f w sb : ℕ) (n : Machine) → w < 4 → Confined m n → Confined m (reached (execute_code f w sb n))
unfolding execute execute_device
confined_code {m} f w sb n l h =
    code_meets (Confined m) f w sb n
    (λ o. record { isolated = isolated_operation (computer_of m) w _ (computer_of n) l h.isolated; channel = h.channel })
    (λ p. subst (λ e. Confined m (reached e)) (sym (task_device w _ n h.isolated.task)) h)

confined_fetch : {m : Machine} (n : Machine) → Confined m n → Confined m (reached (fetch n.cells n.control n.channel))
confined_fetch {m} n h =
    fetch_meets (Confined m) n h (confined_stepped n h) (λ e. (confined_begun n e h, λ w sb l. confined_code _ w sb (begun n) l (confined_begun n e h)))

confined_lined : {m : Machine} (n : Machine) → Confined m n → Confined m (lined n)
unfolding line_cleared with_ir
confined_lined n h = confined_control n _ refl refl refl h

confined_entry : {m : Machine} (v : ℕ) (n : Machine) → Confined m n → ConfinedEntry m (entered v n)
confined_entry v n h = record { entry = enter_entry v (computer_of n) h.isolated; channel = h.channel }

pub cycle_confines : (m n : Machine) → Confined m n → Meets (Confined m) (λ k. ConfinedEntry m) (cycle n)
cycle_confines m n h =
    cycle_meets (Confined m) (λ k. ConfinedEntry m) n (confined_fetch n h) (λ f k e. confined_entry 0 k) (λ l. confined_entry _ (lined n) (confined_lined n h))

-- ---- an entry from task mode is not in the reset state, since the reset state implies monitor mode

not_reset : (r t e : Bool) → t ≡ false → cond r (cond t (not e) false) true ≡ true → r ≡ false
not_reset true true e h q = absurd (true≢false h)
not_reset true false e h q = absurd (true≢false (sym q))
not_reset false t e h q = refl

-- between cycles: an accepted machine in task mode, with the protected part of `m`
pub record Task (m n : Machine) : Type 0 where
  pub confined : Confined m n
  pub valid : ValidComputer n

entered_outside : {m : Machine} (v : ℕ) (n : Machine) → Task m n → (entered v n).control.reset ≡ false
unfolding enter entry_control state_fits
entered_outside v n h = not_reset n.control.reset n.control.monitor n.control.enabled h.confined.isolated.task h.valid.state

pub cycle_outside : (m n : Machine) → n.control.reset ≡ false → Task m n → Meets (Task m) (λ k n. n.control.reset ≡ false) (cycle n)
cycle_outside m n e h =
    cycle_meets (Task m) (λ k n. n.control.reset ≡ false) n
    (record { confined = confined_fetch n h.confined; valid = valid_fetch n e h.valid })
    (λ f k q. entered_outside 0 k)
    (λ l. entered_outside _ (lined n) (record { confined = confined_lined n h.confined; valid = valid_lined n h.valid }))
