-- What the cycle of 14.5 keeps, the timed cycle keeps: the timer alters IR alone, by a bit that joins it.
-- Assumes nothing.
use Prim.Native.Nat.{ℕ}
use mathlib.Core.Path.{◌≡◌, refl}
use mathlib.Core.Bool.{Bool, true, false, cond}
use Rattle.machine.specs.declared.Kind.{Kind}
use Rattle.machine.specs.declared.Timer.{Timer}
use Rattle.machine.specs.Verdicts.{Accepted}
use Rattle.machine.specs.Fields.{raised}
use Rattle.acceptance.specs.Accept.{timer_fits, judge_registers, judge_machine}
use Rattle.acceptance.proofs.Tests.{passed_timer}
use Rattle.definition_instructions.specs.Machine.{Machine, machine, computer_of}
use Rattle.definition_instructions.proofs.Validity.{accepted_valid, valid_accepted}
use Rattle.definition_instructions.proofs.DeviceLaws.{ValidComputer}
use Rattle.definition_times.specs.Timer.{timer_after, interval_ends, line_bit, line_raised}
use Rattle.definition_runs.specs.GenericRun.{CycleResult, instruction, entry, cycle_mapped}
use Rattle.definition_runs.specs.Cycle.{cycle}
use Rattle.definition_runs.specs.Timed.{TimedMachine, untimed, cycle_time, cycle_ended, timed_cycle}
use Rattle.definition_runs.specs.Run.{in_reset, judge_of}
use Rattle.definition_runs.proofs.RunLaws.{Meets}
use Rattle.definition_runs.proofs.CycleValid.{cycle_valid, valid_joined}
use Rattle.run_promises.specs.Promises.{machine_of, SameTimer}

mapped_meets : (I : Machine → Type 0) (E : Kind → Machine → Type 0) (J : TimedMachine → Type 0) (F : Kind → TimedMachine → Type 0) (f : Machine → TimedMachine) (x : CycleResult Machine)
    → ((n : Machine) → I n → J (f n)) → ((k : Kind) (n : Machine) → E k n → F k (f n)) → Meets I E x → Meets J F (cycle_mapped f x)
mapped_meets I E J F f (instruction n) g h m = g n m
mapped_meets I E J F f (entry k n) g h m = h k n m

pub timed_meets : (I : Machine → Type 0) (E : Kind → Machine → Type 0) (J : TimedMachine → Type 0) (F : Kind → TimedMachine → Type 0) (m : TimedMachine)
    → ((t : ℕ) (r : Timer) (n : Machine) → I n → J (cycle_ended t r n)) → ((k : Kind) (t : ℕ) (r : Timer) (n : Machine) → E k n → F k (cycle_ended t r n)) → Meets I E (cycle (untimed m))
    → Meets J F (timed_cycle m)
unfolding timed_cycle
timed_meets I E J F m g h x =
    mapped_meets I E J F _ (cycle (untimed m)) (g (cycle_time (untimed m)) m.control.timer) (λ k. h k (cycle_time (untimed m)) m.control.timer) x

-- what a bit that joins IR keeps, the tick keeps
pub tick_keeps : (P : Machine → Type 0) → ((l : ℕ) (n : Machine) → P n → P (machine n.cells (raised n.control l) n.channel)) → (t : ℕ) (r : Timer) (n : Machine) → P n → P (untimed (cycle_ended t r n))
unfolding cycle_ended line_raised
tick_keeps P g t r n h = by (interval_ends t r)
  where
    by : (b : Bool) → P (machine n.cells (cond b (raised n.control (line_bit r.line)) n.control) n.channel)
    by true = g (line_bit r.line) n h
    by false = h

-- the same where the cycle of 14.5 keeps it
pub timed_keeps : (P : Machine → Type 0) → ((l : ℕ) (n : Machine) → P n → P (machine n.cells (raised n.control l) n.channel))
    → ((m : Machine) → m.control.reset ≡ false → P m → Meets P (λ k. P) (cycle m))
    → (m : TimedMachine) → in_reset m ≡ false → P (untimed m) → Meets (λ n. P (untimed n)) (λ k n. P (untimed n)) (timed_cycle m)
timed_keeps P g step m e h = timed_meets P (λ k. P) (λ n. P (untimed n)) (λ k n. P (untimed n)) m (tick_keeps P g) (λ k. tick_keeps P g) (step (untimed m) e h)

-- ---- the timer

-- of any cycle: the timer that it leaves
mapped_timer : (P : Timer → Type 0) (t : ℕ) (r : Timer) (x : CycleResult Machine) → P (timer_after t r)
    → Meets (λ n. P n.control.timer) (λ k n. P n.control.timer) (cycle_mapped (cycle_ended t r) x)
unfolding cycle_ended
mapped_timer P t r (instruction n) h = h
mapped_timer P t r (entry k n) h = h

pub timed_timer : (P : Timer → Type 0) → ((t : ℕ) (r : Timer) → P r → P (timer_after t r)) → (m : TimedMachine) → in_reset m ≡ false → P m.control.timer
    → Meets (λ n. P n.control.timer) (λ k n. P n.control.timer) (timed_cycle m)
unfolding timed_cycle
timed_timer P g m e h = mapped_timer P (cycle_time (untimed m)) m.control.timer (cycle (untimed m)) (g (cycle_time (untimed m)) m.control.timer h)

pub same_after : (q : Timer) (t : ℕ) (r : Timer) → SameTimer q r → SameTimer q (timer_after t r)
unfolding timer_after
same_after q t r h = record { period = h.period; line = h.line }

-- ---- what the tests 1 to 3 and 18 accept

pub record ValidTimed (m : TimedMachine) : Type 0 where
  pub machine : ValidComputer (untimed m)
  pub timer : timer_fits m.control.timer ≡ true

pub accepted_timed : (m : TimedMachine) → judge_of m ≡ Accepted → ValidTimed m
unfolding judge_machine
accepted_timed m e =
    let p = passed_timer (judge_registers m.cells m.control.registers) m.control.timer e in
    record { machine = accepted_valid (computer_of (untimed m)) p.0; timer = p.1 }

pub timed_accepted : (m : TimedMachine) → ValidTimed m → judge_of m ≡ Accepted
unfolding judge_machine
timed_accepted m v = rw (valid_accepted (computer_of (untimed m)) v.machine, v.timer)

pub machine_steps : (m : TimedMachine) → in_reset m ≡ false → ValidComputer (untimed m) → Meets (λ n. ValidComputer (untimed n)) (λ k n. ValidComputer (untimed n)) (timed_cycle m)
machine_steps = timed_keeps ValidComputer (λ l n h. valid_joined l (computer_of n) h) cycle_valid

-- ---- the machine after a cycle

pub timed_result : (m : TimedMachine) → machine_of (timed_cycle m) ≡ cycle_ended (cycle_time (untimed m)) m.control.timer (machine_of (cycle (untimed m)))
unfolding timed_cycle
timed_result m = by (cycle (untimed m))
  where
    by : (x : CycleResult Machine) → machine_of (cycle_mapped (cycle_ended (cycle_time (untimed m)) m.control.timer) x) ≡ cycle_ended (cycle_time (untimed m)) m.control.timer (machine_of x)
    by (instruction n) = refl
    by (entry k n) = refl
