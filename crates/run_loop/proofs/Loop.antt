-- The loop of a run: k is left of the budget b. Assumes nothing.
use Prim.Native.Nat.{ℕ, suc, ◌+◌, ◌-◌, ◌%◌, ◌^◌, ◌≤◌, ◌<◌}
use native.Mathlib.Nat.{sub-zero, sub_self, zero-add, add-zero}
use native.Mathlib.Omega.{arith}
use mathlib.Core.Path.{◌≡◌, refl, sym, ap, subst, ◌∙◌}
use mathlib.Core.Bool.{Bool, true, false, cond, true≢false, false≢true}
use mathlib.Core.List.{List}
use lib.ListN.{length, take-append-drop}
use Rattle.machine.specs.declared.Control.{Control}
use Rattle.machine.specs.declared.Timer.{Timer}
use Rattle.machine.specs.declared.Record.{Record}
use Rattle.machine.specs.declared.Devices.{Devices}
use Rattle.machine.specs.declared.Outcome.TheVariants.{Reset, Spent}
use Rattle.machine.specs.Verdicts.{Accepted}
use Rattle.machine.specs.Fields.{with_ir, raised}
use Rattle.machine.specs.Records.{reset_control}
use Rattle.acceptance.specs.Accept.{timer_fits, judge_registers, judge_machine}
use Rattle.acceptance.proofs.Tests.{passed_timer}
use Rattle.definition_instructions.specs.Machine.{computer, Channel, Machine, machine}
use Rattle.definition_instructions.specs.Channel.{registers_of}
use Rattle.definition_instructions.proofs.Validity.{in_reset_lem}
use Rattle.definition_instructions.proofs.DeviceLaws.{ValidComputer}
use Rattle.definition_times.specs.Timer.{timer_after, interval_ends, line_bit, line_raised}
use Rattle.definition_times.proofs.Most.{execution_most, modification_most, indirect_most}
use Rattle.definition_times.proofs.Laws.{after_twice, ends_later}
use Rattle.definition_runs.specs.GenericRun.{CycleResult, instruction, entry, RunResult, ended, after, run}
use Rattle.definition_runs.specs.Cycle.{cycle}
use Rattle.definition_runs.specs.Timed.{TimedMachine, timed_machine, instruction_time, time_of, cycle_time, cycle_ended, timed_cycle}
use Rattle.definition_runs.specs.Run.{in_reset, run_cycles}
use Rattle.definition_runs.specs.Lent.{machine_lent, returned, handed_back}
use Rattle.definition_runs.proofs.RunLaws.{run_reset, run_out, run_live, Meets}
use Rattle.definition_runs.proofs.CycleValid.{cycle_valid, valid_joined}
use Rattle.channel_row.specs.declared.Channel.{Channel as Row}
use Rattle.channel_row.specs.Row.{channel_at}
use Rattle.timer_row.specs.Row.{Clock, timer_at, passing, limit_of, BelowLimit}
use Rattle.timer_row.proofs.Laws.{limit_most, below_limit}
use Rattle.cycle.specs.declared.CycleEnd.{CycleEnd}
use Rattle.cycle.specs.declared.CycleEnd.TheVariants as cycleEnd
use Rattle.cycle.specs.Steps.{cycle_of}
use Rattle.run_loop.specs.declared.RunEnd.{RunEnd}
use Rattle.run_loop.specs.Ends.{goes_on, stopped, run_of, run_end_of, begun_in_reset}

-- ---- the timer

sum_most : (a b c : ℕ) → a ≤ 15 → b ≤ 15 → c ≤ 370 → a + (b + c) ≤ 400
sum_most a b c h k l = omega arith

time_most : (m : Machine) (x : CycleResult Machine) → time_of m x ≤ 400
unfolding instruction_time
time_most m (instruction n) = sum_most _ _ _ (modification_most _ _) (indirect_most _ _) (execution_most _ _ _ _)
time_most m (entry k n) = omega arith

cycle_most : (m : Machine) → cycle_time m ≤ 400
unfolding cycle_time
cycle_most m = time_most m (cycle m)

-- the time that passed has 32 bits
sum_fits : (p n l : ℕ) → p < l → l ≤ 2 ^ 31 → n ≤ 400 → (p + n) % 2 ^ 32 ≡ p + n
sum_fits p n l h k q = omega arith

raised_later : (p n : ℕ) (r : Timer) (c : Control) → p < limit_of r → line_raised n (timer_after p r) c ≡ line_raised (p + n) r c
unfolding line_raised timer_after
raised_later p n r c l = rw (← (ends_later p n r (below_limit p r l)))

-- the clock x at a cycle's beginning, y at its end
record Ticks (x y : Clock) (n : ℕ) : Type 0 where
  time : y.passed ≡ x.passed + n
  timer : y.timer ≡ x.timer

ticks : (t y : Clock) (m : Machine) → BelowLimit t → y ≡ passing (cycle_time m) t → Ticks t y (cycle_time m)
unfolding passing
ticks t y m l e =
    record {
      time = ap (λ (c : Clock). c.passed) e ∙ sum_fits t.passed (cycle_time m) (limit_of t.timer) l (limit_most t.timer) (cycle_most m);
      timer = ap (λ (c : Clock). c.timer) e;
    }

-- a cycle's answer, with cells, control record and channel after the tick
abbrev pub timed_of : CycleEnd → List ℕ → Record → Channel → CycleResult TimedMachine
timed_of cycleEnd.Executed s r h = instruction (timed_machine s r h)
timed_of cycleEnd.Reset s r h = instruction (timed_machine s (record { registers = reset_control r.registers; timer = r.timer }) h)
timed_of (cycleEnd.Entered k) s r h = entry k (timed_machine s r h)

reset_raised : (b : Bool) (c : Control) (l : ℕ) → reset_control (cond b (raised c l) c) ≡ cond b (raised (reset_control c) l) (reset_control c)
unfolding reset_control raised with_ir
reset_raised true c l = refl
reset_raised false c l = refl

reset_line : (n : ℕ) (r : Timer) (c : Control) → reset_control (line_raised n r c) ≡ line_raised n r (reset_control c)
unfolding line_raised
reset_line n r c = reset_raised (interval_ends n r) c (line_bit r.line)

-- m is the machine at the cycle's beginning, c the control registers that the cycle left, d and u the control registers and the timer after the tick
tick : (e : CycleEnd) (m : Machine) (s : List ℕ) (c d : Control) (h : Channel) (p : ℕ) (r u : Timer) → p < limit_of r → cycle_of e s c h ≡ cycle m
    → d ≡ line_raised (p + cycle_time m) r c → u ≡ timer_after (p + cycle_time m) r
    → timed_of e s (record { registers = d; timer = u }) h ≡ timed_cycle (timed_machine m.cells (record { registers = m.control; timer = timer_after p r }) m.channel)
unfolding timed_cycle cycle_ended
tick cycleEnd.Executed m s c d h p r u l e f g =
    rw (← e, f, g, after_twice p (cycle_time m) r, raised_later p (cycle_time m) r c l)
tick cycleEnd.Reset m s c d h p r u l e f g =
    rw (← e, f, g, after_twice p (cycle_time m) r, raised_later p (cycle_time m) r (reset_control c) l, reset_line (p + cycle_time m) r c)
tick (cycleEnd.Entered k) m s c d h p r u l e f g =
    rw (← e, f, g, after_twice p (cycle_time m) r, raised_later p (cycle_time m) r c l)

-- the same of the rows: k, t at the beginning, y the clock and c the control registers as the cycle ends
pub cycle_ticks : (e : CycleEnd) (s s' : List ℕ) (k c d : Control) (g h : Channel) (t y : Clock) (u : Timer) → BelowLimit t
    → cycle_of e s' c h ≡ cycle (machine s k g) → y ≡ passing (cycle_time (machine s k g)) t
    → d ≡ line_raised y.passed y.timer c → u ≡ timer_after y.passed y.timer
    → timed_of e s' (record { registers = d; timer = u }) h ≡ timed_cycle (timed_machine s (record { registers = k; timer = timer_at t }) g)
cycle_ticks e s s' k c d g h t y u l x z f v =
    let w = ticks t y (machine s k g) l z in
    tick e (machine s k g) s' c d h t.passed t.timer u l x
    (rw (w.time, w.timer) at f) (rw (w.time, w.timer) at v)

-- ---- the loop

-- a run with n instructions before it
abbrev pub following : ℕ → RunResult TimedMachine → RunResult TimedMachine
following n r = record { machine = r.machine; answer = r.answer; executed = n + r.executed; entries = r.entries }

pub at_first : (b : ℕ) (m : TimedMachine) → following (b - b) (run_cycles b m) ≡ run_cycles b m
at_first b m = let z : b - b ≡ 0 = omega arith in rw z (simp zero-add)

pub begun_in_reset_lem : (b : ℕ) (m : TimedMachine) → in_reset m ≡ true → ended Reset m 0 0 ≡ run_cycles b m
unfolding run_cycles
begun_in_reset_lem b m e = sym (run_reset in_reset timed_cycle b m e)

one_more : (n k : ℕ) → n + suc k ≡ n + 1 + k
one_more n k = omega arith

live : (k : ℕ) (m : TimedMachine) → 0 < k → in_reset m ≡ false → run_cycles k m ≡ after (timed_cycle m) (run in_reset timed_cycle (k - 1))
unfolding run_cycles
live k m h e = let l : k ≡ suc (k - 1) = omega arith in subst (λ x. run in_reset timed_cycle x m ≡ after (timed_cycle m) (run in_reset timed_cycle (k - 1))) (sym l) (run_live in_reset timed_cycle (k - 1) m e)

pub run_goes : (b k : ℕ) (m : TimedMachine) (e : CycleEnd) (s : List ℕ) (c : Record) (h : Channel) → 0 < k → k ≤ b → in_reset m ≡ false → timed_of e s c h ≡ timed_cycle m → goes_on e ≡ true
    → following (b - k) (run_cycles k m) ≡ following (b - (k - 1)) (run_cycles (k - 1) (timed_machine s c h))
unfolding goes_on run_cycles
run_goes b k m cycleEnd.Executed s c x h l e t g =
    let n : b - (k - 1) ≡ b - k + 1 = omega arith in
    rw (live k m h e, ← t, n) (simp one_more)
run_goes b k m cycleEnd.Reset s c x h l e t g = absurd (false≢true g)
run_goes b k m (cycleEnd.Entered y) s c x h l e t g = absurd (false≢true g)

valid_line : (n : ℕ) (r : Timer) (s : List ℕ) (c d : Control) (h : Channel) → d ≡ line_raised n r c → ValidComputer (machine s c h) → ValidComputer (machine s d h)
unfolding line_raised
valid_line n r s c d h e v = rw e (by (interval_ends n r))
  where
    by : (b : Bool) → ValidComputer (machine s (cond b (raised c (line_bit r.line)) c) h)
    by true = valid_joined (line_bit r.line) (computer s c) v
    by false = v

pub valid_goes : (m : Machine) (e : CycleEnd) (n : ℕ) (r : Timer) (s : List ℕ) (c d : Control) (h : Channel) → m.control.reset ≡ false → ValidComputer m → cycle_of e s c h ≡ cycle m
    → goes_on e ≡ true → d ≡ line_raised n r c → ValidComputer (machine s d h)
unfolding goes_on
valid_goes m cycleEnd.Executed n r s c d h e v t g f = valid_line n r s c d h f (subst (Meets ValidComputer (λ k. ValidComputer)) (sym t) (cycle_valid m e v))
valid_goes m cycleEnd.Reset n r s c d h e v t g f = absurd (false≢true g)
valid_goes m (cycleEnd.Entered x) n r s c d h e v t g f = absurd (false≢true g)

pub run_stops : (b k : ℕ) (m : TimedMachine) (e : CycleEnd) (s : List ℕ) (c : Record) (h : Channel) → 0 < k → in_reset m ≡ false → timed_of e s c h ≡ timed_cycle m → goes_on e ≡ false
    → run_end_of (stopped e (b - k)) s c h ≡ following (b - k) (run_cycles k m)
unfolding goes_on stopped
run_stops b k m cycleEnd.Executed s c x h e t g = absurd (true≢false g)
run_stops b k m cycleEnd.Reset s c x h e t g = rw (live k m h e, ← t, run_reset in_reset timed_cycle (k - 1) (timed_machine s (record { registers = reset_control c.registers; timer = c.timer }) x) (in_reset_lem c.registers))
run_stops b k m (cycleEnd.Entered y) s c x h e t g = rw (live k m h e, ← t) (simp add-zero)

pub run_spent : (b k : ℕ) (m : TimedMachine) → k ≤ 0 → in_reset m ≡ false → ended Spent m b 0 ≡ following (b - k) (run_cycles k m)
unfolding run_cycles
run_spent b k m l e =
    let z : k ≡ 0 = omega arith in
    rw (z, sub-zero, run_out in_reset timed_cycle m e) (simp add-zero)

-- ---- what is accepted

pub accepted_record : (s : List ℕ) (r : Record) → judge_machine s r ≡ Accepted → (judge_registers s r.registers ≡ Accepted) × (timer_fits r.timer ≡ true)
unfolding judge_machine
accepted_record s r e = passed_timer (judge_registers s r.registers) r.timer e

-- ---- what is handed back

-- the typing buffer is what was typed and what is left of the space
handed : (r : RunEnd) (s : List ℕ) (c : Record) (d : Row) (cs : List ℕ) → returned (run_of cs r c (channel_at d)) s d.typing.now ≡ handed_back cs (run_end_of r s c (channel_at d))
unfolding run_of handed_back channel_at
handed r s c d cs = rw (take-append-drop d.typed d.typing.now)

pub handed_run : (r : RunEnd) (s t : List ℕ) (c : Record) (d : Row) (cs : List ℕ) {x : RunResult TimedMachine} → t ≡ d.typing.now → run_end_of r s c (channel_at d) ≡ x
    → returned (run_of cs r c (channel_at d)) s t ≡ handed_back cs x
handed_run r s t c d cs f e = rw f (handed r s c d cs ∙ ap (handed_back cs) e)

pub handed_in_reset : (b : ℕ) (s : List ℕ) (c : Record) (d : Devices) (cs t : List ℕ) → c.registers.reset ≡ true
    → returned (begun_in_reset c d) s t ≡ handed_back cs (run_cycles b (machine_lent s c d cs t))
unfolding handed_back registers_of
handed_in_reset b s c d cs t e = rw (← (begun_in_reset_lem b (machine_lent s c d cs t) e), sub_self (length cs))
