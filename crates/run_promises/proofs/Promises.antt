-- The proofs of specs/Promises.antt.
-- Assumes nothing.
use Prim.Native.Nat.{ℕ, zero, suc, ◌+◌, ◌-◌, ◌*◌, ◌/◌, ◌%◌, ◌^◌, ◌≤◌, ◌<◌}
use native.Mathlib.Omega.{arith}
use native.Mathlib.Nat.{mod-eq_of_lt, mod-lt, div_self, sub_self}
use mathlib.Core.Path.{◌≡◌, refl, sym, ap, ◌∙◌}
use mathlib.Core.Logic.{◌≢◌}
use mathlib.Core.Bool.{Bool, true, false, cond, true≢false}
use mathlib.Core.List.{List, [], ◌∷◌}
use lib.Bits.{bit_or, or_zero_r, or_shr, or_mod}
use lib.Pow.{pow-lt, pow_pos}
use lib.Dec.{eqb, ltb, leb}
use lib.ListN.{length, drop, length-append}
use lib.Seq.{drop-append_seam, drop_at}
use borrow.Author.Tests.{eq-eqb, ne_eqb, le-leb, lt-leb}
use Rattle.machine.specs.declared.Kind.{Kind}
use Rattle.machine.specs.declared.Timer.{Timer}
use Rattle.machine.specs.declared.Outcome.TheVariants.{Spent, Interrupted, Reset}
use Rattle.machine.specs.declared.Refusal.{Refusal}
use Rattle.machine.specs.declared.Refusal.TheVariants.{StoreSize, CellValue, ControlField, TimerField, Lines, Budget}
use Rattle.machine.specs.Verdicts.{Answer, Refused, Ended, Verdict, Accepted, Rejected}
use Rattle.machine.specs.Store.{word}
use Rattle.machine.specs.Answers.{kind_number, verdict_number}
use Rattle.machine.specs.Fields.{with_ir, raised}
use Rattle.acceptance.specs.Accept.{size_fits, cells_fit, control_fits, timer_fits, judge_registers, judge_timer, judge_machine, judge_call, judge_devices, judge_run, judge_autoload}
use Rattle.acceptance.proofs.Tests.{passed_timer, passed_devices, running}
use Rattle.definition_instructions.specs.Machine.{Computer, Channel, Machine, machine, computer_of, Effect, reached}
use Rattle.definition_instructions.specs.Channel.{registers_of, read_from, write_to}
use Rattle.definition_instructions.specs.Codes.{Mnemonic, internal, device, Code, codes, lookup, execute, execute_device, execute_mnemonic, execute_code}
use Rattle.definition_instructions.specs.Protected.{forbidden_in, InTaskMode, EqualProtected}
use Rattle.definition_instructions.proofs.Isolation.{equal_refl, equal_trans, equal_sym, equal_fewer, equal_control, forbidden_equal, isolated_control}
use Rattle.definition_instructions.proofs.Validity.{Valid, accepted_valid, valid_accepted}
use Rattle.definition_instructions.proofs.DeviceLaws.{reached_lifted, task_device, ValidChannel, fits_channel, channel_fits, valid_read, valid_write, ValidComputer}
use Rattle.registers.specs.Reg.{iter}
use Rattle.definition_times.specs.Timer.{elapsed_after, phase_after, timer_after, interval_ends, line_raised}
use Rattle.definition_times.proofs.Laws.{fits_later, ending_line}
use Rattle.definition_runs.specs.GenericRun.{CycleResult, instruction, entry, refused_number, run, judged}
use Rattle.definition_runs.specs.Cycle.{bit_from_left, fetch_control, cycle}
use Rattle.definition_runs.specs.Timed.{TimedComputer, TimedMachine, untimed, timed, cycle_time, cycle_ended, timed_cycle}
use Rattle.definition_runs.specs.Run.{in_reset, judge_of, devices_fit_of, joined, run_machine, run_list}
use Rattle.definition_runs.specs.Keys.{pressed_by, pressing_reset, pressing_start, pressing_autoload, reset_key, start_key, autoload_key}
use Rattle.definition_runs.specs.Lent.{machine_lent, taken_of, buffer_of, handed_back, run_lent}
use Rattle.run_promises.specs.Promises.{kept_from, computer_in, SameTimer, Isolation, TaskKeepsTimer, TaskTouchesNoDevice, TaskCallTouchesNoDevice, TwoRuns, BudgetList, Counts, CountsOfRun, machine_of, cycles, ThatManyCycles, OutcomeOfRun, StaysAccepted, KeysStayAccepted, AutoloadStaysAccepted, RefusedRun, RefusedOnly, due_refusal, RefusalNumbers, StoredNumber, code_at, OthersTouchNoDevice, AllowedTouchesNoDevice, GoesOn, ChannelGoesOn, CallWithinLent, time_among, Elapsed, CycleEnds, TimerLine, PhaseBelowPeriod, TimerLineTaken, EntryTime}
use Rattle.definition_runs.proofs.RunLaws.{Meets, EndsIn, run_keeps}
use Rattle.run_promises.proofs.RunCounts.{run_counts, run_cycled, is_refused, run_made}
use Rattle.run_promises.proofs.CallLaws.{call_refused, call_run, call_cases, calls_total}
use Rattle.definition_runs.proofs.CycleLaws.{code_meets, begun, fetch_meets, cycle_meets}
use Rattle.run_promises.proofs.ChannelLaws.{goes_on_refl, on_read, on_write}
use Rattle.run_promises.proofs.TimedLaws.{timed_meets, tick_keeps, timed_keeps, timed_timer, same_after, ValidTimed, accepted_timed, timed_accepted, machine_steps, timed_result}
use Rattle.run_promises.proofs.CycleIsolates.{Entry, Confined, ConfinedEntry, cycle_confines, Task, cycle_outside}
use Rattle.cycle_promises.proofs.Claims.{lines_taken}
use Rattle.cycle_promises.proofs.Entries.{Stored, cycle_stores}
use Rattle.definition_runs.proofs.CycleValid.{valid_joined, cycle_channel, valid_reset_key, valid_start_key, valid_autoload_key, channel_autoload_key}

-- ---- (e) an accepted machine stays accepted

ends_in : (P : TimedMachine → Type 0) (o : Answer) (m : TimedMachine) → EndsIn P (λ k. P) o m → P m
ends_in P (Refused q) m h = h
ends_in P (Ended Spent) m h = h
ends_in P (Ended (Interrupted k)) m h = h
ends_in P (Ended Reset) m h = h

-- what every cycle keeps holds of the machine that a run leaves
run_leaves : (P : TimedMachine → Type 0) → ((m : TimedMachine) → in_reset m ≡ false → P m → Meets P (λ k. P) (timed_cycle m)) → (n : ℕ) (m : TimedMachine) → P m → P (run in_reset timed_cycle n m).machine
run_leaves P step n m h = ends_in P (run in_reset timed_cycle n m).answer (run in_reset timed_cycle n m).machine (run_keeps P (λ k. P) in_reset timed_cycle step n m h)

run_valid : (n : ℕ) (m : TimedMachine) → ValidTimed m → ValidTimed (run in_reset timed_cycle n m).machine
run_valid n m v =
    record {
      machine = run_leaves (λ k. ValidComputer (untimed k)) machine_steps n m v.machine;
      timer = run_leaves (λ k. timer_fits k.control.timer ≡ true) (timed_timer (λ r. timer_fits r ≡ true) fits_later) n m v.timer;
    }

-- what reads and writes keep of the channel, the timed cycle keeps
channel_steps : (P : Channel → Type 0) → ((n : ℕ) (h : Channel) → P h → P (read_from n h)) → ((n x : ℕ) (h : Channel) → x < 16777216 → P h → P (write_to n x h))
    → (m : TimedMachine) → in_reset m ≡ false → P m.channel → Meets (λ n. P n.channel) (λ k n. P n.channel) (timed_cycle m)
channel_steps P reads writes = timed_keeps (λ n. P n.channel) (λ l n h. h) (cycle_channel P reads writes)

run_channel : (n : ℕ) (m : TimedMachine) → ValidChannel m.channel → ValidChannel (run in_reset timed_cycle n m).machine.channel
run_channel = run_leaves (λ m. ValidChannel m.channel) (channel_steps ValidChannel valid_read valid_write)

-- the tests 4, 5 and 13 come after those of the machine
accepted_call : (v : Verdict) (l b : ℕ) → judge_call v l b ≡ Accepted → v ≡ Accepted
accepted_call Accepted l b e = refl
accepted_call (Rejected q) l b e = e

devices_accepted : (v : Verdict) (f : Bool) → v ≡ Accepted → f ≡ true → judge_devices v f ≡ Accepted
devices_accepted v f e g = rw (e, g)

accepted_run : (l b : ℕ) (m : TimedMachine) → judged judge_of devices_fit_of l b m ≡ Accepted → (judge_of m ≡ Accepted) × (devices_fit_of m ≡ true)
accepted_run l b m e = let p = passed_devices (judge_call (judge_of m) l b) (devices_fit_of m) e in (accepted_call (judge_of m) l b p.0, p.1)

valid_lines : (l : ℕ) (m : TimedMachine) → ValidTimed m → ValidTimed (joined l m)
valid_lines l m v = record { machine = valid_joined l (computer_of (untimed m)) v.machine; timer = v.timer }

valid_run : (l n : ℕ) (m : TimedMachine) → judge_of m ≡ Accepted → judge_of (run in_reset timed_cycle n (joined l m)).machine ≡ Accepted
valid_run l n m e = timed_accepted _ (run_valid n (joined l m) (valid_lines l m (accepted_timed m e)))

fits_run : (l n : ℕ) (m : TimedMachine) → devices_fit_of m ≡ true → devices_fit_of (run in_reset timed_cycle n (joined l m)).machine ≡ true
fits_run l n m e = channel_fits _ (run_channel n (joined l m) (fits_channel m.channel e))

stays : (n l b : ℕ) (m : TimedMachine) → judged judge_of devices_fit_of l b m ≡ Accepted
    → (judge_of (run in_reset timed_cycle n (joined l m)).machine ≡ Accepted) × (devices_fit_of (run in_reset timed_cycle n (joined l m)).machine ≡ true)
stays n l b m e = let p = accepted_run l b m e in (valid_run l n m p.0, fits_run l n m p.1)

pub stays_accepted : StaysAccepted
unfolding run_machine judge_autoload
stays_accepted l b m =
    let all = call_cases in_reset timed_cycle judge_of devices_fit_of joined in (
      λ e. all (λ r. judge_of r.machine ≡ Accepted) l b m (λ q f. e) (λ f. valid_run l b m e),
      λ e. let p = passed_devices (judge_of m) (devices_fit_of m) e in
          all (λ r. judge_devices (judge_of r.machine) (devices_fit_of r.machine) ≡ Accepted) l b m (λ q f. e)
          (λ f. devices_accepted _ _ (valid_run l b m p.0) (fits_run l b m p.1)),
    )

pressed_accepted : {M : Type 0} (judge : M → Verdict) (v : Verdict) (m n : M) → v ≡ Accepted → judge n ≡ Accepted → judge (pressed_by v m n).machine ≡ Accepted
pressed_accepted judge v m n e h = rw e h

-- a key keeps the timer
key_accepted : (m : TimedComputer) (k : Computer) → judge_machine m.cells m.control ≡ Accepted → Valid k
    → judge_machine k.cells (record { registers = k.control; timer = m.control.timer }) ≡ Accepted
unfolding judge_machine
key_accepted m k e v = rw (valid_accepted k v, (passed_timer (judge_registers m.cells m.control.registers) m.control.timer e).1)

registers_valid : (m : TimedComputer) → judge_machine m.cells m.control ≡ Accepted → Valid (computer_in m)
unfolding judge_machine
registers_valid m e = accepted_valid (computer_in m) (passed_timer (judge_registers m.cells m.control.registers) m.control.timer e).0

pub keys_stay_accepted : KeysStayAccepted
unfolding pressing_reset pressing_start
keys_stay_accepted m e =
    let h : Valid (computer_in m) = registers_valid m e in
    let judge : TimedComputer → Verdict = λ k. judge_machine k.cells k.control in (
      pressed_accepted judge (judge m) m _ e (key_accepted m (reset_key m.cells m.control.registers) e (valid_reset_key (computer_in m) h)),
      pressed_accepted judge (judge m) m _ e (key_accepted m (start_key m.cells m.control.registers) e (valid_start_key (computer_in m) h)),
    )

pub autoload_stays_accepted : AutoloadStaysAccepted
unfolding pressing_autoload judge_autoload
autoload_stays_accepted m e =
    let p = passed_devices (judge_of m) (devices_fit_of m) e in
    let v = accepted_timed m p.0 in
    pressed_accepted (λ k. judge_devices (judge_of k) (devices_fit_of k)) (judge_devices (judge_of m) (devices_fit_of m)) m (timed m.control.timer (autoload_key (untimed m))) e
    (devices_accepted _ _ (timed_accepted (timed m.control.timer (autoload_key (untimed m))) (record { machine = valid_autoload_key (untimed m) v.machine; timer = v.timer }))
    (channel_fits _ (channel_autoload_key (untimed m) (fits_channel m.channel p.1))))

-- ---- refusals

pub refused_run_lem : RefusedRun
unfolding run_machine judge_run
refused_run_lem l b m q e = call_refused in_reset timed_cycle judge_of devices_fit_of joined l b m q e

not_made : (a : Answer) (q : Refusal) → is_refused a ≡ false → a ≡ Refused q → ⊥
not_made a q e f = true≢false (sym (ap is_refused f) ∙ e)

abbrev refusal_of_lem : Answer → Refusal → Refusal
refusal_of_lem (Refused q) d = q
refusal_of_lem (Ended o) d = d

pub refused_only : RefusedOnly
unfolding run_machine judge_run
refused_only l b m q =
    call_cases in_reset timed_cycle judge_of devices_fit_of joined (λ r. r.answer ≡ Refused q → judged judge_of devices_fit_of l b m ≡ Rejected q) l b m
    (λ p e f. e ∙ ap (λ (a : Answer). Rejected (refusal_of_lem a q)) f)
    (λ e f. absurd (not_made _ q (run_made in_reset timed_cycle b (joined l m)) f))

call_number : (d e f : Bool) → verdict_number (judge_devices (cond d (cond e Accepted (Rejected Budget)) (Rejected Lines)) f) ≡ cond d (cond e (cond f 0 13) 5) 4
call_number true true true = refl
call_number true true false = refl
call_number true false f = refl
call_number false e f = refl

-- test 18 after the verdict v
abbrev judged_timer : Verdict → Bool → Verdict
judged_timer Accepted d = cond d Accepted (Rejected TimerField)
judged_timer (Rejected q) d = Rejected q

timer_judged : (v : Verdict) (r : Timer) → judge_timer v r ≡ judged_timer v (timer_fits r)
timer_judged Accepted r = refl
timer_judged (Rejected q) r = refl

judged_number : (a b c d f : Bool) (l n : ℕ)
    → verdict_number (judge_devices (judge_call (judged_timer (cond a (cond b (cond c Accepted (Rejected ControlField)) (Rejected CellValue)) (Rejected StoreSize)) d) l n) f)
    ≡ cond a (cond b (cond c (cond d (cond (ltb l 2097152) (cond (ltb n 65536) (cond f 0 13) 5) 4) 18) 3) 2) 1
judged_number true true true true f l n = call_number (ltb l 2097152) (ltb n 65536) f
judged_number true true true false f l n = refl
judged_number true true false d f l n = refl
judged_number true false c d f l n = refl
judged_number false b c d f l n = refl

not_refused : (a : Answer) → is_refused a ≡ false → refused_number a ≡ 0
not_refused (Refused q) e = absurd (true≢false e)
not_refused (Ended o) e = refl

due_number_lem : (l b : ℕ) (m : TimedMachine) → verdict_number (judged judge_of devices_fit_of l b m) ≡ due_refusal l b m
unfolding judge_machine judge_registers
due_number_lem l b m =
    rw (timer_judged) (judged_number (size_fits (length m.cells)) (cells_fit m.cells) (control_fits m.control.registers) (timer_fits m.control.timer) (devices_fit_of m) l b)

pub refusal_numbers : RefusalNumbers
unfolding run_machine
refusal_numbers l b m =
    call_cases in_reset timed_cycle judge_of devices_fit_of joined (λ r. refused_number r.answer ≡ due_refusal l b m) l b m (λ q e. sym (ap verdict_number e) ∙ due_number_lem l b m)
    (λ e. not_refused (run in_reset timed_cycle b (joined l m)).answer (run_made in_reset timed_cycle b (joined l m)) ∙ sym (ap verdict_number e) ∙ due_number_lem l b m)

-- ---- the number in word 8

-- an entry stores its number, and the tick leaves the cells
stored_steps : (m : TimedMachine) → in_reset m ≡ false → ValidComputer (untimed m) → Meets (λ n. ValidComputer (untimed n)) (λ k n. Stored k (untimed n)) (timed_cycle m)
stored_steps m e v =
    timed_meets ValidComputer Stored (λ n. ValidComputer (untimed n)) (λ k n. Stored k (untimed n)) m (tick_keeps ValidComputer (λ l n h. valid_joined l (computer_of n) h))
    (λ k. tick_keeps (Stored k) (λ l n h. h)) (cycle_stores (untimed m) e v)

pub stored_number : StoredNumber
unfolding run_machine
stored_number l b m k =
    call_cases in_reset timed_cycle judge_of devices_fit_of joined (λ r. r.answer ≡ Ended (Interrupted k) → word r.machine.cells 4 ≡ kind_number k) l b m
    (λ q e f. absurd (true≢false (ap is_refused f)))
    (λ e f. rw f at (run_keeps (λ n. ValidComputer (untimed n)) (λ k n. Stored k (untimed n)) in_reset timed_cycle stored_steps b (joined l m) (valid_lines l m (accepted_timed m (accepted_run l b m e).0)).machine))

-- ---- (c) the list of budgets

joined_none : (m : TimedMachine) → judge_of m ≡ Accepted → joined zero m ≡ m
unfolding raised with_ir
joined_none m e =
    let small : m.control.registers.ir < 16777216 = (accepted_timed m e).machine.widths.ir in
    rw (or_zero_r, mod-eq_of_lt small)

pub budget_list : BudgetList
unfolding run_list run_machine
budget_list l b bs m h = calls_total in_reset timed_cycle judge_of devices_fit_of joined stays joined_none l b bs m h

-- ---- (d) the counts

pub counts_of_run : CountsOfRun
unfolding run_machine
counts_of_run l b m =
    call_cases in_reset timed_cycle judge_of devices_fit_of joined (Counts b) l b m
    (λ q e. record { most = omega arith; all = λ s. let z : ◌≡◌ {A = ℕ} 0 1 = cc in omega arith; entry = refl })
    (λ e. run_counts in_reset timed_cycle b (joined l m))

pub that_many_cycles : ThatManyCycles
unfolding run_machine judge_run
that_many_cycles l b m e = rw (call_run in_reset timed_cycle judge_of devices_fit_of joined l b m e) (let h = run_cycled timed_cycle in_reset b (joined l m) in (h.machine, h.entries))

pub outcome_of_run : OutcomeOfRun
unfolding run_machine judge_run
outcome_of_run l b m e = rw (call_run in_reset timed_cycle judge_of devices_fit_of joined l b m e) (let h = run_cycled timed_cycle in_reset b (joined l m) in (h.ends, h.outside))

-- ---- (a) isolation

-- joining the lines keeps the protected part and the devices
confined_joined : (l : ℕ) (m n : Machine) → Confined m n → Confined m (machine n.cells (raised n.control l) n.channel)
unfolding raised with_ir
confined_joined l m n h = record { isolated = isolated_control _ refl refl refl h.isolated; channel = h.channel }

entry_joined : (l : ℕ) (m n : Machine) → ConfinedEntry m n → ConfinedEntry m (machine n.cells (raised n.control l) n.channel)
unfolding raised with_ir
entry_joined l m n h =
    record {
      entry =
          record {
            equal = equal_trans h.entry.equal (equal_control 12 (computer_of n) (raised n.control l) refl refl);
            monitor = h.entry.monitor;
            disabled = h.entry.disabled;
            pending = h.entry.pending;
            starts = h.entry.starts;
          };
      channel = h.channel;
    }

confined_as : (m : TimedMachine) → InTaskMode (computer_of (untimed m)) → Confined (untimed m) (untimed m)
confined_as m t = record { isolated = record { task = t; equal = equal_refl 8 (computer_of (untimed m)) }; channel = refl }

confined_steps : (m : Machine) (n : TimedMachine) → in_reset n ≡ false → Confined m (untimed n) → Meets (λ k. Confined m (untimed k)) (λ c k. ConfinedEntry m (untimed k)) (timed_cycle n)
confined_steps m n e h =
    timed_meets (Confined m) (λ k. ConfinedEntry m) (λ k. Confined m (untimed k)) (λ c k. ConfinedEntry m (untimed k)) n
    (tick_keeps (Confined m) (λ l. confined_joined l m)) (λ k. tick_keeps (ConfinedEntry m) (λ l. entry_joined l m)) (cycle_confines m (untimed n) h)

ends_confined : (l b : ℕ) (m : TimedMachine) → InTaskMode (computer_of (untimed m))
    → EndsIn (λ k. Confined (untimed m) (untimed k)) (λ c k. ConfinedEntry (untimed m) (untimed k)) (run_machine l b m).answer (run_machine l b m).machine
unfolding run_machine
ends_confined l b m t =
    call_cases in_reset timed_cycle judge_of devices_fit_of joined
    (λ r. EndsIn (λ k. Confined (untimed m) (untimed k)) (λ c k. ConfinedEntry (untimed m) (untimed k)) r.answer r.machine) l b m
    (λ q e. confined_as m t)
    (λ e. run_keeps (λ k. Confined (untimed m) (untimed k)) (λ c k. ConfinedEntry (untimed m) (untimed k)) in_reset timed_cycle (confined_steps (untimed m)) b (joined l m)
    (confined_joined l (untimed m) (untimed m) (confined_as m t)))

kept_by : (m : TimedMachine) (o : Answer) (n : TimedMachine) → EndsIn (λ k. Confined (untimed m) (untimed k)) (λ c k. ConfinedEntry (untimed m) (untimed k)) o n
    → EqualProtected (kept_from o) (computer_of (untimed m)) (computer_of (untimed n)) × (n.channel ≡ m.channel)
kept_by m (Refused q) n h = (h.isolated.equal, h.channel)
kept_by m (Ended Spent) n h = (h.isolated.equal, h.channel)
kept_by m (Ended (Interrupted k)) n h = (h.entry.equal, h.channel)
kept_by m (Ended Reset) n h = (h.isolated.equal, h.channel)

pub task_keeps_timer : TaskKeepsTimer
unfolding run_machine
task_keeps_timer l b m =
    let same : SameTimer m.control.timer m.control.timer = record { period = refl; line = refl } in
    call_cases in_reset timed_cycle judge_of devices_fit_of joined (λ r. SameTimer m.control.timer r.machine.control.timer) l b m (λ q e. same)
    (λ e. run_leaves (λ n. SameTimer m.control.timer n.control.timer) (timed_timer (SameTimer m.control.timer) (same_after m.control.timer)) b (joined l m) same)

pub isolation : Isolation
isolation l b m t =
    record { computer = (kept_by m (run_machine l b m).answer (run_machine l b m).machine (ends_confined l b m t)).0; timer = task_keeps_timer l b m }

pub task_touches_no_device : TaskTouchesNoDevice
task_touches_no_device l b m t = (kept_by m (run_machine l b m).answer (run_machine l b m).machine (ends_confined l b m t)).1

pub task_call_touches_no_device : TaskCallTouchesNoDevice
unfolding run_lent handed_back registers_of
task_call_touches_no_device l b s c d cs t e =
    let kept = task_touches_no_device l b (machine_lent s c d cs t) e in
    (ap registers_of kept, ap (taken_of cs) kept ∙ sub_self (length cs), ap (λ h. length h.typed) kept, ap buffer_of kept)

-- ---- (b) two runs

outside_raised : (l : ℕ) (n : Machine) → n.control.reset ≡ false → (raised n.control l).reset ≡ false
unfolding raised with_ir
outside_raised l n h = h

interrupted_entry : (l b : ℕ) (m : TimedMachine) (k : Kind) → InTaskMode (computer_of (untimed m)) → (run_machine l b m).answer ≡ Ended (Interrupted k)
    → Entry (computer_of (untimed m)) (computer_of (untimed (run_machine l b m).machine))
interrupted_entry l b m k t e = let h : ConfinedEntry (untimed m) (untimed (run_machine l b m).machine) = rw e at (ends_confined l b m t) in h.entry

task_steps : (m : Machine) (n : TimedMachine) → in_reset n ≡ false → Task m (untimed n) → Meets (λ k. Task m (untimed k)) (λ c k. in_reset k ≡ false) (timed_cycle n)
task_steps m n e h =
    timed_meets (Task m) (λ c k. k.control.reset ≡ false) (λ k. Task m (untimed k)) (λ c k. in_reset k ≡ false) n
    (tick_keeps (Task m) (λ l k x. record { confined = confined_joined l m k x.confined; valid = valid_joined l (computer_of k) x.valid }))
    (λ c. tick_keeps (λ k. k.control.reset ≡ false) outside_raised) (cycle_outside m (untimed n) e h)

interrupted_outside : (l b : ℕ) (m : TimedMachine) (k : Kind) → InTaskMode (computer_of (untimed m)) → (run_machine l b m).answer ≡ Ended (Interrupted k) → in_reset (run_machine l b m).machine ≡ false
unfolding run_machine
interrupted_outside l b m k t =
    call_cases in_reset timed_cycle judge_of devices_fit_of joined (λ r. r.answer ≡ Ended (Interrupted k) → in_reset r.machine ≡ false) l b m
    (λ q e f. absurd (true≢false (ap is_refused f)))
    (λ e f. rw f at (run_keeps (λ n. Task (untimed m) (untimed n)) (λ c n. in_reset n ≡ false) in_reset timed_cycle (task_steps (untimed m)) b (joined l m)
    (record { confined = confined_joined l (untimed m) (untimed m) (confined_as m t); valid = (valid_lines l m (accepted_timed m (accepted_run l b m e).0)).machine })))

same_timer : {a b c d : Timer} → SameTimer a b → SameTimer a c → SameTimer c d → SameTimer b d
same_timer f g h = record { period = h.period ∙ g.period ∙ sym f.period; line = h.line ∙ g.line ∙ sym f.line }

pub two_runs : TwoRuns
two_runs m n l₁ b₁ l₂ b₂ k₁ k₂ t₁ t₂ h f e₁ e₂ =
    let g₁ = interrupted_entry l₁ b₁ m k₁ t₁ e₁ in
    let g₂ = interrupted_entry l₂ b₂ n k₂ t₂ e₂ in
    let k : EqualProtected 12 (computer_of (untimed (run_machine l₁ b₁ m).machine)) (computer_of (untimed (run_machine l₂ b₂ n).machine)) =
    equal_trans (equal_sym g₁.equal) (equal_trans (equal_fewer 12 (omega arith) h) g₂.equal) in
    let start : word (run_machine l₂ b₂ n).machine.cells 6 ≡ word (run_machine l₁ b₁ m).machine.cells 6 =
    k.words 6 (omega arith) (forbidden_equal g₁.equal 6 ∙ f) in (
      record {
        equal = k;
        monitor = (g₁.monitor, g₂.monitor);
        disabled = (g₁.disabled, g₂.disabled);
        pending = (g₁.pending, g₂.pending);
        reset = (interrupted_outside l₁ b₁ m k₁ t₁ e₁, interrupted_outside l₂ b₂ n k₂ t₂ e₂);
        same = g₁.starts ∙ sym (g₂.starts ∙ ap (λ w. w / 2 * 2) start);
        starts = (g₁.starts, g₂.starts);
      },
      λ q. same_timer (task_keeps_timer l₁ b₁ m) q (task_keeps_timer l₂ b₂ n),
    )

-- ---- devices

-- every code of the list is that of an operation without devices
unfoldable without : List Code → Bool
without [] = true
without (x ∷ xs) = elim x.op [ internal o ↦ without xs | device p ↦ false ]

abbrev is_device : Mnemonic → Bool
is_device (internal o) = false
is_device (device p) = true

lookup_without : (f : ℕ) (cs : List Code) → without cs ≡ true → is_device (lookup f cs) ≡ false
unfolding without lookup
lookup_without f [] e = refl
lookup_without f (x ∷ xs) e = go (lookup_without f xs) x.op e (eqb f x.number)
  where
    go : (without xs ≡ true → is_device (lookup f xs) ≡ false) → (o : Mnemonic) → elim o [ internal o ↦ without xs | device p ↦ false ] ≡ true → (b : Bool)
        → is_device (cond b o (lookup f xs)) ≡ false
    go ih (internal o) e true = refl
    go ih (internal o) e false = ih e
    go ih (device p) e b = absurd (true≢false (sym e))

lookup_past : (f : ℕ) (x y : Code) (cs : List Code) → f ≢ x.number → f ≢ y.number → lookup f (x ∷ y ∷ cs) ≡ lookup f cs
unfolding lookup
lookup_past f x y cs a b = rw (ne_eqb f x.number a, ne_eqb f y.number b)

other_code : (f : ℕ) → f ≢ 0 → f ≢ 1 → is_device (lookup f codes) ≡ false
unfolding codes without
other_code f a b = ap is_device (lookup_past f _ _ _ a b) ∙ lookup_without f _ refl

internal_keeps : (x : Mnemonic) (w sb : ℕ) (m : Machine) → is_device x ≡ false → (reached (execute_mnemonic x w sb m)).channel ≡ m.channel
internal_keeps (internal o) w sb m e = ap (λ n. n.channel) (reached_lifted m.channel (execute o w sb m.cells m.control))
internal_keeps (device p) w sb m e = absurd (true≢false e)

result_of : (P : Machine → Type 0) (t : CycleResult Machine) → Meets P (λ k. P) t → P (machine_of t)
result_of P (instruction n) h = h
result_of P (entry k n) h = h

-- the tick leaves the channel
timed_channel : (m : TimedMachine) → (machine_of (cycle (untimed m))).channel ≡ m.channel → (machine_of (timed_cycle m)).channel ≡ m.channel
unfolding cycle_ended
timed_channel m e = ap (λ (n : TimedMachine). n.channel) (timed_result m) ∙ e

pub others_touch_no_device : OthersTouchNoDevice
unfolding execute_code
others_touch_no_device m a b =
    let c = untimed m in
    let P : Machine → Type 0 = λ n. n.channel ≡ m.channel in
    timed_channel m (result_of P (cycle c)
    (cycle_meets P (λ k. P) c
    (fetch_meets P c refl refl (λ v. (refl, λ w sb l. internal_keeps (lookup (code_at m) codes) w sb (begun c) (other_code (code_at m) a b))))
    (λ f n q h. h) (λ l. refl)))

-- the fetch from an allowed cell leaves task mode
task_begun : (m : Machine) → forbidden_in (computer_of m) (m.control.ic / 2) ≡ false → (begun m).control.monitor ≡ false
unfolding fetch_control
task_begun m e = e

pub allowed_touches_no_device : AllowedTouchesNoDevice
unfolding execute_device
allowed_touches_no_device m e =
    let c = untimed m in
    let P : Machine → Type 0 = λ n. n.channel ≡ m.channel in
    timed_channel m (result_of P (cycle c)
    (cycle_meets P (λ k. P) c
    (fetch_meets P c refl refl
    (λ v. (refl, λ w sb l. code_meets P (code_at m) w sb (begun c) (λ o. refl) (λ p. ap (λ (x : Effect Machine). (reached x).channel) (task_device w _ (begun c) (task_begun c e))))))
    (λ f n q h. h) (λ l. refl)))

pub channel_goes_on : ChannelGoesOn
unfolding run_machine
channel_goes_on l b m =
    call_cases in_reset timed_cycle judge_of devices_fit_of joined (λ r. GoesOn m.channel r.machine.channel) l b m (λ q e. goes_on_refl m.channel)
    (λ e. run_leaves (λ n. GoesOn m.channel n.channel) (channel_steps (GoesOn m.channel) (on_read m.channel) (on_write m.channel)) b (joined l m) (goes_on_refl m.channel))

pub call_within_lent : CallWithinLent
unfolding run_lent handed_back
call_within_lent l b s c d cs t =
    let on = channel_goes_on l b (machine_lent s c d cs t) in
    let h = (run_machine l b (machine_lent s c d cs t)).machine.channel in
    let some : length h.typed ≡ length on.used = ap length on.typed ∙ sym on.as_many in
    let whole : length t ≡ length on.used + length h.space = ap length on.space ∙ length-append on.used h.space in
    record {
      taken = omega arith;
      typed = omega (arith, some, whole);
      size = length-append h.typed h.space ∙ omega (arith, some, whole);
      rest = drop-append_seam h.typed h.space ∙ sym (ap (drop (length h.typed)) on.space ∙ drop_at on.used h.space (length h.typed) (sym some));
    }

-- ---- the timer

sum_after_lem : (e t u : ℕ) → ((e + t) % 2 ^ 32 + u) % 2 ^ 32 ≡ (e + (t + u)) % 2 ^ 32
sum_after_lem e t u = omega arith

elapsed_tick : (t : ℕ) (r : Timer) (n : Machine) → (cycle_ended t r n).control.timer.elapsed ≡ (r.elapsed + t) % 2 ^ 32
unfolding cycle_ended timer_after elapsed_after
elapsed_tick t r n = refl

ends_reached : (p q t : ℕ) → 0 < p → p ≤ q + t → cond (eqb p 0) false (leb p (q + t)) ≡ true
ends_reached p q t l h = rw (ne_eqb p 0 (λ (z : p ≡ 0). omega arith), le-leb p (q + t) h)

ends_before : (b : Bool) (p q t : ℕ) → q + t < p → cond b false (leb p (q + t)) ≡ false
ends_before true p q t h = refl
ends_before false p q t h = lt-leb p (q + t) h

tick_ends : (a : TimedMachine) (b : Machine) → CycleEnds (cycle_time (untimed a)) a b (cycle_ended (cycle_time (untimed a)) a.control.timer b)
unfolding cycle_ended line_raised interval_ends timer_after phase_after
tick_ends a b =
    let r = a.control.timer in
    let t = cycle_time (untimed a) in
    record {
      reached = λ l h. rw (ends_reached r.period r.phase t l h);
      before = λ h. rw (ends_before (eqb r.period 0) r.period r.phase t h);
      off = λ z. (rw (eq-eqb r.period 0 z), rw (eq-eqb r.period 0 z));
      phase = λ l. rw (ne_eqb r.period 0 (λ (z : r.period ≡ 0). omega arith));
      cells = refl;
      channel = refl;
    }

elapsed_cycles : (n : ℕ) (m : TimedMachine) → m.control.timer.elapsed < 2 ^ 32
    → (cycles timed_cycle n m).control.timer.elapsed ≡ (m.control.timer.elapsed + time_among n m) % 2 ^ 32
unfolding iter time_among
elapsed_cycles zero m l = omega arith
elapsed_cycles (suc n) m l =
    let a = cycles timed_cycle n m in
    ap (λ (z : TimedMachine). z.control.timer.elapsed) (timed_result a) ∙ elapsed_tick (cycle_time (untimed a)) a.control.timer (machine_of (cycle (untimed a)))
    ∙ ap (λ (x : ℕ). (x + cycle_time (untimed a)) % 2 ^ 32) (elapsed_cycles n m l) ∙ sum_after_lem m.control.timer.elapsed (time_among n m) (cycle_time (untimed a))

pub elapsed : Elapsed
elapsed l b m e h =
    ap (λ (z : TimedMachine). z.control.timer.elapsed) (that_many_cycles l b m e).0
    ∙ elapsed_cycles ((run_machine l b m).executed + (run_machine l b m).entries) (joined l m) h

pub timer_line : TimerLine
unfolding iter
timer_line l b m i e h =
    let a = cycles timed_cycle i (joined l m) in
    rw (timed_result a) (tick_ends a (machine_of (cycle (untimed a))))

pub phase_below_period : PhaseBelowPeriod
phase_below_period l b m e h = (running _ (accepted_timed (run_machine l b m).machine ((stays_accepted l b m).0 e)).timer (λ z. omega (arith, z, h))).phase

bit_or_lem : (y : ℕ) → y < 2 → bit_or y 1 ≡ 1
bit_or_lem zero l = refl
bit_or_lem (suc zero) l = refl
bit_or_lem (suc (suc y)) l = absurd (omega (arith, l))

-- a bit that joined IR stands there
joined_bit : (x k : ℕ) → k < 24 → bit_or x (2 ^ k) % 16777216 / 2 ^ k % 2 ≡ 1
joined_bit x k h =
    let y = x % 2 ^ 24 in
    let own : 2 ^ k % 2 ^ 24 ≡ 2 ^ k = mod-eq_of_lt (pow-lt {i = k} {j = 24} h) in
    let below : bit_or x (2 ^ k) % 16777216 ≡ bit_or y (2 ^ k) = or_mod x (2 ^ k) 24 ∙ ap (bit_or y) own in
    let one : 2 ^ k / 2 ^ k ≡ 1 = div_self (pow_pos k) in
    let bit : bit_or (y / 2 ^ k) 1 % 2 ^ 1 ≡ bit_or (y / 2 ^ k % 2 ^ 1) (1 % 2 ^ 1) = or_mod (y / 2 ^ k) 1 1 in
    rw (below, or_shr y (2 ^ k) k, one) (bit ∙ bit_or_lem (y / 2 ^ k % 2) (mod-lt (y / 2 ^ k) (omega arith)))

raised_line : (t : ℕ) (r : Timer) (b : Machine) → interval_ends t r ≡ true → r.line < 24
    → bit_from_left (cycle_ended t r b).control.registers.ir r.line ≡ 1
unfolding cycle_ended line_raised raised with_ir bit_from_left
raised_line t r b i h = rw i (joined_bit b.control.ir (23 - r.line) (omega arith))

pub timer_line_taken : TimerLineTaken
timer_line_taken m e i =
    let r = m.control.timer in
    let b = machine_of (cycle (untimed m)) in
    let line = ending_line (cycle_time (untimed m)) r e i in
    rw (timed_result m) (λ n p q. lines_taken _ r.line line n p (raised_line (cycle_time (untimed m)) r b i line) q)

pub entry_time_lem : EntryTime
unfolding cycle_time
entry_time_lem m n k e = rw e
