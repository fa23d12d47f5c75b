-- What the proof of `run` takes from the tests and from the promises. Assumes nothing.
use Prim.Native.Nat.{ℕ, ◌<◌}
use native.Mathlib.Omega.{arith}
use native.Mathlib.Nat.{mod-eq_of_lt, sub_self}
use lib.Bits.{or_zero_r}
use mathlib.Core.Path.{◌≡◌, refl, sym, ap, subst, ◌∙◌}
use mathlib.Core.Bool.{cond}
use mathlib.Core.List.{List}
use lib.Dec.{ltb}
use lib.ListN.{length}
use borrow.Author.Tests.{ltb-true}
use Rattle.machine.specs.declared.Control.{Control}
use Rattle.machine.specs.declared.Record.{Record}
use Rattle.machine.specs.declared.Devices.{Devices}
use Rattle.machine.specs.declared.Refusal.{Refusal}
use Rattle.machine.specs.declared.Refusal.TheVariants.{Budget, Lines}
use Rattle.machine.specs.Verdicts.{Refused, Verdict, Accepted, Rejected}
use Rattle.machine.specs.Fields.{with_ir, raised}
use Rattle.acceptance.specs.Accept.{judge_registers, judge_machine, judge_call, devices_fit, judge_run}
use Rattle.acceptance.proofs.Tests.{passed, passed_timer, passed_devices}
use Rattle.definition_instructions.specs.Machine.{computer}
use Rattle.definition_instructions.specs.Channel.{registers_of}
use Rattle.definition_instructions.proofs.Validity.{accepted_valid, valid_accepted}
use Rattle.definition_runs.specs.Timed.{timed_computer, timed_cycle}
use Rattle.definition_runs.specs.Run.{in_reset, judge_of, devices_fit_of, joined, run_cycles, run_machine}
use Rattle.definition_runs.specs.Lent.{run_result_of, machine_lent, Returned, returned, handed_back, run_lent}
use Rattle.run_promises.specs.Promises.{KeepsProtected, TouchesNoDevice, Counts}
use Rattle.definition_runs.proofs.CycleValid.{valid_joined}
use Rattle.run_promises.proofs.CallLaws.{call_run}
use Rattle.run_promises.proofs.Promises.{isolation, task_call_touches_no_device, counts_of_run, refused_run_lem}
use Rattle.panel_keys.proofs.Laws.{registers_fit}

call_passed : (v : Verdict) (l b : ℕ) → judge_call v l b ≡ Accepted → (v ≡ Accepted) × (b < 65536)
call_passed Accepted l b e =
    let lines = passed (ltb l 2097152) (cond (ltb b 65536) Accepted (Rejected Budget)) Lines e in
    (refl, ltb-true b 65536 (passed (ltb b 65536) Accepted Budget lines.1).0)
call_passed (Rejected q) l b e = let z : ◌≡◌ {A = ℕ} 0 1 = cc in absurd (omega arith)

-- what the code of a run asks: a machine that passes the tests 1 to 3 and 18, a budget of 16 bits, registers of 24
abbrev Fits : List ℕ → Record → ℕ → Devices → Type 0
Fits s r b d = (judge_machine s r ≡ Accepted) × (b < 65536) × (d.reader < 16777216) × (d.typewriter < 16777216)

pub fits_unraised : (s : List ℕ) (r : Record) (l b : ℕ) (d : Devices) (cs : List ℕ) → Accepted ≡ judge_run s r l b d.reader d.typewriter cs → Fits s r b d
unfolding judge_run
fits_unraised s r l b d cs e =
    let all = passed_devices (judge_call (judge_machine s r) l b) (devices_fit d.reader d.typewriter cs) (sym e) in
    let call = call_passed (judge_machine s r) l b all.0 in
    let small = registers_fit d cs all.1 in (call.0, call.1, small.0, small.1)

-- the control record with the lines joined
abbrev with_lines : Record → ℕ → Record
with_lines r l = record { registers = raised r.registers l; timer = r.timer }

machine_accepted : (s : List ℕ) (r : Record) → judge_machine s r ≡ Accepted → judge_registers s r.registers ≡ Accepted
unfolding judge_machine
machine_accepted s r e = (passed_timer (judge_registers s r.registers) r.timer e).0

lines_accepted : (s : List ℕ) (r : Record) (l : ℕ) → judge_machine s r ≡ Accepted → judge_machine s (with_lines r l) ≡ Accepted
unfolding judge_machine
lines_accepted s r l e =
    let c = r.registers in
    let both = passed_timer (judge_registers s c) r.timer e in
    rw (valid_accepted _ (valid_joined l (computer s c) (accepted_valid (computer s c) both.0)), both.1)

-- the same with the lines joined
pub fits_a_run : (s : List ℕ) (r : Record) (l b : ℕ) (d : Devices) (cs : List ℕ) → Accepted ≡ judge_run s r l b d.reader d.typewriter cs → Fits s (with_lines r l) b d
fits_a_run s r l b d cs e = let fits = fits_unraised s r l b d cs e in (lines_accepted s r l fits.0, fits.1, fits.2, fits.3)

pub run_accepted : (s : List ℕ) (r : Record) (l b : ℕ) (d : Devices) (cs t : List ℕ) (x : Returned) → Accepted ≡ judge_run s r l b d.reader d.typewriter cs
    → x ≡ handed_back cs (run_cycles b (machine_lent s (with_lines r l) d cs t)) → x ≡ run_lent l b s r d cs t
unfolding judge_run run_cycles run_machine run_lent
run_accepted s r l b d cs t x e h = h ∙ ap (handed_back cs) (sym (call_run in_reset timed_cycle judge_of devices_fit_of joined l b (machine_lent s r d cs t) (sym e)))

-- no lines
raised_none : (c : Control) (l : ℕ) → l ≡ 0 → c.ir < 16777216 → raised c l ≡ c
unfolding raised with_ir
raised_none c l e h = rw (e, or_zero_r, mod-eq_of_lt h)

pub run_unraised : (s : List ℕ) (r : Record) (l b : ℕ) (d : Devices) (cs t : List ℕ) (x : Returned) → l ≡ 0 → Accepted ≡ judge_run s r l b d.reader d.typewriter cs
    → x ≡ handed_back cs (run_cycles b (machine_lent s r d cs t)) → x ≡ run_lent l b s r d cs t
run_unraised s r l b d cs t x z e h =
    let c = r.registers in
    let small = (accepted_valid (computer s c) (machine_accepted s r (fits_unraised s r l b d cs e).0)).widths.ir in
    run_accepted s r l b d cs t x e (h ∙ ap (λ k. handed_back cs (run_cycles b (machine_lent s (record { registers = k; timer = r.timer }) d cs t))) (sym (raised_none c l z small)))

pub run_rejected : (s : List ℕ) (r : Record) (l b : ℕ) (d : Devices) (cs t : List ℕ) (q : Refusal) → Rejected q ≡ judge_run s r l b d.reader d.typewriter cs
    → returned (record { control = r; answer = Refused q; executed = 0; entries = 0; devices = d; taken = 0; typed = 0 }) s t ≡ run_lent l b s r d cs t
unfolding run_lent handed_back registers_of
run_rejected s r l b d cs t q e = rw (refused_run_lem l b (machine_lent s r d cs t) q (sym e), sub_self (length cs))

-- what the definition promises, of any call that meets it
abbrev Promised : List ℕ → Record → Devices → List ℕ → ℕ → Returned → Type 0
Promised s r d t b x =
    KeepsProtected (timed_computer s r) x.run.answer (timed_computer x.cells x.run.control) × (TouchesNoDevice r d t x × Counts b (run_result_of x.run x.cells))

promised : (s : List ℕ) (r : Record) (l b : ℕ) (d : Devices) (cs t : List ℕ) → Promised s r d t b (run_lent l b s r d cs t)
unfolding run_lent handed_back
promised s r l b d cs t =
    let m = machine_lent s r d cs t in
    let counted = counts_of_run l b m in
    (isolation l b m, (task_call_touches_no_device l b s r d cs t, record { most = counted.most; all = counted.all; entry = counted.entry }))

pub with_promises : (s : List ℕ) (r : Record) (l b : ℕ) (d : Devices) (cs t : List ℕ) (x : Returned) → x ≡ run_lent l b s r d cs t → (x ≡ run_lent l b s r d cs t) × Promised s r d t b x
with_promises s r l b d cs t x e = (e, subst (Promised s r d t b) (sym e) (promised s r l b d cs t))
