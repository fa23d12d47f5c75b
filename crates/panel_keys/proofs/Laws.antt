-- What the proofs of the autoload key take from the tests and from the definition. Assumes nothing.
use Prim.Native.Nat.{ℕ, ◌-◌, ◌≤◌, ◌<◌}
use native.Mathlib.Omega.{arith}
use native.Mathlib.Nat.{sub_self}
use mathlib.Core.Path.{◌≡◌, refl, sym, ap, ◌∙◌}
use mathlib.Core.Bool.{Bool, true, false, cond, true≢false}
use mathlib.Core.List.{List, []}
use lib.ListN.{length}
use borrow.Author.Tests.{le-leb, lt-leb}
use Rattle.machine.specs.declared.Control.{Control}
use Rattle.machine.specs.declared.Record.{Record}
use Rattle.machine.specs.declared.Devices.{Devices}
use Rattle.machine.specs.declared.Refusal.{Refusal}
use Rattle.machine.specs.Verdicts.{Accepted, Rejected}
use Rattle.acceptance.specs.Accept.{state_fits, judge_registers, judge_machine, devices_fit, judge_autoload}
use Rattle.acceptance.proofs.Tests.{passed_timer, passed_devices}
use Rattle.definition_instructions.specs.Machine.{computer, Channel, Machine, machine, Effect, ok, fault, reached}
use Rattle.definition_instructions.specs.Channel.{lent, registers_of, four_left}
use Rattle.definition_instructions.specs.MicroOps.{device_steps}
use Rattle.definition_instructions.specs.Meaning.{autoloading}
use Rattle.definition_instructions.proofs.Validity.{in_reset_lem, accepted_valid, Live, valid_control}
use Rattle.definition_instructions.proofs.DeviceLaws.{fits_channel, live_devices}
use Rattle.control_row.specs.declared.End.{End}
use Rattle.control_row.specs.declared.End.TheVariants.{Done, Reset, Faulted}
use Rattle.control_row.specs.Endings.{Ending, completed, faulted, ending, ending_of, ending_with}
use Rattle.definition_runs.specs.Timed.{untimed, timed}
use Rattle.definition_runs.specs.Keys.{autoload_control, autoload_key, pressing_autoload}
use Rattle.definition_runs.specs.Lent.{machine_lent, KeyReturned, key_returned, key_handed_back, autoload_lent}
use Rattle.panel_keys.specs.Key.{autoloaded, autoload_pressed}

-- registers that pass test 13
pub registers_fit : (d : Devices) (cs : List ℕ) → devices_fit d.reader d.typewriter cs ≡ true → (d.reader < 16777216) × (d.typewriter < 16777216)
registers_fit d cs e = let v = fits_channel (lent d.reader d.typewriter cs []) e in (v.reader, v.typewriter)

-- what the code of the autoload key asks
pub fits_a_key : (s : List ℕ) (r : Record) (d : Devices) (cs : List ℕ) → Accepted ≡ judge_autoload s r d.reader d.typewriter cs
    → (judge_registers s r.registers ≡ Accepted) × (d.reader < 16777216) × (d.typewriter < 16777216)
unfolding judge_autoload judge_machine
fits_a_key s r d cs e =
    let all = passed_devices (judge_machine s r) (devices_fit d.reader d.typewriter cs) (sym e) in
    let before = passed_timer (judge_registers s r.registers) r.timer all.0 in
    let small = registers_fit d cs all.1 in
    (before.0, small.0, small.1)

-- the row of the control registers asks for this
pub narrow : (s : List ℕ) (c d : Control) → judge_registers s c ≡ Accepted → d ≡ autoload_control c → (d.pr < 256) × (d.reset ≡ false)
unfolding autoload_control
narrow s c d e f = rw f ((accepted_valid (computer s c) e).widths.high, refl)

live_autoload : (s : List ℕ) (c : Control) → judge_registers s c ≡ Accepted → Live (computer s (autoload_control c))
unfolding autoload_control state_fits
live_autoload s c e =
    let h = accepted_valid (computer s c) e in
    record { valid = valid_control (computer s c) _ (omega (arith, h.widths)) refl h; outside = refl }

abbrev end_machine : Ending Machine → Machine
end_machine (completed m) = m
end_machine (faulted m) = m

end_reached : (x : Effect Machine) → end_machine (ending x) ≡ reached x
end_reached (ok m) = refl
end_reached (fault f m) = refl

-- an end outside the reset state leaves cells and row as they stand
end_machine_lem : (r : End) (s : List ℕ) (c : Control) (h : Channel) (x : Effect Machine) → ending_with h (ending_of r s c) ≡ ending x → (reached x).control.reset ≡ false
    → machine s c h ≡ reached x
end_machine_lem Done s c h x e f = ap end_machine e ∙ end_reached x
end_machine_lem Faulted s c h x e f = ap end_machine e ∙ end_reached x
end_machine_lem Reset s c h x e f = absurd (true≢false (sym (in_reset_lem c) ∙ ap (λ m. m.control.reset) (ap end_machine e ∙ end_reached x) ∙ f))

-- what Autoload Word leaves is handed back, with the timer as it was
pub key_made : (x : End) (s t : List ℕ) (r : Record) (d : Control) (h : Channel) (u v : Devices) (cs ts : List ℕ) → u ≡ registers_of h → judge_registers s r.registers ≡ Accepted
    → ending_with h (ending_of x t d) ≡ ending (device_steps 0 (autoloading 0 cs) (machine s (autoload_control r.registers) (lent v.reader v.typewriter cs ts)))
    → key_returned (record { control = record { registers = d; timer = r.timer }; verdict = Accepted; devices = u; taken = length cs - length h.characters }) t
    ≡ key_handed_back cs (autoloaded (machine_lent s r v cs ts))
unfolding key_handed_back
key_made x s t r d h u v cs ts f a e =
    let m = machine s (autoload_control r.registers) (lent v.reader v.typewriter cs ts) in
    rw f (ap (λ n. key_handed_back cs (record { machine = timed r.timer n; verdict = Accepted }))
    (end_machine_lem x t d h (device_steps 0 (autoloading 0 cs) m) e (live_devices 0 (autoloading 0 cs) m (omega arith) (live_autoload s r.registers a)).outside))

pub key_in_reset : (s : List ℕ) (r : Record) (v : Devices) (cs ts : List ℕ) (x : KeyReturned) → r.registers.reset ≡ true → 4 ≤ length cs
    → x ≡ key_handed_back cs (autoloaded (machine_lent s r v cs ts)) → x ≡ key_handed_back cs (autoload_pressed (machine_lent s r v cs ts))
unfolding autoload_key four_left
key_in_reset s r v cs ts x e l h =
    let m = untimed (machine_lent s r v cs ts) in
    let n = untimed (autoloaded (machine_lent s r v cs ts)).machine in
    let four : Bool → Machine = λ b. cond b n m in
    let by : Bool → Machine = λ b. cond b (four (four_left cs)) m in
    h ∙ ap (λ k. key_handed_back cs (record { machine = timed r.timer k; verdict = Accepted })) (sym (ap by e ∙ ap four (le-leb 4 (length cs) l)))

as_it_was : (s : List ℕ) (r : Record) (v : Devices) (cs ts : List ℕ)
    → key_returned (record { control = r; verdict = Accepted; devices = v; taken = 0 }) s ≡ key_handed_back cs (record { machine = machine_lent s r v cs ts; verdict = Accepted })
unfolding key_handed_back registers_of
as_it_was s r v cs ts = rw (sub_self (length cs))

unpressed : (s : List ℕ) (r : Record) (v : Devices) (cs ts : List ℕ) → autoload_key (untimed (machine_lent s r v cs ts)) ≡ untimed (machine_lent s r v cs ts)
    → key_returned (record { control = r; verdict = Accepted; devices = v; taken = 0 }) s ≡ key_handed_back cs (autoload_pressed (machine_lent s r v cs ts))
unpressed s r v cs ts e = as_it_was s r v cs ts ∙ ap (λ m. key_handed_back cs (record { machine = timed r.timer m; verdict = Accepted })) (sym e)

same : (b : Bool) (m : Machine) → cond b m m ≡ m
same true m = refl
same false m = refl

pub key_short : (s : List ℕ) (r : Record) (v : Devices) (cs ts : List ℕ) → length cs < 4
    → key_returned (record { control = r; verdict = Accepted; devices = v; taken = 0 }) s ≡ key_handed_back cs (autoload_pressed (machine_lent s r v cs ts))
unfolding autoload_key four_left
key_short s r v cs ts l =
    let m = untimed (machine_lent s r v cs ts) in
    let n = untimed (autoloaded (machine_lent s r v cs ts)).machine in
    unpressed s r v cs ts (ap (λ (b : Bool). cond r.registers.reset (cond b n m) m) (lt-leb 4 (length cs) l) ∙ same r.registers.reset m)

pub key_elsewhere : (s : List ℕ) (r : Record) (v : Devices) (cs ts : List ℕ) → r.registers.reset ≡ false
    → key_returned (record { control = r; verdict = Accepted; devices = v; taken = 0 }) s ≡ key_handed_back cs (autoload_pressed (machine_lent s r v cs ts))
unfolding autoload_key
key_elsewhere s r v cs ts e =
    let m = untimed (machine_lent s r v cs ts) in
    let n = untimed (autoloaded (machine_lent s r v cs ts)).machine in
    unpressed s r v cs ts (ap (λ (b : Bool). cond b (cond (four_left cs) n m) m) e)

pub key_accepted : (s : List ℕ) (r : Record) (d : Devices) (cs : List ℕ) (x : KeyReturned) → Accepted ≡ judge_autoload s r d.reader d.typewriter cs
    → x ≡ key_handed_back cs (autoload_pressed (machine_lent s r d cs [])) → x ≡ autoload_lent s r d cs
unfolding autoload_lent pressing_autoload
key_accepted s r d cs x e h = rw (← e) h

pub key_rejected : (s : List ℕ) (r : Record) (d : Devices) (cs : List ℕ) (q : Refusal) → Rejected q ≡ judge_autoload s r d.reader d.typewriter cs
    → key_returned (record { control = r; verdict = Rejected q; devices = d; taken = 0 }) s ≡ autoload_lent s r d cs
unfolding autoload_lent pressing_autoload key_handed_back registers_of
key_rejected s r d cs q e = rw (← e, sub_self (length cs))
