-- How the channel goes on, and that nothing but its own bytes depends on what was typed before.
-- Assumes nothing.
use Prim.Native.Nat.{ℕ, ◌+◌, ◌*◌, ◌/◌, ◌%◌, ◌<◌}
use mathlib.Core.Path.{◌≡◌, refl, sym, ap, ap₂, ◌∙◌}
use mathlib.Core.Bool.{Bool, true, false, cond}
use mathlib.Core.List.{List, [], ◌∷◌, ◌++◌, append_assoc, append-nil}
use lib.Dec.{eqb, ltb}
use lib.ListN.{length-append}
use Rattle.machine.specs.declared.Control.{Control}
use Rattle.machine.specs.declared.Instruction.{Instruction}
use Rattle.machine.specs.declared.Timer.{Timer}
use Rattle.machine.specs.declared.Fault.TheVariants.{Absent, Privileged, Jump}
use Rattle.machine.specs.declared.Kind.TheVariants.{Line}
use Rattle.machine.specs.Store.{word, absent, violation}
use Rattle.machine.specs.Format.{instruction_fields}
use Rattle.machine.specs.Fields.{in_task, with_ic}
use Rattle.integer.specs.Sums.{sum24}
use Rattle.definition_instructions.specs.Machine.{Computer, Channel, Machine, machine, computer_of, connected, Effect, ok, fault, bind, lifted, reset_system}
use Rattle.definition_instructions.specs.Channel.{disconnected, device_buffer, taking, read_from, typing_on, write_to}
use Rattle.definition_instructions.specs.MicroOps.{DeviceOp, monitor, sense_device, control_device, read_device, write_device, DeviceOperation, peripheral, resetting, monitor_step, device_step, device_steps, execute_device_operation}
use Rattle.definition_instructions.specs.Meaning.{Peripheral, IO, AW, device_meaning}
use Rattle.definition_instructions.specs.Codes.{Mnemonic, internal, device, codes, lookup, execute, execute_device, execute_mnemonic, execute_code}
use Rattle.definition_instructions.proofs.DeviceLaws.{by_cond}
use Rattle.definition_times.specs.Times.{modification_time, indirect_time, device_time, mnemonic_time, execution_time}
use Rattle.definition_runs.specs.GenericRun.{CycleResult, instruction, entry, cycle_mapped}
use Rattle.definition_runs.specs.Timed.{TimedMachine, timed_machine, untimed, instruction_time, time_of, cycle_time, cycle_ended, timed_cycle}
use Rattle.definition_runs.specs.Cycle.{line_of, fetched, address, indirect_absent, effective_address, execute_instruction, decode, fetch, concluded, cycle}
use Rattle.run_promises.specs.Promises.{GoesOn}
use Rattle.run_promises.proofs.CallLaws.{carried_result}
use Rattle.definition_runs.proofs.CycleLaws.{entered, lined}

-- ---- the channel goes on

pub goes_on_refl : (h : Channel) → GoesOn h h
goes_on_refl h =
    record { taken = []; characters = refl; written = []; typed = sym (append-nil h.typed); used = []; space = refl; as_many = refl }

on_taking : (g h : Channel) (cs : List ℕ) → h.characters ≡ cs → GoesOn g h → GoesOn g (taking cs h)
on_taking g h [] e on = on
on_taking g h (c ∷ cs) e on =
    record {
      taken = on.taken ++ (c ∷ []);
      characters = on.characters ∙ ap (λ x. on.taken ++ x) e ∙ sym (append_assoc on.taken (c ∷ []) cs);
      written = on.written;
      typed = on.typed;
      used = on.used;
      space = on.space;
      as_many = on.as_many;
    }

pub on_read : (g : Channel) (n : ℕ) (h : Channel) → GoesOn g h → GoesOn g (read_from n h)
unfolding read_from
on_read g n h on =
    by_cond (GoesOn g) (eqb n 0) _ _ (on_taking g h h.characters refl on)
    (record { taken = on.taken; characters = on.characters; written = on.written; typed = on.typed; used = on.used; space = on.space; as_many = on.as_many })

on_typing : (g : Channel) (v : ℕ) (h : Channel) (xs : List ℕ) → h.space ≡ xs → GoesOn g h → GoesOn g (typing_on v xs h)
on_typing g v h [] e on = on
on_typing g v h (x ∷ xs) e on =
    record {
      taken = on.taken;
      characters = on.characters;
      written = on.written ++ (v % 256 ∷ []);
      typed = ap (λ t. t ++ (v % 256 ∷ [])) on.typed ∙ append_assoc g.typed on.written (v % 256 ∷ []);
      used = on.used ++ (x ∷ []);
      space = on.space ∙ ap (λ t. on.used ++ t) e ∙ sym (append_assoc on.used (x ∷ []) xs);
      as_many = length-append on.used (x ∷ []) ∙ ap (λ n. n + 1) on.as_many ∙ sym (length-append on.written (v % 256 ∷ []));
    }

pub on_write : (g : Channel) (n v : ℕ) (h : Channel) → v < 16777216 → GoesOn g h → GoesOn g (write_to n v h)
unfolding write_to
on_write g n v h l on = by_cond (GoesOn g) (eqb n 0) _ _ on (on_typing g v h h.space refl on)

-- ---- bytes typed before the run stand before those that it types, and alter nothing else

abbrev pub earlier : List ℕ → Channel → Channel
earlier p h = record { reader = h.reader; typewriter = h.typewriter; characters = h.characters; typed = p ++ h.typed; space = h.space }

-- the machine m with the bytes p typed earlier
abbrev pub typed_before : List ℕ → Machine → Machine
typed_before p m = machine m.cells m.control (earlier p m.channel)

abbrev alike : List ℕ → Effect Machine → Effect Machine
alike p (ok m) = ok (typed_before p m)
alike p (fault f m) = fault f (typed_before p m)

alike_cond : (p : List ℕ) (b : Bool) (x y : Effect Machine) → cond b (alike p x) (alike p y) ≡ alike p (cond b x y)
alike_cond p true x y = refl
alike_cond p false x y = refl

branch : {M : Type 0} (b : Bool) (x x' y y' : M) → x ≡ x' → y ≡ y' → cond b x y ≡ cond b x' y'
branch b x x' y y' p q = rw (p, q)

earlier_cond : (p : List ℕ) (b : Bool) (x y : Channel) → cond b (earlier p x) (earlier p y) ≡ earlier p (cond b x y)
earlier_cond p true x y = refl
earlier_cond p false x y = refl

taking_earlier : (p cs : List ℕ) (h : Channel) → taking cs (earlier p h) ≡ earlier p (taking cs h)
taking_earlier p [] h = refl
taking_earlier p (c ∷ cs) h = refl

read_earlier : (p : List ℕ) (n : ℕ) (h : Channel) → read_from n (earlier p h) ≡ earlier p (read_from n h)
unfolding read_from
read_earlier p n h = branch (eqb n 0) _ _ _ _ (taking_earlier p h.characters h) refl ∙ earlier_cond p (eqb n 0) (taking h.characters h) _

typing_earlier : (p : List ℕ) (v : ℕ) (xs : List ℕ) (h : Channel) → typing_on v xs (earlier p h) ≡ earlier p (typing_on v xs h)
typing_earlier p v [] h = refl
typing_earlier p v (x ∷ xs) h =
    ap (λ t. record { reader = h.reader; typewriter = v; characters = h.characters; typed = t; space = xs }) (append_assoc p h.typed (v % 256 ∷ []))

write_earlier : (p : List ℕ) (n v : ℕ) (h : Channel) → write_to n v (earlier p h) ≡ earlier p (write_to n v h)
unfolding write_to
write_earlier p n v h = branch (eqb n 0) _ _ _ _ refl (typing_earlier p v h.space h) ∙ earlier_cond p (eqb n 0) h (typing_on v h.space h)

lifted_alike : (p : List ℕ) (h : Channel) (e : Effect Computer) → lifted (earlier p h) e ≡ alike p (lifted h e)
lifted_alike p h (ok k) = refl
lifted_alike p h (fault f k) = refl

step_alike : (p : List ℕ) (w : ℕ) (d : DeviceOp) (m : Machine) → device_step w d (typed_before p m) ≡ alike p (device_step w d m)
unfolding device_step device_buffer
step_alike p w (monitor d) m = lifted_alike p m.channel (monitor_step w d (computer_of m))
step_alike p w (sense_device n) m = refl
step_alike p w (control_device n) m = refl
step_alike p w (read_device n) m = ap (λ h. ok (machine m.cells m.control h)) (read_earlier p n m.channel)
step_alike p w (write_device n) m = ap (λ h. ok (machine m.cells m.control h)) (write_earlier p n (word m.cells w) m.channel)

bind_alike : (p : List ℕ) (e : Effect Machine) (k : Machine → Effect Machine) → ((m : Machine) → k (typed_before p m) ≡ alike p (k m)) → bind (alike p e) k ≡ alike p (bind e k)
bind_alike p (ok m) k h = h m
bind_alike p (fault f m) k h = refl

steps_alike : (p : List ℕ) (w : ℕ) (ds : List DeviceOp) (m : Machine) → device_steps w ds (typed_before p m) ≡ alike p (device_steps w ds m)
unfolding device_steps
steps_alike p w [] m = refl
steps_alike p w (d ∷ ds) m = ap (λ e. bind e (device_steps w ds)) (step_alike p w d m) ∙ bind_alike p (device_step w d m) (device_steps w ds) (steps_alike p w ds)

operation_alike : (p : List ℕ) (w : ℕ) (o : DeviceOperation) (m : Machine) → execute_device_operation w o (typed_before p m) ≡ alike p (execute_device_operation w o m)
unfolding execute_device_operation
operation_alike p w (peripheral ds) m = branch (in_task m.control) _ _ _ _ refl (steps_alike p w ds m) ∙ alike_cond p (in_task m.control) (fault Privileged m) (device_steps w ds m)
operation_alike p w resetting m = alike_cond p (in_task m.control) (fault Privileged m) (ok (connected m.channel (reset_system m.cells m.control)))

device_alike : (p : List ℕ) (x : Peripheral) (w sb : ℕ) (m : Machine) → execute_device x w sb (typed_before p m) ≡ alike p (execute_device x w sb m)
unfolding execute_device device_meaning disconnected
device_alike p IO w sb m = operation_alike p w (device_meaning IO sb m) m
device_alike p AW w sb m = operation_alike p w (device_meaning AW sb m) m

by_mnemonic : (p : List ℕ) (x : Mnemonic) (w sb : ℕ) (m : Machine) → execute_mnemonic x w sb (typed_before p m) ≡ alike p (execute_mnemonic x w sb m)
by_mnemonic p (internal o) w sb m = lifted_alike p m.channel (execute o w sb m.cells m.control)
by_mnemonic p (device x) w sb m = device_alike p x w sb m

instruction_alike : (p s : List ℕ) (c : Control) (h : Channel) (i : Instruction) (a : ℕ) → execute_instruction s c (earlier p h) i a ≡ alike p (execute_instruction s c h i a)
unfolding execute_instruction execute_code
instruction_alike p s c h i a =
    branch (indirect_absent s i.m a) _ _ _ _ refl (by_mnemonic p (lookup i.code codes) i.w (effective_address s i.m a) (machine s c h))
    ∙ alike_cond p (indirect_absent s i.m a) (fault (Absent a) (machine s c h)) _

decode_alike : (p s : List ℕ) (c : Control) (h : Channel) → decode s c (earlier p h) ≡ alike p (decode s c h)
unfolding decode
decode_alike p s c h =
    branch (violation s c (c.ic / 2)) _ _ _ _ refl (instruction_alike p s _ h _ _)
    ∙ alike_cond p (violation s c (c.ic / 2)) (fault (Jump c.ic) (machine s (with_ic c (sum24 c.ic 2)) h)) _

fetch_alike : (p s : List ℕ) (c : Control) (h : Channel) → fetch s c (earlier p h) ≡ alike p (fetch s c h)
unfolding fetch
fetch_alike p s c h =
    let second = fault (Absent (sum24 c.ic 1)) (machine s c h) in
    branch (absent s c.ic) _ _ _ _ refl
    (branch (absent s (sum24 c.ic 1)) _ _ _ _ refl (decode_alike p s c h) ∙ alike_cond p (absent s (sum24 c.ic 1)) second (decode s c h))
    ∙ alike_cond p (absent s c.ic) (fault (Absent c.ic) (machine s c h)) _

concluded_alike : (p : List ℕ) (e : Effect Machine) → concluded (alike p e) ≡ carried_result (typed_before p) (concluded e)
unfolding concluded
concluded_alike p (ok m) = refl
concluded_alike p (fault f m) = refl

carried_cond : (p : List ℕ) (b : Bool) (x y : CycleResult Machine)
    → cond b (carried_result (typed_before p) x) (carried_result (typed_before p) y) ≡ carried_result (typed_before p) (cond b x y)
carried_cond p true x y = refl
carried_cond p false x y = refl

pub cycle_alike : (p : List ℕ) (m : Machine) → cycle (typed_before p m) ≡ carried_result (typed_before p) (cycle m)
unfolding cycle
cycle_alike p m =
    let b = ltb (line_of m.control) 24 in
    branch b _ _ _ _ refl (ap concluded (fetch_alike p m.cells m.control m.channel) ∙ concluded_alike p (fetch m.cells m.control m.channel))
    ∙ carried_cond p b (entry (Line (line_of m.control * 2)) (entered (line_of m.control * 2) (lined m))) (concluded (fetch m.cells m.control m.channel))

-- ---- with the timer: bytes typed before enter into no time

mnemonic_time_lem : (p : List ℕ) (x : Mnemonic) (w sb : ℕ) (m : Machine) → mnemonic_time x w sb (typed_before p m) ≡ mnemonic_time x w sb m
unfolding device_time disconnected
mnemonic_time_lem p (internal o) w sb m = refl
mnemonic_time_lem p (device IO) w sb m = refl
mnemonic_time_lem p (device AW) w sb m = refl

instruction_time_lem : (p : List ℕ) (m : Machine) → instruction_time (typed_before p m) ≡ instruction_time m
unfolding instruction_time execution_time
instruction_time_lem p m =
    let i = instruction_fields (fetched m.cells m.control.ic) in
    let sb = effective_address m.cells i.m (address m.cells m.control i) in
    ap (λ (n : ℕ). modification_time i.m i.x + (indirect_time i.code i.m + n)) (mnemonic_time_lem p (lookup i.code codes) i.w sb m)

time_carried : (p : List ℕ) (m : Machine) (x : CycleResult Machine) → time_of (typed_before p m) (carried_result (typed_before p) x) ≡ time_of m x
time_carried p m (instruction n) = instruction_time_lem p m
time_carried p m (entry k n) = refl

cycle_time_lem : (p : List ℕ) (m : Machine) → cycle_time (typed_before p m) ≡ cycle_time m
unfolding cycle_time
cycle_time_lem p m = ap (time_of (typed_before p m)) (cycle_alike p m) ∙ time_carried p m (cycle m)

-- the timed machine m with the bytes p typed earlier
abbrev pub timed_before : List ℕ → TimedMachine → TimedMachine
timed_before p m = timed_machine m.cells m.control (earlier p m.channel)

mapped_carried : (p : List ℕ) (t : ℕ) (r : Timer) (x : CycleResult Machine)
    → cycle_mapped (cycle_ended t r) (carried_result (typed_before p) x) ≡ carried_result (timed_before p) (cycle_mapped (cycle_ended t r) x)
unfolding cycle_ended
mapped_carried p t r (instruction n) = refl
mapped_carried p t r (entry k n) = refl

pub timed_alike : (p : List ℕ) (m : TimedMachine) → timed_cycle (timed_before p m) ≡ carried_result (timed_before p) (timed_cycle m)
unfolding timed_cycle
timed_alike p m =
    ap₂ (λ (t : ℕ) (x : CycleResult Machine). cycle_mapped (cycle_ended t m.control.timer) x) (cycle_time_lem p (untimed m)) (cycle_alike p (untimed m))
    ∙ mapped_carried p (cycle_time (untimed m)) m.control.timer (cycle (untimed m))
