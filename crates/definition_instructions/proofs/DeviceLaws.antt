-- What the instructions that reach devices keep: they do nothing in task mode, they leave a machine that the tests accept, and the channel only goes
-- on: characters are taken from the front, bytes are typed behind those typed before, the rest of the typing space stays.
-- Assumes nothing.
use Prim.Native.Nat.{ℕ, zero, suc, ◌<◌}
use native.Mathlib.Omega.{arith}
use mathlib.Core.Path.{◌≡◌, refl, sym, subst}
use mathlib.Core.Bool.{Bool, true, false, not, cond}
use mathlib.Core.List.{List, [], ◌∷◌}
use lib.Dec.{eqb, ltb}
use lib.ListN.{get_or}
use borrow.Author.Tests.{lt-ltb, ltb-true}
use Rattle.machine.specs.Store.{word}
use Rattle.machine.specs.Fields.{in_task}
use Rattle.machine.specs.declared.Fault.TheVariants.{Privileged}
use Rattle.machine.proofs.StoreLaws.{word_lt}
use Rattle.acceptance.specs.Accept.{characters_fit, devices_fit}
use Rattle.acceptance.proofs.Tests.{both}
use Rattle.definition_instructions.specs.Machine.{Computer, Channel, Machine, computer_of, connected, Effect, ok, fault, reached, lifted}
use Rattle.definition_instructions.specs.Channel.{device_buffer, taking, read_from, typing_on, write_to}
use Rattle.definition_instructions.specs.MicroOps.{DeviceOp, monitor, sense_device, control_device, read_device, write_device, DeviceOperation, peripheral, resetting, monitor_step, device_step, device_steps, execute_device_operation}
use Rattle.definition_instructions.proofs.MicroLaws.{reach_cond, reach_bind}
use Rattle.definition_instructions.proofs.Validity.{Valid, Live, live_put, live_step, valid_reset}

-- ---- an instruction without devices leaves the channel

pub reached_lifted : (h : Channel) (e : Effect Computer) → reached (lifted h e) ≡ connected h (reached e)
reached_lifted h (ok k) = refl
reached_lifted h (fault f k) = refl

-- ---- task mode

task_test : {M : Type 0} (b : Bool) (x y : M) → b ≡ false → cond (not b) x y ≡ x
task_test b x y e = rw e

-- Test Mode: in task mode nothing is reached
pub task_device : (w : ℕ) (o : DeviceOperation) (m : Machine) → m.control.monitor ≡ false → execute_device_operation w o m ≡ fault Privileged m
unfolding execute_device_operation in_task
task_device w (peripheral ds) m e = task_test m.control.monitor _ _ e
task_device w resetting m e = task_test m.control.monitor _ _ e

-- ---- a machine that the tests accept

-- every character is below 64
unfoldable pub Characters : List ℕ → Type 0
Characters cs = (i : ℕ) → get_or cs i 0 < 64

pub record ValidChannel (h : Channel) : Type 0 where
  pub reader : h.reader < 16777216
  pub typewriter : h.typewriter < 16777216
  pub characters : Characters h.characters

characters_below : (cs : List ℕ) → characters_fit cs ≡ true → Characters cs
unfolding characters_fit Characters
characters_below [] e i = omega arith
characters_below (c ∷ cs) e zero = ltb-true c 64 (both (ltb c 64) (characters_fit cs) e).0
characters_below (c ∷ cs) e (suc i) = characters_below cs (both (ltb c 64) (characters_fit cs) e).1 i

below_characters : (cs : List ℕ) → Characters cs → characters_fit cs ≡ true
unfolding characters_fit Characters
below_characters [] h = refl
below_characters (c ∷ cs) h = rw (lt-ltb c 64 (h zero)) (below_characters cs (λ i. h (suc i)))

pub fits_channel : (h : Channel) → devices_fit h.reader h.typewriter h.characters ≡ true → ValidChannel h
unfolding devices_fit
fits_channel h e =
    let p = both (ltb h.reader 16777216) _ e in
    let q = both (ltb h.typewriter 16777216) _ p.1 in
    record { reader = ltb-true _ _ p.0; typewriter = ltb-true _ _ q.0; characters = characters_below h.characters q.1 }

pub channel_fits : (h : Channel) → ValidChannel h → devices_fit h.reader h.typewriter h.characters ≡ true
unfolding devices_fit
channel_fits h v = rw (lt-ltb _ _ v.reader, lt-ltb _ _ v.typewriter, below_characters h.characters v.characters)

pub by_cond : {M : Type 0} (P : M → Type 0) (b : Bool) (x y : M) → P x → P y → P (cond b x y)
by_cond P true x y p q = p
by_cond P false x y p q = q

valid_taking : (cs : List ℕ) (h : Channel) → Characters cs → ValidChannel h → ValidChannel (taking cs h)
unfolding Characters
valid_taking [] h l v = v
valid_taking (c ∷ cs) h l v = record { reader = omega (arith, l zero); typewriter = v.typewriter; characters = λ i. l (suc i) }

pub valid_read : (n : ℕ) (h : Channel) → ValidChannel h → ValidChannel (read_from n h)
unfolding read_from
valid_read n h v =
    by_cond ValidChannel (eqb n 0) _ _ (valid_taking h.characters h v.characters v)
    (record { reader = v.reader; typewriter = omega arith; characters = v.characters })

valid_typing : (x : ℕ) (space : List ℕ) (h : Channel) → x < 16777216 → ValidChannel h → ValidChannel (typing_on x space h)
valid_typing x [] h l v = v
valid_typing x (y ∷ ys) h l v = record { reader = v.reader; typewriter = l; characters = v.characters }

pub valid_write : (n x : ℕ) (h : Channel) → x < 16777216 → ValidChannel h → ValidChannel (write_to n x h)
unfolding write_to
valid_write n x h l v = by_cond ValidChannel (eqb n 0) _ _ v (valid_typing x h.space h l v)

-- the computer of a machine is one that the tests 1 to 3 accept
abbrev pub ValidComputer : Machine → Type 0
ValidComputer m = Valid (computer_of m)

-- and outside the reset state
abbrev pub LiveComputer : Machine → Type 0
LiveComputer m = Live (computer_of m)

live_device : (w : ℕ) (d : DeviceOp) (m : Machine) → w < 4 → LiveComputer m → LiveComputer (reached (device_step w d m))
unfolding device_step
live_device w (monitor d) m l h = subst LiveComputer (sym (reached_lifted m.channel (monitor_step w d (computer_of m)))) (live_step w d (computer_of m) l h)
live_device w (sense_device n) m l h = live_put w (device_buffer n m.channel) (computer_of m) h
live_device w (control_device n) m l h = h
live_device w (read_device n) m l h = h
live_device w (write_device n) m l h = h

pub live_devices : (w : ℕ) (ds : List DeviceOp) (m : Machine) → w < 4 → LiveComputer m → LiveComputer (reached (device_steps w ds m))
unfolding device_steps
live_devices w [] m l h = h
live_devices w (d ∷ ds) m l h = reach_bind LiveComputer (device_step w d m) (device_steps w ds) (live_device w d m l h) (λ n p. live_devices w ds n l p)

pub valid_device : (w : ℕ) (o : DeviceOperation) (m : Machine) → w < 4 → LiveComputer m → ValidComputer (reached (execute_device_operation w o m))
unfolding execute_device_operation
valid_device w (peripheral ds) m l h = reach_cond ValidComputer (in_task m.control) _ _ (λ e. h.valid) (λ e. (live_devices w ds m l h).valid)
valid_device w resetting m l h = reach_cond ValidComputer (in_task m.control) _ _ (λ e. h.valid) (λ e. valid_reset (computer_of m) h.valid)

-- ---- what holds of the channel after every read and every write holds after every instruction

module _ (P : Channel → Type 0) (reads : (n : ℕ) (h : Channel) → P h → P (read_from n h)) (writes : (n x : ℕ) (h : Channel) → x < 16777216 → P h → P (write_to n x h)) where
  abbrev OfChannel : Machine → Type 0
  OfChannel m = P m.channel

  channel_step : (w : ℕ) (d : DeviceOp) (m : Machine) → P m.channel → P (reached (device_step w d m)).channel
  unfolding device_step
  channel_step w (monitor d) m h = subst OfChannel (sym (reached_lifted m.channel (monitor_step w d (computer_of m)))) h
  channel_step w (sense_device n) m h = h
  channel_step w (control_device n) m h = h
  channel_step w (read_device n) m h = reads n m.channel h
  channel_step w (write_device n) m h = writes n (word m.cells w) m.channel (word_lt m.cells w) h

  pub channel_steps : (w : ℕ) (ds : List DeviceOp) (m : Machine) → P m.channel → P (reached (device_steps w ds m)).channel
  unfolding device_steps
  channel_steps w [] m h = h
  channel_steps w (d ∷ ds) m h = reach_bind OfChannel (device_step w d m) (device_steps w ds) (channel_step w d m h) (λ n p. channel_steps w ds n p)

  pub channel_device : (w : ℕ) (o : DeviceOperation) (m : Machine) → P m.channel → P (reached (execute_device_operation w o m)).channel
  unfolding execute_device_operation
  channel_device w (peripheral ds) m h = reach_cond OfChannel (in_task m.control) _ _ (λ e. h) (λ e. channel_steps w ds m h)
  channel_device w resetting m h = reach_cond OfChannel (in_task m.control) _ _ (λ e. h) (λ e. h)
