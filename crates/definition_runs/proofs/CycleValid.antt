-- A cycle takes an accepted machine outside the reset state to an accepted machine.
-- Assumes nothing.
use Prim.Native.Nat.{ℕ, ◌<◌}
use native.Mathlib.Omega.{arith}
use mathlib.Core.Path.{◌≡◌, refl}
use mathlib.Core.Bool.{Bool, true, false, not, cond}
use Rattle.machine.specs.declared.Control.{Control}
use Rattle.machine.specs.Fields.{with_ic, with_ir, raised}
use Rattle.machine.proofs.StoreLaws.{word_lt}
use Rattle.acceptance.specs.Accept.{state_fits}
use Rattle.integer.specs.Sums.{sum24}
use Rattle.definition_instructions.specs.Machine.{Computer, computer, Channel, Machine, machine, computer_of, reached}
use Rattle.definition_instructions.specs.Channel.{read_from, write_to, four_left}
use Rattle.definition_instructions.specs.Meaning.{autoloading}
use Rattle.definition_instructions.specs.Codes.{execute, execute_device, execute_code}
use Rattle.definition_instructions.proofs.Validity.{Valid, Live, valid_put, valid_control, live_control, valid_reset, valid_operation}
use Rattle.definition_instructions.proofs.DeviceLaws.{ValidChannel, valid_read, valid_write, ValidComputer, LiveComputer, live_devices, valid_device, channel_steps, channel_device}
use Rattle.definition_runs.specs.Cycle.{line_cleared, entry_control, enter, fetch_control, fetch, cycle}
use Rattle.definition_runs.specs.Keys.{reset_key, start_control, start_key, autoload_control, autoload_key}
use Rattle.definition_runs.proofs.RunLaws.{Meets}
use Rattle.definition_runs.proofs.CycleLaws.{code_meets, stepped, begun, fetch_meets, lined, cycle_meets}

in_monitor : (c : Control) → c.monitor ≡ true → c.enabled ≡ false → state_fits c ≡ true
unfolding state_fits
in_monitor c p q = by c.reset c.monitor c.enabled p q
  where
    by : (r m e : Bool) → m ≡ true → e ≡ false → cond r (cond m (not e) false) true ≡ true
    by true m e p q = rw (p, q)
    by false m e p q = refl

valid_entry : (n : Computer) (a : ℕ) → a < 16777216 → Valid n → Valid (computer n.cells (entry_control n.control a))
unfolding entry_control
valid_entry n a l h = valid_control n _ (omega (arith, h.widths)) (in_monitor _ refl refl) h

enter_valid : (v : ℕ) (n : Computer) → Valid n → Valid (enter v n.cells n.control)
unfolding enter
enter_valid v n h = valid_entry (computer _ n.control) _ (word_lt _ _) (valid_put _ _ (computer _ n.control) (valid_put _ v n h))

live_begun : (n : Machine) → LiveComputer n → LiveComputer (begun n)
unfolding fetch_control sum24
live_begun n h = live_control (computer_of n) _ (omega (arith, h.valid.widths)) refl h

valid_stepped : (n : Machine) → LiveComputer n → ValidComputer (stepped n)
unfolding with_ic
valid_stepped n h =
    (live_control (computer_of n) (with_ic n.control (sum24 n.control.ic 2)) (omega (arith, h.valid.widths)) refl h).valid

valid_code : (f w sb : ℕ) (n : Machine) → w < 4 → LiveComputer n → ValidComputer (reached (execute_code f w sb n))
unfolding execute execute_device
valid_code f w sb n l h = code_meets ValidComputer f w sb n (λ o. valid_operation w _ (computer_of n) l h) (λ p. valid_device w _ n l h)

pub valid_fetch : (n : Machine) → n.control.reset ≡ false → ValidComputer n → ValidComputer (reached (fetch n.cells n.control n.channel))
valid_fetch n e h =
    let live : LiveComputer n = record { valid = h; outside = e } in
    fetch_meets ValidComputer n h (valid_stepped n live) (λ v. ((live_begun n live).valid, λ w sb l. valid_code _ w sb (begun n) l (live_begun n live)))

pub valid_lined : (m : Machine) → ValidComputer m → ValidComputer (lined m)
unfolding line_cleared with_ir state_fits
valid_lined m h = valid_control (computer_of m) _ (omega (arith, h.widths)) h.state h

pub cycle_valid : (m : Machine) → m.control.reset ≡ false → ValidComputer m → Meets ValidComputer (λ k. ValidComputer) (cycle m)
cycle_valid m e h =
    cycle_meets ValidComputer (λ k. ValidComputer) m (valid_fetch m e h) (λ f k q. enter_valid 0 (computer_of k)) (λ l. enter_valid _ (computer_of (lined m)) (valid_lined m h))

pub valid_joined : (l : ℕ) (m : Computer) → Valid m → Valid (computer m.cells (raised m.control l))
unfolding raised with_ir state_fits
valid_joined l m h = valid_control m _ (omega (arith, h.widths)) h.state h

-- ---- the devices

-- what reads and writes keep of the channel, a cycle keeps
module _ (P : Channel → Type 0) (reads : (n : ℕ) (h : Channel) → P h → P (read_from n h)) (writes : (n x : ℕ) (h : Channel) → x < 16777216 → P h → P (write_to n x h)) where
  abbrev pub OfChannel : Machine → Type 0
  OfChannel m = P m.channel

  channel_fetch : (m : Machine) → OfChannel m → OfChannel (reached (fetch m.cells m.control m.channel))
  unfolding execute_device
  channel_fetch m h =
      fetch_meets OfChannel m h h (λ e. (h, λ w sb l. code_meets OfChannel _ w sb (begun m) (λ o. h) (λ p. channel_device P reads writes w _ (begun m) h)))

  pub cycle_channel : (m : Machine) → m.control.reset ≡ false → OfChannel m → Meets OfChannel (λ k. OfChannel) (cycle m)
  cycle_channel m e h = cycle_meets OfChannel (λ k. OfChannel) m (channel_fetch m h) (λ f k q g. g) (λ l. h)

-- ---- the panel keys

either : {M : Type 0} (P : M → Type 0) (b : Bool) (x y : M) → (b ≡ true → P x) → (b ≡ false → P y) → P (cond b x y)
either P true x y p q = p refl
either P false x y p q = q refl

pub valid_reset_key : (m : Computer) → Valid m → Valid (reset_key m.cells m.control)
unfolding reset_key
valid_reset_key m h = either Valid m.control.reset _ _ (λ e. h) (λ e. valid_reset m h)

pub valid_start_key : (m : Computer) → Valid m → Valid (start_key m.cells m.control)
unfolding start_key start_control state_fits
valid_start_key m h =
    either Valid m.control.reset _ _ (λ e. valid_control m _ (omega (arith, h.widths, word_lt m.cells 7)) refl h) (λ e. h)

live_autoload : (m : Machine) → ValidComputer m → Live (computer m.cells (autoload_control m.control))
unfolding autoload_control state_fits
live_autoload m h = record { valid = valid_control (computer_of m) _ (omega (arith, h.widths)) refl h; outside = refl }

pub valid_autoload_key : (m : Machine) → ValidComputer m → ValidComputer (autoload_key m)
unfolding autoload_key
valid_autoload_key m h =
    either ValidComputer m.control.reset _ _
    (λ e. either ValidComputer (four_left m.channel.characters) _ _
    (λ f. (live_devices 0 (autoloading 0 m.channel.characters) (machine m.cells (autoload_control m.control) m.channel) (omega arith) (live_autoload m h)).valid)
    (λ f. h))
    (λ e. h)

pub channel_autoload_key : (m : Machine) → ValidChannel m.channel → ValidChannel (autoload_key m).channel
unfolding autoload_key
channel_autoload_key m h =
    let P : Machine → Type 0 = λ n. ValidChannel n.channel in
    either P m.control.reset _ _
    (λ e. either P (four_left m.channel.characters) _ _
    (λ f. channel_steps ValidChannel valid_read valid_write 0 (autoloading 0 m.channel.characters) (machine m.cells (autoload_control m.control) m.channel) h)
    (λ f. h))
    (λ e. h)
