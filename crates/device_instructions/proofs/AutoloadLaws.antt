-- Autoload Word by the reads that it makes.
-- Assumes nothing.
use Prim.Native.Nat.{ℕ, ◌/◌}
use native.Mathlib.Omega.{arith}
use mathlib.Core.Path.{◌≡◌, refl, ap, ◌∙◌}
use mathlib.Core.Bool.{true, false}
use mathlib.Core.List.{List, [], ◌∷◌}
use borrow.Author.Tests.{leb-true, not-true}
use Rattle.machine.specs.declared.Control.{Control}
use Rattle.machine.specs.declared.Fault.TheVariants.{Privileged}
use Rattle.machine.specs.Store.{put_word, put_key, absent}
use Rattle.machine.specs.Fields.{in_task, flags_cleared}
use Rattle.control_row.specs.Endings.{completed, faulted, ending}
use Rattle.definition_instructions.specs.Machine.{Channel, Machine, machine, fault}
use Rattle.definition_instructions.specs.Channel.{read_from, four_left, shifted_in, assembled}
use Rattle.definition_instructions.specs.MicroOps.{micro_step, monitor_step, device_step, device_steps}
use Rattle.definition_instructions.specs.Meaning.{AW, autoloading, device_meaning}
use Rattle.definition_instructions.specs.Codes.{execute_device}
use Rattle.definition_instructions.proofs.DeviceLaws.{task_device}

-- AR after four reads of device 0
abbrev pub four_read : Channel → ℕ
four_read h =
    let h₁ = read_from 0 h in
    let h₂ = read_from 0 h₁ in
    let h₃ = read_from 0 h₂ in
    shifted_in (shifted_in (shifted_in (shifted_in 0 h₁.reader) h₂.reader) h₃.reader) (read_from 0 h₃).reader

by_characters : (r t : ℕ) (cs typed space : List ℕ) → four_left cs ≡ true
    → assembled 4 0 cs ≡ four_read (record { reader = r; typewriter = t; characters = cs; typed = typed; space = space })
unfolding four_left assembled read_from
by_characters r t (a ∷ b ∷ c ∷ d ∷ cs) typed space e = refl
by_characters r t [] typed space e = absurd (omega (arith, leb-true 4 0 e))
by_characters r t (a ∷ []) typed space e = absurd (omega (arith, leb-true 4 1 e))
by_characters r t (a ∷ b ∷ []) typed space e = absurd (omega (arith, leb-true 4 2 e))
by_characters r t (a ∷ b ∷ c ∷ []) typed space e = absurd (omega (arith, leb-true 4 3 e))

assembled_four : (h : Channel) → four_left h.characters ≡ true → assembled 4 0 h.characters ≡ four_read h
assembled_four h e = by_characters h.reader h.typewriter h.characters h.typed h.space e

abbrev four_times : {A : Type 0} → (A → A) → A → A
four_times f x = f (f (f (f x)))

module _ (sb : ℕ) (s : List ℕ) (c : Control) (h : Channel) where
  -- four characters are left, and there is no word at the address: the reads stay
  pub loaded_nowhere : absent s sb ≡ true
      → ending (device_steps 0 (autoloading sb h.characters) (machine s c h)) ≡ faulted (machine s (four_times flags_cleared c) (four_times (read_from 0) h))
  unfolding device_steps device_step monitor_step micro_step autoloading
  loaded_nowhere a = rw a

  -- the machine with the word v at the address
  abbrev with_loaded : ℕ → Machine
  with_loaded v = machine (put_key (put_word s (sb / 2) v) (sb / 2) 0) (four_times flags_cleared c) (four_times (read_from 0) h)

  loaded_word : absent s sb ≡ false
      → ending (device_steps 0 (autoloading sb h.characters) (machine s c h)) ≡ completed (with_loaded (assembled 4 0 h.characters))
  unfolding device_steps device_step monitor_step micro_step autoloading
  loaded_word a = rw a

  pub loaded : four_left h.characters ≡ true → absent s sb ≡ false
      → ending (device_steps 0 (autoloading sb h.characters) (machine s c h)) ≡ completed (with_loaded (four_read h))
  loaded e a = loaded_word a ∙ ap (λ v. completed (with_loaded v)) (assembled_four h e)

-- the register of the instruction is not looked at
pub any_register : (w sb : ℕ) (cs : List ℕ) (m : Machine) → device_steps w (autoloading sb cs) m ≡ device_steps 0 (autoloading sb cs) m
unfolding device_steps device_step monitor_step micro_step autoloading
any_register w sb cs m = refl

-- Test Mode comes first
pub autoload_in_task : (w sb : ℕ) (s : List ℕ) (c : Control) (h : Channel) → in_task c ≡ true → execute_device AW w sb (machine s c h) ≡ fault Privileged (machine s c h)
unfolding execute_device in_task
autoload_in_task w sb s c h e = task_device w (device_meaning AW sb (machine s c h)) (machine s c h) (not-true _ e)
