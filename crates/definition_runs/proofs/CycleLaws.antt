-- What a cycle reaches: by its instruction, by an exception, or by a line.
-- Assumes nothing.
use Prim.Native.Nat.{ℕ, ◌*◌, ◌/◌, ◌<◌}
use native.Mathlib.Omega.{arith}
use mathlib.Core.Path.{◌≡◌, refl, sym, subst}
use mathlib.Core.Bool.{Bool, true, false, cond}
use lib.Dec.{ltb}
use borrow.Author.Tests.{ltb-true}
use Rattle.machine.specs.declared.Fault.{Fault}
use Rattle.machine.specs.declared.Kind.{Kind}
use Rattle.machine.specs.declared.Kind.TheVariants.{Exception, Line}
use Rattle.machine.specs.Format.{instruction_fields}
use Rattle.machine.specs.declared.Instruction.{Instruction}
use Rattle.machine.specs.Store.{absent, forbidden, violation}
use Rattle.machine.specs.Fields.{with_ic}
use Rattle.integer.specs.Sums.{sum24}
use Rattle.definition_instructions.specs.Machine.{Machine, machine, connected, Effect, ok, fault, reached}
use Rattle.definition_instructions.specs.Meaning.{Op, Peripheral}
use Rattle.definition_instructions.specs.Codes.{Mnemonic, internal, device, codes, lookup, execute, execute_device, execute_mnemonic, execute_code}
use Rattle.definition_instructions.proofs.MicroLaws.{reach_cond}
use Rattle.definition_instructions.proofs.DeviceLaws.{reached_lifted}
use Rattle.definition_runs.specs.GenericRun.{CycleResult}
use Rattle.definition_runs.specs.Cycle.{line_of, line_cleared, enter, fetched, indirect_absent, effective_address, execute_instruction, fetch_control, decode, fetch, concluded, cycle}
use Rattle.definition_runs.proofs.RunLaws.{Meets}

pub register_field : (v : ℕ) → (instruction_fields v).w < 4
unfolding instruction_fields
register_field v = omega arith

-- ---- the operation

by_mnemonic : (P : Machine → Type 0) (x : Mnemonic) (w sb : ℕ) (m : Machine) → ((o : Op) → P (connected m.channel (reached (execute o w sb m.cells m.control))))
    → ((p : Peripheral) → P (reached (execute_device p w sb m))) → P (reached (execute_mnemonic x w sb m))
by_mnemonic P (internal o) w sb m i d = subst P (sym (reached_lifted m.channel (execute o w sb m.cells m.control))) (i o)
by_mnemonic P (device p) w sb m i d = d p

-- an operation is one without devices, or IO or AW
pub code_meets : (P : Machine → Type 0) (f w sb : ℕ) (m : Machine) → ((o : Op) → P (connected m.channel (reached (execute o w sb m.cells m.control))))
    → ((p : Peripheral) → P (reached (execute_device p w sb m))) → P (reached (execute_code f w sb m))
unfolding execute_code
code_meets P f w sb m i d = by_mnemonic P (lookup f codes) w sb m i d

-- ---- fetch and decode

-- IC := IC + 2
abbrev pub stepped : Machine → Machine
stepped m = machine m.cells (with_ic m.control (sum24 m.control.ic 2)) m.channel

-- the machine as its operation begins
abbrev pub begun : Machine → Machine
begun m = machine m.cells (fetch_control m.control (forbidden m.cells m.control (m.control.ic / 2))) m.channel

module _ (P : Machine → Type 0) (m : Machine) (as_it_was : P m) (forbidden-fetch : P (stepped m)) where
  abbrev Operates : Type 0
  Operates =
      violation m.cells m.control (m.control.ic / 2) ≡ false → P (begun m) × ((w sb : ℕ) → w < 4 → P (reached (execute_code (instruction_fields (fetched m.cells m.control.ic)).code w sb (begun m))))

  instruction_meets : (i : Instruction) (a : ℕ) → i ≡ instruction_fields (fetched m.cells m.control.ic) → violation m.cells m.control (m.control.ic / 2) ≡ false → Operates
      → P (reached (execute_instruction (begun m).cells (begun m).control (begun m).channel i a))
  unfolding execute_instruction
  instruction_meets i a e v h =
      reach_cond P (indirect_absent m.cells i.m a) _ _ (λ t. (h v).0)
      (λ t. subst (λ j. P (reached (execute_code j.code j.w (effective_address m.cells i.m a) (begun m)))) (sym e) ((h v).1 _ _ (register_field (fetched m.cells m.control.ic))))

  decode_meets : Operates → P (reached (decode m.cells m.control m.channel))
  unfolding decode
  decode_meets h = reach_cond P (violation m.cells m.control (m.control.ic / 2)) _ _ (λ e. forbidden-fetch) (λ e. instruction_meets _ _ refl e h)

  pub fetch_meets : Operates → P (reached (fetch m.cells m.control m.channel))
  unfolding fetch
  fetch_meets h =
      reach_cond P (absent m.cells m.control.ic) _ _ (λ e. as_it_was)
      (λ e. reach_cond P (absent m.cells (sum24 m.control.ic 1)) _ _ (λ f. as_it_was) (λ f. decode_meets h))

-- ---- the cycle

-- an entry with the number v
abbrev pub entered : ℕ → Machine → Machine
entered v n = connected n.channel (enter v n.cells n.control)

abbrev pub lined : Machine → Machine
lined m = machine m.cells (line_cleared m.control (line_of m.control)) m.channel

-- I holds of what the instruction reaches, and an entry, from there or by a line, leads to E
module _ (I : Machine → Type 0) (E : Kind → Machine → Type 0) where
  concluded_meets : (e : Effect Machine) → I (reached e) → ((f : Fault) (n : Machine) → e ≡ fault f n → I n → E Exception (entered 0 n)) → Meets I E (concluded e)
  unfolding concluded
  concluded_meets (ok n) h x = h
  concluded_meets (fault f n) h x = x f n refl h

  by_test : (b : Bool) (x y : CycleResult Machine) → (b ≡ true → Meets I E x) → Meets I E y → Meets I E (cond b x y)
  by_test true x y p q = p refl
  by_test false x y p q = q

  pub cycle_meets : (m : Machine) → I (reached (fetch m.cells m.control m.channel))
      → ((f : Fault) (n : Machine) → fetch m.cells m.control m.channel ≡ fault f n → I n → E Exception (entered 0 n))
      → (line_of m.control < 24 → E (Line (line_of m.control * 2)) (entered (line_of m.control * 2) (lined m)))
      → Meets I E (cycle m)
  unfolding cycle
  cycle_meets m h x l =
      by_test (ltb (line_of m.control) 24) _ _ (λ t. l (ltb-true (line_of m.control) 24 t)) (concluded_meets (fetch m.cells m.control m.channel) h x)
