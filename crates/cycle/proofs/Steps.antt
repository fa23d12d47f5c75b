-- The code's steps of a cycle as the definition has them. Assumes nothing.
use Prim.Native.Nat.{ℕ, ◌/◌, ◌%◌}
use native.Mathlib.Omega.{arith}
use mathlib.Core.Path.{◌≡◌, refl, sym, ap, ◌∙◌}
use mathlib.Core.Bool.{Bool, true, false, cond}
use mathlib.Core.List.{List}
use Rattle.machine.specs.declared.Control.{Control}
use Rattle.machine.specs.declared.Instruction.{Instruction}
use Rattle.machine.specs.declared.Kind.TheVariants.{Exception}
use Rattle.machine.specs.Store.{key, absent, forbids, forbidden, violation}
use Rattle.machine.specs.Fields.{with_ic, with_pending}
use Rattle.machine.specs.Format.{instruction_fields}
use Rattle.integer.specs.Sums.{sum24}
use Rattle.definition_instructions.specs.Machine.{Computer, computer, Channel, Machine, machine, connected, Effect, ok, fault}
use Rattle.definition_runs.specs.GenericRun.{CycleResult, instruction, entry}
use Rattle.definition_runs.specs.Cycle.{line_of, enter, address, execute_instruction, decode, fetch, concluded, cycle}
use Rattle.control_row.specs.Row.{with_monitor}
use Rattle.control_row.specs.Endings.{Ending, completed, faulted, ending}
use Rattle.fetch.specs.Fetch.{Fetched, fetch_absent, violates, fetch_mode}
use Rattle.cycle.proofs.Fields.{fetch_fields}

-- ---- decode

forbids_key : (p q r : ℕ) → q % 8 ≡ r → forbids p q ≡ forbids p r
unfolding forbids
forbids_key p q r e = let z : r % 8 ≡ q % 8 = omega arith in rw z

pub violates_fetch : (s : List ℕ) (c : Control) (v : ℕ) → Fetched s c.ic v → violates c (v / 16777216) ≡ violation s c (c.ic / 2)
unfolding violates violation
violates_fetch s c v f = rw (forbids_key c.pr (v / 16777216) (key s (c.ic / 2)) f.key)

pub decode_violated : (s : List ℕ) (c d : Control) (h : Channel) (v : ℕ) → Fetched s c.ic v → violates c (v / 16777216) ≡ true
    → d ≡ with_ic (fetch_mode c (v / 16777216)) (sum24 (fetch_mode c (v / 16777216)).ic 2) → faulted (machine s d h) ≡ ending (decode s c h)
unfolding decode fetch_mode
decode_violated s c d h v f e g = rw (← (violates_fetch s c v f), e, g, e)

-- the mode does not enter into the address
same_address : (s : List ℕ) (c : Control) (i : Instruction) (b : Bool) → address s (with_monitor c b) i ≡ address s c i
unfolding address with_monitor
same_address s c i b = refl

pub decode_passed : (s : List ℕ) (c d : Control) (g : Channel) (i : Instruction) (v a : ℕ) → Fetched s c.ic v → violates c (v / 16777216) ≡ false
    → d ≡ with_pending (with_ic (fetch_mode c (v / 16777216)) (sum24 (fetch_mode c (v / 16777216)).ic 2)) 0 → i ≡ instruction_fields (v % 16777216)
    → a ≡ address s (fetch_mode c (v / 16777216)) i → ending (execute_instruction s d g i a) ≡ ending (decode s c g)
unfolding decode fetch_mode forbidden
decode_passed s c d x i v a f e g h j =
    rw (← (violates_fetch s c v f), e, ← (forbids_key c.pr (v / 16777216) (key s (c.ic / 2)) f.key), ← f.word, ← h, ← (fetch_fields c (forbids c.pr (v / 16777216))))
    (rw (g, e, j, e, same_address s c i (forbids c.pr (v / 16777216))) refl)

-- ---- fetch and cycle

by_absence : (a b : Bool) (x y z : Effect Machine) (m : Machine) → ending x ≡ faulted m → ending y ≡ faulted m
    → ending (cond a x (cond b y z)) ≡ cond (cond a true b) (faulted m) (ending z)
by_absence true b x y z m e f = e
by_absence false true x y z m e f = f
by_absence false false x y z m e f = refl

pub fetch_ending : (s : List ℕ) (c : Control) (h : Channel)
    → ending (fetch s c h) ≡ cond (fetch_absent s c.ic) (faulted (machine s c h)) (ending (decode s c h))
unfolding fetch fetch_absent
fetch_ending s c h = by_absence (absent s c.ic) (absent s (sum24 c.ic 1)) _ _ (decode s c h) (machine s c h) refl refl

abbrev pub concluded_by : Ending Machine → CycleResult Machine
concluded_by (completed m) = instruction m
concluded_by (faulted m) = entry Exception (connected m.channel (enter 0 m.cells m.control))

concluded_ending : (e : Effect Machine) → concluded e ≡ concluded_by (ending e)
unfolding concluded
concluded_ending (ok m) = refl
concluded_ending (fault f m) = refl

pub cycle_fetch : (s : List ℕ) (c : Control) (h : Channel) (x : Ending Machine) → line_of c ≡ 24 → x ≡ ending (fetch s c h) → concluded_by x ≡ cycle (machine s c h)
unfolding cycle
cycle_fetch s c h x e g = rw (e, g) (sym (concluded_ending (fetch s c h)))

-- the entry of an exception, with the channel as it was
pub entered_with : {s : List ℕ} {c : Control} {h : Channel} {k : Computer} {x : CycleResult Machine} → computer s c ≡ k → entry Exception (connected h k) ≡ x
    → entry Exception (machine s c h) ≡ x
entered_with {h} e f = ap (λ k. entry Exception (connected h k)) e ∙ f
