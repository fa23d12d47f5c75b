-- The time of a cycle, as the code adds it up. Assumes nothing.
use Prim.Native.Nat.{ℕ, ◌+◌, ◌/◌, ◌%◌, ◌<◌}
use mathlib.Core.Path.{◌≡◌, refl, ap, ◌∙◌}
use mathlib.Core.Bool.{Bool, false}
use mathlib.Core.List.{List}
use borrow.Author.Tests.{lt-ltb}
use Rattle.machine.specs.declared.Control.{Control}
use Rattle.machine.specs.declared.Instruction.{Instruction}
use Rattle.machine.specs.declared.Kind.{Kind}
use Rattle.machine.specs.Format.{instruction_fields}
use Rattle.definition_instructions.specs.Machine.{computer, Channel, Machine, machine}
use Rattle.definition_instructions.specs.Meaning.{Op, AM, AL, AC, HL, HS, RL, RS, RX, DL, DS, BZ, BL, BA, BS, WA, WS, WM, WD, AA, SS, CI, CF, FA, FS, FM, FD, LA, LO, LX, AS, AD, LS, LD, NS, ND, JL, SH, SL, SE, SN, SO, SZ, SX, SP, JE, JD, IC, IS, ML, MS, XL, XS, PL, PS, KL, KS, None, Peripheral, IO, AW}
use Rattle.definition_instructions.specs.Codes.{Mnemonic, internal, device, codes, lookup}
use Rattle.definition_times.specs.Times.{modification_time, indirect_time, operation_time, device_time, mnemonic_time, execution_time}
use Rattle.definition_runs.specs.GenericRun.{instruction, entry}
use Rattle.definition_runs.specs.Cycle.{line_of, address, effective_address, cycle}
use Rattle.definition_runs.specs.Timed.{instruction_time, cycle_time}
use Rattle.control_row.specs.Row.{with_monitor}
use Rattle.control_row.specs.declared.End.{End}
use Rattle.control_row.specs.declared.End.TheVariants.{Faulted}
use Rattle.timer_row.specs.Row.{Clock, passing, with_passed, clock_after}
use Rattle.timer_row.proofs.Laws.{passing_twice}
use Rattle.fetch.specs.Fetch.{Fetched, violates, fetch_mode}

-- ---- the control registers do not enter into a time

operation_time_lem : (o : Op) (sb w : ℕ) (s : List ℕ) (c d : Control) → operation_time o sb w (computer s c) ≡ operation_time o sb w (computer s d)
unfolding operation_time
operation_time_lem AM sb w s c d = refl
operation_time_lem AL sb w s c d = refl
operation_time_lem AC sb w s c d = refl
operation_time_lem HL sb w s c d = refl
operation_time_lem HS sb w s c d = refl
operation_time_lem RL sb w s c d = refl
operation_time_lem RS sb w s c d = refl
operation_time_lem RX sb w s c d = refl
operation_time_lem DL sb w s c d = refl
operation_time_lem DS sb w s c d = refl
operation_time_lem BZ sb w s c d = refl
operation_time_lem BL sb w s c d = refl
operation_time_lem BA sb w s c d = refl
operation_time_lem BS sb w s c d = refl
operation_time_lem WA sb w s c d = refl
operation_time_lem WS sb w s c d = refl
operation_time_lem WM sb w s c d = refl
operation_time_lem WD sb w s c d = refl
operation_time_lem AA sb w s c d = refl
operation_time_lem SS sb w s c d = refl
operation_time_lem CI sb w s c d = refl
operation_time_lem CF sb w s c d = refl
operation_time_lem FA sb w s c d = refl
operation_time_lem FS sb w s c d = refl
operation_time_lem FM sb w s c d = refl
operation_time_lem FD sb w s c d = refl
operation_time_lem LA sb w s c d = refl
operation_time_lem LO sb w s c d = refl
operation_time_lem LX sb w s c d = refl
operation_time_lem AS sb w s c d = refl
operation_time_lem AD sb w s c d = refl
operation_time_lem LS sb w s c d = refl
operation_time_lem LD sb w s c d = refl
operation_time_lem NS sb w s c d = refl
operation_time_lem ND sb w s c d = refl
operation_time_lem JL sb w s c d = refl
operation_time_lem SH sb w s c d = refl
operation_time_lem SL sb w s c d = refl
operation_time_lem SE sb w s c d = refl
operation_time_lem SN sb w s c d = refl
operation_time_lem SO sb w s c d = refl
operation_time_lem SZ sb w s c d = refl
operation_time_lem SX sb w s c d = refl
operation_time_lem SP sb w s c d = refl
operation_time_lem JE sb w s c d = refl
operation_time_lem JD sb w s c d = refl
operation_time_lem IC sb w s c d = refl
operation_time_lem IS sb w s c d = refl
operation_time_lem ML sb w s c d = refl
operation_time_lem MS sb w s c d = refl
operation_time_lem XL sb w s c d = refl
operation_time_lem XS sb w s c d = refl
operation_time_lem PL sb w s c d = refl
operation_time_lem PS sb w s c d = refl
operation_time_lem KL sb w s c d = refl
operation_time_lem KS sb w s c d = refl
operation_time_lem None sb w s c d = refl

device_time_lem : (p : Peripheral) (sb : ℕ) (s : List ℕ) (c d : Control) (h : Channel) → device_time p sb (machine s c h) ≡ device_time p sb (machine s d h)
unfolding device_time
device_time_lem IO sb s c d h = refl
device_time_lem AW sb s c d h = refl

mnemonic_time_lem : (n : Mnemonic) (w sb : ℕ) (s : List ℕ) (c d : Control) (h : Channel) → mnemonic_time n w sb (machine s c h) ≡ mnemonic_time n w sb (machine s d h)
mnemonic_time_lem (internal o) w sb s c d h = operation_time_lem o sb w s c d
mnemonic_time_lem (device p) w sb s c d h = device_time_lem p sb s c d h

execution_time_lem : (f w sb : ℕ) (s : List ℕ) (c d : Control) (h : Channel) → execution_time f w sb (machine s c h) ≡ execution_time f w sb (machine s d h)
unfolding execution_time
execution_time_lem f w sb s c d h = mnemonic_time_lem (lookup f codes) w sb s c d h

-- ---- times one after the other

pub clock_after_twice : (r : End) (a b : ℕ) (x z : Clock) {y : Clock} → y ≡ passing a x → clock_after r z ≡ clock_after r (passing b y) → clock_after r z ≡ clock_after r (passing (a + b) x)
clock_after_twice r a b x z e f = f ∙ ap (λ (k : Clock). clock_after r (passing b k)) e ∙ ap (clock_after r) (passing_twice a b x)

pub clock_after_fault : (a b : ℕ) (x : Clock) {y : Clock} → y ≡ passing a x → clock_after Faulted y ≡ clock_after Faulted (passing b x)
unfolding passing with_passed
clock_after_fault a b x e = ap (with_passed 0) e

pub clock_after_is : (r : End) (x z : Clock) {a b : ℕ} → a ≡ b → clock_after r z ≡ clock_after r (passing a x) → clock_after r z ≡ clock_after r (passing b x)
clock_after_is r x z e f = f ∙ ap (λ (n : ℕ). clock_after r (passing n x)) e

pub passing_is : (x : Clock) (a b : ℕ) {y : Clock} → a ≡ b → y ≡ passing a x → y ≡ passing b x
passing_is x a b e f = f ∙ ap (λ (n : ℕ). passing n x) e

-- the time that passed is set back to the cycle's beginning, and an entry is made
pub set_back : (c d : Clock) (b n : ℕ) → b ≡ c.passed → clock_after Faulted d ≡ clock_after Faulted (passing n c) → passing 75 (with_passed b d) ≡ passing 75 c
unfolding passing with_passed
set_back c d b n f e = ap (passing 75) (ap (with_passed b) e ∙ ap (λ (x : ℕ). with_passed x c) f)

-- ---- the instruction

same_address : (s : List ℕ) (c : Control) (i : Instruction) (b : Bool) → address s (with_monitor c b) i ≡ address s c i
unfolding address with_monitor
same_address s c i b = refl

-- v is the instruction at IC, a its address before indirection, d the control registers as its operation begins
pub instruction_time_lem : (s : List ℕ) (c d : Control) (h : Channel) (i : Instruction) (v a : ℕ) → Fetched s c.ic v → violates c (v / 16777216) ≡ false
    → i ≡ instruction_fields (v % 16777216) → a ≡ address s (fetch_mode c (v / 16777216)) i
    → modification_time i.m i.x + (indirect_time i.code i.m + execution_time i.code i.w (effective_address s i.m a) (machine s d h))
    ≡ instruction_time (machine s c h)
unfolding instruction_time fetch_mode
instruction_time_lem s c d h i v a f e g k =
    rw (← f.word, ← g, execution_time_lem i.code i.w (effective_address s i.m a) s d c h, k, e, same_address s c i _) refl

-- ---- the cycle

pub time_executed : (m n : Machine) → instruction n ≡ cycle m → instruction_time m ≡ cycle_time m
unfolding cycle_time
time_executed m n e = rw (← e)

pub time_entered : (m n : Machine) (k : Kind) → entry k n ≡ cycle m → 75 ≡ cycle_time m
unfolding cycle_time
time_entered m n k e = rw (← e)

pub time_line : (m : Machine) (p : ℕ) → p ≡ line_of m.control → p < 24 → 75 ≡ cycle_time m
unfolding cycle_time cycle
time_line m p e l = rw (← e, lt-ltb p 24 l)
