-- The proofs of specs/Claims.antt.
-- Assumes nothing.
use Prim.Native.Nat.{ℕ, zero, suc, ◌+◌, ◌-◌, ◌*◌, ◌/◌, ◌%◌, ◌^◌, ◌≤◌, ◌<◌}
use native.Mathlib.Omega.{arith}
use native.Mathlib.Nat.{mod-eq_of_lt, div-eq_of_lt}
use native.Mathlib.Decide.{dec_lt}
use mathlib.Core.Path.{◌≡◌, refl, sym, ap, ◌∙◌, subst}
use mathlib.Core.Bool.{Bool, true, false, cond, true≢false}
use mathlib.Core.List.{List, [], ◌∷◌}
use lib.Bits.{or_shifted}
use lib.Dec.{eqb}
use lib.ListN.{length}
use borrow.Author.Tests.{eqb-true, lt-ltb, le-leb, lt-leb}
use Rattle.machine.specs.declared.Control.{Control}
use Rattle.machine.specs.declared.Timer.{Timer}
use Rattle.machine.specs.declared.Record.{Record}
use Rattle.machine.specs.declared.Refusal.TheVariants.{StoreSize, CellValue, ControlField}
use Rattle.machine.specs.Verdicts.{Verdict, Accepted, Rejected}
use Rattle.machine.specs.Store.{word, put_word, put_key, absent}
use Rattle.machine.specs.Fields.{with_ir, with_ex, flags_cleared}
use Rattle.machine.specs.Records.{reset_control, return_address}
use Rattle.machine.specs.Answers.{verdict_number}
use Rattle.machine.proofs.StoreLaws.{length_put_word, word_other, word_same, key_put_word, length_put_key, word_put_key, key_other, key_same}
use Rattle.acceptance.specs.Accept.{size_fits, cells_fit, control_fits, judge_registers, timer_fits, judge_timer, judge_machine, judge_devices, judge_autoload}
use Rattle.acceptance.proofs.Tests.{both, passed_timer, passed_devices}
use Rattle.integer.specs.Bitwise.{logical_or}
use Rattle.integer.proofs.Digits.{or_is}
use Rattle.definition_instructions.specs.Machine.{computer, Channel, Machine, machine, computer_of, reached, reset_system}
use Rattle.definition_instructions.specs.Channel.{read_from, four_left, shifted_in, assembled}
use Rattle.definition_instructions.specs.MicroOps.{micro_step, monitor_step, device_step, device_steps}
use Rattle.definition_instructions.specs.Meaning.{autoloading}
use Rattle.definition_instructions.proofs.Validity.{Valid, accepted_valid}
use Rattle.definition_instructions.proofs.DeviceLaws.{Characters, fits_channel, ValidComputer}
use Rattle.definition_runs.specs.Cycle.{bit_from_left, requested, first_request, looks_at_lines, line_of, bit_alone, line_cleared, entry_control, enter, cycle}
use Rattle.definition_runs.specs.Timed.{TimedComputer, keeping_timer, TimedMachine, untimed, timed}
use Rattle.definition_runs.specs.Run.{in_reset, judge_of, devices_fit_of}
use Rattle.definition_runs.specs.Keys.{pressed_by, reset_key, start_control, start_key, autoload_control, autoload_key, pressing_reset, pressing_start, judge_autoload_of, pressing_autoload}
use Rattle.cycle_promises.specs.Claims.{SameCells, ResetPressed, StartPressed, ResetKey, StartKey, RefusedKeys, KeyNumbers, AutoloadPressed, AutoloadKey, RefusedAutoload, AutoloadNumbers, AssembledWord, Entered, LineTaken, EntryBy, EntryOfCycle, LinesTaken}
use Rattle.definition_runs.proofs.RunLaws.{Meets}
use Rattle.definition_runs.proofs.CycleLaws.{entered, lined, cycle_meets}
use Rattle.definition_runs.proofs.CycleValid.{valid_lined, valid_fetch}
use Rattle.cycle_promises.proofs.Entries.{entry_made}

-- ---- panel keys

same_put : (a : ℕ) (s : List ℕ) (v : ℕ) → SameCells a a s (put_word s (a / 2) v)
same_put a s v = record { size = length_put_word s (a / 2) v; keys = key_put_word s (a / 2) v; words = λ i h k. word_other s (a / 2) v i h }

pressed_machine : {M : Type 0} (v : Verdict) (m n : M) → v ≡ Accepted → (pressed_by v m n).machine ≡ n
pressed_machine v m n e = rw e

-- a record that passes 1 to 3 and 18 is valid
passed_valid : (s : List ℕ) (r : Record) → judge_machine s r ≡ Accepted → Valid (computer s r.registers)
unfolding judge_machine
passed_valid s r e = accepted_valid (computer s r.registers) (passed_timer (judge_registers s r.registers) r.timer e).0

reset_pressed : (m : TimedComputer) → Valid (computer m.cells m.control.registers)
    → ResetPressed m (keeping_timer m.control.timer (reset_system m.cells m.control.registers))
unfolding reset_system reset_control
reset_pressed m h =
    record {
      word10 = word_same m.cells 5 m.control.registers.ic (omega (arith, h.least)) ∙ mod-eq_of_lt h.widths.ic;
      state = (refl, record { monitor = refl; disabled = refl; pending = refl });
      cells = same_put return_address m.cells m.control.registers.ic;
      kept = (refl, refl, record { im = refl; pr = refl; ex = refl });
      timer = refl;
    }

pub reset_key_lem : ResetKey
unfolding pressing_reset reset_key
reset_key_lem m e =
    let s = m.cells in
    let c = m.control.registers in
    let by : Bool → TimedComputer = λ b. keeping_timer m.control.timer (cond b (computer s c) (reset_system s c)) in
    let pressed = pressed_machine (judge_machine s m.control) m (by c.reset) e in
    (λ o. subst (ResetPressed m) (sym (pressed ∙ ap by o)) (reset_pressed m (passed_valid s m.control e)), λ i. pressed ∙ ap by i)

start_pressed : (m : TimedComputer)
    → StartPressed m (keeping_timer m.control.timer (computer m.cells (start_control m.control.registers (word m.cells 7))))
unfolding start_control
start_pressed m =
    record { ic = refl; state = refl; cells = refl; kept = (refl, refl, record { im = refl; pr = refl; ex = refl }); modes = (refl, refl); timer = refl }

pub start_key_lem : StartKey
unfolding pressing_start start_key
start_key_lem m e =
    let s = m.cells in
    let c = m.control.registers in
    let by : Bool → TimedComputer = λ b. keeping_timer m.control.timer (cond b (computer s (start_control c (word s 7))) (computer s c)) in
    let pressed = pressed_machine (judge_machine s m.control) m (by c.reset) e in
    (λ i. subst (StartPressed m) (sym (pressed ∙ ap by i)) (start_pressed m), λ o. pressed ∙ ap by o)

pub refused_keys : RefusedKeys
unfolding pressing_reset pressing_start
refused_keys m q e = (rw e, rw e)

number_kept : {M : Type 0} (v : Verdict) (m n : M) → verdict_number (pressed_by v m n).verdict ≡ verdict_number v
number_kept Accepted m n = refl
number_kept (Rejected q) m n = refl

record_number : (a b c d : Bool) (t : Timer) → timer_fits t ≡ d
    → verdict_number (judge_timer (cond a (cond b (cond c Accepted (Rejected ControlField)) (Rejected CellValue)) (Rejected StoreSize)) t)
    ≡ cond a (cond b (cond c (cond d 0 18) 3) 2) 1
record_number true true true true t e = rw e
record_number true true true false t e = rw e
record_number true true false d t e = refl
record_number true false c d t e = refl
record_number false b c d t e = refl

pub key_numbers : KeyNumbers
unfolding pressing_reset pressing_start judge_machine judge_registers
key_numbers m =
    let s = m.cells in
    let r = m.control in
    let due = record_number (size_fits (length s)) (cells_fit s) (control_fits r.registers) (timer_fits r.timer) r.timer refl in (
      number_kept (judge_machine s r) m (keeping_timer r.timer (reset_key s r.registers)) ∙ due,
      number_kept (judge_machine s r) m (keeping_timer r.timer (start_key s r.registers)) ∙ due,
    )

-- ---- the line that is taken

-- q is the first of the n positions from p on that is requested, or p + n
record First (n p ir im q : ℕ) : Type 0 where
  found : q < p + n → requested ir im q ≡ true
  before : (i : ℕ) → p ≤ i → i < q → requested ir im i ≡ false

first_cond : (b : Bool) (n p ir im q : ℕ) → requested ir im p ≡ b → First n (p + 1) ir im q → First (suc n) p ir im (cond b p q)
first_cond true n p ir im q e h = record { found = λ l. e; before = λ i a c. absurd (omega arith) }
first_cond false n p ir im q e h = record { found = λ l. h.found (omega arith); before = λ i a c. at i a c (dec_lt p i) }
  where
    at : (i : ℕ) → p ≤ i → i < q → Dec (p < i) → requested ir im i ≡ false
    at i a c (yes l) = h.before i (omega arith) c
    at i a c (no l) = let same : i ≡ p = omega arith in rw same e

first_request_lem : (n p ir im : ℕ) → First n p ir im (first_request n p ir im)
unfolding first_request
first_request_lem zero p ir im = record { found = λ l. absurd (omega arith); before = λ i a c. absurd (omega arith) }
first_request_lem (suc n) p ir im = first_cond (requested ir im p) n p ir im (first_request n (p + 1) ir im) refl (first_request_lem n (p + 1) ir im)

-- lines are looked at, and the first request is taken
looked : (b : Bool) (q : ℕ) → cond b q 24 < 24 → (b ≡ true) × (cond b q 24 ≡ q)
looked true q l = (refl, refl)
looked false q l = absurd (omega arith)

looking : (e : Bool) (n : ℕ) → e ≡ true → n ≡ 0 → cond e (eqb n 0) false ≡ true
looking e n p q = rw (p, q)

not_requested : (ir im i : ℕ) → requested ir im i ≡ false → bit_from_left ir i ≡ 1 → bit_from_left im i ≡ 1 → ⊥
unfolding requested
not_requested ir im i e a b = true≢false (sym (rw (a, b)) ∙ e)

-- a bit that is one has its weight in the register
weight : (x w : ℕ) → x / w % 2 ≡ 1 → w ≤ x
weight x w e = at (dec_lt x w)
  where
    at : Dec (x < w) → w ≤ x
    at (yes l) = let none : x / w ≡ 0 = div-eq_of_lt l in absurd (omega (arith, rw none at e))
    at (no l) = omega arith

line_cleared_lem : (c : Control) (p : ℕ) → c.ir < 16777216 → bit_from_left c.ir p ≡ 1 → (line_cleared c p).ir + 2 ^ (23 - p) ≡ c.ir
unfolding line_cleared with_ir bit_alone bit_from_left
line_cleared_lem c p l e = let w = weight c.ir (2 ^ (23 - p)) e in rw e (omega arith)

-- the entry by a line keeps what is not IR
other_ir : {v : ℕ} (m n : Machine) (r : ℕ) → Entered v (machine m.cells (with_ir m.control r) m.channel) n → Entered v m n
unfolding with_ir
other_ir m n r e =
    record { number = e.number; returns = e.returns; ic = e.ic; state = e.state; cells = e.cells; kept = (e.kept.0, record { im = e.kept.1.im; pr = e.kept.1.pr; ex = e.kept.1.ex }); channel = e.channel }

line_taken : (m : Machine) → ValidComputer m → line_of m.control < 24 → LineTaken (line_of m.control) m (entered (line_of m.control * 2) (lined m))
unfolding line_of looks_at_lines requested line_cleared enter entry_control
line_taken m h l =
    let c = m.control in
    let p = line_of c in
    let taken = looked (looks_at_lines c) (first_request 24 0 c.ir c.im) l in
    let first : First 24 0 c.ir c.im p = subst (First 24 0 c.ir c.im) (sym taken.1) (first_request_lem 24 0 c.ir c.im) in
    let allowed = both c.enabled (eqb c.pending 0) taken.0 in
    let bits = both (eqb (bit_from_left c.ir p) 1) (eqb (bit_from_left c.im p) 1) (first.found l) in
    let raised : bit_from_left c.ir p ≡ 1 = eqb-true (bit_from_left c.ir p) 1 bits.0 in
    record {
      place = l;
      enabled = allowed.0;
      none = eqb-true c.pending 0 allowed.1;
      raised = raised;
      masked = eqb-true (bit_from_left c.im p) 1 bits.1;
      leftmost = λ i k. not_requested c.ir c.im i (first.before i (omega arith) k);
      cleared = line_cleared_lem c p h.widths.ir raised;
      entered = other_ir m _ _ (entry_made (p * 2) (lined m) (omega arith) (valid_lined m h));
    }

first_least : (p ir im : ℕ) → bit_from_left ir p ≡ 1 → bit_from_left im p ≡ 1 → first_request 24 0 ir im ≤ p
first_least p ir im a b = at (dec_lt p (first_request 24 0 ir im))
  where
    at : Dec (p < first_request 24 0 ir im) → first_request 24 0 ir im ≤ p
    at (yes k) = absurd (not_requested ir im p ((first_request_lem 24 0 ir im).before p (omega arith) k) a b)
    at (no k) = omega arith

pub lines_taken : LinesTaken
unfolding cycle line_of looks_at_lines
lines_taken m p l e n a b =
    let c = m.control in
    let looks : looks_at_lines c ≡ true = looking c.enabled c.pending e n in
    let taken : line_of c < 24 = rw looks (omega (arith, first_least p c.ir c.im a b)) in
    rw (lt-ltb (line_of c) 24 taken)

entry_by : (m : Machine) → ValidComputer m → m.control.reset ≡ false → Meets ValidComputer (λ k n. EntryBy k m n) (cycle m)
unfolding enter entry_control
entry_by m h e =
    cycle_meets ValidComputer (λ k n. EntryBy k m n) m (valid_fetch m e h)
    (λ f n q v. record { cause = f; left = n; met = q; ir = refl; entered = entry_made 0 n (omega arith) v })
    (λ l. let p = line_of m.control in
    let half : p * 2 / 2 ≡ p = omega arith in
    (ap (λ x. x * 2) (sym half), subst (λ x. LineTaken x m (entered (p * 2) (lined m))) (sym half) (line_taken m h l)))

pub entry_of_cycle : EntryOfCycle
entry_of_cycle m n k e o q = rw q at (entry_by m (accepted_valid (computer_of m) e) o)

-- ---- autoload key

pub refused_autoload_lem : RefusedAutoload
unfolding pressing_autoload
refused_autoload_lem m q e = rw e

autoload_number : (a b c d f : Bool) (t : Timer) → timer_fits t ≡ d
    → verdict_number (judge_devices (judge_timer (cond a (cond b (cond c Accepted (Rejected ControlField)) (Rejected CellValue)) (Rejected StoreSize)) t) f)
    ≡ cond a (cond b (cond c (cond d (cond f 0 13) 18) 3) 2) 1
autoload_number true true true true true t e = rw e
autoload_number true true true true false t e = rw e
autoload_number true true true false f t e = rw e
autoload_number true true false d f t e = refl
autoload_number true false c d f t e = refl
autoload_number false b c d f t e = refl

pub autoload_numbers : AutoloadNumbers
unfolding pressing_autoload judge_autoload judge_machine judge_registers
autoload_numbers m =
    let s = m.cells in
    let r = m.control in
    number_kept (judge_autoload_of m) m (timed r.timer (autoload_key (untimed m)))
    ∙ autoload_number (size_fits (length s)) (cells_fit s) (control_fits r.registers) (timer_fits r.timer) (devices_fit_of m) r.timer refl

-- a character is shifted into AR
shifted : (ar c : ℕ) → ar < 262144 → c < 64 → shifted_in ar c ≡ ar * 64 + c
unfolding shifted_in logical_or
shifted ar c l h =
    let small : ar * 64 % 16777216 ≡ ar * 64 = mod-eq_of_lt (omega arith) in
    rw small (sym (or_is 24 (ar * 64) c (omega arith) (omega arith)) ∙ or_shifted ar 6 c h)

pub assembled_word : AssembledWord
unfolding assembled
assembled_word a b c d cs p q r s =
    let one : shifted_in 0 a ≡ a = shifted 0 a (omega arith) p ∙ omega arith in
    rw (one, shifted a b (omega arith) q, shifted (a * 64 + b) c (omega arith) r, shifted ((a * 64 + b) * 64 + c) d (omega arith) s) (omega arith)

-- the channel with other characters
abbrev reading : List ℕ → Channel → Channel
reading cs h = record { reader = h.reader; typewriter = h.typewriter; characters = cs; typed = h.typed; space = h.space }

abbrev autoloaded : List ℕ → Machine → Machine
autoloaded cs m = reached (device_steps 0 (autoloading 0 cs) (machine m.cells (autoload_control m.control) (reading cs m.channel)))

loads : (a b c d : ℕ) (cs : List ℕ) (m : Machine) → 8 ≤ length m.cells
    → autoloaded (a ∷ b ∷ c ∷ d ∷ cs) m
    ≡ machine (put_key (put_word m.cells 0 (assembled 4 0 (a ∷ b ∷ c ∷ d ∷ cs))) 0 0)
    (flags_cleared (flags_cleared (flags_cleared (flags_cleared (autoload_control m.control)))))
    (record { reader = d; typewriter = m.channel.typewriter; characters = cs; typed = m.channel.typed; space = m.channel.space })
unfolding device_steps device_step monitor_step micro_step autoloading read_from absent
loads a b c d cs m l = rw (lt-leb (length m.cells) 0 (omega arith))

-- EX(22:23) := 0, four times
cleared_again : (x : ℕ) → x < 8 → x / 4 * 4 % 8 / 4 * 4 % 8 / 4 * 4 % 8 / 4 * 4 % 8 ≡ x / 4 * 4
cleared_again x l =
    let once : x / 4 * 4 % 8 ≡ x / 4 * 4 = omega arith in
    let twice : x / 4 * 4 / 4 * 4 ≡ x / 4 * 4 = omega arith in
    rw (once, twice, once, twice, once, twice, once)

autoload_pressed_lem : (cs : List ℕ) (m : Machine) (r : Timer) → Valid (computer_of m) → Characters cs → 4 ≤ length cs
    → AutoloadPressed (timed r (machine m.cells m.control (reading cs m.channel))) (timed r (autoloaded cs m))
unfolding Characters flags_cleared with_ex autoload_control
autoload_pressed_lem [] m r h v l = absurd (omega arith)
autoload_pressed_lem (a ∷ []) m r h v l = absurd (omega arith)
autoload_pressed_lem (a ∷ b ∷ []) m r h v l = absurd (omega arith)
autoload_pressed_lem (a ∷ b ∷ c ∷ []) m r h v l = absurd (omega arith)
autoload_pressed_lem (a ∷ b ∷ c ∷ d ∷ cs) m r h v l =
    let w = assembled 4 0 (a ∷ b ∷ c ∷ d ∷ cs) in
    let value : w ≡ a * 262144 + b * 4096 + c * 64 + d = assembled_word a b c d cs (v 0) (v 1) (v 2) (v 3) in
    let small : w < 16777216 = rw value (omega (arith, v 0, v 1, v 2, v 3)) in
    let stored = put_word m.cells 0 w in
    rw (loads a b c d cs m h.least) (record {
      loaded = word_put_key stored 0 0 0 ∙ word_same m.cells 0 w (omega (arith, h.least)) ∙ mod-eq_of_lt small;
      unprotected = key_same stored 0 0 (rw length_put_word (omega (arith, h.least)));
      size = length_put_key stored 0 0 ∙ length_put_word m.cells 0 w;
      cells = λ i n. (word_put_key stored 0 0 i ∙ word_other m.cells 0 w i n, key_other stored 0 0 i n ∙ key_put_word m.cells 0 w i);
      ic = refl;
      ex = cleared_again m.control.ex h.widths.ex;
      state = refl;
      kept = (refl, refl, refl, refl);
      modes = (refl, refl);
      timer = refl;
      characters = refl;
      register = refl;
      typewriter = (refl, refl, refl);
    })

pub autoload_key_lem : AutoloadKey
unfolding pressing_autoload autoload_key four_left judge_autoload
autoload_key_lem m e =
    let k = untimed m in
    let r = m.control.timer in
    let cs = m.channel.characters in
    let four : Bool → Machine = λ b. cond b (autoloaded cs k) k in
    let by : Bool → TimedMachine = λ b. timed r (cond b (four (four_left cs)) k) in
    let pressed = pressed_machine (judge_autoload_of m) m (by (in_reset m)) e in
    let fits = passed_devices (judge_of m) (devices_fit_of m) e in (
      λ i l. subst (AutoloadPressed m) (sym (pressed ∙ ap by i ∙ ap (λ b. timed r (four b)) (le-leb 4 (length cs) l)))
          (autoload_pressed_lem cs k r (passed_valid m.cells m.control fits.0) (fits_channel m.channel fits.1).characters l),
      λ o. pressed ∙ ap by o,
      λ l. pressed ∙ ap (λ b. timed r (cond (in_reset m) (four b) k)) (lt-leb 4 (length cs) l) ∙ ap (timed r) (same (in_reset m)),
    )
  where
    same : (b : Bool) → cond b (untimed m) (untimed m) ≡ untimed m
    same true = refl
    same false = refl
