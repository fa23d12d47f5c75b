-- The clock of a run. Assumes nothing.
use Rattle.std.proofs.Common.{◌≡◌, ℕ, ◌+◌, ◌-◌, ◌*◌, ◌%◌, ◌^◌, ◌<◌, ◌≤◌, min, Bool, true, false, cond, eqb, leb, sym, refl, ◌∙◌, add_assoc, mod-eq_of_lt, arith, eq-eqb, ne_eqb, le-leb}
use native.Mathlib.Nat.{mod-eq-sub-mod, mod-add-mod}
use native.Mathlib.Decide.{dec_le}
use lib.Pow.{pow-lt}
use borrow.Author.Tests.{eqb-false, lt-leb}
use Rattle.machine.specs.declared.Control.{Control}
use Rattle.machine.specs.declared.Timer.{Timer}
use Rattle.acceptance.specs.Accept.{timer_fits}
use Rattle.acceptance.proofs.Tests.{running}
use Rattle.definition_times.specs.Timer.{elapsed_after, phase_after, timer_after, interval_ends, line_raised}
use Rattle.timer_row.specs.Row.{Clock, passing, limit_of}

-- ---- the phase

pub phase_stays : (n : ℕ) (r : Timer) → r.period ≡ 0 → r.phase ≡ (timer_after n r).phase
unfolding timer_after phase_after
phase_stays n r z = rw (eq-eqb _ _ z)

pub phase_grows : (n : ℕ) (r : Timer) → (r.period ≡ 0 → ⊥) → timer_fits r ≡ true → n < r.period - r.phase → r.phase + n ≡ (timer_after n r).phase
unfolding timer_after phase_after
phase_grows n r z f l =
    let g = running r f z in
    let p : r.phase < r.period = g.phase in
    rw (ne_eqb _ _ z) (sym (mod-eq_of_lt (omega arith)))

pub phase_remains : (n : ℕ) (r : Timer) → (r.period ≡ 0 → ⊥) → timer_fits r ≡ true → r.period - r.phase ≤ n → (n - (r.period - r.phase)) % r.period ≡ (timer_after n r).phase
unfolding timer_after phase_after
phase_remains n r z f l =
    let g = running r f z in
    let p : r.phase < r.period = g.phase in
    let e : n - (r.period - r.phase) ≡ r.phase + n - r.period = omega arith in
    rw (ne_eqb _ _ z, e) (sym (mod-eq-sub-mod (omega arith)))

-- ---- the end of an interval

pub never_ends : (n : ℕ) (r : Timer) → r.period ≡ 0 → false ≡ interval_ends n r
unfolding interval_ends
never_ends n r z = rw (eq-eqb _ _ z)

ends_by : (n p q : ℕ) → q < p → leb (p - q) n ≡ leb p (q + n)
ends_by n p q l = elim (dec_le p (q + n)) [
  | yes h ↦ le-leb (p - q) n (omega arith) ∙ sym (le-leb p (q + n) h)
  | no h ↦ lt-leb (p - q) n (omega arith) ∙ sym (lt-leb p (q + n) (omega arith))
]

pub ends : (n : ℕ) (r : Timer) → (r.period ≡ 0 → ⊥) → timer_fits r ≡ true → leb (r.period - r.phase) n ≡ interval_ends n r
unfolding interval_ends
ends n r z f = rw (ne_eqb _ _ z) (ends_by n r.period r.phase (running r f z).phase)

-- ---- the limit

pub limit_off : (r : Timer) → r.period ≡ 0 → 2 ^ 31 ≡ limit_of r
unfolding limit_of
limit_off r z = rw (eq-eqb _ _ z)

pub limit_near : (r : Timer) → (r.period ≡ 0 → ⊥) → r.period - r.phase < 2 ^ 31 → r.period - r.phase ≡ limit_of r
unfolding limit_of
limit_near r z l = rw (ne_eqb _ _ z) (omega arith)

pub limit_far : (r : Timer) → (r.period ≡ 0 → ⊥) → 2 ^ 31 ≤ r.period - r.phase → 2 ^ 31 ≡ limit_of r
unfolding limit_of
limit_far r z l = rw (ne_eqb _ _ z) (omega arith)

limit_least : (b : Bool) (p q : ℕ) → cond b (2 ^ 31) (min (p - q) (2 ^ 31)) ≤ 2 ^ 31
limit_least true p q = omega arith
limit_least false p q = omega arith

pub limit_most : (r : Timer) → limit_of r ≤ 2 ^ 31
unfolding limit_of
limit_most r = limit_least (eqb r.period 0) r.period r.phase

-- below the limit no interval ends
pub below_limit : (n : ℕ) (r : Timer) → n < limit_of r → eqb r.period 0 ≡ false → r.phase + n < r.period
unfolding limit_of
below_limit n r l e = let k : n < min (r.period - r.phase) (2 ^ 31) = (rw e at l) in omega arith

not_yet : (b : Bool) (n p q : ℕ) → n < cond b (2 ^ 31) (min (p - q) (2 ^ 31)) → cond b false (leb p (q + n)) ≡ false
not_yet true n p q l = refl
not_yet false n p q l = lt-leb p (q + n) (omega arith)

pub none_ends : (n : ℕ) (r : Timer) → n < limit_of r → interval_ends n r ≡ false
unfolding limit_of interval_ends
none_ends n r l = not_yet (eqb r.period 0) n r.period r.phase l

pub none_raised : (n : ℕ) (r : Timer) (c : Control) → n < limit_of r → c ≡ line_raised n r c
unfolding line_raised
none_raised n r c l = rw (none_ends n r l)

-- ---- the clock

-- where a timer stands in the row no time has passed
same_phase : (b : Bool) (p n : ℕ) → (b ≡ false → p < n) → cond b p ((p + 0) % n) ≡ p
same_phase true p n h = refl
same_phase false p n h = let e : p + 0 ≡ p = omega arith in rw e (mod-eq_of_lt (h refl))

pub nothing_passed : (r : Timer) → r.elapsed < 2 ^ 32 → timer_fits r ≡ true → timer_after 0 r ≡ r
unfolding timer_after elapsed_after phase_after
nothing_passed r l f =
    let e : (r.elapsed + 0) % 2 ^ 32 ≡ r.elapsed = omega arith in
    rw (e, same_phase (eqb r.period 0) r.phase r.period (λ (z : eqb r.period 0 ≡ false). (running r f (eqb-false _ _ z)).phase))

pub bit_shifted : (p : ℕ) → 1 * 2 ^ (23 - p) % 2 ^ 32 ≡ 2 ^ (23 - p)
bit_shifted p =
    let l : 2 ^ (23 - p) < 2 ^ 32 = pow-lt {i = 23 - p} {j = 32} (omega arith) in
    let e : 1 * 2 ^ (23 - p) ≡ 2 ^ (23 - p) = omega arith in
    rw e (mod-eq_of_lt l)

-- ---- times one after the other

pub passing_twice : (a b : ℕ) (c : Clock) → passing b (passing a c) ≡ passing (a + b) c
unfolding passing
passing_twice a b c = rw (mod-add-mod (c.passed + a) (2 ^ 32) b, add_assoc c.passed a b)
