-- Laws of the timer: times that pass one after the other. Assumes nothing.
use Prim.Native.Nat.{ℕ, ◌+◌, ◌%◌, ◌^◌, ◌<◌}
use native.Mathlib.Omega.{arith}
use native.Mathlib.Nat.{mod-lt, mod-eq_of_lt, mod-add-mod, add_assoc}
use mathlib.Core.Path.{◌≡◌, refl, ap, ◌∙◌}
use mathlib.Core.Bool.{Bool, true, false, cond, false≢true}
use lib.Dec.{eqb, ltb, leb}
use borrow.Author.Tests.{eqb-false, ltb-true, lt-ltb}
use Rattle.machine.specs.declared.Timer.{Timer}
use Rattle.acceptance.specs.Accept.{timer_fits}
use Rattle.acceptance.proofs.Tests.{both, neither, running}
use Rattle.definition_times.specs.Timer.{elapsed_after, phase_after, timer_after, interval_ends}

-- the time t, then u
sum_mod : (a t u n : ℕ) → ((a + t) % n + u) % n ≡ (a + (t + u)) % n
sum_mod a t u n = mod-add-mod (a + t) n u ∙ ap (λ (x : ℕ). x % n) (add_assoc a t u)

phase_twice : (b : Bool) (p n t u : ℕ) → cond b (cond b p ((p + t) % n)) ((cond b p ((p + t) % n) + u) % n) ≡ cond b p ((p + (t + u)) % n)
phase_twice true p n t u = refl
phase_twice false p n t u = sum_mod p t u n

pub after_twice : (t u : ℕ) (r : Timer) → timer_after u (timer_after t r) ≡ timer_after (t + u) r
unfolding timer_after elapsed_after phase_after
after_twice t u r = rw (sum_mod r.elapsed t u (2 ^ 32), phase_twice (eqb r.period 0) r.phase r.period t u)

-- where no interval ended in the time t, one ends in the time u after it exactly where one ends in both together
ends_twice : (b : Bool) (p n t u : ℕ) → (b ≡ false → p + t < n)
    → cond b false (leb n (cond b p ((p + t) % n) + u)) ≡ cond b false (leb n (p + (t + u)))
ends_twice true p n t u h = refl
ends_twice false p n t u h = ap (λ (x : ℕ). leb n x) (ap (λ (x : ℕ). x + u) (mod-eq_of_lt (h refl)) ∙ add_assoc p t u)

pub ends_later : (t u : ℕ) (r : Timer) → (eqb r.period 0 ≡ false → r.phase + t < r.period) → interval_ends u (timer_after t r) ≡ interval_ends (t + u) r
unfolding interval_ends timer_after phase_after
ends_later t u r h = ends_twice (eqb r.period 0) r.phase r.period t u h

-- ---- a timer that 18 passes

fits_by : (p l n : ℕ) (b : Bool) (q : ℕ) → cond b true (cond (ltb l 3) false (cond (ltb l 24) (ltb q p) false)) ≡ true
    → cond b true (cond (ltb l 3) false (cond (ltb l 24) (ltb (cond b q ((q + n) % p)) p) false)) ≡ true
fits_by p l n true q f = refl
fits_by p l n false q f =
    let g = neither (ltb l 3) (cond (ltb l 24) (ltb q p) false) f in
    let h = both (ltb l 24) (ltb q p) g.1 in
    let d : q < p = ltb-true _ _ h.1 in
    rw (g.0, h.0) (lt-ltb _ _ (mod-lt (q + n) (omega arith)))

-- 18 passes it after any time
pub fits_later : (t : ℕ) (r : Timer) → timer_fits r ≡ true → timer_fits (timer_after t r) ≡ true
unfolding timer_fits timer_after phase_after
fits_later t r f = fits_by r.period r.line t (eqb r.period 0) r.phase f

ending_by : (b : Bool) (p q n : ℕ) → eqb p 0 ≡ b → cond b false (leb p (q + n)) ≡ true → p ≡ 0 → ⊥
ending_by true p q n z e h = false≢true e
ending_by false p q n z e h = eqb-false _ _ z h

-- an interval ends in one that is not off
pub ending_line : (t : ℕ) (r : Timer) → timer_fits r ≡ true → interval_ends t r ≡ true → r.line < 24
unfolding interval_ends
ending_line t r f e = (running r f (ending_by (eqb r.period 0) r.period r.phase t refl e)).line
