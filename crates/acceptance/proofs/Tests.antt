-- What is known where a test was passed. Assumes nothing.
use Prim.Native.Nat.{ℕ, ◌<◌}
use native.Mathlib.Omega.{arith}
use mathlib.Core.Path.{◌≡◌, refl}
use mathlib.Core.Bool.{Bool, true, false, cond, false≢true}
use Rattle.machine.specs.declared.Timer.{Timer}
use lib.Dec.{ltb}
use borrow.Author.Tests.{ne_eqb, ltb-true}
use Rattle.machine.specs.declared.Refusal.{Refusal}
use Rattle.machine.specs.declared.Refusal.TheVariants.{TimerField, Device}
use Rattle.machine.specs.Verdicts.{Verdict, Accepted, Rejected}
use Rattle.acceptance.specs.Accept.{timer_fits, judge_timer, judge_devices}

pub both : (a b : Bool) → cond a b false ≡ true → (a ≡ true) × (b ≡ true)
both true b e = (refl, e)
both false b e = absurd (false≢true e)

pub neither : (a b : Bool) → cond a false b ≡ true → (a ≡ false) × (b ≡ true)
neither true b e = absurd (false≢true e)
neither false b e = (refl, e)

-- a refusal is no acceptance
pub refused : {A : Type 0} {r : Refusal} → Rejected r ≡ Accepted → A
refused e = let no : ⊥ = (let z : ◌≡◌ {A = ℕ} 0 1 = cc in omega arith) in absurd no

pub passed : (b : Bool) (v : Verdict) (r : Refusal) → cond b v (Rejected r) ≡ Accepted → (b ≡ true) × (v ≡ Accepted)
passed true v r e = (refl, e)
passed false v r e = refused e

-- a control record that passes 18 has passed the tests before it
pub passed_timer : (v : Verdict) (t : Timer) → judge_timer v t ≡ Accepted → (v ≡ Accepted) × (timer_fits t ≡ true)
passed_timer Accepted t e = (refl, (passed (timer_fits t) Accepted TimerField e).0)
passed_timer (Rejected q) t e = refused e

-- a call that passes 13 has passed the tests before it
pub passed_devices : (v : Verdict) (f : Bool) → judge_devices v f ≡ Accepted → (v ≡ Accepted) × (f ≡ true)
passed_devices Accepted f e = (refl, (passed f Accepted Device e).0)
passed_devices (Rejected q) f e = refused e

-- a timer that is not off, and that 18 passes
pub record Running (r : Timer) : Type 0 where
  pub line : r.line < 24
  pub phase : r.phase < r.period

pub running : (r : Timer) → timer_fits r ≡ true → (r.period ≡ 0 → ⊥) → Running r
unfolding timer_fits
running r f n =
    let g : cond (ltb r.line 3) false (cond (ltb r.line 24) (ltb r.phase r.period) false) ≡ true = (rw (ne_eqb _ _ n) at f) in
    let h = both (ltb r.line 24) (ltb r.phase r.period) (neither (ltb r.line 3) (cond (ltb r.line 24) (ltb r.phase r.period) false) g).1 in
    record { line = ltb-true _ _ h.0; phase = ltb-true _ _ h.1 }
