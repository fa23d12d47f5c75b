-- What each micro-operation keeps, every instruction keeps: one induction over the list, for any property of machines.
-- Assumes nothing.
use Prim.Native.Nat.{ℕ, ◌/◌, ◌<◌}
use native.Mathlib.Omega.{arith}
use mathlib.Core.Path.{◌≡◌, refl}
use mathlib.Core.Bool.{Bool, true, false, cond}
use mathlib.Core.List.{List, [], ◌∷◌}
use lib.Dec.{eqb}
use Rattle.machine.specs.Store.{put_word, put_byte, put_link, absent, violation, previous}
use Rattle.machine.specs.Fields.{with_ic, with_ir, with_pending, with_ex, raised, flags_cleared, overflowed, carry_set}
use Rattle.definition_instructions.specs.Machine.{Computer, computer, Effect, ok, fault, bind, reached}
use Rattle.definition_instructions.specs.MicroOps.{MicroOp, test_address, test_jump, set_w, set_wpre, link, store_word, store_byte, set_ic, skip_if, clear_flags, overflow, set_carry, set_ex, modify, skipped, micro_step, micro_steps}

-- P holds after every change that an unprivileged instruction makes: a register, a store that is no violation, four fields of the control record
pub record Closed (P : Computer → Type 0) : Type 0 where
  pub register : (i v : ℕ) (n : Computer) → i < 4 → P n → P (computer (put_word n.cells i v) n.control)
  pub word_stored : (i v : ℕ) (n : Computer) → violation n.cells n.control i ≡ false → P n → P (computer (put_word n.cells i v) n.control)
  pub counter : (v : ℕ) (n : Computer) → P n → P (computer n.cells (with_ic n.control v))
  pub exception : (v : ℕ) (n : Computer) → P n → P (computer n.cells (with_ex n.control v))
  pub interrupts : (v : ℕ) (n : Computer) → P n → P (computer n.cells (with_ir n.control v))
  pub pending : (v : ℕ) (n : Computer) → P n → P (computer n.cells (with_pending n.control v))

module _ {M : Type 0} (P : M → Type 0) where
  -- either branch, with what its test says
  pub reach_cond : (b : Bool) (x y : Effect M) → (b ≡ true → P (reached x)) → (b ≡ false → P (reached y)) → P (reached (cond b x y))
  reach_cond true x y p q = p refl
  reach_cond false x y p q = q refl

  pub reach_bind : (e : Effect M) (k : M → Effect M) → P (reached e) → ((n : M) → P n → P (reached (k n))) → P (reached (bind e k))
  reach_bind (ok n) k h s = s n h
  reach_bind (fault f n) k h s = h

module _ (P : Computer → Type 0) (c : Closed P) where
  reach_link : (b : Bool) (i v : ℕ) (n : Computer) → i < 4 → P n → P (computer (cond b n.cells (put_word n.cells i v)) n.control)
  reach_link true i v n l h = h
  reach_link false i v n l h = c.register i v n l h

  reach_overflow : (b : Bool) (v x : ℕ) (n : Computer) → P n → P (computer n.cells (cond b n.control (raised (with_ex n.control v) x)))
  unfolding raised
  reach_overflow true v x n h = h
  reach_overflow false v x n h = c.interrupts _ (computer n.cells (with_ex n.control v)) (c.exception v n h)

  reach_skip : (b : Bool) (v : ℕ) (n : Computer) → P n → P (computer n.cells (cond b (with_ic n.control v) n.control))
  reach_skip true v n h = c.counter v n h
  reach_skip false v n h = h

  pub reach_step : (w : ℕ) (d : MicroOp) (n : Computer) → w < 4 → P n → P (reached (micro_step w d n))
  unfolding micro_step skipped put_byte put_link flags_cleared overflowed carry_set
  reach_step w (test_address a) n l h = reach_cond P (absent n.cells a) _ _ (λ e. h) (λ e. h)
  reach_step w (test_jump a) n l h = reach_cond P (violation n.cells n.control (a / 2)) _ _ (λ e. h) (λ e. h)
  reach_step w (set_w v) n l h = c.register w (v n) n l h
  reach_step w (set_wpre v) n l h = c.register (previous w) (v n) n (omega arith) h
  reach_step w link n l h = reach_link (eqb w 0) w n.control.ic n l h
  reach_step w (store_word a v) n l h = reach_cond P (violation n.cells n.control (a / 2)) _ _ (λ e. h) (λ e. c.word_stored (a / 2) (v n) n e h)
  reach_step w (store_byte a v) n l h = reach_cond P (violation n.cells n.control (a / 2)) _ _ (λ e. h) (λ e. c.word_stored (a / 2) _ n e h)
  reach_step w (set_ic v) n l h = c.counter (v n) n h
  reach_step w (skip_if t) n l h = reach_skip (t n) _ n h
  reach_step w clear_flags n l h = c.exception _ n h
  reach_step w (overflow b v) n l h = reach_overflow (eqb (v n) 0) _ b n h
  reach_step w (set_carry v) n l h = c.exception _ n h
  reach_step w (set_ex v) n l h = c.exception (v n) n h
  reach_step w (modify v) n l h = c.pending (v n) n h

  pub reach_steps : (w : ℕ) (ds : List MicroOp) (n : Computer) → w < 4 → P n → P (reached (micro_steps w ds n))
  unfolding micro_steps
  reach_steps w [] n l h = h
  reach_steps w (d ∷ ds) n l h = reach_bind P (micro_step w d n) (micro_steps w ds) (reach_step w d n l h) (λ k p. reach_steps w ds k l p)
