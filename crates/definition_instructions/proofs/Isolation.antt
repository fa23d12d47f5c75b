-- In task mode an instruction leaves the protected part as it was. It is proved of each micro-operation, and so of every list of them: no
-- instruction has a proof of its own.
-- Assumes nothing.
use Prim.Native.Nat.{ℕ, ◌*◌, ◌≤◌, ◌<◌}
use native.Mathlib.Omega.{arith}
use mathlib.Core.Path.{◌≡◌, refl, sym, ap, ◌∙◌}
use mathlib.Core.Logic.{◌≢◌}
use mathlib.Core.Bool.{Bool, true, false, not, cond, true≢false, false≢true}
use Rattle.machine.specs.declared.Control.{Control}
use Rattle.machine.specs.Store.{key, put_word, forbids, forbidden, violation}
use Rattle.machine.specs.Fields.{in_task, with_ic, with_ir, with_pending, with_ex}
use Rattle.machine.proofs.StoreLaws.{length_put_word, word_other, key_put_word}
use Rattle.definition_instructions.specs.Machine.{Computer, computer, reached}
use Rattle.definition_instructions.specs.MicroOps.{Operation, unprivileged, privileged, unassigned, execute_operation}
use Rattle.definition_instructions.specs.Protected.{forbidden_in, InTaskMode, EqualProtected}
use Rattle.definition_instructions.proofs.MicroLaws.{Closed, reach_cond, reach_steps}

pub equal_refl : (k : ℕ) (m : Computer) → EqualProtected k m m
equal_refl k m = record { size = refl; keys = λ i. refl; pr = refl; im = refl; words = λ i h f. refl }

pub forbidden_equal : {k : ℕ} {m n : Computer} → EqualProtected k m n → (i : ℕ) → forbidden_in n i ≡ forbidden_in m i
unfolding forbidden
forbidden_equal h i = rw (h.pr, h.keys i)

pub equal_trans : {k : ℕ} {a b c : Computer} → EqualProtected k a b → EqualProtected k b c → EqualProtected k a c
equal_trans g h =
    record {
      size = h.size ∙ g.size;
      keys = λ i. h.keys i ∙ g.keys i;
      pr = h.pr ∙ g.pr;
      im = h.im ∙ g.im;
      words = λ i l f. h.words i l (forbidden_equal g i ∙ f) ∙ g.words i l f;
    }

pub equal_sym : {k : ℕ} {m n : Computer} → EqualProtected k m n → EqualProtected k n m
equal_sym h =
    record {
      size = sym h.size;
      keys = λ i. sym (h.keys i);
      pr = sym h.pr;
      im = sym h.im;
      words = λ i l f. sym (h.words i l (sym (forbidden_equal h i) ∙ f));
    }

pub equal_fewer : {k : ℕ} (j : ℕ) {m n : Computer} → k ≤ j → EqualProtected k m n → EqualProtected j m n
equal_fewer j l h = record { size = h.size; keys = h.keys; pr = h.pr; im = h.im; words = λ i b f. h.words i (omega arith) f }

-- a word is stored where nothing is protected
pub equal_put : (k : ℕ) (m : Computer) (i v : ℕ) → ((j : ℕ) → k ≤ 2 * j → forbidden_in m j ≡ true → j ≢ i)
    → EqualProtected k m (computer (put_word m.cells i v) m.control)
equal_put k m i v h =
    record {
      size = length_put_word m.cells i v;
      keys = λ j. key_put_word m.cells i v j;
      pr = refl;
      im = refl;
      words = λ j l f. word_other m.cells i v j (h j l f);
    }

-- the control record changes, its PR and IM do not
pub equal_control : (k : ℕ) (m : Computer) (c : Control) → c.pr ≡ m.control.pr → c.im ≡ m.control.im → EqualProtected k m (computer m.cells c)
equal_control k m c p q = record { size = refl; keys = λ i. refl; pr = p; im = q; words = λ i h f. refl }

-- ---- still in task mode, with the protected part of `m`

pub record Isolated (m n : Computer) : Type 0 where
  pub task : InTaskMode n
  pub equal : EqualProtected 8 m n

isolated_put : {m n : Computer} (i v : ℕ) → ((j : ℕ) → 8 ≤ 2 * j → forbidden_in n j ≡ true → j ≢ i) → Isolated m n
    → Isolated m (computer (put_word n.cells i v) n.control)
isolated_put {n} i v f h = record { task = h.task; equal = equal_trans h.equal (equal_put 8 n i v f) }

pub isolated_control : {m n : Computer} (c : Control) → c.pr ≡ n.control.pr → c.im ≡ n.control.im → c.monitor ≡ n.control.monitor → Isolated m n
    → Isolated m (computer n.cells c)
isolated_control {n} c p q t h = record { task = t ∙ h.task; equal = equal_trans h.equal (equal_control 8 n c p q) }

-- in task mode what is no violation is not forbidden
allowed : (a b : Bool) → a ≡ false → cond a false b ≡ false → b ≡ false
allowed true b e h = absurd (true≢false e)
allowed false b e h = h

pub allowed_cell : (n : Computer) (i : ℕ) → InTaskMode n → violation n.cells n.control i ≡ false → forbidden_in n i ≡ false
unfolding violation forbidden
allowed_cell n i t b = allowed n.control.monitor (forbids n.control.pr (key n.cells i)) t b

isolated_closed : (m : Computer) → Closed (Isolated m)
unfolding with_ic with_ir with_pending with_ex
isolated_closed m =
    record {
      register = λ i v n l h. isolated_put i v (λ j b f. omega arith) h;
      word_stored = λ i v n e h. isolated_put i v (λ j l f q. false≢true (sym (allowed_cell n i h.task e) ∙ ap (forbidden_in n) (sym q) ∙ f)) h;
      counter = λ v n h. isolated_control _ refl refl refl h;
      exception = λ v n h. isolated_control _ refl refl refl h;
      interrupts = λ v n h. isolated_control _ refl refl refl h;
      pending = λ v n h. isolated_control _ refl refl refl h;
    }

not_both : (b : Bool) → b ≡ false → not b ≡ false → ⊥
not_both true e h = true≢false e
not_both false e h = true≢false h

-- whatever an instruction means, in task mode it keeps the protected part
pub isolated_operation : (m : Computer) (w : ℕ) (o : Operation) (n : Computer) → w < 4 → Isolated m n → Isolated m (reached (execute_operation w o n))
unfolding execute_operation in_task
isolated_operation m w (unprivileged ds) n l h = reach_steps (Isolated m) (isolated_closed m) w ds n l h
isolated_operation m w (privileged ds) n l h =
    reach_cond (Isolated m) (in_task n.control) _ _ (λ t. h) (λ t. absurd (not_both n.control.monitor h.task t))
isolated_operation m w unassigned n l h = h
