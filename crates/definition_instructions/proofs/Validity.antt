-- A machine that the tests accept stays one that they accept, whatever an instruction means.
-- Assumes nothing.
use Prim.Native.Nat.{ℕ, zero, suc, ◌/◌, ◌≤◌, ◌<◌}
use native.Mathlib.Omega.{arith}
use mathlib.Core.Path.{◌≡◌, refl, ap, ◌∙◌}
use mathlib.Core.Bool.{Bool, true, false, not, cond}
use mathlib.Core.List.{List, [], ◌∷◌}
use lib.Dec.{ltb}
use lib.ListN.{length}
use borrow.Author.Tests.{lt-ltb, le-ltb, le-leb, ltb-true, ltb-false, leb-true}
use Rattle.machine.specs.declared.Control.{Control}
use Rattle.machine.specs.Verdicts.{Accepted}
use Rattle.machine.specs.Store.{put_word, put_key}
use Rattle.machine.specs.Fields.{in_task, with_ic, with_ir, with_im, with_pending, with_pr, with_ex, with_enabled}
use Rattle.machine.specs.Records.{reset_control}
use Rattle.machine.proofs.StoreLaws.{length_put_word, length_put_key, Cells, cells_put_word, cells_put_key}
use Rattle.acceptance.specs.Accept.{size_fits, cells_fit, state_fits, control_fits, judge_registers}
use Rattle.acceptance.proofs.Tests.{both, neither, passed}
use Rattle.definition_instructions.specs.Machine.{Computer, computer, reached, reset_system}
use Rattle.definition_instructions.specs.MicroOps.{MonitorOp, plain, set_key, set_pr, set_im, set_ir, set_enabled, set_word, Operation, unprivileged, privileged, unassigned, monitor_step, monitor_steps, execute_operation}
use Rattle.definition_instructions.proofs.MicroLaws.{Closed, reach_cond, reach_bind, reach_step, reach_steps}

pub record Widths (c : Control) : Type 0 where
  pub ic : c.ic < 16777216
  pub ir : c.ir < 16777216
  pub im : c.im < 16777216
  pub pending : c.pending < 16777216
  pub low : 128 ≤ c.pr
  pub high : c.pr < 256
  pub ex : c.ex < 8

pub record Valid (m : Computer) : Type 0 where
  pub least : 8 ≤ length m.cells
  pub most : length m.cells ≤ 8388608
  pub cells : Cells m.cells
  pub widths : Widths m.control
  pub state : state_fits m.control ≡ true

-- ---- Valid is what the tests say

cells_below : (s : List ℕ) → cells_fit s ≡ true → Cells s
unfolding cells_fit Cells
cells_below [] e i = omega arith
cells_below (x ∷ s) e zero = ltb-true x 134217728 (both (ltb x 134217728) (cells_fit s) e).0
cells_below (x ∷ s) e (suc i) = cells_below s (both (ltb x 134217728) (cells_fit s) e).1 i

below_cells : (s : List ℕ) → Cells s → cells_fit s ≡ true
unfolding cells_fit Cells
below_cells [] h = refl
below_cells (x ∷ s) h = rw (lt-ltb x 134217728 (h zero)) (below_cells s (λ i. h (suc i)))

control_widths : (c : Control) → control_fits c ≡ true → Widths c × (state_fits c ≡ true)
unfolding control_fits
control_widths c e =
    let p1 = both (ltb c.ic 16777216) _ e in
    let p2 = both (ltb c.ir 16777216) _ p1.1 in
    let p3 = both (ltb c.im 16777216) _ p2.1 in
    let p4 = both (ltb c.pending 16777216) _ p3.1 in
    let p5 = neither (ltb c.pr 128) _ p4.1 in
    let p6 = both (ltb c.pr 256) _ p5.1 in
    let p7 = both (ltb c.ex 8) _ p6.1 in (
      record {
        ic = ltb-true c.ic 16777216 p1.0;
        ir = ltb-true c.ir 16777216 p2.0;
        im = ltb-true c.im 16777216 p3.0;
        pending = ltb-true c.pending 16777216 p4.0;
        low = ltb-false c.pr 128 p5.0;
        high = ltb-true c.pr 256 p6.0;
        ex = ltb-true c.ex 8 p7.0;
      },
      p7.1,
    )

pub accepted_valid : (m : Computer) → judge_registers m.cells m.control ≡ Accepted → Valid m
unfolding judge_registers size_fits
accepted_valid m e =
    let p1 = passed (size_fits (length m.cells)) _ _ e in
    let p2 = passed (cells_fit m.cells) _ _ p1.1 in
    let p3 = passed (control_fits m.control) _ _ p2.1 in
    let size = neither (ltb (length m.cells) 8) _ p1.0 in
    let c = control_widths m.control p3.0 in
    record {
      least = ltb-false (length m.cells) 8 size.0;
      most = leb-true (length m.cells) 8388608 size.1;
      cells = cells_below m.cells p2.0;
      widths = c.0;
      state = c.1;
    }

pub valid_accepted : (m : Computer) → Valid m → judge_registers m.cells m.control ≡ Accepted
unfolding judge_registers size_fits control_fits
valid_accepted m h =
    rw (
      le-ltb (length m.cells) 8 h.least,
      le-leb (length m.cells) 8388608 h.most,
      below_cells m.cells h.cells,
      lt-ltb _ _ h.widths.ic,
      lt-ltb _ _ h.widths.ir,
      lt-ltb _ _ h.widths.im,
      lt-ltb _ _ h.widths.pending,
      le-ltb _ _ h.widths.low,
      lt-ltb _ _ h.widths.high,
      lt-ltb _ _ h.widths.ex,
      h.state,
    )

-- ---- outside the reset state

pub record Live (m : Computer) : Type 0 where
  pub valid : Valid m
  pub outside : m.control.reset ≡ false

pub state_outside : (c : Control) → c.reset ≡ false → state_fits c ≡ true
unfolding state_fits
state_outside c q = ap (λ (r : Bool). cond r (cond c.monitor (not c.enabled) false) true) q

pub valid_put : (i v : ℕ) (n : Computer) → Valid n → Valid (computer (put_word n.cells i v) n.control)
valid_put i v n h =
    record {
      least = rw length_put_word h.least;
      most = rw length_put_word h.most;
      cells = cells_put_word n.cells i v h.cells;
      widths = h.widths;
      state = h.state;
    }

pub live_put : (i v : ℕ) (n : Computer) → Live n → Live (computer (put_word n.cells i v) n.control)
live_put i v n h = record { valid = valid_put i v n h.valid; outside = h.outside }

live_key : (i k : ℕ) (n : Computer) → Live n → Live (computer (put_key n.cells i k) n.control)
live_key i k n h =
    record {
      valid =
          record {
            least = rw length_put_key h.valid.least;
            most = rw length_put_key h.valid.most;
            cells = cells_put_key n.cells i k h.valid.cells;
            widths = h.valid.widths;
            state = h.valid.state;
          };
      outside = h.outside;
    }

pub valid_control : (n : Computer) (c : Control) → Widths c → state_fits c ≡ true → Valid n → Valid (computer n.cells c)
valid_control n c w r h = record { least = h.least; most = h.most; cells = h.cells; widths = w; state = r }

pub live_control : (n : Computer) (c : Control) → Widths c → c.reset ≡ n.control.reset → Live n → Live (computer n.cells c)
live_control n c w q h =
    record { valid = valid_control n c w (state_outside c (q ∙ h.outside)) h.valid; outside = q ∙ h.outside }

live_closed : Closed Live
unfolding with_ic with_ir with_pending with_ex
live_closed =
    record {
      register = λ i v n l h. live_put i v n h;
      word_stored = λ i v n e h. live_put i v n h;
      counter = λ v n h. live_control n _ (omega (arith, h.valid.widths)) refl h;
      exception = λ v n h. live_control n _ (omega (arith, h.valid.widths)) refl h;
      interrupts = λ v n h. live_control n _ (omega (arith, h.valid.widths)) refl h;
      pending = λ v n h. live_control n _ (omega (arith, h.valid.widths)) refl h;
    }

pub live_step : (w : ℕ) (d : MonitorOp) (n : Computer) → w < 4 → Live n → Live (reached (monitor_step w d n))
unfolding monitor_step with_im with_ir with_pr with_enabled
live_step w (plain d) n l h = reach_step Live live_closed w d n l h
live_step w (set_key a v) n l h = live_key (a / 2) (v n) n h
live_step w (set_pr v) n l h = live_control n _ (omega (arith, h.valid.widths)) refl h
live_step w (set_im v) n l h = live_control n _ (omega (arith, h.valid.widths)) refl h
live_step w (set_ir v) n l h = live_control n _ (omega (arith, h.valid.widths)) refl h
live_step w (set_enabled e) n l h = live_control n _ (omega (arith, h.valid.widths)) refl h
live_step w (set_word a v) n l h = live_put (a / 2) (v n) n h

live_steps : (w : ℕ) (ds : List MonitorOp) (n : Computer) → w < 4 → Live n → Live (reached (monitor_steps w ds n))
unfolding monitor_steps
live_steps w [] n l h = h
live_steps w (d ∷ ds) n l h = reach_bind Live (monitor_step w d n) (monitor_steps w ds) (live_step w d n l h) (λ k p. live_steps w ds k l p)

pub in_reset_lem : (c : Control) → (reset_control c).reset ≡ true
unfolding reset_control
in_reset_lem c = refl

pub valid_reset : (n : Computer) → Valid n → Valid (reset_system n.cells n.control)
unfolding reset_system reset_control state_fits
valid_reset n h = valid_control (computer (put_word n.cells 5 n.control.ic) n.control) _ (omega (arith, h.widths)) refl (valid_put 5 n.control.ic n h)

pub valid_operation : (w : ℕ) (o : Operation) (n : Computer) → w < 4 → Live n → Valid (reached (execute_operation w o n))
unfolding execute_operation
valid_operation w (unprivileged ds) n l h = (reach_steps Live live_closed w ds n l h).valid
valid_operation w (privileged ds) n l h = reach_cond Valid (in_task n.control) _ _ (λ e. h.valid) (λ e. (live_steps w ds n l h).valid)
valid_operation w unassigned n l h = h.valid
