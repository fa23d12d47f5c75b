-- `normalize_round` in the code's two ways: one pass, or one more after rounding up. Assumes nothing.
use mathlib.Core.Path.{◌≡◌, ap, ◌∙◌, sym}
use Prim.Native.Nat.{◌/◌, ◌%◌}
use borrow.Author.Tests.{eq-eqb, ne_eqb}
use Rattle.registers.specs.Reg.{until}
use Rattle.registers.proofs.Loops.{until_stop, until_go}
use Rattle.rounding.specs.declared.Unpacked.{Unpacked}
use Rattle.rounding.specs.Round.{normalize_once, round_up, no_rounding, round_again, normalize_round}

pub round_stop : (x y : Unpacked) → y ≡ normalize_once x → y.af / 2 % 2 ≡ 0 → y ≡ normalize_round x
unfolding normalize_round
round_stop x y e h = e ∙ sym (until_stop no_rounding round_again 1 (normalize_once x) (ap no_rounding (sym e) ∙ eq-eqb _ _ h))

pub round_go : (x y z : Unpacked) → y ≡ normalize_once x → (y.af / 2 % 2 ≡ 0 → ⊥) → z ≡ normalize_once (round_up y) → z ≡ normalize_round x
unfolding normalize_round until
round_go x y z e h g = g ∙ ap round_again e ∙ sym (until_go no_rounding round_again 0 (normalize_once x) (ap no_rounding (sym e) ∙ ne_eqb _ _ h))
