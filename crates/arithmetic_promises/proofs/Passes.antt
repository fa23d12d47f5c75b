-- How many passes the loop of Divide Floating makes. Assumes nothing.
use mathlib.Core.Path.{◌≡◌, refl}
use mathlib.Core.Bool.{Bool, true, false}
use mathlib.Core.Logic.{⊎_elim}
use Prim.Native.Nat.{ℕ, zero, suc, ◌+◌, ◌≤◌}
use native.Mathlib.Omega.{arith}
use native.Mathlib.Decide.{dec_le}
use borrow.Author.Tests.{eqb-false, not-true}
use Rattle.registers.specs.Reg.{until}
use Rattle.registers.proofs.Loops.{until_stop, until_go, until_keep}
use Rattle.floating.specs.declared.division.Quotient.{Quotient}
use Rattle.floating.specs.Operands.{fraction, register_fraction, storage_fraction, signed_sf}
use Rattle.arithmetic_promises.specs.Claims.{DividePasses}
use Rattle.floating.specs.Divide.{fd_start, fd_step, fd_stop, fd_loop}
use Rattle.floating.proofs.Passes.{Filled, filled_start, filled_step, bits_equal_lem}
use Rattle.arithmetic_promises.proofs.Ends.{divide_ends}

-- at most n passes more
at_most : (x n : ℕ) (q : Quotient) → (until fd_stop (fd_step x) n q).passes ≤ q.passes + n
unfolding until
at_most x zero q = omega arith
at_most x (suc n) q = go (fd_stop q) refl (at_most x n (fd_step x q))
  where
    go : (b : Bool) → fd_stop q ≡ b → (until fd_stop (fd_step x) n (fd_step x q)).passes ≤ q.passes + 1 + n → (until fd_stop (fd_step x) (suc n) q).passes ≤ q.passes + suc n
    go true e h = rw (until_stop fd_stop (fd_step x) (suc n) q e) (omega arith)
    go false e h = rw (until_go fd_stop (fd_step x) n q e) (omega arith)

enough : (q : Quotient) → fd_stop q ≡ true → Filled q → 35 ≤ q.passes
enough q e h =
    elim (dec_le 35 q.passes) [
      | yes l ↦ l
      | no n ↦ ⊎_elim (λ l. l) (λ r. absurd (eqb-false _ _ (not-true _ e) (bits_equal_lem q.bf q.passes (omega arith) r))) h.bits
    ]

pub divide_passes : DividePasses
unfolding fd_loop
divide_passes pre word first second hp hw hf hs n =
    let x : ℕ = signed_sf (storage_fraction (fraction first second)) in
    let af : ℕ = register_fraction (fraction pre word) in (
      enough (fd_loop x af) (divide_ends pre word first second hp hw hf hs n) (until_keep fd_stop (fd_step x) Filled (λ q e. filled_step x q) 71 (fd_start x af) (filled_start x af).0),
      omega (arith, at_most x 71 (fd_start x af), (filled_start x af).1),
    )
