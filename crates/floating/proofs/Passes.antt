-- The first passes of the loop of Divide Floating. BF starts with 36 bits that are equal; each pass shifts one digit in, so before each of the first 35 passes BF(0) = BF(1). Assumes nothing.
use mathlib.Core.Path.{◌≡◌, refl, sym, ap, ◌∙◌}
use mathlib.Core.Bool.{not}
use mathlib.Core.Logic.{◌⊎◌, inl, inr, ⊎_elim}
use Prim.Native.Nat.{ℕ, zero, suc, ◌+◌, ◌-◌, ◌*◌, ◌/◌, ◌%◌, ◌^◌, ◌≤◌, ◌<◌}
use native.Mathlib.Omega.{arith}
use native.Mathlib.Decide.{ℕ_discrete, dec_le}
use lib.Pow.{pow_mono}
use borrow.Author.Tests.{eq-eqb, ne_eqb}
use Rattle.registers.specs.Reg.{iter, until}
use Rattle.registers.proofs.Loops.{until_next}
use Rattle.normalize.proofs.Grow.{double}
use Rattle.floating.specs.declared.division.Quotient.{Quotient}
use Rattle.floating.specs.Divide.{fd_start, fd_step, fd_stop, fd_loop}

-- BF's bits are those of the sign, but for the last, one for each pass
pub record Filled (q : Quotient) : Type 0 where
  pub digit : q.digit < 2
  pub bits : (35 ≤ q.passes) ⊎ ((q.bf < 2 ^ q.passes) ⊎ ((2 ^ 36 ≤ q.bf + 2 ^ q.passes) × (q.bf < 2 ^ 36)))

pub filled_start : (x af : ℕ) → Filled (fd_start x af) × ((fd_start x af).passes ≡ 0)
unfolding fd_start
filled_start x af =
    elim (ℕ_discrete (af / 2 ^ 38) (x / 2 ^ 38)) [
      | yes e ↦ rw (eq-eqb _ _ e) (record { digit = omega arith; bits = inr (inl (omega arith)) }, refl)
      | no n ↦ rw (ne_eqb _ _ n) (record { digit = omega arith; bits = inr (inr (omega arith, omega arith)) }, refl)
    ]

-- one digit more
zeros : (b d p : ℕ) → d < 2 → p < 34 → b < 2 ^ p → b * 2 % 2 ^ 36 + d < 2 ^ (p + 1)
zeros b d p h l e = let m : 2 ^ p ≤ 2 ^ 34 = pow_mono {i = p} {j = 34} (omega arith) in omega (arith, double p)

ones : (b d p : ℕ) → d < 2 → p < 34 → 2 ^ 36 ≤ b + 2 ^ p → b < 2 ^ 36 → (2 ^ 36 ≤ b * 2 % 2 ^ 36 + d + 2 ^ (p + 1)) × (b * 2 % 2 ^ 36 + d < 2 ^ 36)
ones b d p h l e f =
    let m : 2 ^ p ≤ 2 ^ 34 = pow_mono {i = p} {j = 34} (omega arith) in
    let g : b * 2 % 2 ^ 36 + 2 ^ 36 ≡ 2 * b = omega arith in
    (omega (arith, double p), omega arith)

pub filled_step : (x : ℕ) (q : Quotient) → Filled q → Filled (fd_step x q)
filled_step x q h =
    record {
      digit = omega arith;
      bits =
          elim (dec_le 34 q.passes) [
            | yes l ↦ inl (omega arith)
            | no n ↦
                (let k : q.passes < 34 = omega arith in
                ⊎_elim
                (λ l. absurd (omega arith))
                (λ r. inr (⊎_elim (λ z. inl (zeros q.bf q.digit q.passes h.digit k z)) (λ z. inr (ones q.bf q.digit q.passes h.digit k z.0 z.1)) r))
                h.bits)
          ];
    }

-- before each of the first 35 passes BF(0) = BF(1)
pub bits_equal_lem : (b p : ℕ) → p < 35 → (b < 2 ^ p) ⊎ ((2 ^ 36 ≤ b + 2 ^ p) × (b < 2 ^ 36)) → b / 2 ^ 35 ≡ b / 2 ^ 34 % 2
bits_equal_lem b p l h =
    let m : 2 ^ p ≤ 2 ^ 34 = pow_mono {i = p} {j = 34} (omega arith) in
    ⊎_elim
    (λ z. let u : b / 2 ^ 35 ≡ 0 = omega arith in let v : b / 2 ^ 34 ≡ 0 = omega arith in omega arith)
    (λ z. let u : b / 2 ^ 35 ≡ 1 = omega arith in let v : b / 2 ^ 34 ≡ 3 = omega arith in omega arith)
    h

-- so 35 passes are made with no test
record First (x af i : ℕ) (q : Quotient) : Type 0 where
  pub filled : Filled q
  pub count : q.passes ≡ i
  pub rest : until fd_stop (fd_step x) (71 - i) q ≡ fd_loop x af

first : (x af i : ℕ) → i ≤ 35 → First x af i (iter (fd_step x) i (fd_start x af))
unfolding fd_loop iter
first x af zero h = record { filled = (filled_start x af).0; count = (filled_start x af).1; rest = refl }
first x af (suc i) h =
    let q : Quotient = iter (fd_step x) i (fd_start x af) in
    let p = first x af i (omega arith) in
    let c = p.count in
    let n : 71 - suc i ≡ 71 - (i + 1) = omega arith in
    let b : q.bf / 2 ^ 35 ≡ q.bf / 2 ^ 34 % 2 = bits_equal_lem q.bf q.passes (omega arith) (⊎_elim (λ l. absurd (omega arith)) (λ r. r) p.filled.bits) in
    record {
      filled = filled_step x q p.filled;
      count = omega arith;
      rest = ap (λ (k : ℕ). until fd_stop (fd_step x) k (fd_step x q)) n ∙ sym (until_next fd_stop (fd_step x) 71 i q (omega arith) (ap not (eq-eqb _ _ b))) ∙ p.rest;
    }

pub first_passes : (x af : ℕ) (q : Quotient) → q ≡ iter (fd_step x) 35 (fd_start x af) → until fd_stop (fd_step x) 36 q ≡ fd_loop x af
first_passes x af q e = rw e (first x af 35 (omega arith)).rest
