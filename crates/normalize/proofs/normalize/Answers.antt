use Rattle.normalize.proofs.Grow.{Apart, grow, apart_lt}
use Rattle.normalize.specs.Norm.{normal_at, norm_step, normalize}
use Rattle.registers.specs.Reg.{shl}
use Rattle.registers.proofs.Loops.{until_stop, until_next}
use borrow.Author.Tests.{eqb-true, not-false}
use Rattle.std.proofs.Common.{ℕ, false, ◌≡◌, ◌+◌, ◌-◌, ◌<◌, ◌≤◌, arith, refl, sym, ◌∙◌}
use Rattle.normalize.proofs.normalize.Goals as goal

-- the two left-most bits are equal: one step more
grown : (n i x : ℕ) → 1 < n → Apart n i x → normal_at n (record { word = x; shifts = i }) ≡ false → (i ≤ n - 2) × Apart n (i + 1) (shl n x)
grown n i x l a e = grow n i x l a (eqb-true _ _ (not-false _ e))

pub loop-x-init : goal.loop-x-init
unfolding normalize
loop-x-init g c = (record { low = omega arith; high = omega arith }, refl)

pub overflow_add-i : goal.overflow_add-i
overflow_add-i g c = let t = grown _ _ _ c.requires.width.0 c.loop-x.invariant.0 (sym c.bits_differ.ensures ∙ c.if-bits_differ.false) in omega arith

pub loop-x-smaller : goal.loop-x-smaller
loop-x-smaller g c = let t = grown _ _ _ c.requires.width.0 c.loop-x.invariant.0 (sym c.bits_differ.ensures ∙ c.if-bits_differ.false) in omega arith

pub loop-x-preserved : goal.loop-x-preserved
loop-x-preserved g c =
    let e = sym c.bits_differ.ensures ∙ c.if-bits_differ.false in
    let t = grown _ _ _ c.requires.width.0 c.loop-x.invariant.0 e in
    (rw c.shifted_left-x.ensures t.1, rw c.shifted_left-x.ensures (sym (until_next (normal_at g.row.N) (norm_step g.row.N) 48 _ _ (omega arith) e) ∙ c.loop-x.invariant.1))

pub returns-clause-value : goal.returns-clause-value
returns-clause-value g c = rw c.bits-2.ensures.value (sym (until_stop (normal_at g.row.N) (norm_step g.row.N) _ _ (sym c.bits_differ.ensures ∙ c.if-bits_differ.true)) ∙ c.loop-x.invariant.1)

pub returns-clause-bounds : goal.returns-clause-bounds
returns-clause-bounds g c = let l = apart_lt _ _ _ c.loop-x.invariant.0 in (omega arith, omega arith)
