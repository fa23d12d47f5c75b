use Rattle.std.proofs.Common.{arith, refl, sym, ◌∙◌}
use Rattle.tape_records.proofs.Rows.{header}
use Rattle.tape_load.proofs.Laid.{loading_start, no_end, fits, block_fits, loading_next, control_size, control_is, cells_are, a_block, no_block}
use Rattle.tape_load.proofs.lay.Goals as goal

pub loop-t-init : goal.loop-t-init
loop-t-init c = rw (c.into_iter-t-iterator.ensures.into_iter_gives, c.of-t-items.ensures) (loading_start _ _ c.requires)

pub record_kind-kind-requires : goal.record_kind-kind-requires
record_kind-kind-requires c = header _ _ _ c.in-Some.ensures.steps

pub payload-requires : goal.payload-requires
payload-requires c = (fits _ _ _ _ _ _ _ c.loop-t.invariant c.in-Some.ensures.steps).whole

pub record_of-requires : goal.record_of-requires
record_of-requires c = control_size _ _ _ _ _ _ _ c.loop-t.invariant c.in-Some.ensures.steps _ (sym c.record_kind-kind.ensures ∙ c.if-kind-number.true ∙ c.number.ensures) c.payload.ensures

pub returns-then-kind-number-clause-control : goal.returns-then-kind-number-clause-control
returns-then-kind-number-clause-control c =
    rw (c.record_of.ensures, c.payload.ensures) (control_is _ _ _ _ _ _ _ c.loop-t.invariant c.in-Some.ensures.steps (sym c.record_kind-kind.ensures ∙ c.if-kind-number.true ∙ c.number.ensures))

pub returns-then-kind-number-clause-cells : goal.returns-then-kind-number-clause-cells
returns-then-kind-number-clause-cells c = cells_are _ _ _ _ _ _ _ c.loop-t.invariant c.in-Some.ensures.steps (sym c.record_kind-kind.ensures ∙ c.if-kind-number.true ∙ c.number.ensures)

pub payload-requires-then-kind-number-2 : goal.payload-requires-then-kind-number-2
payload-requires-then-kind-number-2 c = (fits _ _ _ _ _ _ _ c.loop-t.invariant c.in-Some.ensures.steps).whole

pub load_block-requires : goal.load_block-requires
load_block-requires c =
    block_fits _ _ _ _ _ _ _ c.loop-t.invariant c.in-Some.ensures.steps _ (sym c.record_kind-kind.ensures ∙ c.if-kind-number-2.true ∙ c.number-in-loop-t.ensures) c.payload-then-kind-number-2.ensures

pub loop-t-preserved-then-kind-number-2 : goal.loop-t-preserved-then-kind-number-2
loop-t-preserved-then-kind-number-2 c =
    let k = sym c.record_kind-kind.ensures ∙ c.if-kind-number-2.true ∙ c.number-in-loop-t.ensures in
    loading_next _ _ _ _ _ _ _ c.loop-t.invariant c.in-Some.ensures.steps _ (λ z. omega (arith, k)) (a_block _ _ _ _ k c.payload-then-kind-number-2.ensures c.load_block.ensures) c.load_block.auto.store

pub loop-t-preserved : goal.loop-t-preserved
loop-t-preserved c =
    loading_next _ _ _ _ _ _ _ c.loop-t.invariant c.in-Some.ensures.steps _ (λ z. c.if-kind-number.false (c.record_kind-kind.ensures ∙ z ∙ sym c.number.ensures))
    (no_block _ _ (λ z. c.if-kind-number-2.false (c.record_kind-kind.ensures ∙ z ∙ sym c.number-in-loop-t.ensures))) refl

pub unreachable-requires : goal.unreachable-requires
unreachable-requires c = no_end _ _ _ _ _ c.loop-t.invariant c.in-None.ensures.steps.0
