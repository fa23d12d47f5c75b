use native.Mathlib.Omega.{arith}
use borrow.Author.Tests.{eq-eqb, ne_eqb, le-leb, lt-leb}
use Rattle.definition_tape.proofs.Records.{length_payload}
use Rattle.tape_overlap.specs.Again.{cells_of}
use Rattle.tape_overlap.proofs.Names.{whole_fits}
use Rattle.std.proofs.Common.{rules}
use Rattle.tape_overlap.proofs.cells_named.Goals as goal

pub record_kind-requires : goal.record_kind-requires
record_kind-requires c = omega (arith, whole_fits _ c.requires)

pub record_length-requires : goal.record_length-requires
record_length-requires c = omega (arith, whole_fits _ c.requires)

pub payload-p-requires : goal.payload-p-requires
payload-p-requires c = whole_fits _ c.requires

pub block_named-requires : goal.block_named-requires
block_named-requires c = rw c.payload-p.ensures (omega (arith, length_payload _ (whole_fits _ c.requires)))

pub returns-then-record_length-ge8 : goal.returns-then-record_length-ge8
unfolding cells_of
returns-then-record_length-ge8 c = rw (
  ← c.record_kind.ensures,
  eq-eqb _ _ c.if-record_kind-eq1.true,
  ← c.record_length.ensures.value,
  le-leb _ _ c.if-record_length-ge8.true,
  ← c.payload-p.ensures,
  ← c.block_named.ensures,
)

pub returns-else-record_length-ge8 : goal.returns-else-record_length-ge8
unfolding cells_of
returns-else-record_length-ge8 c = rw (
  ← c.record_kind.ensures,
  eq-eqb _ _ c.if-record_kind-eq1.true,
  ← c.record_length.ensures.value,
  lt-leb _ _ c.if-record_length-ge8.false,
)

pub returns-else-record_kind-eq1 : goal.returns-else-record_kind-eq1
unfolding cells_of
returns-else-record_kind-eq1 c = rw (← c.record_kind.ensures, ne_eqb _ _ c.if-record_kind-eq1.false)
