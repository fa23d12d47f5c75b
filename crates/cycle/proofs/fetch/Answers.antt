use Rattle.cycle.proofs.Steps.{fetch_ending}
use Rattle.cycle.proofs.fetch.Goals as goal

pub returns-then-is_fetch_absent-clause-value : goal.returns-then-is_fetch_absent-clause-value
returns-then-is_fetch_absent-clause-value c = rw (fetch_ending, ← (rw c.ic-ic.ensures at c.is_fetch_absent.ensures), c.if-is_fetch_absent.true)

pub decode-requires : goal.decode-requires
decode-requires c = rw c.ic-ic.ensures at c.fetched-v.ensures

pub returns-clause-value : goal.returns-clause-value
returns-clause-value c = rw (fetch_ending, ← (rw c.ic-ic.ensures at c.is_fetch_absent.ensures), c.if-is_fetch_absent.false) c.decode.ensures.value
