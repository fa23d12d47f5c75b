use Rattle.capi_records.specs.Results.{load_call}
use Rattle.std.proofs.Common.{rules}
use Rattle.capi.proofs.rc4000_load.Goals as goal

pub returns : goal.returns
unfolding load_call
returns c = let e = c.load-x.ensures in rw (
  ← c.from-c.ensures,
  ← e.state,
  ← e.cells,
  ← c.state_result.ensures,
)
