use Rattle.capi_records.specs.Results.{overlay_call}
use Rattle.std.proofs.Common.{rules}
use Rattle.capi.proofs.rc4000_overlay.Goals as goal

pub returns : goal.returns
unfolding overlay_call
returns c = let e = c.overlay-x.ensures in rw (
  ← c.from-c.ensures,
  ← e.state,
  ← e.cells,
  ← c.state_result.ensures,
)
