use Rattle.capi_records.specs.Results.{start_call}
use Rattle.std.proofs.Common.{rules}
use Rattle.capi.proofs.rc4000_press_start.Goals as goal

pub returns-in-Ok : goal.returns-in-Ok
unfolding start_call
returns-in-Ok c = rw (
  ← c.judge_flags.ensures,
  c.in-Ok.is,
  ← c.from-c.ensures,
  ← c.press_start-x.ensures,
  ← c.state_result.ensures,
)
