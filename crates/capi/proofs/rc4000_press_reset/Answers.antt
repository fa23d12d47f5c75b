use Rattle.capi_records.specs.Results.{reset_call}
use Rattle.std.proofs.Common.{rules}
use Rattle.capi.proofs.rc4000_press_reset.Goals as goal

pub returns-in-Ok : goal.returns-in-Ok
unfolding reset_call
returns-in-Ok c = rw (
  ← c.judge_flags.ensures,
  c.in-Ok.is,
  ← c.from-c.ensures,
  ← c.press_reset-x.ensures,
  ← c.state_result.ensures,
)
