use Rattle.capi_records.specs.Results.{autoload_call}
use Rattle.std.proofs.Common.{rules}
use Rattle.capi.proofs.rc4000_press_autoload.Goals as goal

pub returns-in-Ok : goal.returns-in-Ok
unfolding autoload_call
returns-in-Ok c = rw (
  ← c.judge_flags.ensures,
  c.in-Ok.is,
  ← c.from-c.ensures,
  ← c.press_autoload-x.ensures,
  ← c.autoload_result.ensures,
)
