use Rattle.capi_records.specs.Results.{run_call}
use Rattle.std.proofs.Common.{rules}
use Rattle.capi.proofs.rc4000_run.Goals as goal

pub returns-in-Ok : goal.returns-in-Ok
unfolding run_call
returns-in-Ok c = rw (
  ← c.judge_flags.ensures,
  c.in-Ok.is,
  ← c.from-c.ensures,
  ← c.run-x.ensures.exact,
  ← c.run_result.ensures,
)
