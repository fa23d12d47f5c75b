use Rattle.std.proofs.Common.{◌≡◌, ◌-◌}
use Rattle.definition_runs.specs.Cycle.{first_request}
use Rattle.interruption.proofs.first_request.Given as goal

abbrev pub invariant-loop-p : goal.invariant-loop-p
invariant-loop-p l = first_request (24 - l.p) l.p l.ir l.im ≡ first_request 24 0 l.ir l.im
