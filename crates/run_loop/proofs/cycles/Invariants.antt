use Rattle.std.proofs.Common.{◌≡◌, ◌-◌, ◌≤◌, false, length}
use Rattle.definition_instructions.specs.Machine.{machine}
use Rattle.definition_instructions.proofs.DeviceLaws.{ValidComputer}
use Rattle.definition_runs.specs.Timed.{timed_machine}
use Rattle.definition_runs.specs.Run.{run_cycles}
use Rattle.timer_row.specs.Row.{timer_at, BelowLimit}
use Rattle.channel_row.specs.Row.{channel_at, Same}
use Rattle.run_loop.proofs.Loop.{following}
use Rattle.run_loop.proofs.cycles.Given as goal

abbrev pub invariant-loop-left : goal.invariant-loop-left
invariant-loop-left l = record {
  within : l.left ≤ l.budget;
  cells : length l.s ≡ length l.initial.s;
  outside : l.k.reset ≡ false;
  below : BelowLimit l.t;
  same : Same l.initial.h l.h;
  valid : ValidComputer (machine l.s l.k (channel_at l.h));
  rest : following (l.budget - l.left) (run_cycles l.left (timed_machine l.s (record { registers = l.k; timer = timer_at l.t }) (channel_at l.h)))
      ≡ run_cycles l.budget (timed_machine l.initial.s (record { registers = l.initial.k; timer = timer_at l.initial.t }) (channel_at l.initial.h));
}

abbrev pub decreases-loop-left : goal.decreases-loop-left
decreases-loop-left l = l.left
