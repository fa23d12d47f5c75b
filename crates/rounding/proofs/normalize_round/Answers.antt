use Rattle.std.proofs.Common.{ℕ, ◌∙◌, ap, arith}
use Rattle.rounding.specs.Round.{normalize_once}
use Rattle.rounding.proofs.Once.{round_stop, round_go}
use Rattle.rounding.proofs.normalize_round.Goals as goal

pub returns-then-bits-eq0 : goal.returns-then-bits-eq0
returns-then-bits-eq0 c = round_stop _ _ c.normalize_once-y.ensures (rw c.bits.ensures.value at c.if-bits-eq0.true)

pub returns : goal.returns
returns c = round_go _ _ _ c.normalize_once-y.ensures (rw c.bits.ensures.value at c.if-bits-eq0.false) (c.normalize_once.ensures ∙ ap (λ (n : ℕ). normalize_once (record { af = n; sc = c.normalize_once-y.result.sc })) (omega arith))
