use Rattle.std.proofs.Common.{rules}
use Rattle.address_expression.proofs.Ranges.{judged_deep, judged_none, judged_within, judged_above, judged_below}
use Rattle.address_expression.proofs.judge.Goals as goal

pub returns-then-x-gt-MOST_OPEN : goal.returns-then-x-gt-MOST_OPEN
returns-then-x-gt-MOST_OPEN c = judged_deep c.args.x c.if-x-gt-MOST_OPEN.true

pub returns-in-Some : goal.returns-in-Some
returns-in-Some c = judged_within c.args.x c.if-x-gt-MOST_OPEN.false _ c.in-Some.is (search rules) c.if-z-ge-LEAST_DISPLACEMENT.true c.if-z-le-GREATEST_DISPLACEMENT.true _ c.displacement.ensures

pub returns-in_default : goal.returns-in_default
returns-in_default c = judged_above c.args.x c.if-x-gt-MOST_OPEN.false _ c.in-Some.is (search rules) c.if-z-le-GREATEST_DISPLACEMENT.false

pub returns-in_default-2 : goal.returns-in_default-2
returns-in_default-2 c = judged_below c.args.x c.if-x-gt-MOST_OPEN.false _ c.in-Some.is (search rules) c.if-z-ge-LEAST_DISPLACEMENT.false

pub returns-in_default-3 : goal.returns-in_default-3
returns-in_default-3 c = judged_none c.args.x c.if-x-gt-MOST_OPEN.false c.in_default.is
