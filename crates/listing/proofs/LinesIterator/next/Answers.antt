use Rattle.std.proofs.Common.{arith, rules, ap, length}
use Rattle.listing.proofs.Cut.{no_lines, next_line}
use Rattle.listing.proofs.LinesIterator.next.Goals as goal

pub returns-then-is_empty-clause-steps : goal.returns-then-is_empty-clause-steps
returns-then-is_empty-clause-steps c = let h = no_lines c.args.self.now.rest.now (grind arith) in (h, h)

pub returns-clause-steps : goal.returns-clause-steps
returns-clause-steps c = next_line c.args.self.now.rest.now _ _ (grind arith) c.to_newline-end.ensures.place c.min.ensures

pub returns-clause-goes : goal.returns-clause-goes
returns-clause-goes c =
    let h = ap length (next_line c.args.self.now.rest.now _ _ (grind arith) c.to_newline-end.ensures.place c.min.ensures) in
    record { on = λ f. (search rules, search rules, omega (arith, h)); keeps = search rules; rests = λ f. search rules }
