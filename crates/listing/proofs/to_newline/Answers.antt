use Rattle.std.proofs.Common.{ap, ◌∙◌}
use Rattle.std.specs.Option.{unwrap_or}
use Rattle.std.proofs.Common.{length}
use Rattle.listing.proofs.Cut.{newline_found}
use Rattle.listing.proofs.to_newline.Goals as goal

pub returns-clause-place : goal.returns-clause-place
returns-clause-place c = c.unwrap_or.ensures ∙ ap (λ o. unwrap_or o (length c.args.text.now)) c.newline.ensures ∙ newline_found c.args.text.now
