use borrow.Author.Tests.{le-leb}
use Rattle.definition_instructions.specs.Channel.{four_left}
use Rattle.panel_keys.proofs.Laws.{key_in_reset, key_short, key_elsewhere}
use Rattle.panel_keys.proofs.autoload_key.Goals as goal
use Rattle.panel_keys.proofs.autoload_key.Goals.{else-r-via-then-r+else-characters-ge4, else-r-via-else-r}

pub autoload-requires : goal.autoload-requires
unfolding four_left
autoload-requires c = let pre = c.requires in (pre.0, pre.1, pre.2, le-leb _ _ c.if-characters-ge4.true)

pub returns-then-characters-ge4 : goal.returns-then-characters-ge4
returns-then-characters-ge4 c = key_in_reset _ _ _ _ _ _ c.if-r.true c.if-characters-ge4.true c.autoload.ensures

pub returns : goal.returns
returns c = elim c.else-r.branch [
  | else-r-via-then-r+else-characters-ge4 w ↦ key_short _ _ _ _ _ w.if-characters-ge4.false
  | else-r-via-else-r w ↦ key_elsewhere _ _ _ _ _ w.if-r.false
]
