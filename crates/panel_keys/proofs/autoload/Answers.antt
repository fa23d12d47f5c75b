use Rattle.std.proofs.Common.{rules}
use Rattle.panel_keys.proofs.Laws.{narrow, key_made}
use Rattle.panel_keys.proofs.autoload.Goals as goal

pub of-k-requires : goal.of-k-requires
of-k-requires c = narrow _ _ _ c.requires.0 c.autoload_record.ensures

pub autoload-e-requires : goal.autoload-e-requires
autoload-e-requires c = rw c.new-h.ensures.value c.requires.3

pub returns : goal.returns
returns c = rw (
  c.control.ensures,
  c.saturating_sub.ensures,
  c.left.ensures,
) (key_made c.autoload-e.result _ _ _ _ _ _ _ _ _ (search rules) c.requires.0 (rw (c.of-k.ensures, c.autoload_record.ensures, c.new-h.ensures.value) at c.autoload-e.ensures.value))
