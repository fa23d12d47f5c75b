use mathlib.Core.Path.{sym, ◌∙◌}
use Rattle.panel_keys.proofs.Laws.{fits_a_key, key_accepted, key_rejected}
use Rattle.panel_keys.proofs.press_autoload.Goals as goal

pub autoload_key-requires : goal.autoload_key-requires
autoload_key-requires c = fits_a_key _ _ _ _ (sym c.in-Ok.is ∙ c.judge_autoload.ensures)

pub returns-in-Ok : goal.returns-in-Ok
returns-in-Ok c = key_accepted _ _ _ _ _ (sym c.in-Ok.is ∙ c.judge_autoload.ensures) c.autoload_key.ensures

pub returns-in-Err : goal.returns-in-Err
returns-in-Err c = key_rejected _ _ _ _ _ (sym c.in-Err.is ∙ c.judge_autoload.ensures)
