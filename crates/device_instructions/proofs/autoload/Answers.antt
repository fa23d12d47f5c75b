use Rattle.channel_row.specs.Row.{channel_at}
use Rattle.device_instructions.proofs.AutoloadLaws.{loaded, loaded_nowhere}
use mathlib.Core.Path.{sym, ◌∙◌}
use Rattle.device_instructions.proofs.autoload.Goals as goal

pub returns-then-is_absent-clause-value : goal.returns-then-is_absent-clause-value
returns-then-is_absent-clause-value c = let i1 = c.input-a.ensures in
    let i2 = c.input-b.ensures in
    let i3 = c.input-c.ensures in
    let i4 = c.input-v.ensures in
    rw (loaded_nowhere _ _ _ _ (sym c.is_absent.ensures ∙ c.if-is_absent.true), ← i1.channel, ← i1.control, ← i2.channel, ← i2.control, ← i3.channel, ← i3.control, ← i4.channel, ← i4.control)

pub returns-clause-value : goal.returns-clause-value
returns-clause-value c = let i1 = c.input-a.ensures in
    let i2 = c.input-b.ensures in
    let i3 = c.input-c.ensures in
    let i4 = c.input-v.ensures in
    let h = channel_at c.args.h.now in
    rw (loaded _ _ _ h c.requires (sym c.is_absent.ensures ∙ c.if-is_absent.false), ← i1.channel, ← i1.control, ← i1.register, ← i2.channel, ← i2.control, ← i2.register, ← i3.channel, ← i3.control, ← i3.register, ← i4.channel, ← i4.control, ← i4.register, ← c.load.ensures)
