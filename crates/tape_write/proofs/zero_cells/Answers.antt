use Rattle.std.proofs.Common.{sym, ◌∙◌}
use native.Mathlib.Nat.{add-sub_cancel_left}
use Rattle.tape_write.proofs.Passes.{blocks_zero, blocks_zeros}
use Rattle.tape_write.proofs.zero_cells.Goals as goal

pub returns-then-all_zero-clause-blocks : goal.returns-then-all_zero-clause-blocks
returns-then-all_zero-clause-blocks c =
    let e = rw (add-sub_cancel_left c.args.i 256) at c.all_zero.ensures in
    blocks_zeros c.args.store.now c.args.i 256 (sym e ∙ c.if-all_zero.true)

pub returns-else-i-eq0-clause-blocks : goal.returns-else-i-eq0-clause-blocks
returns-else-i-eq0-clause-blocks c = blocks_zero c.args.store.now c.args.i c.requires.0 c.requires.1
