use Rattle.tape_overlap.specs.Again.{is_whole}
use borrow.Author.Tests.{lt-ltb, le-ltb}
use Rattle.std.proofs.Common.{rules}
use Rattle.tape_overlap.proofs.whole.Goals as goal

pub returns-then-t-lt6 : goal.returns-then-t-lt6
unfolding is_whole
returns-then-t-lt6 c = rw (lt-ltb _ _ c.if-t-lt6.true)

pub returns : goal.returns
unfolding is_whole
returns c = rw (le-ltb _ _ c.if-t-lt6.false, ← c.record_length.ensures.value)
