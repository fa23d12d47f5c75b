use Rattle.std.proofs.Common.{◌≡◌, length, take}
use Rattle.tape_write.specs.Steps.{put}
use Rattle.tape_write.proofs.put_text.Given as goal

abbrev pub invariant-loop-i : goal.invariant-loop-i
invariant-loop-i l = (length l.out ≡ length l.initial.out) × (l.out ≡ put l.initial.out l.at (take l.i l.text))
