-- The measure of the cycle of calls {first}: the tape's length. Assumes nothing.
use Rattle.std.proofs.Common.{length}
use Rattle.tape_records.proofs.+first.Given as goal

abbrev pub decreases-first : goal.decreases-first
decreases-first l = length l.tape.now
