use Rattle.definition_tape.specs.Layout.{records_of}
use Rattle.tape_overlap.proofs.Passes.{Risen}
use Rattle.tape_overlap.proofs.rising.Given as goal

abbrev pub invariant-loop-t : goal.invariant-loop-t
invariant-loop-t l = Risen (records_of l.tape) (records_of l.t-iterator.rest.now) l.high
