use Rattle.std.proofs.Common.{length}
use Rattle.definition_tape.specs.Layout.{records_of}
use Rattle.tape_load.proofs.Laid.{Loading}
use Rattle.tape_load.proofs.lay.Given as goal

abbrev pub invariant-loop-t : goal.invariant-loop-t
invariant-loop-t l = Loading (length l.initial.store) l.tape l.initial.store (records_of l.t-iterator.rest.now) l.store
