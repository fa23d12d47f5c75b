use Rattle.std.proofs.Common.{length, unwrap_or}
use Rattle.std.specs.Iterator.Adapters.{enumerate_source, enumerate_count}
use Rattle.definition_tape.specs.Layout.{records_of}
use Rattle.tape_judge.proofs.Steps.{Judging}
use Rattle.tape_judge.proofs.judge_records.Given as goal

abbrev pub invariant-loop-n : goal.invariant-loop-n
invariant-loop-n l = record {
  can_next : (goal.iterator-loop-n).can_next l.n-iterator;
  is_finite : (goal.iterator-loop-n).is_finite l.n-iterator;
  judging : Judging l.cells (records_of l.tape) (records_of (enumerate_source l.n-iterator).rest.now) (unwrap_or l.first (length (records_of l.tape))) (enumerate_count l.n-iterator) l.after;
}
