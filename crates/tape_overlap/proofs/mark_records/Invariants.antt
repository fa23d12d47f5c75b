use Rattle.std.proofs.Common.{◌≡◌, ◌+◌, length, take}
use Rattle.std.specs.Iterator.Adapters.{enumerate_source, enumerate_count, take_source, take_count}
use Rattle.definition_tape.specs.Layout.{records_of}
use Rattle.tape_overlap.specs.Again.{Marks}
use Rattle.tape_overlap.proofs.Passes.{Passed}
use Rattle.tape_overlap.proofs.Marked.{Unnamed}
use Rattle.tape_overlap.proofs.mark_records.Given as goal

abbrev pub invariant-loop-n : goal.invariant-loop-n
invariant-loop-n l =
    let n = enumerate_count l.n-iterator in
    let left = enumerate_source l.n-iterator in
    record {
      can_next : (goal.iterator-loop-n).can_next l.n-iterator;
      is_finite : (goal.iterator-loop-n).is_finite l.n-iterator;
      words : length l.marks ≡ 8192;
      most : n + take_count left ≡ l.most;
      passed : Passed (records_of l.tape) (records_of (take_source left).rest.now) n;
      marks : Marks l.low (take n (records_of l.tape)) l.marks;
      beyond : Unnamed (records_of l.tape) n l.high;
    }
