use Prim.Native.Nat.{ℕ}
use native.Mathlib.Omega.{arith}
use lib.ListN.{length-replicate}
use Rattle.tape_overlap.proofs.Marked.{marks_none}
use Rattle.std.proofs.Common.{rules}
use Rattle.tape_overlap.proofs.search_part.Goals as goal

pub mark_records-requires : goal.mark_records-requires
mark_records-requires c = (length-replicate {A = ℕ} 8192 0, marks_none _ 8192 (omega arith))
