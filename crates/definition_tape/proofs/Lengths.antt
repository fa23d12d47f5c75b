-- The length of a machine's tape. Assumes nothing.
use Prim.Native.Nat.{ℕ, ◌+◌}
use mathlib.Core.Path.{◌≡◌}
use mathlib.Core.Option.{Option}
use mathlib.Core.List.{List, []}
use native.Mathlib.Omega.{arith}
use lib.ListN.{length, length-append}
use Rattle.machine.specs.declared.Record.{Record}
use Rattle.definition_tape.specs.Blocks.{store_blocks}
use Rattle.definition_tape.specs.Bytes.{blocks_bytes, control_bytes, remark_record, tape_of}
use Rattle.definition_tape.proofs.Bytes.{length_record, length_control}

pub length_tape : (s : List ℕ) (c : Record) (m : Option (List ℕ)) → length (tape_of s c m) ≡ length (remark_record m) + length (blocks_bytes (store_blocks s)) + 45
unfolding tape_of
length_tape s c m =
    let k = length_record 2 (control_bytes c) in
    let n = length_control c in
    let e = length_record 3 [] in
    simp length-append (omega arith)
