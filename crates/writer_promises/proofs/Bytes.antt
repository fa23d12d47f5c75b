-- A written tape is a row of bytes. Assumes nothing.
use Prim.Native.Nat.{ℕ, ◌%◌}
use mathlib.Core.Path.{◌≡◌, refl}
use mathlib.Core.Option.{Option, none, some}
use mathlib.Core.List.{List, [], ◌∷◌, ◌++◌}
use native.Mathlib.Omega.{arith}
use lib.ListN.{length}
use Rattle.machine.specs.declared.Control.{Control}
use Rattle.machine.specs.declared.Timer.{Timer}
use Rattle.machine.specs.declared.Record.{Record}
use Rattle.definition_tape.specs.Blocks.{Block, store_blocks}
use Rattle.definition_tape.specs.Bytes.{bytes2, bytes4, header_bytes, record_bytes, cells_bytes, block_bytes, blocks_bytes, state_bytes, timer_bytes, control_bytes, remark_record, tape_of}
use Rattle.definition_tape.proofs.Bytes.{flags_small}
use Rattle.writer_promises.specs.Claims.{AllBytes, TapeBytes}

both_bytes : (s t : List ℕ) → AllBytes s → AllBytes t → AllBytes (s ++ t)
unfolding AllBytes
both_bytes [] t a b = b
both_bytes (x ∷ s) t a b = (a.0, both_bytes s t a.1 b)

four : (n : ℕ) → AllBytes (bytes4 n)
unfolding AllBytes
four n = (omega arith, (omega arith, (omega arith, (omega arith, tt))))

-- a record is a row of bytes where its payload is
record_bytes_lem : (k : ℕ) (p : List ℕ) → AllBytes p → AllBytes (record_bytes k p)
unfolding record_bytes header_bytes AllBytes
record_bytes_lem k p a = both_bytes (header_bytes k (length p)) p (both_bytes (bytes4 (length p)) (bytes2 k) (four (length p)) (omega arith, (omega arith, tt))) a

cells_bytes_lem : (cs : List ℕ) → AllBytes (cells_bytes cs)
unfolding cells_bytes AllBytes
cells_bytes_lem [] = tt
cells_bytes_lem (x ∷ cs) = both_bytes (bytes4 x) (cells_bytes cs) (four x) (cells_bytes_lem cs)

blocks_bytes_lem : (bs : List Block) → AllBytes (blocks_bytes bs)
unfolding blocks_bytes block_bytes AllBytes
blocks_bytes_lem [] = tt
blocks_bytes_lem (b ∷ bs) =
    both_bytes (record_bytes 1 (block_bytes b)) (blocks_bytes bs)
    (record_bytes_lem 1 (block_bytes b) (both_bytes (bytes4 b.first) (cells_bytes b.cells) (four b.first) (cells_bytes_lem b.cells)))
    (blocks_bytes_lem bs)

state_bytes_lem : (c : Control) → AllBytes (state_bytes c)
unfolding AllBytes
state_bytes_lem c = let l = flags_small c.monitor c.enabled c.reset in (omega arith, (omega arith, (omega arith, (omega arith, tt))))

line_byte : (n : ℕ) → AllBytes (n % 256 ∷ [])
unfolding AllBytes
line_byte n = (omega arith, tt)

timer_bytes_lem : (t : Timer) → AllBytes (timer_bytes t)
timer_bytes_lem t =
    both_bytes (bytes4 t.elapsed) _ (four t.elapsed)
    (both_bytes (bytes4 t.period) _ (four t.period) (both_bytes (bytes4 t.phase) _ (four t.phase) (line_byte t.line)))

control_bytes_lem : (r : Record) → AllBytes (control_bytes r)
unfolding control_bytes
control_bytes_lem r =
    let c = r.registers in
    both_bytes (bytes4 c.ic) _ (four c.ic)
    (both_bytes (bytes4 c.ir) _ (four c.ir)
    (both_bytes (bytes4 c.im) _ (four c.im)
    (both_bytes (bytes4 c.pending) _ (four c.pending) (both_bytes (state_bytes c) (timer_bytes r.timer) (state_bytes_lem c) (timer_bytes_lem r.timer)))))

remark_bytes_lem : (m : Option (List ℕ)) → ((r : List ℕ) → m ≡ some r → AllBytes r) → AllBytes (remark_record m)
unfolding remark_record AllBytes
remark_bytes_lem none h = tt
remark_bytes_lem (some r) h = record_bytes_lem 4 r (h r refl)

pub tape_bytes_lem : TapeBytes
unfolding tape_of AllBytes
tape_bytes_lem s c m h =
    both_bytes (remark_record m) _ (remark_bytes_lem m h)
    (both_bytes (blocks_bytes (store_blocks s)) _ (blocks_bytes_lem (store_blocks s))
    (both_bytes (record_bytes 2 (control_bytes c)) (record_bytes 3 []) (record_bytes_lem 2 (control_bytes c) (control_bytes_lem c)) (record_bytes_lem 3 [] tt)))
