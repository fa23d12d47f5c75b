-- The instruction format (3.4, A.2): F (6 bits), W (2), M (2), X (2), D (12).
-- Assumes nothing.
use Rattle.std.specs.Prelude.{ℕ, ◌/◌, ◌%◌}
use Rattle.machine.specs.declared.Instruction.{Instruction}

-- FR(0:5), FR(6:7), FR(8:9), FR(10:11) and the displacement byte
unfoldable pub instruction_fields : ℕ → Instruction
instruction_fields v = record { code = v / 262144; w = v / 65536 % 4; m = v / 16384 % 4; x = v / 4096 % 4; d = v % 4096 }
