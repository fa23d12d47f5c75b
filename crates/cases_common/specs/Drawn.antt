-- The generator's next number, and the step of the checksum. Assumes nothing.
use Rattle.std.specs.Prelude.{ℕ, ◌+◌, ◌*◌, ◌%◌, ◌^◌}

-- behind s
abbrev pub next : ℕ → ℕ
next s = (s * 1664525 + 1013904223) % 2 ^ 32

-- the checksum h with x
abbrev pub mix : ℕ → ℕ → ℕ
mix h x = (h * 31 + x) % 2 ^ 32
