-- The integers that registers hold.
use Rattle.std.specs.Prelude.{ℕ, suc, ◌-◌, ◌*◌, ◌%◌, ◌^◌, ℤ, pos, negsuc}
use Rattle.std.proofs.Math.IntN.{sub_ℕ}
use Rattle.registers.specs.Reg.{sign}

-- x, of n bits, as a signed number: less 2 ** n where the left-most bit is 1
unfoldable pub integer : ℕ → ℕ → ℤ
integer n x = sub_ℕ x (sign n x * 2 ^ n)

-- z modulo 2 ** n, as a register of n bits has it
unfoldable pub modulo : ℕ → ℤ → ℕ
modulo n (pos a) = a % 2 ^ n
modulo n (negsuc a) = 2 ^ n - suc (a % 2 ^ n)
