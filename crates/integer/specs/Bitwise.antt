-- Logical operations (manual, 14.8 LA, LO, LX, IC): for bit := 0 step 1 until 23 do W(bit) := the rule of W(bit) and SB(bit).
use Rattle.std.specs.Prelude.{◌≡◌, ℕ, zero, suc, ◌+◌, ◌*◌, ◌^◌, cond, not, ◌&&◌, ◌||◌, ◌==◌, refl}
use Rattle.registers.specs.Reg.{bit_from_right}

-- the last n bits of the result, each by the rule from the bits at its place
unfoldable pub each : (ℕ → ℕ → ℕ) → ℕ → ℕ → ℕ → ℕ
each f zero a b = 0
each f (suc n) a b = f (bit_from_right n a) (bit_from_right n b) * 2 ^ n + each f n a b

-- if W(bit) = 1 and SB(bit) = 1 then 1 else 0
abbrev pub and_bit : ℕ → ℕ → ℕ
and_bit x y = cond (x == 1 && y == 1) 1 0

-- if W(bit) = 1 or SB(bit) = 1 then 1 else 0
abbrev pub or_bit : ℕ → ℕ → ℕ
or_bit x y = cond (x == 1 || y == 1) 1 0

-- if W(bit) <> SB(bit) then 1 else 0
abbrev pub xor_bit : ℕ → ℕ → ℕ
xor_bit x y = cond (not (x == y)) 1 0

-- if SB(bit) = 1 then IR(bit) := 0
abbrev pub clear_bit : ℕ → ℕ → ℕ
clear_bit x y = cond (y == 1) 0 x

-- LA, LO, LX and IC, on 24 bits
unfoldable pub logical_and : ℕ → ℕ → ℕ
logical_and a b = each and_bit 24 a b

unfoldable pub logical_or : ℕ → ℕ → ℕ
logical_or a b = each or_bit 24 a b

unfoldable pub logical_xor : ℕ → ℕ → ℕ
logical_xor a b = each xor_bit 24 a b

unfoldable pub cleared : ℕ → ℕ → ℕ
cleared a b = each clear_bit 24 a b

-- hexadecimal ff00ff with f0f0f0
la : logical_and 16711935 15790320 ≡ 15728880
unfolding logical_and each
la = refl

lo : logical_or 16711935 15790320 ≡ 16773375
unfolding logical_or each
lo = refl

lx : logical_xor 16711935 15790320 ≡ 1044495
unfolding logical_xor each
lx = refl

ic : cleared 16711935 15790320 ≡ 983055
unfolding cleared each
ic = refl
