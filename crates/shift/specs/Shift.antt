-- Shift operations (manual, 14.8 AS, AD, LS, LD), one place at a time, at n bits (24 or 48). SB has 24 bits and is negative from 2 ^ 23 up.
use Rattle.std.specs.Prelude.{ℕ, ◌-◌, ◌/◌, ◌^◌, max, ◌≡◌, refl, cond, ltb}
use Rattle.registers.specs.Reg.{bit_from_right, sign, bits_differ, asr, shl, iter}
use Rattle.shift.specs.declared.Shifted.{Shifted}

-- if abs(SB) >= 64 then SB := sign(SB) * 48: the number of places, of m = abs(SB). For LS and LD see docs/DECISIONS.md A4.
unfoldable pub places : ℕ → ℕ
places m = cond (ltb m 64) m 48

-- the single shifts that AS, AD, LS and LD make: SB is negative from 2 ^ 23 up
unfoldable pub shifts_made : ℕ → ℕ
shifts_made sb = cond (ltb sb (2 ^ 23)) (places sb) (places (2 ^ 24 - sb))

-- if W(0) <> W(1) then EX(22) := IR(1) := 1; W := shiftleft W
unfoldable pub left_step : ℕ → Shifted → Shifted
left_step n x =
    record {
      word = shl n x.word;
      over = max x.over (bits_differ (sign n x.word) (bit_from_right (n - 2) x.word));
    }

-- W := shiftright W
abbrev pub shr : ℕ → ℕ
shr x = x / 2

-- AS (24 bits), AD (48): EX(22:23) := 0; if SB < 0 then for SC := 1 step 1 until -SB do W(1:n-1) := W(0:n-2)
-- else for SC := 1 step 1 until SB do the step to the left
unfoldable pub arithmetic : ℕ → ℕ → ℕ → Shifted
arithmetic n sb w =
    cond (ltb sb (2 ^ 23))
    (iter (left_step n) (shifts_made sb) (record { word = w; over = 0 }))
    (record { word = iter (asr n) (shifts_made sb) w; over = 0 })

-- LS (24 bits), LD (48): if SB < 0 then for SC := 1 step 1 until -SB do W := shiftright W else for SC := 1 step 1 until SB do W := shiftleft W
unfoldable pub logical : ℕ → ℕ → ℕ → ℕ
logical n sb w =
    cond (ltb sb (2 ^ 23)) (iter (shl n) (shifts_made sb) w) (iter shr (shifts_made sb) w)

-- the sign is lost at the first place, although 0 is left
as_over : arithmetic 24 2 4194304 ≡ record { word = 0; over = 1 }
unfolding arithmetic left_step shifts_made places iter
as_over = refl

-- -1 to the right stays -1, also by 2 ** 23 places
as_minus_1 : arithmetic 24 8388608 16777215 ≡ record { word = 16777215; over = 0 }
unfolding arithmetic shifts_made places iter
as_minus_1 = refl

-- 63 places leave nothing, 47 the last bit
ld_63 : logical 48 63 1 ≡ 0
unfolding logical shifts_made places iter
ld_63 = refl

ld_47 : logical 48 47 1 ≡ 2 ^ 47
unfolding logical shifts_made places iter
ld_47 = refl

ls_right : logical 24 (2 ^ 24 - 23) 8388608 ≡ 1
unfolding logical shifts_made places iter
ls_right = refl
