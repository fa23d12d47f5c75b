-- Convert Floating to Integer (manual, 14.8). SB is the effective address; `over` is EX(22) and IR(1).
use Rattle.std.specs.Prelude.{ℕ, ◌+◌, ◌-◌, ◌*◌, ◌/◌, ◌%◌, ◌^◌, ◌≡◌, refl, cond, eqb, ltb, leb}
use Rattle.registers.specs.Reg.{bit_from_right, sign, signed_byte, asr, iter}
use Rattle.floating.specs.declared.Converted.{Converted}
use Rattle.floating.specs.Operands.{fraction, exponent, register_fraction}

-- SB := 23 - SB - signed Wexp, 24 bits
abbrev pub cf_places : ℕ → ℕ → ℕ
cf_places we sb = (23 + (2 ^ 24 - sb) + (2 ^ 24 - signed_byte we)) % 2 ^ 24

-- SB as a signed number, plus 2 ** 23: it is compared as a number
abbrev pub biased_sb : ℕ → ℕ
biased_sb sb = (sb + 2 ^ 23) % 2 ^ 24

-- if AF(24) = 1 then AR := AR + 1
abbrev pub cf_rounded : ℕ → ℕ
cf_rounded af = (af + bit_from_right 13 af * 2 ^ 14) % 2 ^ 39

-- if AF(-1) <> AF(0) then Integer Overflow else W := AR(0:23)
unfoldable pub cf_end : ℕ → ℕ → Converted
cf_end word af = cond (eqb (sign 39 af) (bit_from_right 37 af)) (record { word = af / 2 ^ 14 % 2 ^ 24; over = 0 }) (record { word = word; over = 1 })

-- if 0 < SB and SB < 64 then SB times; b is `biased_sb` of SB
unfoldable pub cf_shifts : ℕ → ℕ
cf_shifts b = cond (ltb b (2 ^ 23)) 0 (cond (leb (2 ^ 23 + 64) b) 0 (b - 2 ^ 23))

-- SC := SB(11:23); if SB < 0 and AF <> 0 then Integer Overflow; if SB >= 64 then AF := 0; if 0 < SB and SB < 64 then AF(0:37) := AF(-1:36), SB times; rounding; .. b is `biased_sb` of SB.
unfoldable pub cf_by_places : ℕ → ℕ → ℕ → Converted
cf_by_places b word af =
    cond (ltb b (2 ^ 23))
    (cond (eqb af 0) (cf_end word (cf_rounded af)) (record { word = word; over = 1 }))
    (cond (leb (2 ^ 23 + 64) b) (cf_end word (cf_rounded 0)) (cf_end word (cf_rounded (iter (asr 39) (cf_shifts b) af))))

-- CF of Wpre, W and the effective address: AF(-1:35) := signed Wfrac; AF(36:37) := 0; ..
unfoldable pub cf : ℕ → ℕ → ℕ → Converted
cf pre word sb = cf_by_places (biased_sb (cf_places (exponent word) sb)) word (register_fraction (fraction pre word))

-- the single shifts that CF makes
unfoldable pub fraction_shifts : ℕ → ℕ → ℕ
fraction_shifts word sb = cf_shifts (biased_sb (cf_places (exponent word) sb))

-- 1
cf_1 : cf 4194304 1 0 ≡ record { word = 1; over = 0 }
unfolding cf cf_by_places cf_shifts cf_end iter signed_byte
cf_1 = refl

-- -0.5 is rounded to 0, 0.5 to 1
cf_minus_half : cf 12582912 0 0 ≡ record { word = 0; over = 0 }
unfolding cf cf_by_places cf_shifts cf_end iter signed_byte
cf_minus_half = refl

cf_half : cf 4194304 0 0 ≡ record { word = 1; over = 0 }
unfolding cf cf_by_places cf_shifts cf_end iter signed_byte
cf_half = refl

-- 2 ** 23 is beyond 24 bits: W is kept
cf_over : cf 4194304 24 0 ≡ record { word = 24; over = 1 }
unfolding cf cf_by_places cf_shifts cf_end iter signed_byte
cf_over = refl
