-- Divide Integer Word (manual, 14.8 WD): ARBR has 49 bits, AR(-1:23) and BR(0:23), and starts from the signed pair.
use Rattle.std.specs.Prelude.{ℕ, ◌+◌, ◌-◌, ◌*◌, ◌/◌, ◌%◌, ◌^◌, ◌≡◌, refl, cond, eqb, ltb}
use Rattle.registers.specs.Reg.{sign, signed, asr, shl, add_ar, sub_ar, iter}
use Rattle.divide.specs.declared.Divided.{Divided}

-- next digit := if AR(-1) = SB(0) then 1 else 0; ARBR := shiftleft ARBR; ARBR(47) := next digit;
-- AR := if next digit = 1 then AR - signed SB else AR + signed SB
unfoldable pub wd_step : ℕ → ℕ → ℕ
wd_step s p =
    cond (eqb (sign 49 p) (sign 24 s))
    (sub_ar (signed 24 25 s) (shl 49 p + 1))
    (add_ar (signed 24 25 s) (shl 49 p))

-- for SC := 23 step -1 until 0 do the step; ARBR := shiftleft ARBR; ARBR(47) := 1
unfoldable pub wd_loop : ℕ → ℕ → ℕ
wd_loop s p = shl 49 (iter (wd_step s) 24 p) + 1

-- abs of 24 bits as an integer: that of -2 ** 23 is 2 ** 23
unfoldable pub abs24 : ℕ → ℕ
abs24 x = cond (ltb x (2 ^ 23)) x (2 ^ 24 - x)

-- Quotient Overflow: IR(1) := EX(22) := 1; the pair is kept
abbrev pub kept : ℕ → ℕ → Divided
kept pre w = record { pre = pre; word = w; over = 1 }

-- Wpre := AR(0:23); W := BR
abbrev pub stored_division : ℕ → ℕ → Divided
stored_division ar br = record { pre = ar % 2 ^ 24; word = br % 2 ^ 24; over = 0 }

-- if AR <> 0 and AR(-1) <> Wpre(0) then
-- begin if AR(-1) = SB(0) then begin AR := AR - signed SB; BR := BR + 1 end else begin AR := AR + signed SB; BR := BR - 1 end end
unfoldable pub wd_sign : ℕ → ℕ → ℕ → ℕ → Divided
wd_sign pre s ar br =
    cond (eqb ar 0)
    (stored_division ar br)
    (cond (eqb (sign 25 ar) (sign 24 pre))
    (stored_division ar br)
    (cond (eqb (sign 25 ar) (sign 24 s))
    (stored_division (ar + (2 ^ 25 - signed 24 25 s)) (br + 1))
    (stored_division (ar + signed 24 25 s) (br + (2 ^ 24 - 1)))))

-- where abs(AR(-1:22)) = abs(SB): if SB < 0 then BR := BR - 1 else begin BR := BR + 1; if AR(23) = BR(0) then Quotient Overflow end; AR := 0.
-- The two signs are as printed: an exact division with an even quotient is then off by two, or a Quotient Overflow where BR(0) changes (docs/DECISIONS.md A2).
unfoldable pub wd_correction : ℕ → ℕ → ℕ → ℕ → ℕ → Divided
wd_correction pre w s ar br =
    cond (ltb s (2 ^ 23))
    (cond (eqb (ar % 2) (sign 24 ((br + 1) % 2 ^ 24))) (kept pre w) (wd_sign pre s 0 ((br + 1) % 2 ^ 24)))
    (wd_sign pre s 0 ((br + (2 ^ 24 - 1)) % 2 ^ 24))

-- if AR(23) = BR(0) then Quotient Overflow; if abs(AR(-1:22)) = abs(SB) then the correction; AR(0:23) := AR(-1:22)
unfoldable pub wd_end : ℕ → ℕ → ℕ → ℕ → ℕ → Divided
wd_end pre w s ar br =
    cond (eqb (ar % 2) (sign 24 br))
    (kept pre w)
    (cond (eqb (abs24 (ar / 2)) (abs24 s))
    (wd_correction pre w s ar br)
    (wd_sign pre s (asr 25 ar) br))

-- AR := signed Wpre; BR := W; SB := word(SB)
unfoldable pub wd : ℕ → ℕ → ℕ → Divided
wd pre w s =
    wd_end pre w s
    (wd_loop s (signed 24 25 pre * 2 ^ 24 + w) / 2 ^ 24)
    (wd_loop s (signed 24 25 pre * 2 ^ 24 + w) % 2 ^ 24)

-- WD pair 16777215, 16777209 (-7) by 2
wd_minus_7 : wd 16777215 16777209 2 ≡ record { pre = 16777215; word = 16777213; over = 0 }
unfolding wd wd_end wd_correction wd_sign abs24 wd_loop wd_step iter
wd_minus_7 = refl

-- -4 by 2: the correction changes BR(0), Quotient Overflow
wd_minus_4 : wd 16777215 16777212 2 ≡ record { pre = 16777215; word = 16777212; over = 1 }
unfolding wd wd_end wd_correction wd_sign abs24 wd_loop wd_step iter
wd_minus_4 = refl

-- WD pair 0, 5 by 0
wd_by_0 : wd 0 5 0 ≡ record { pre = 0; word = 5; over = 1 }
unfolding wd wd_end wd_correction wd_sign abs24 wd_loop wd_step iter
wd_by_0 = refl

-- 7 by 2
wd_7 : wd 0 7 2 ≡ record { pre = 1; word = 3; over = 0 }
unfolding wd wd_end wd_correction wd_sign abs24 wd_loop wd_step iter
wd_7 = refl

-- as printed: 6 by 3 gives 4, and 9 by 3 gives 3
wd_6 : wd 0 6 3 ≡ record { pre = 0; word = 4; over = 0 }
unfolding wd wd_end wd_correction wd_sign abs24 wd_loop wd_step iter
wd_6 = refl

wd_9 : wd 0 9 3 ≡ record { pre = 0; word = 3; over = 0 }
unfolding wd wd_end wd_correction wd_sign abs24 wd_loop wd_step iter
wd_9 = refl
