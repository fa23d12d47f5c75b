-- Normalizing (manual, 14.8 NS, ND; 14.7): shift left until the two left-most bits of a register of n bits differ.
use Rattle.std.specs.Prelude.{ℕ, ◌+◌, ◌-◌, ◌%◌, ◌^◌, ◌≡◌, refl, Bool, not, cond, eqb}
use Rattle.registers.specs.Reg.{bit_from_right, sign, shl, until}
use Rattle.normalize.specs.declared.Normal.{Normal}

-- W(0) <> W(1)
abbrev pub normal : ℕ → ℕ → Bool
normal n x = not (eqb (sign n x) (bit_from_right (n - 2) x))

abbrev pub normal_at : ℕ → Normal → Bool
normal_at n x = normal n x.word

-- W := shiftleft W, counted
abbrev pub norm_step : ℕ → Normal → Normal
norm_step n x = record { word = shl n x.word; shifts = x.shifts + 1 }

-- while W(0) = W(1) do W := shiftleft W, tested before the first shift too (docs/DECISIONS.md C6). The bound 48 suffices for every width up to 48 and every register but zero (`arithmetic_promises`, NormalizingEnds).
unfoldable pub normalize : ℕ → ℕ → Normal
normalize n w = until (normal_at n) (norm_step n) 48 (record { word = w; shifts = 0 })

-- NS (24 bits), ND (48): if W = 0 then SC := -2048 else for SC := 0, SC - 1 while W(0) = W(1) do W := shiftleft W.
-- W, and SC(12:23), the byte to store.
unfoldable pub normalized : ℕ → ℕ → Normal
normalized n w =
    cond (eqb w 0)
    (record { word = 0; shifts = 2048 })
    (record { word = (normalize n w).word; shifts = (2 ^ 12 - (normalize n w).shifts) % 2 ^ 12 })

-- the single shifts that NS and ND make: none for a zero
unfoldable pub normalizing_shifts : ℕ → ℕ → ℕ
normalizing_shifts n w = cond (eqb w 0) 0 (normalize n w).shifts

-- the same told by SC(12:23), which is less by one for each shift and -2048 for a zero: for the code; no public contract rests on it
unfoldable pub shifts_by : ℕ → ℕ
shifts_by b = cond (eqb b 2048) 0 ((2 ^ 12 - b) % 2 ^ 12)

-- NS of 1, -1 and 0: 22 shifts, 23 shifts, and the zero's byte
ns_1 : normalized 24 1 ≡ record { word = 4194304; shifts = 4096 - 22 }
unfolding normalized normalize until
ns_1 = refl

ns_minus_1 : normalized 24 16777215 ≡ record { word = 8388608; shifts = 4096 - 23 }
unfolding normalized normalize until
ns_minus_1 = refl

ns_0 : normalized 24 0 ≡ record { word = 0; shifts = 2048 }
unfolding normalized normalize until
ns_0 = refl

-- a register that is normalized is not shifted
ns_normal : normalized 24 4194304 ≡ record { word = 4194304; shifts = 0 }
unfolding normalized normalize until
ns_normal = refl

nd_minus_1 : normalized 48 (2 ^ 48 - 1) ≡ record { word = 2 ^ 47; shifts = 4096 - 47 }
unfolding normalized normalize until
nd_minus_1 = refl
