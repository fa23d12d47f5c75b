-- Normalize and Round Floating (manual, 14.7). AF(-1:37) has 39 bits, SC(11:23) has 13; SC wraps.
use Rattle.std.specs.Prelude.{ℕ, ◌+◌, ◌-◌, ◌*◌, ◌/◌, ◌%◌, ◌^◌, ◌≡◌, refl, Bool, not, cond, eqb}
use Rattle.registers.specs.Reg.{bit_from_right, sign, bits_differ, asr, shl, until}
use Rattle.normalize.specs.declared.Normal.{Normal}
use Rattle.rounding.specs.declared.Unpacked.{Unpacked}

-- AF(0) <> AF(1)
abbrev pub af_normal : Normal → Bool
af_normal x = not (eqb (bit_from_right 37 x.word) (bit_from_right 36 x.word))

-- AF := shiftleft AF, counted
abbrev pub af_step : Normal → Normal
af_step x = record { word = shl 39 x.word; shifts = x.shifts + 1 }

-- for SC := SC, SC - 1 while AF(0) = AF(1) do AF := shiftleft AF, tested before the first shift too (docs/DECISIONS.md C6).
-- The bound 48 suffices for every AF but zero with AF(-1) = AF(0) (`arithmetic_promises`, LeftShiftsEnd).
unfoldable pub af_left : ℕ → Normal
af_left a = until af_normal af_step 48 (record { word = a; shifts = 0 })

-- AF(0:37) := AF(-1:36); SC := SC + 1
abbrev pub right_shift : Unpacked → Unpacked
right_shift x = record { af = asr 39 x.af; sc = (x.sc + 1) % 2 ^ 13 }

-- if AF = 0 then SC := -2048 else left shifts, SC less their number
unfoldable pub left_shifts : Unpacked → Unpacked
left_shifts x =
    cond (eqb x.af 0)
    (record { af = 0; sc = 2 ^ 13 - 2048 })
    (record { af = (af_left x.af).word; sc = (x.sc + (2 ^ 13 - (af_left x.af).shifts)) % 2 ^ 13 })

-- Again: if AF(-1) <> AF(0) then right shift else ..
unfoldable pub normalize_once : Unpacked → Unpacked
normalize_once x = cond (not (eqb (sign 39 x.af) (bit_from_right 37 x.af))) (right_shift x) (left_shifts x)

-- AF(36) = 0: no rounding
abbrev pub no_rounding : Unpacked → Bool
no_rounding x = eqb (bit_from_right 1 x.af) 0

-- AF := AF + 4; AF(36:37) := 0
abbrev pub round_up : Unpacked → Unpacked
round_up x = record { af = (x.af + 4) % 2 ^ 39 / 4 * 4; sc = x.sc }

-- goto Again
abbrev pub round_again : Unpacked → Unpacked
round_again x = normalize_once (round_up x)

-- if AF(36) = 1 then round and goto Again: at most once (`arithmetic_promises`, TwoPasses)
unfoldable pub normalize_round : Unpacked → Unpacked
normalize_round x = until no_rounding round_again 1 (normalize_once x)

-- SC(11) <> SC(12): EX(22) := IR(2) := 1
abbrev pub sc_over : ℕ → ℕ
sc_over sc = bits_differ (sign 13 sc) (bit_from_right 11 sc)

-- rounding up to the next power of two: 1 - 2 ** -36 becomes 1, which is 0.5 with the exponent raised
round_to_1 : normalize_round (record { af = 2 ^ 37 - 2; sc = 5 }) ≡ record { af = 2 ^ 36; sc = 6 }
unfolding normalize_round normalize_once left_shifts af_left until
round_to_1 = refl

-- a zero gets the exponent -2048
round_0 : (c : ℕ) → normalize_round (record { af = 0; sc = c }) ≡ record { af = 0; sc = 6144 }
unfolding normalize_round normalize_once left_shifts until
round_0 c = refl
