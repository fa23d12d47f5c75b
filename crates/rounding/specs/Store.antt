-- Test Precision Mode and Store (manual, 14.7): what a floating-point operation leaves in Wpre and W.
use Rattle.std.specs.Prelude.{ℕ, ◌+◌, ◌*◌, ◌/◌, ◌%◌, ◌^◌, ◌≡◌, refl, cond, eqb}
use Rattle.registers.specs.Reg.{bit_from_right}
use Rattle.rounding.specs.declared.Unpacked.{Unpacked}
use Rattle.rounding.specs.declared.Pair.{Pair}
use Rattle.rounding.specs.Round.{normalize_round, sc_over}

-- if EX(21) = 1 then AF(35) := AF(34) := AF(33)
unfoldable pub precise : ℕ → ℕ → ℕ
precise ex af = cond (eqb (bit_from_right 2 ex) 1) (af / 2 ^ 4 * 2 ^ 4 + bit_from_right 4 af * 12 + af % 2 ^ 2) af

-- Wfrac := AF(0:35); Wexp := SC(12:23)
abbrev pub stored_floating : ℕ → ℕ → ℕ → Pair
stored_floating af sc over = record { pre = af / 2 ^ 14 % 2 ^ 24; word = af / 2 ^ 2 % 2 ^ 12 * 2 ^ 12 + sc % 2 ^ 12; over = over }

-- Test Precision Mode and Store
abbrev pub precise_store : ℕ → ℕ → ℕ → ℕ → Pair
precise_store ex af sc over = stored_floating (precise ex af) sc over

-- if SC(11) <> SC(12) then EX(22) := IR(2) := 1; Test Precision Mode and Store
abbrev pub tested_store : ℕ → Unpacked → Pair
tested_store ex x = precise_store ex x.af x.sc (sc_over x.sc)

-- Normalize and Round Floating; Test Precision Mode and Store
unfoldable pub round_store : ℕ → Unpacked → Pair
round_store ex x = tested_store ex (normalize_round x)

-- low precision: AF(34) and AF(35) become AF(33)
low_0 : precise 4 (2 ^ 36 + 12) ≡ 2 ^ 36
unfolding precise
low_0 = refl

low_1 : precise 4 (2 ^ 36 + 16) ≡ 2 ^ 36 + 28
unfolding precise
low_1 = refl

high : precise 3 (2 ^ 36 + 12) ≡ 2 ^ 36 + 12
unfolding precise
high = refl
