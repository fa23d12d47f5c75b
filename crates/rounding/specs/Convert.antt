-- Convert Integer to Floating (manual, 14.8). SB is the effective address; `over` is EX(22) and IR(2).
use Rattle.std.specs.Prelude.{ℕ, ◌+◌, ◌*◌, ◌%◌, ◌^◌, max, ◌≡◌, refl, cond, eqb}
use Rattle.registers.specs.Reg.{signed, until}
use Rattle.rounding.specs.declared.Unpacked.{Unpacked}
use Rattle.rounding.specs.declared.Pair.{Pair}
use Rattle.rounding.specs.Round.{normalize_round, normalize_once, left_shifts, af_left, sc_over}
use Rattle.rounding.specs.Store.{stored_floating}

-- SC + SB(11:23)
abbrev pub scaled : ℕ → ℕ → ℕ
scaled sb sc = (sc + sb % 2 ^ 13) % 2 ^ 13

-- SC := SC + SB(11:23); if SC(11) <> SC(12) then EX(22) := IR(2) := 1; Wfrac := AF(0:35); Wexp := SC(12:23)
abbrev pub ci_end : ℕ → Unpacked → Pair
ci_end sb x = stored_floating x.af (scaled sb x.sc) (max (sc_over x.sc) (sc_over (scaled sb x.sc)))

-- AF(-1:23) := signed W; AF(24:37) := 0
abbrev pub integer_fraction : ℕ → ℕ
integer_fraction w = signed 24 25 w * 2 ^ 14

-- if AF = 0 then Wfrac := 0, Wexp := -2048; SC := 23; Normalize and Round Floating; ..
unfoldable pub ci : ℕ → ℕ → Pair
ci w sb =
    cond (eqb w 0)
    (record { pre = 0; word = 2048; over = 0 })
    (ci_end sb (normalize_round (record { af = integer_fraction w; sc = 23 })))

-- the single shifts that CI makes to normalize: none for a zero
unfoldable pub integer_shifts : ℕ → ℕ
integer_shifts w = cond (eqb w 0) 0 (af_left (integer_fraction w)).shifts

-- document 01, table: CI of 0, whatever the address
ci_0 : (sb : ℕ) → ci 0 sb ≡ record { pre = 0; word = 2048; over = 0 }
unfolding ci
ci_0 sb = refl

-- document 01, table: CI of 1, address 0
ci_1 : ci 1 0 ≡ record { pre = 4194304; word = 1; over = 0 }
unfolding ci normalize_round normalize_once left_shifts af_left until
ci_1 = refl

-- -1 is -1.0 * 2 ** 0
ci_minus_1 : ci 16777215 0 ≡ record { pre = 8388608; word = 0; over = 0 }
unfolding ci normalize_round normalize_once left_shifts af_left until
ci_minus_1 = refl

-- 1 * 2 ** 2047 is beyond the exponents
ci_over : ci 1 2047 ≡ record { pre = 4194304; word = 2048; over = 1 }
unfolding ci normalize_round normalize_once left_shifts af_left until
ci_over = refl
