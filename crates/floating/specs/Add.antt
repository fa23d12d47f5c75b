-- Add Floating, Subtract Floating (manual, 14.8).
use Rattle.std.specs.Prelude.{ℕ, ◌+◌, ◌-◌, ◌%◌, ◌^◌, ◌≡◌, refl, Bool, true, false, cond, ltb, leb}
use Rattle.registers.specs.Reg.{asr, iter, until}
use Rattle.rounding.specs.declared.Pair.{Pair}
use Rattle.rounding.specs.Round.{normalize_round, normalize_once, left_shifts, af_left}
use Rattle.rounding.specs.Store.{precise_store, round_store, precise}
use Rattle.floating.specs.declared.Operands.{Operands}
use Rattle.floating.specs.Operands.{fetch_floating, signed_sf, signed_exponent, add_af, sub_af}

-- SC := signed Wexp - signed SBexp
abbrev pub exponent_difference : ℕ → ℕ → ℕ
exponent_difference we se = (signed_exponent we + (2 ^ 13 - signed_exponent se)) % 2 ^ 13

-- SC as a signed number, plus 2 ** 12: it is compared as a number
abbrev pub biased : ℕ → ℕ
biased sc = (sc + 2 ^ 12) % 2 ^ 13

-- if add then AF := AF + signed SF else AF := AF - signed SF; SC := signed Wexp; Normalize and Round Floating; Test Precision Mode and Store
unfoldable pub fa_sum : Bool → ℕ → ℕ → ℕ → ℕ → Pair
fa_sum add ex wexp af sf =
    round_store ex (record { af = cond add (add_af (signed_sf sf) af) (sub_af (signed_sf sf) af); sc = signed_exponent wexp })

-- SC <= -38: if add then AF := signed SF, SC := signed SBexp, Test Precision Mode and Store; else Wexp := SBexp, AF := 0
unfoldable pub fa_negligible : Bool → ℕ → Operands → Pair
fa_negligible add ex o =
    cond add (precise_store ex (signed_sf o.sf) (signed_exponent o.sbexp) 0) (fa_sum add ex o.sbexp 0 o.sf)

-- if SC > 0 then SF(1:37) := SF(0:36), SC times; if SC < 0 then Wexp := SBexp and AF(0:37) := AF(-1:36), -SC times. b is `biased` SC.
unfoldable pub fa_align : ℕ → Bool → ℕ → Operands → Pair
fa_align b add ex o =
    cond (ltb (2 ^ 12) b)
    (fa_sum add ex o.wexp o.af (iter (asr 38) (b - 2 ^ 12) o.sf))
    (cond (ltb b (2 ^ 12)) (fa_sum add ex o.sbexp (iter (asr 39) (2 ^ 12 - b) o.af) o.sf) (fa_sum add ex o.wexp o.af o.sf))

-- if SC >= 38 then SC := signed Wexp, Test Precision Mode and Store; else if SC <= -38 then ..
unfoldable pub fa_by_difference : ℕ → Bool → ℕ → Operands → Pair
fa_by_difference b add ex o =
    cond (leb (2 ^ 12 + 38) b)
    (precise_store ex o.af (signed_exponent o.wexp) 0)
    (cond (leb b (2 ^ 12 - 38)) (fa_negligible add ex o) (fa_align b add ex o))

-- FA, FS after Fetch Floating Operands
unfoldable pub add_floating : Bool → ℕ → Operands → Pair
add_floating add ex o = fa_by_difference (biased (exponent_difference o.wexp o.sbexp)) add ex o

-- FA, FS of EX, Wpre, W and the storage double word
unfoldable pub fa : ℕ → ℕ → ℕ → ℕ → ℕ → Pair
fa ex pre word first second = add_floating true ex (fetch_floating pre word first second)

unfoldable pub fs : ℕ → ℕ → ℕ → ℕ → ℕ → Pair
fs ex pre word first second = add_floating false ex (fetch_floating pre word first second)

-- 1 + 1 = 2
fa_1_1 : fa 0 4194304 1 4194304 1 ≡ record { pre = 4194304; word = 2; over = 0 }
unfolding fa add_floating fetch_floating fa_by_difference fa_align fa_sum round_store precise normalize_round normalize_once left_shifts af_left until iter
fa_1_1 = refl

-- 1 - 1 = 0, with the exponent -2048
fs_1_1 : fs 0 4194304 1 4194304 1 ≡ record { pre = 0; word = 2048; over = 0 }
unfolding fs add_floating fetch_floating fa_by_difference fa_align fa_sum round_store precise normalize_round normalize_once left_shifts af_left until iter
fs_1_1 = refl

-- a difference of 38: the register operand stays, not normalized
fa_38 : fa 0 1 38 4194304 0 ≡ record { pre = 1; word = 38; over = 0 }
unfolding fa add_floating fetch_floating fa_by_difference precise
fa_38 = refl

-- a difference of -38: FA takes the storage operand over
fa_minus_38 : fa 0 4194304 0 1 38 ≡ record { pre = 1; word = 38; over = 0 }
unfolding fa add_floating fetch_floating fa_by_difference fa_negligible precise
fa_minus_38 = refl
