-- Skip tests (manual, 14.8 SH, SL, SE, SN, SO, SZ, SX): the following instruction is skipped if the test holds.
use Rattle.std.specs.Prelude.{◌≡◌, ℕ, ◌+◌, ◌%◌, ◌^◌, Bool, true, false, cond, not, ◌&&◌, ◌==◌, nat_le, nat_lt, refl}
use Rattle.registers.specs.Reg.{signed, complement}
use Rattle.integer.specs.Bitwise.{each}

-- AR := signed W - signed SB, all 25 bits
abbrev pub comparison : ℕ → ℕ → ℕ
comparison w sb = (signed 24 25 w + complement 25 (signed 24 25 sb) + 1) % 2 ^ 25

-- AR > 0; AR is a signed number of 25 bits, negative from 2 ^ 24 up
unfoldable pub is_high : ℕ → ℕ → Bool
is_high w sb = nat_lt 0 (comparison w sb) && nat_lt (comparison w sb) (2 ^ 24)

-- AR < 0
unfoldable pub is_low : ℕ → ℕ → Bool
is_low w sb = nat_le (2 ^ 24) (comparison w sb)

-- AR = 0
unfoldable pub is_equal : ℕ → ℕ → Bool
is_equal w sb = comparison w sb == 0

-- AR <> 0
unfoldable pub is_not_equal : ℕ → ℕ → Bool
is_not_equal w sb = not (comparison w sb == 0)

-- AR(bit) := if SB(bit) = 1 then not W(bit) else 0
abbrev pub zero_selected : ℕ → ℕ → ℕ
zero_selected x y = cond (y == 1) (complement 1 x) 0

-- AR(bit) := if SB(bit) = 1 then W(bit) else 0
abbrev pub one_selected : ℕ → ℕ → ℕ
one_selected x y = cond (y == 1) x 0

-- SO: for bit := 0 step 1 until 23 do AR(bit) := ..; if AR(0:23) = 0
unfoldable pub bits_one : ℕ → ℕ → Bool
bits_one w sb = each zero_selected 24 w sb == 0

-- SZ, and SX with positive EX in the place of W: for bit := 0 step 1 until 23 do AR(bit) := ..; if AR(0:23) = 0
unfoldable pub bits_zero : ℕ → ℕ → Bool
bits_zero x sb = each one_selected 24 x sb == 0

-- -2 ** 23 is less than 2 ** 23 - 1: the difference does not wrap
sl_least : is_low 8388608 8388607 ≡ true
unfolding is_low
sl_least = refl

sh_least : is_high 8388608 8388607 ≡ false
unfolding is_high
sh_least = refl

-- a zero mask selects nothing
so_0 : bits_one 0 0 ≡ true
unfolding bits_one each
so_0 = refl

so_5_1 : bits_one 5 1 ≡ true
unfolding bits_one each
so_5_1 = refl

so_5_3 : bits_one 5 3 ≡ false
unfolding bits_one each
so_5_3 = refl

sz_5_2 : bits_zero 5 2 ≡ true
unfolding bits_zero each
sz_5_2 = refl
