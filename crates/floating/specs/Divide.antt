-- Divide Floating (manual, 14.8). BF(0:35) has 36 bits; x is signed SF.
use Rattle.std.specs.Prelude.{ℕ, ◌+◌, ◌-◌, ◌*◌, ◌/◌, ◌%◌, ◌^◌, ◌≡◌, refl, Bool, not, cond, eqb}
use Rattle.registers.specs.Reg.{bit_from_right, sign, signed, shl, until}
use Rattle.rounding.specs.declared.Unpacked.{Unpacked}
use Rattle.rounding.specs.declared.Pair.{Pair}
use Rattle.rounding.specs.Round.{normalize_round, normalize_once, left_shifts, af_left}
use Rattle.rounding.specs.Store.{round_store, precise}
use Rattle.floating.specs.declared.Operands.{Operands}
use Rattle.floating.specs.declared.division.Quotient.{Quotient}
use Rattle.floating.specs.Operands.{fetch_floating, signed_sf, signed_exponent, add_af, sub_af}

-- SC := signed Wexp - signed SBexp + 35, as printed (docs/DECISIONS.md, A3): the result is half the quotient; 36 would be the quotient
abbrev pub divide_offset : ℕ
divide_offset = 35

-- if AF(-1) = SF(0) then 1 else 0
abbrev pub next_digit : ℕ → ℕ → ℕ
next_digit x af = (sign 39 af + sign 39 x + 1) % 2

-- if AF(-1) = SF(0) then BF := 0, AF := shiftleft (AF - signed SF) else BF := -1, AF := shiftleft (AF + signed SF); next digit := ..
unfoldable pub fd_start : ℕ → ℕ → Quotient
fd_start x af =
    cond (eqb (sign 39 af) (sign 39 x))
    (record { af = shl 39 (sub_af x af); bf = 0; digit = next_digit x (shl 39 (sub_af x af)); passes = 0 })
    (record { af = shl 39 (add_af x af); bf = 2 ^ 36 - 1; digit = next_digit x (shl 39 (add_af x af)); passes = 0 })

-- AF := if next digit = 1 then AF - signed SF else AF + signed SF
unfoldable pub fd_add : ℕ → ℕ → ℕ → ℕ
fd_add x digit af = cond (eqb digit 1) (sub_af x af) (add_af x af)

-- BF := shiftleft BF; BF(35) := next digit; AF := ..; next digit := ..; AF := shiftleft AF
abbrev pub fd_step : ℕ → Quotient → Quotient
fd_step x q =
    record {
      af = shl 39 (fd_add x q.digit q.af);
      bf = shl 36 q.bf + q.digit;
      digit = next_digit x (fd_add x q.digit q.af);
      passes = q.passes + 1;
    }

-- BF(0) <> BF(1)
abbrev pub fd_stop : Quotient → Bool
fd_stop q = not (eqb (sign 36 q.bf) (bit_from_right 34 q.bf))

-- for SC := SC, SC - 1 while BF(0) = BF(1) do ..; 71 passes are enough (`arithmetic_promises`, DivideEnds)
unfoldable pub fd_loop : ℕ → ℕ → Quotient
fd_loop x af = until fd_stop (fd_step x) 71 (fd_start x af)

-- AF(36:37) := if AF(-1) = SF(0) then 2 else 0; AF(-1:35) := signed BF; SC less the passes
abbrev pub fd_result : ℕ → ℕ → ℕ → Quotient → Unpacked
fd_result we se x q =
    record {
      af = signed 36 37 q.bf * 2 ^ 2 + next_digit x q.af * 2;
      sc = (signed_exponent we + (2 ^ 13 - signed_exponent se) + divide_offset + (2 ^ 13 - q.passes)) % 2 ^ 13;
    }

-- EX(22) := IR(2) := 1, Wpre and W kept
abbrev pub divide_overflow : ℕ → ℕ → Pair
divide_overflow pre word = record { pre = pre; word = word; over = 1 }

-- Wexp := -2048, no more
abbrev pub zero_dividend : ℕ → ℕ → Pair
zero_dividend pre word = record { pre = pre; word = word / 2 ^ 12 * 2 ^ 12 + 2048; over = 0 }

-- if AR = 0 then (if SB = 0 then overflow else zero) else if SB = 0 then overflow else ..; AR and SB are the first 24 bits of AF and SF
unfoldable pub divide_floating : ℕ → ℕ → ℕ → Operands → Pair
divide_floating ex pre word o =
    cond (eqb (o.af / 2 ^ 14) 0)
    (cond (eqb (o.sf / 2 ^ 14) 0) (divide_overflow pre word) (zero_dividend pre word))
    (cond (eqb (o.sf / 2 ^ 14) 0)
    (divide_overflow pre word)
    (round_store ex (fd_result o.wexp o.sbexp (signed_sf o.sf) (fd_loop (signed_sf o.sf) o.af))))

-- FD of EX, Wpre, W and the storage double word
unfoldable pub fd : ℕ → ℕ → ℕ → ℕ → ℕ → Pair
fd ex pre word first second = divide_floating ex pre word (fetch_floating pre word first second)

-- 1 / 1, as printed: 0.5 * 2 ** 0
fd_1_1 : fd 0 4194304 1 4194304 1 ≡ record { pre = 4194304; word = 0; over = 0 }
unfolding fd divide_floating fetch_floating fd_loop fd_start fd_add round_store precise normalize_round normalize_once left_shifts af_left until
fd_1_1 = refl

-- the longest: -2 ** -35 by -1.0, 71 passes; half the quotient is 0.5 * 2 ** -35
fd_longest : (fd_loop (3 * 2 ^ 37) (2 ^ 39 - 4)).passes ≡ 71
unfolding fd_loop fd_start fd_add until
fd_longest = refl

fd_longest_all : fd 0 16777215 16773120 8388608 0 ≡ record { pre = 4194304; word = 4096 - 35; over = 0 }
unfolding fd divide_floating fetch_floating fd_loop fd_start fd_add round_store precise normalize_round normalize_once left_shifts af_left until
fd_longest_all = refl

-- 1 / 0, 0 / 0, 0 / 1
fd_1_0 : fd 0 4194304 1 0 2048 ≡ record { pre = 4194304; word = 1; over = 1 }
unfolding fd divide_floating fetch_floating
fd_1_0 = refl

fd_0_0 : fd 0 0 5 0 2048 ≡ record { pre = 0; word = 5; over = 1 }
unfolding fd divide_floating fetch_floating
fd_0_0 = refl

fd_0_1 : fd 0 0 5 4194304 1 ≡ record { pre = 0; word = 2048; over = 0 }
unfolding fd divide_floating fetch_floating
fd_0_1 = refl
