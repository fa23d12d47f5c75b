-- Multiply Floating (manual, 14.8). BF(0:35) has 36 bits.
use Rattle.std.specs.Prelude.{ℕ, ◌+◌, ◌*◌, ◌/◌, ◌%◌, ◌^◌, ◌≡◌, refl, cond, eqb}
use Rattle.registers.specs.Reg.{asr, iter, until}
use Rattle.rounding.specs.declared.Pair.{Pair}
use Rattle.rounding.specs.Round.{normalize_round, normalize_once, left_shifts, af_left}
use Rattle.rounding.specs.Store.{round_store, precise}
use Rattle.floating.specs.declared.Operands.{Operands}
use Rattle.floating.specs.declared.multiplication.Product.{Product}
use Rattle.floating.specs.Operands.{fetch_floating, signed_sf, signed_exponent, add_af, sub_af}

-- if BF(35) = 1 then AF := AF + signed SF; AF(0:37) := AF(-1:36); BF := shiftright BF. x is signed SF.
unfoldable pub fm_step : ℕ → Product → Product
fm_step x p = record { af = asr 39 (cond (eqb (p.bf % 2) 1) (add_af x p.af) p.af); bf = p.bf / 2 }

-- if BF(35) = 1 then AF := AF - signed SF
unfoldable pub fm_end : ℕ → Product → ℕ
fm_end x p = cond (eqb (p.bf % 2) 1) (sub_af x p.af) p.af

-- AF := 0; for SC := 34 step -1 until 0 do ..; the last subtraction
unfoldable pub fm_loop : ℕ → ℕ → ℕ
fm_loop x bf = fm_end x (iter (fm_step x) 35 (record { af = 0; bf = bf }))

-- BF := AF(0:35); the loop; SC := signed Wexp + signed SBexp; Normalize and Round Floating; Test Precision Mode and Store
unfoldable pub multiply_floating : ℕ → Operands → Pair
multiply_floating ex o =
    round_store ex (record { af = fm_loop (signed_sf o.sf) (o.af / 2 ^ 2 % 2 ^ 36); sc = (signed_exponent o.wexp + signed_exponent o.sbexp) % 2 ^ 13 })

-- FM of EX, Wpre, W and the storage double word
unfoldable pub fm : ℕ → ℕ → ℕ → ℕ → ℕ → Pair
fm ex pre word first second = multiply_floating ex (fetch_floating pre word first second)

-- 1 * 1 = 1
fm_1_1 : fm 0 4194304 1 4194304 1 ≡ record { pre = 4194304; word = 1; over = 0 }
unfolding fm multiply_floating fetch_floating fm_loop fm_end fm_step round_store precise normalize_round normalize_once left_shifts af_left until iter
fm_1_1 = refl

-- -1.0 * -1.0 = 1, which AF(-1:37) holds
fm_ones : fm_loop (3 * 2 ^ 37) (2 ^ 35) ≡ 2 ^ 37
unfolding fm_loop fm_end fm_step iter
fm_ones = refl
