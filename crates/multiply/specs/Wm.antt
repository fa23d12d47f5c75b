-- Multiply Integer Word (manual, 14.8 WM): ARBR has 49 bits, AR(-1:23) and BR(0:23); x is signed SB, 25 bits.
use Rattle.std.specs.Prelude.{ℕ, ◌+◌, ◌*◌, ◌%◌, ◌^◌, ◌≡◌, refl, cond, eqb}
use Rattle.registers.specs.Reg.{signed, asr, add_ar, sub_ar, iter}

-- if BR(23) = 1 then AR := AR + signed SB; ARBR(0:47) := ARBR(-1:46)
unfoldable pub wm_step : ℕ → ℕ → ℕ
wm_step x p = asr 49 (cond (eqb (p % 2) 1) (add_ar x p) p)

-- if BR(23) = 1 then AR := AR - signed SB; ARBR(0:47) := ARBR(-1:46)
unfoldable pub wm_last : ℕ → ℕ → ℕ
wm_last x p = asr 49 (cond (eqb (p % 2) 1) (sub_ar x p) p)

-- AR := 0; BR := W; for SC := 22 step -1 until 0 do the step; the last step; Wpre := AR(0:23); W := BR. Wpre concat W.
unfoldable pub wm : ℕ → ℕ → ℕ
wm w s = wm_last (signed 24 25 s) (iter (wm_step (signed 24 25 s)) 23 w) % 2 ^ 48

-- WM 8388608 by itself: Wpre 4194304, W 0
wm_least : wm 8388608 8388608 ≡ 4194304 * 2 ^ 24 + 0
unfolding wm wm_step wm_last iter
wm_least = refl

-- -1 by 1
wm_minus_1 : wm 16777215 1 ≡ 16777215 * 2 ^ 24 + 16777215
unfolding wm wm_step wm_last iter
wm_minus_1 = refl
