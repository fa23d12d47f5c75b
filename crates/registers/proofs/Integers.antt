-- The integers that registers hold, by their sign. Assumes nothing.
use mathlib.Core.Path.{◌≡◌, refl, ap}
use Prim.Native.Nat.{ℕ, suc, ◌-◌, ◌*◌, ◌/◌, ◌^◌, ◌≤◌, ◌<◌}
use native.Mathlib.Omega.{arith}
use native.Mathlib.Nat.{div-eq_of_lt, div-eq_of_lt-le}
use borrow.Author.Tests.{lt-ltb, le-ltb}
use lib.IntN.{pos, negsuc}
use Rattle.registers.specs.Integer.{integer}

-- of n + 1 bits
module _ (n x : ℕ) where
  places : suc n - 1 ≡ n
  places = omega arith

  pub integer_positive : x < 2 ^ n → integer (suc n) x ≡ pos x
  unfolding integer
  integer_positive h =
      let e : 0 * 2 ^ suc n ≡ 0 = omega arith in
      rw (places, div-eq_of_lt {n = x} {m = 2 ^ n} h, e, le-ltb x 0 (omega arith)) (ap pos (omega arith))

  pub integer_negative : 2 ^ n ≤ x → x < 2 ^ suc n → integer (suc n) x ≡ negsuc (2 ^ suc n - suc x)
  unfolding integer
  integer_negative h l =
      let q : x / 2 ^ n ≡ 1 = div-eq_of_lt-le {k = 1} (2 ^ n) {m = x} (omega arith) (omega arith) in
      let e : 1 * 2 ^ suc n ≡ 2 ^ suc n = omega arith in
      rw (places, q, e, lt-ltb x (2 ^ suc n) l) refl
