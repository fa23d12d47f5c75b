-- A tape from a place on, as the code lends it. Assumes nothing.
use Prim.Native.Nat.{ℕ, ◌-◌}
use mathlib.Core.Path.{◌≡◌}
use mathlib.Core.List.{List}
use native.Mathlib.Omega.{arith}
use lib.ListN.{length, take, drop, length-drop}
use lib.Seq.{take_all}

-- `&t[n..]` is lent as `take (length t - n) (drop n t)`
pub tail : (n : ℕ) (t : List ℕ) → take (length t - n) (drop n t) ≡ drop n t
tail n t = take_all (length t - n) (drop n t) (simp length-drop (omega arith))

pub length_tail : (n : ℕ) (t : List ℕ) → length (take (length t - n) (drop n t)) ≡ length t - n
length_tail n t = rw (tail n t) (length-drop n t)
