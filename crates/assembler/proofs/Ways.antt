-- What a good head of a line bounds: the code, the register and the index. Assumes nothing.
use Prim.Native.Nat.{ℕ, ◌+◌, ◌-◌, ◌<◌}
use mathlib.Core.Path.{◌≡◌}
use mathlib.Core.Bool.{true}
use mathlib.Core.List.{List}
use native.Mathlib.Omega.{arith}
use borrow.Author.Tests.{ltb-true}
use lib.Dec.{ltb}
use Rattle.definition_assembler.specs.Head.{code_of, byte, register_good, index_good, index_of, register_place, index_place, head_good}
use Rattle.definition_assembler.proofs.Parts.{both, register_sound, index_sound}

module _ (t : List ℕ) where
  pub head_bounds : head_good t ≡ true → (code_of (byte t 0) (byte t 1) < 58) × (byte t (register_place t + 2) - 48 < 4) × (index_of t (index_place t) < 4)
  unfolding head_good
  head_bounds g =
      let a = both _ (index_good t (index_place t)) g in
      let b = both (ltb (code_of (byte t 0) (byte t 1)) 58) (register_good t (register_place t)) a.0 in
      let s = register_sound t (register_place t) b.1 in
      let l = s.1 in
      let u = s.2 in
      (ltb-true (code_of (byte t 0) (byte t 1)) 58 b.0, omega arith, (index_sound t (index_place t) a.1).1)
