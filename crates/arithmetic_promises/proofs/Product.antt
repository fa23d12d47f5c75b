-- The steps' product as that of the signed registers of 48 bits. Assumes nothing.
use mathlib.Core.Path.{◌≡◌, ap₂, ◌∙◌}
use Prim.Native.Nat.{ℕ, ◌+◌, ◌*◌, ◌/◌, ◌%◌, ◌^◌, ◌<◌}
use native.Mathlib.Omega.{arith}
use Rattle.registers.specs.Reg.{signed}
use Rattle.multiply.proofs.Product.{with_offset, product_with_offset, steps_product}
use Rattle.arithmetic_promises.specs.Claims.{ProductLaw}

same_rest : (a b j k : ℕ) → a + j * 2 ^ 48 ≡ b + k * 2 ^ 48 → a % 2 ^ 48 ≡ b % 2 ^ 48
same_rest a b j k e = omega arith

wide : (x : ℕ) → x < 2 ^ 24 → signed 24 48 x + 2 ^ 23 ≡ with_offset x + 2 ^ 48 * (x / 2 ^ 23)
wide x h = omega arith

-- of a = u - 2 ^ 23 + 2 ^ 48 j and b = v - 2 ^ 23 + 2 ^ 48 k
expanded : (a b u v j k : ℕ) → a + 2 ^ 23 ≡ u + 2 ^ 48 * j → b + 2 ^ 23 ≡ v + 2 ^ 48 * k → u < 2 ^ 24 → v < 2 ^ 24
    → product_with_offset u v + (u * k + j * v + 2 ^ 48 * (j * k)) * 2 ^ 48 ≡ a * b + (2 ^ 23 * (j + k) + 1) * 2 ^ 48
expanded a b u v j k e f hu hv = let p : (a + 2 ^ 23) * (b + 2 ^ 23) ≡ (u + 2 ^ 48 * j) * (v + 2 ^ 48 * k) = ap₂ ◌*◌ e f in omega arith

pub product_law : ProductLaw
product_law w s hw hs =
    steps_product w s hw hs
    ∙ same_rest _ _ _ _ (expanded _ _ (with_offset w) (with_offset s) (w / 2 ^ 23) (s / 2 ^ 23) (wide w hw) (wide s hs) (omega arith) (omega arith))
