-- The grammar of addresses: a tree for each reading, the bytes that it is written with, its value, whether every value is in range, its depth. No
-- reader is named here.
--   sum = product | sum "+" product | sum "-" product
--   product = primary | product "*" primary
--   primary = digit {digit} | "(" sum ")"
-- Assumes nothing.
use Rattle.std.specs.Prelude.{ℕ, suc, ◌+◌, ◌*◌, ◌<◌, max, Bool, ◌&&◌, List, [], ◌∷◌, ◌++◌, ltb, ℤ, pos, negsuc, ◌+ℤ◌, ◌-ℤ◌, ◌*ℤ◌}
use Rattle.definition_assembler.specs.Letters.{ascii}

pub record Digit : Type 0 where
  pub value : ℕ
  pub small : value < 10

mutual
  pub data Sum : Type 0 where
    term : Product → Sum
    plus : Sum → Product → Sum
    minus : Sum → Product → Sum

  pub data Product : Type 0 where
    factor : Primary → Product
    times : Product → Primary → Product

  pub data Primary : Type 0 where
    number : Digit → List Digit → Primary
    group : Sum → Primary

-- ---- the bytes
abbrev pub digit_byte : Digit → ℕ
digit_byte d = ascii "0" + d.value

unfoldable pub digit_bytes : List Digit → List ℕ
digit_bytes [] = []
digit_bytes (d ∷ ds) = digit_byte d ∷ digit_bytes ds

unfoldable mutual
  pub sum_bytes : Sum → List ℕ
  sum_bytes (term p) = product_bytes p
  sum_bytes (plus s p) = sum_bytes s ++ (ascii "+" ∷ product_bytes p)
  sum_bytes (minus s p) = sum_bytes s ++ (ascii "-" ∷ product_bytes p)

  pub product_bytes : Product → List ℕ
  product_bytes (factor q) = primary_bytes q
  product_bytes (times p q) = product_bytes p ++ (ascii "*" ∷ primary_bytes q)

  pub primary_bytes : Primary → List ℕ
  primary_bytes (number d ds) = digit_byte d ∷ digit_bytes ds
  primary_bytes (group s) = ascii "(" ∷ (sum_bytes s ++ (ascii ")" ∷ []))

-- ---- the value: equal operators go from the left, as the tree does
unfoldable pub decimal : ℕ → List Digit → ℕ  -- a is the value of the digits before them
decimal a [] = a
decimal a (d ∷ ds) = decimal (10 * a + d.value) ds

unfoldable mutual
  pub sum_value : Sum → ℤ
  sum_value (term p) = product_value p
  sum_value (plus s p) = sum_value s +ℤ product_value p
  sum_value (minus s p) = sum_value s -ℤ product_value p

  pub product_value : Product → ℤ
  product_value (factor q) = primary_value q
  product_value (times p q) = product_value p *ℤ primary_value q

  pub primary_value : Primary → ℤ
  primary_value (number d ds) = pos (decimal d.value ds)
  primary_value (group s) = sum_value s

-- ---- between -8388608 and 8388607; negsuc n is -(n + 1)
unfoldable pub in_range : ℤ → Bool
in_range (pos n) = ltb n 8388608
in_range (negsuc n) = ltb n 8388608

-- every number, every partial sum from the left and every partial product is in range
unfoldable mutual
  pub sum_in_range : Sum → Bool
  sum_in_range (term p) = product_in_range p
  sum_in_range (plus s p) = sum_in_range s && product_in_range p && in_range (sum_value s +ℤ product_value p)
  sum_in_range (minus s p) = sum_in_range s && product_in_range p && in_range (sum_value s -ℤ product_value p)

  pub product_in_range : Product → Bool
  product_in_range (factor q) = primary_in_range q
  product_in_range (times p q) = product_in_range p && primary_in_range q && in_range (product_value p *ℤ primary_value q)

  pub primary_in_range : Primary → Bool
  primary_in_range (number d ds) = in_range (pos (decimal d.value ds))
  primary_in_range (group s) = sum_in_range s

-- ---- round parentheses open at one time
unfoldable mutual
  pub sum_depth : Sum → ℕ
  sum_depth (term p) = product_depth p
  sum_depth (plus s p) = max (sum_depth s) (product_depth p)
  sum_depth (minus s p) = max (sum_depth s) (product_depth p)

  pub product_depth : Product → ℕ
  product_depth (factor q) = primary_depth q
  product_depth (times p q) = max (product_depth p) (primary_depth q)

  pub primary_depth : Primary → ℕ
  primary_depth (number d ds) = 0
  primary_depth (group s) = suc (sum_depth s)
