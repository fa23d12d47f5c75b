-- A code that the table of A.2 lacks. Assumes nothing.
use Prim.Native.Nat.{ℕ, ◌≤◌, ◌<◌}
use native.Mathlib.Omega.{arith}
use mathlib.Core.Path.{◌≡◌, refl}
use mathlib.Core.Bool.{Bool, true, false, cond}
use mathlib.Core.List.{List, [], ◌∷◌}
use lib.Dec.{ltb}
use borrow.Author.Tests.{ltb-true, ne_eqb}
use Rattle.machine.specs.declared.Control.{Control}
use Rattle.acceptance.proofs.Tests.{both}
use Rattle.definition_instructions.specs.Machine.{Channel, machine}
use Rattle.definition_instructions.specs.MicroOps.{execute_operation}
use Rattle.definition_instructions.specs.Meaning.{None, meaning}
use Rattle.definition_instructions.specs.Codes.{internal, Code, codes, lookup, execute, execute_code}
use Rattle.control_row.specs.Endings.{faulted, ending}

-- every number of the list is below n
unfoldable below : ℕ → List Code → Bool
below n [] = true
below n (x ∷ xs) = cond (ltb x.number n) (below n xs) false

lookup_beyond : (f n : ℕ) (cs : List Code) → below n cs ≡ true → n ≤ f → lookup f cs ≡ internal None
unfolding lookup below
lookup_beyond f n [] e h = refl
lookup_beyond f n (x ∷ xs) e h =
    let p = both (ltb x.number n) (below n xs) e in
    let l : x.number < n = ltb-true x.number n p.0 in
    rw (ne_eqb f x.number (λ q. omega arith)) (lookup_beyond f n xs p.1 h)

all_below : below 58 codes ≡ true
unfolding below codes
all_below = refl

pub unassigned_code : (f w sb : ℕ) (s : List ℕ) (c : Control) (h : Channel) → 58 ≤ f → faulted (machine s c h) ≡ ending (execute_code f w sb (machine s c h))
unfolding execute_code execute execute_operation meaning
unassigned_code f w sb s c h l = rw (lookup_beyond f 58 codes all_below l)
