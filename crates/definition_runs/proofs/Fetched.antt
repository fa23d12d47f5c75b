-- An even IC and IC + 1 are the two bytes of one word. Assumes nothing.
use Prim.Native.Nat.{ℕ, ◌+◌, ◌/◌, ◌%◌, ◌<◌}
use native.Mathlib.Omega.{arith}
use mathlib.Core.Path.{◌≡◌}
use mathlib.Core.List.{List}
use borrow.Author.Tests.{eq-eqb, ne_eqb}
use Rattle.machine.specs.Store.{word, byte}
use Rattle.integer.specs.Sums.{sum24}
use Rattle.definition_runs.specs.Cycle.{fetched}

pub even_word : (s : List ℕ) (ic : ℕ) → ic < 16777216 → ic % 2 ≡ 0 → word s (ic / 2) ≡ fetched s ic
unfolding fetched byte sum24
even_word s ic h e =
    let n : (ic + 1) % 16777216 ≡ ic + 1 = omega arith in
    let q : (ic + 1) / 2 ≡ ic / 2 = omega arith in
    let odd : (ic + 1) % 2 ≡ 0 → ⊥ = λ z. omega arith in
    rw (n, eq-eqb (ic % 2) 0 e, ne_eqb ((ic + 1) % 2) 0 odd, q) (omega arith)
