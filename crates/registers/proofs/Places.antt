-- Shifts by n places at once. Assumes nothing.
use Rattle.std.proofs.Common.{◌≡◌, ℕ, zero, suc, ◌+◌, ◌-◌, ◌*◌, ◌%◌, ◌^◌, ◌<◌, ◌≤◌, arith, ap, sym, subst, ◌∙◌}
use Rattle.std.proofs.Math.Nat.{mod-eq_of_lt}
use Rattle.std.proofs.Math.Pow.{mod-mod-pow}
use Rattle.std.proofs.lemmas.Nat.{mul-mod_first}
use Rattle.registers.specs.Reg.{shl, iter}

iter_left : (b n x : ℕ) → x < 2 ^ b → x * 2 ^ n % 2 ^ b ≡ iter (shl b) n x
unfolding iter
iter_left b zero x h = mod-eq_of_lt (omega arith) ∙ omega arith
iter_left b (suc n) x h =
    let p : 2 ^ suc n ≡ 2 * 2 ^ n = omega arith in
    let e : x * 2 ^ suc n ≡ x * 2 ^ n * 2 = rw p (omega arith) in
    ap (λ (k : ℕ). k % 2 ^ b) e ∙ sym (mul-mod_first (x * 2 ^ n) 2 (2 ^ b)) ∙ ap (shl b) (iter_left b n x h)

-- of a host word of 64 bits
pub places_left : (b n x : ℕ) → x < 2 ^ b → b ≤ 64 → x * 2 ^ n % 2 ^ 64 % 2 ^ b ≡ iter (shl b) n x
places_left b n x h l =
    let e : 64 - b + b ≡ 64 = omega arith in
    subst (λ (k : ℕ). x * 2 ^ n % 2 ^ k % 2 ^ b ≡ iter (shl b) n x) e (mod-mod-pow (x * 2 ^ n) (64 - b) b ∙ iter_left b n x h)
