use Rattle.std.proofs.Math.Nat.{div-add-mod, mod-lt}
use Rattle.std.proofs.Math.Pow.{pow_pos, pow-lt}
use Rattle.std.proofs.Common.{◌≡◌, ◌+◌, ◌*◌, ◌/◌, ◌%◌, ◌^◌, ◌<◌, ℕ, zero, suc, arith}
use Rattle.registers.proofs.register.Register.shifted_in.Goals as goal

-- an even number below an even one
even_below : (x h b : ℕ) → 0 < h → b < 2 → x * 2 % (2 * h) + b < 2 * h
even_below x h b p l =
    let d : 2 * h * (x * 2 / (2 * h)) + x * 2 % (2 * h) ≡ x * 2 = div-add-mod (x * 2) (2 * h) in
    let m : x * 2 % (2 * h) < 2 * h = mod-lt (x * 2) (omega arith) in
    let t : ℕ = h * (x * 2 / (2 * h)) in
    let e : 2 * t + x * 2 % (2 * h) ≡ x * 2 = omega arith in
    omega arith

below : (x n b : ℕ) → 0 < n → b < 2 → x * 2 % 2 ^ n + b < 2 ^ n
below x (suc k) b z l = let e : 2 ^ suc k ≡ 2 * 2 ^ k = omega arith in rw e (even_below x (2 ^ k) b (pow_pos k) l)
below x zero b z l = absurd (omega arith)

pub invariant_of-result : goal.invariant_of-result
invariant_of-result g c =
    let p : 2 ^ g.row.N < 2 ^ 64 = pow-lt {i = g.row.N} {j = 64} (omega arith) in
    let m : 1 * 2 ^ g.row.N % 2 ^ 64 ≡ 2 ^ g.row.N = omega arith in
    (rw m (below c.self.inside.bits g.row.N c.args.bit (omega arith) c.requires), omega arith, omega arith)
