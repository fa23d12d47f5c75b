use Rattle.std.proofs.Math.Pow.{pow_mono}
use Rattle.std.proofs.Common.{◌≡◌, ◌+◌, ◌-◌, ◌*◌, ◌%◌, ◌^◌, ◌<◌, ◌≤◌, ℕ, zero, suc, arith}
use Rattle.registers.proofs.register.Register.signed.Goals as goal

-- the sign's bits go above x
above : (x s p q : ℕ) → x < p → p ≤ q → s < 2 → x + s * (q - p) < q
above x zero p q l m n = omega arith
above x (suc zero) p q l m n = omega arith
above x (suc (suc s)) p q l m n = absurd (omega arith)

pub overflow_sub-result : goal.overflow_sub-result
overflow_sub-result g c =
    let l : 2 ^ g.row.N ≤ 2 ^ g.row.M = pow_mono (omega arith) in
    let m : 2 ^ g.row.M ≤ 2 ^ 63 = pow_mono {i = g.row.M} {j = 63} (omega arith) in
    omega arith

pub invariant_of-result : goal.invariant_of-result
invariant_of-result g c =
    let l : 2 ^ g.row.N ≤ 2 ^ g.row.M = pow_mono (omega arith) in
    let m : 2 ^ g.row.M ≤ 2 ^ 63 = pow_mono {i = g.row.M} {j = 63} (omega arith) in
    let n : 1 * 2 ^ g.row.N % 2 ^ 64 ≡ 2 ^ g.row.N = omega arith in
    let k : 1 * 2 ^ g.row.M % 2 ^ 64 ≡ 2 ^ g.row.M = omega arith in
    (rw (n, k) (above c.self.inside.bits c.sign.result (2 ^ g.row.N) (2 ^ g.row.M) c.self.invariant.0 l c.sign.ensures.bound), omega arith, omega arith)
