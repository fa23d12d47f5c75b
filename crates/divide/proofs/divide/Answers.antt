use Rattle.std.proofs.Common.{ℕ, ◌+◌, ◌/◌, ◌%◌, ◌^◌, ◌<◌, Bool, true, false, cond, arith}
use Rattle.divide.specs.declared.Divided.{Divided}
use lib.Dec.{eqb, ltb}
use Rattle.registers.specs.Reg.{sign}
use Rattle.divide.specs.Wd.{abs24, stored_division, kept, wd_sign, wd_correction, wd_end}
use Rattle.divide.proofs.divide.Goals as goal

-- the pair fits two words
record InRange (d : Divided) : Type 0 where
  pub bounds : (d.pre < 2 ^ 24) × (d.word < 2 ^ 24) × (d.over < 2)

either : (b : Bool) (x y : Divided) → InRange x → InRange y → InRange (cond b x y)
either true x y p q = p
either false x y p q = q

stored : (ar br : ℕ) → InRange (stored_division ar br)
stored ar br = record { bounds = (omega arith, omega arith, omega arith) }

signed : (pre s ar br : ℕ) → InRange (wd_sign pre s ar br)
unfolding wd_sign
signed pre s ar br = search (either, stored)

corrected : (pre w s ar br : ℕ) → InRange (kept pre w) → InRange (wd_correction pre w s ar br)
unfolding wd_correction
corrected pre w s ar br k =
    either (ltb s (2 ^ 23)) _ _ (either (eqb (ar % 2) (sign 24 ((br + 1) % 2 ^ 24))) _ _ k (signed pre s 0 _)) (signed pre s 0 _)

ended : (pre w s ar br : ℕ) → InRange (kept pre w) → InRange (wd_end pre w s ar br)
unfolding wd_end
ended pre w s ar br k =
    either (eqb (ar % 2) (sign 24 br)) _ _ k (either (eqb (abs24 (ar / 2)) (abs24 s)) _ _ (corrected pre w s ar br k) (signed pre s _ br))

pub returns-clause-bounds : goal.returns-clause-bounds
returns-clause-bounds c =
    let p = c.new.ensures in
    let w = c.new-word.ensures in
    let k : InRange (kept c.new.result c.new-word.result) = record { bounds = (omega arith, omega arith, omega arith) } in
    rw c.finish.ensures (ended c.new.result c.new-word.result c.new-divisor.result c.first.result c.last.result k).bounds
