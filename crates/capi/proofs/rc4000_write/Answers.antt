use Rattle.std.proofs.Common.{◌≡◌, refl, not, Bool, true, false, List, ℕ}
use Rattle.std.specs.Bool.{then_some}
use denote.Ref.{Bor}
use lib.Dec.{eqb}
use Rattle.definition_tape.specs.Writing.{remark_of, remark_lent}
use Rattle.capi_records.specs.Results.{write_call}
use Rattle.capi.proofs.rc4000_write.Goals as goal

-- the remark that a flag and a text stand for, lent
lent : (b : Bool) (t : Bor (List ℕ)) → remark_lent (then_some b t) ≡ remark_of b t.now
lent true t = refl
lent false t = refl

pub returns-in-Ok : goal.returns-in-Ok
unfolding write_call
returns-in-Ok c =
    let e : remark_lent c.then_some.result ≡ remark_of (not (eqb c.args.given 0)) c.args.text.now = rw c.then_some.ensures (lent _ _) in
    rw (
      ← c.judge_flags.ensures,
      c.in-Ok.is,
      ← c.from-c.ensures,
      ← e,
      ← c.write-x.ensures.answer,
      ← c.write-x.ensures.bytes,
      ← c.write_result.ensures,
    )
