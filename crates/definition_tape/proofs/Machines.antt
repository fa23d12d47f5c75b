-- What an accepted machine has. Assumes nothing.
use Prim.Native.Nat.{ℕ, ◌≤◌}
use mathlib.Core.Path.{◌≡◌}
use mathlib.Core.Bool.{true, cond}
use mathlib.Core.List.{List}
use borrow.Author.Tests.{leb-true}
use lib.ListN.{length}
use lib.Dec.{leb, ltb}
use Rattle.machine.specs.declared.Record.{Record}
use Rattle.machine.specs.declared.Refusal.TheVariants.{StoreSize, CellValue, ControlField}
use Rattle.machine.specs.Verdicts.{Accepted, Rejected}
use Rattle.acceptance.specs.Accept.{size_fits, cells_fit, control_fits, timer_fits, judge_registers, judge_machine}
use Rattle.acceptance.proofs.Tests.{passed, neither, passed_timer}

pub record Machine (s : List ℕ) (r : Record) : Type 0 where
  pub fits : size_fits (length s) ≡ true
  pub size : length s ≤ 8388608
  pub cells : cells_fit s ≡ true
  pub control : control_fits r.registers ≡ true
  pub timer : timer_fits r.timer ≡ true

size_most : (n : ℕ) → size_fits n ≡ true → n ≤ 8388608
unfolding size_fits
size_most n e = leb-true n 8388608 (neither (ltb n 8) (leb n 8388608) e).1

pub machine : (s : List ℕ) (r : Record) → judge_machine s r ≡ Accepted → Machine s r
unfolding judge_registers judge_machine
machine s r e =
    let c = r.registers in
    let t = passed_timer (judge_registers s c) r.timer e in
    let a = passed (size_fits (length s)) (cond (cells_fit s) (cond (control_fits c) Accepted (Rejected ControlField)) (Rejected CellValue)) StoreSize t.0 in
    let b = passed (cells_fit s) (cond (control_fits c) Accepted (Rejected ControlField)) CellValue a.1 in
    let d = passed (control_fits c) Accepted ControlField b.1 in
    record { fits = a.0; size = size_most (length s) a.0; cells = b.0; control = d.0; timer = t.1 }
