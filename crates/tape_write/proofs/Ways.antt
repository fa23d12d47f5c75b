-- The whole tape: its parts put one after the other, and the ways out of the writer. Assumes nothing.
use Prim.Native.Nat.{ℕ, ◌+◌, ◌≤◌, ◌<◌}
use mathlib.Core.Path.{◌≡◌, refl, sym, ap, ◌∙◌}
use mathlib.Core.Bool.{true, false}
use mathlib.Core.Option.{Option, none, some}
use mathlib.Core.List.{List, ◌++◌, append_assoc, append-nil}
use native.Mathlib.Omega.{arith}
use borrow.Author.Tests.{leb-true, le-leb, lt-leb}
use lib.ListN.{length, length-append}
use Rattle.machine.specs.declared.Record.{Record}
use Rattle.machine.specs.declared.Refusal.{Refusal}
use Rattle.machine.specs.declared.Refusal.TheVariants.{RemarkLength, WrittenLength, BufferLength}
use Rattle.machine.specs.Verdicts.{Verdict, Accepted, Rejected}
use Rattle.acceptance.specs.Accept.{judge_machine}
use Rattle.definition_tape.specs.Writing.{Written}
use Rattle.definition_tape.specs.Blocks.{store_blocks}
use Rattle.definition_tape.specs.Bytes.{header_bytes, record_bytes, blocks_bytes, control_bytes, remark_record, tape_of}
use Rattle.definition_tape.specs.Writing.{remark_fits, judge_size, judge_parts, judge_writing, writing}
use Rattle.tape_write.specs.Steps.{put, written_as}
use Rattle.definition_tape.proofs.Bytes.{length_record, length_control}
use Rattle.tape_write.proofs.Puts.{put_then, put_none, put_first}

-- ---- the remark

pub remark_small : (m : Option (List ℕ)) → remark_fits m ≡ true → length (remark_record m) ≤ 261
unfolding remark_fits remark_record
remark_small none f = omega arith
remark_small (some r) f = let l = leb-true (length r) 255 f in omega (arith, length_record 4 r)

pub no_remark_put : (o : List ℕ) → o ≡ put o 0 (remark_record none)
unfolding remark_record
no_remark_put o = sym (put_none o 0)

pub remark_put : (o₀ o₁ o₂ t : List ℕ) → o₁ ≡ put o₀ 0 (header_bytes 4 (length t)) → o₂ ≡ put o₁ 6 t → o₂ ≡ put o₀ 0 (remark_record (some t))
unfolding remark_record record_bytes header_bytes
remark_put o₀ o₁ o₂ t f g = put_then o₀ o₁ o₂ 0 6 (header_bytes 4 (length t)) t f g refl (omega arith)

-- ---- the parts of the tape

module _ (s : List ℕ) (c : Record) (m : Option (List ℕ)) where
  pub parts_put : (o₀ o₁ o₂ o₃ o₄ : List ℕ) (at end : ℕ) → o₁ ≡ put o₀ 0 (remark_record m) → at ≡ length (remark_record m) → o₂ ≡ put o₁ at (blocks_bytes (store_blocks s))
      → end ≡ at + length (blocks_bytes (store_blocks s)) → o₃ ≡ put o₂ end (record_bytes 2 (control_bytes c)) → o₄ ≡ put o₃ (end + 39) (header_bytes 3 0)
      → o₄ ≡ put o₀ 0 (tape_of s c m)
  unfolding tape_of record_bytes
  parts_put o₀ o₁ o₂ o₃ o₄ at end e₁ a e₂ b e₃ e₄ =
      let r = remark_record m in
      let bs = blocks_bytes (store_blocks s) in
      let k = record_bytes 2 (control_bytes c) in
      let h = header_bytes 3 0 in
      let lk = length_record 2 (control_bytes c) in
      let lc = length_control c in
      let l₂ = length-append r bs in
      let l₃ = length-append (r ++ bs) k in
      let f₂ = put_then o₀ o₁ o₂ 0 at r bs e₁ e₂ (omega arith) (omega arith) in
      let f₃ = put_then o₀ o₂ o₃ 0 end (r ++ bs) k f₂ e₃ (omega arith) (omega arith) in
      let f₄ = put_then o₀ o₃ o₄ 0 (end + 39) (r ++ bs ++ k) h f₃ e₄ (omega arith) (omega arith) in
      f₄ ∙ ap (put o₀ 0) (append_assoc (r ++ bs) k h ∙ append_assoc r bs (k ++ h) ∙ ap (λ (t : List ℕ). r ++ (bs ++ (k ++ t))) (sym (append-nil h)))

  -- ---- the ways out

  module _ (o : List ℕ) (n : ℕ) (e : n ≡ length (tape_of s c m)) (f : remark_fits m ≡ true) where
    pub written : (o' : List ℕ) → n ≤ 65536 → n ≤ length o → o' ≡ put o 0 (tape_of s c m)
        → (record { length = n; verdict = Accepted } ≡ (written_as s c m o).answer) × (o' ≡ (written_as s c m o).bytes)
    unfolding written_as judge_parts judge_size
    written o' h l g =
        rw (f, le-leb (length (tape_of s c m)) 65536 (omega (arith, e)), le-leb (length (tape_of s c m)) (length o) (omega (arith, e)))
        (rw e, g ∙ put_first o (tape_of s c m))

    pub buffer_short : n ≤ 65536 → length o < n → (record { length = 0; verdict = Rejected BufferLength } ≡ (written_as s c m o).answer) × (o ≡ (written_as s c m o).bytes)
    unfolding written_as judge_parts judge_size
    buffer_short h l = rw (f, ← e, le-leb n 65536 h, lt-leb n (length o) l) (refl, refl)

    pub tape_long : 65536 < n → (record { length = 0; verdict = Rejected WrittenLength } ≡ (written_as s c m o).answer) × (o ≡ (written_as s c m o).bytes)
    unfolding written_as judge_parts judge_size
    tape_long h = rw (f, ← e, lt-leb n 65536 h) (refl, refl)

  pub remark_long : (o : List ℕ) → remark_fits m ≡ false → (record { length = 0; verdict = Rejected RemarkLength } ≡ (written_as s c m o).answer) × (o ≡ (written_as s c m o).bytes)
  unfolding written_as judge_parts
  remark_long o f = rw f (refl, refl)

  module _ (o : List ℕ) (v : Verdict) (e : v ≡ judge_machine s c) where
    pub machine_written : (r : Written) (o' : List ℕ) → v ≡ Accepted → (r ≡ (written_as s c m o).answer) × (o' ≡ (written_as s c m o).bytes)
        → (r ≡ (writing s c m o).answer) × (o' ≡ (writing s c m o).bytes)
    unfolding writing written_as judge_writing
    machine_written r o' a f = rw (← e, a) f

    pub machine_refused : (q : Refusal) → v ≡ Rejected q
        → (record { length = 0; verdict = Rejected q } ≡ (writing s c m o).answer) × (o ≡ (writing s c m o).bytes)
    unfolding writing judge_writing
    machine_refused q a = rw (← e, a) (refl, refl)
