-- Bytes put into a buffer, one after the other. Assumes nothing.
use Prim.Native.Nat.{ℕ, ◌+◌, ◌*◌, ◌%◌, ◌≤◌, ◌<◌}
use mathlib.Core.Path.{◌≡◌, refl, sym, ap, ◌∙◌}
use mathlib.Core.List.{List, [], ◌∷◌, ◌++◌, append_assoc}
use native.Mathlib.Numerals.{add-one, add-two, add-three}
use native.Mathlib.Nat.{mod-eq_of_lt}
use native.Mathlib.Omega.{arith}
use borrow.Rule.Slice.PartMut.{put_mid}
use lib.ListN.{length, take, drop, get_or, set, length-append, length-take, length-drop, take-append-drop}
use lib.Seq.{take_at, drop_at, drop-drop, length-take-le, set_split, sets-eq, take-suc, take-length}
use Rattle.machine.specs.declared.Timer.{Timer}
use Rattle.machine.specs.declared.Record.{Record}
use Rattle.definition_tape.specs.Bytes.{bytes2, bytes4, header_bytes, record_bytes, cells_bytes, block_bytes, state_bytes, timer_bytes, control_bytes}
use Rattle.definition_tape.specs.Blocks.{Block}
use Rattle.tape_write.specs.Steps.{put, stretch_bytes}
use Rattle.definition_tape.proofs.Bytes.{length_cells_bytes, length_block}

-- ---- two puts side by side are one

pub put_put : (o : List ℕ) (at : ℕ) (a b : List ℕ) → at ≤ length o → put (put o at a) (at + length a) b ≡ put o at (a ++ b)
unfolding put
put_put o at a b h =
    let p = take at o in
    let r = drop (at + length a) o in
    let l : length (p ++ a) ≡ at + length a = length-append p a ∙ rw (length-take-le at o h) in
    let n : length (a ++ b) ≡ length a + length b = length-append a b in
    let k : at + length a + length b ≡ at + (length a + length b) = omega arith in
    let d : drop (at + length a + length b) (p ++ a ++ r) ≡ drop (at + (length a + length b)) o =
    sym (drop-drop (length b) (at + length a) (p ++ a ++ r))
    ∙ ap (drop (length b)) (drop_at (p ++ a) r (at + length a) l)
    ∙ drop-drop (length b) (at + length a) o
    ∙ ap (λ (x : ℕ). drop x o) k in
    rw (sym (append_assoc p a r), take_at (p ++ a) r (at + length a) l, d, n)
    (append_assoc p a _ ∙ ap (◌++◌ p) (sym (append_assoc a b _)))

pub length_put : (o : List ℕ) (at : ℕ) (a : List ℕ) → at + length a ≤ length o → length (put o at a) ≡ length o
unfolding put
length_put o at a h = simp (length-append, length-take, length-drop) (omega arith)

-- a put, then another where it ends
pub put_then : (o₀ o₁ o₂ : List ℕ) (at next : ℕ) (a b : List ℕ) → o₁ ≡ put o₀ at a → o₂ ≡ put o₁ next b → next ≡ at + length a → at ≤ length o₀
    → o₂ ≡ put o₀ at (a ++ b)
put_then o₀ o₁ o₂ at next a b e f n h = f ∙ rw (e, n) (put_put o₀ at a b h)

pub put_none : (o : List ℕ) (at : ℕ) → put o at [] ≡ o
unfolding put
put_none o at = let z : at + 0 ≡ at = omega arith in rw z (take-append-drop at o)

-- at the start of the buffer
pub put_first : (o a : List ℕ) → put o 0 a ≡ a ++ drop (length a) o
unfolding put
put_first o a = let z : 0 + length a ≡ length a = omega arith in rw z

-- ---- the stores that a number makes

pub two_stores : (o : List ℕ) (at x y : ℕ) → at + 2 ≤ length o → set (set o at x) (at + 1) y ≡ put o at (x ∷ y ∷ [])
unfolding put
two_stores o at x y h = rw (add-one at) (sets-eq (x ∷ y ∷ []) o at h ∙ append_assoc (take at o) (x ∷ y ∷ []) (drop (at + 2) o))

pub four_stores : (o : List ℕ) (at x y z w : ℕ) → at + 4 ≤ length o
    → set (set (set (set o at x) (at + 1) y) (at + 2) z) (at + 3) w ≡ put o at (x ∷ y ∷ z ∷ w ∷ [])
unfolding put
four_stores o at x y z w h =
    rw (add-one at, add-two at, add-three at)
    (sets-eq (x ∷ y ∷ z ∷ w ∷ []) o at h ∙ append_assoc (take at o) (x ∷ y ∷ z ∷ w ∷ []) (drop (at + 4) o))

one_store : (o : List ℕ) (at x : ℕ) → at < length o → set o at x ≡ put o at (x ∷ [])
unfolding put
one_store o at x h = rw (add-one at) (set_split o at x h)

-- ---- a part of the buffer written at once

pub part_put : (o x bs : List ℕ) (at k : ℕ) → x ≡ bs → k ≡ length bs → put_mid at k o x ≡ put o at bs
unfolding put
part_put o x bs at k e h = rw (e, h) (ap (λ (r : List ℕ). take at o ++ (bs ++ r)) (drop-drop (length bs) at o))

-- ---- a header, a control record

pub header_put : (o₀ o₁ o₂ : List ℕ) (at k l : ℕ) → at ≤ length o₀ → o₁ ≡ put o₀ at (bytes4 l) → o₂ ≡ put o₁ (at + 4) (bytes2 k) → o₂ ≡ put o₀ at (header_bytes k l)
unfolding header_bytes
header_put o₀ o₁ o₂ at k l h e f = put_then o₀ o₁ o₂ at (at + 4) (bytes4 l) (bytes2 k) e f refl h

pub timer_put : (o₀ o₁ o₂ o₃ : List ℕ) (at x : ℕ) (t : Timer) → at + 13 ≤ length o₀ → length o₃ ≡ length o₀ → x ≡ t.line → x < 256 → o₁ ≡ put o₀ at (bytes4 t.elapsed)
    → o₂ ≡ put o₁ (at + 4) (bytes4 t.period) → o₃ ≡ put o₂ (at + 8) (bytes4 t.phase) → set o₃ (at + 12) x ≡ put o₀ at (timer_bytes t)
timer_put o₀ o₁ o₂ o₃ at x t h k e l e₁ e₂ e₃ =
    let b : at ≤ length o₀ = omega arith in
    let m : t.line % 256 ≡ x = rw (← e) (mod-eq_of_lt l) in
    let f₂ = put_then o₀ o₁ o₂ at (at + 4) _ _ e₁ e₂ refl b in
    let f₃ = put_then o₀ o₂ o₃ at (at + 8) _ _ f₂ e₃ refl b in
    rw m (put_then o₀ o₃ _ at (at + 12) _ _ f₃ (one_store o₃ (at + 12) x (omega arith)) refl b)

pub control_put : (o₀ o₁ o₂ o₃ o₄ o₅ o₆ o₇ : List ℕ) (at : ℕ) (r : Record) → at ≤ length o₀ → o₁ ≡ put o₀ at (header_bytes 2 33)
    → o₂ ≡ put o₁ (at + 6) (bytes4 r.registers.ic) → o₃ ≡ put o₂ (at + 10) (bytes4 r.registers.ir) → o₄ ≡ put o₃ (at + 14) (bytes4 r.registers.im)
    → o₅ ≡ put o₄ (at + 18) (bytes4 r.registers.pending) → o₆ ≡ put o₅ (at + 22) (state_bytes r.registers) → o₇ ≡ put o₆ (at + 26) (timer_bytes r.timer)
    → o₇ ≡ put o₀ at (record_bytes 2 (control_bytes r))
unfolding header_bytes record_bytes control_bytes
control_put o₀ o₁ o₂ o₃ o₄ o₅ o₆ o₇ at r h e₁ e₂ e₃ e₄ e₅ e₆ e₇ =
    let f₂ = put_then o₀ o₁ o₂ at (at + 6) _ _ e₁ e₂ refl h in
    let f₃ = put_then o₀ o₂ o₃ at (at + 10) _ _ f₂ e₃ refl h in
    let f₄ = put_then o₀ o₃ o₄ at (at + 14) _ _ f₃ e₄ refl h in
    let f₅ = put_then o₀ o₄ o₅ at (at + 18) _ _ f₄ e₅ refl h in
    let f₆ = put_then o₀ o₅ o₆ at (at + 22) _ _ f₅ e₆ refl h in
    put_then o₀ o₆ o₇ at (at + 26) _ _ f₆ e₇ refl h

-- ---- a text

pub text_none : (o : List ℕ) (at : ℕ) → o ≡ put o at []
text_none o at = sym (put_none o at)

pub text_more : (o₀ o₁ : List ℕ) (at i : ℕ) (t : List ℕ) → at + length t ≤ length o₀ → length o₁ ≡ length o₀ → i < length t → o₁ ≡ put o₀ at (take i t)
    → set o₁ (at + i) (get_or t i 0) ≡ put o₀ at (take (i + 1) t)
text_more o₀ o₁ at i t h k l e =
    let n : length (take i t) ≡ i = length-take-le i t (omega arith) in
    rw (add-one i, take-suc t i 0 l)
    (put_then o₀ o₁ _ at (at + i) (take i t) (get_or t i 0 ∷ []) e (one_store o₁ (at + i) (get_or t i 0) (omega arith)) (rw n) (omega arith))

pub text_all : (o₀ o₁ : List ℕ) (at i : ℕ) (t : List ℕ) → i ≡ length t → o₁ ≡ put o₀ at (take i t) → o₁ ≡ put o₀ at t
text_all o₀ o₁ at i t e f = f ∙ rw (e, take-length t)

-- ---- cells

cells_append : (a b : List ℕ) → cells_bytes (a ++ b) ≡ cells_bytes a ++ cells_bytes b
unfolding cells_bytes
cells_append [] b = refl
cells_append (x ∷ a) b = ap (◌++◌ (bytes4 x)) (cells_append a b) ∙ sym (append_assoc (bytes4 x) (cells_bytes a) (cells_bytes b))

pub cells_none : (o : List ℕ) (at : ℕ) → o ≡ put o at (cells_bytes [])
unfolding cells_bytes
cells_none o at = sym (put_none o at)

-- i cells are put, and one more
pub cells_more : (o₀ o₁ o₂ : List ℕ) (at i x : ℕ) (cs : List ℕ) → at ≤ length o₀ → i < length cs → o₁ ≡ put o₀ at (cells_bytes (take i cs)) → x ≡ get_or cs i 0
    → o₂ ≡ put o₁ (at + 4 * i) (bytes4 x) → o₂ ≡ put o₀ at (cells_bytes (take (i + 1) cs))
unfolding cells_bytes
cells_more o₀ o₁ o₂ at i x cs h l e ex f =
    let t : length (take i cs) ≡ i = length-take-le i cs (omega arith) in
    let n : at + 4 * i ≡ at + length (cells_bytes (take i cs)) = rw (length_cells_bytes (take i cs), t) in
    rw (add-one i, take-suc cs i 0 l, cells_append (take i cs) (get_or cs i 0 ∷ []), ← ex)
    (put_then o₀ o₁ o₂ at (at + 4 * i) (cells_bytes (take i cs)) (bytes4 x) e f n h)

pub cells_all : (o₀ o₁ : List ℕ) (at i : ℕ) (cs : List ℕ) → i ≡ length cs → o₁ ≡ put o₀ at (cells_bytes (take i cs)) → o₁ ≡ put o₀ at (cells_bytes cs)
cells_all o₀ o₁ at i cs e f = f ∙ rw (e, take-length cs)

-- ---- a block

pub stretch_put : (o₀ o₁ o₂ o₃ : List ℕ) (at i l : ℕ) (cs : List ℕ) → at ≤ length o₀ → l ≡ 4 + 4 * length cs → o₁ ≡ put o₀ at (header_bytes 1 l)
    → o₂ ≡ put o₁ (at + 6) (bytes4 i) → o₃ ≡ put o₂ (at + 10) (cells_bytes cs) → o₃ ≡ put o₀ at (stretch_bytes i cs)
unfolding stretch_bytes record_bytes header_bytes block_bytes
stretch_put o₀ o₁ o₂ o₃ at i l cs h el e f g =
    let b : Block = record { first = i; cells = cs } in
    let k : l ≡ length (block_bytes b) = el ∙ sym (length_block b) in
    let e' = rw k at e in
    let a = put_then o₀ o₁ o₂ at (at + 6) (header_bytes 1 (length (block_bytes b))) (bytes4 i) e' f refl h in
    put_then o₀ o₂ o₃ at (at + 10) (header_bytes 1 (length (block_bytes b)) ++ bytes4 i) (cells_bytes cs) a g refl h
