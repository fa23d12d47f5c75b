-- Four bytes of a buffer, of which the front was read and the rest set to 0.
use Rattle.std.specs.Prelude.{Option}
use Rattle.std.proofs.Common.{◌≡◌, ℕ, ◌+◌, ◌-◌, ◌≤◌, ◌<◌, List, [], ◌++◌, None, Some, IfSome, arith, length, take, get_or, replicate, sym, ap, ◌∙◌, inl, inr, w32}
use Rattle.std.proofs.lemmas.Bool.{cases_lt}
use Rattle.std.specs.Int.{from_le_bytes}
use Rattle.std.proofs.lemmas.Grind.{common_steps}
use Rattle.std.proofs.lemmas.List.{get_or_append_left, get_or-append_right, get_or-replicate}
use Rattle.std.specs.Io.KnownBytes.{Consumes, IsAtEnd}
use borrow.Rule.Slice.PartMut.{put_mid}
use Rattle.reading.specs.Number.{number}

read_byte : (n i : ℕ) (ys zeros buffer : List ℕ) → n ≤ length buffer → i < n → get_or (take n buffer ++ zeros) i 0 ≡ get_or (take n buffer ++ ys) i 0
read_byte n i ys zeros buffer within below = grind (arith, common_steps, get_or_append_left (take n buffer) zeros 0 i, get_or_append_left (take n buffer) ys 0 i)

zero_byte : (n i k : ℕ) (buffer rest : List ℕ) → n ≤ length buffer → n ≤ i → i < n + k → get_or (take n buffer ++ (replicate k 0 ++ rest)) i 0 ≡ 0
zero_byte n i k buffer rest within behind below =
    let zeros : List ℕ = replicate {A = ℕ} k 0 in
    let there : get_or (zeros ++ rest) (i - n) 0 ≡ 0 = grind (arith, common_steps, get_or_append_left {A = ℕ} zeros rest 0 (i - n), get_or-replicate {A = ℕ} k (i - n) 0 0) in
    get_or-append_right (take n buffer) (zeros ++ rest) n i 0 (grind (arith, common_steps)) behind ∙ there

absent_byte : (n i : ℕ) (buffer : List ℕ) → n ≤ length buffer → n ≤ i → get_or (take n buffer ++ []) i 0 ≡ 0
absent_byte n i buffer within behind = grind (arith, common_steps)

-- element i of the buffer is byte i of what was there to read, or 0 where that ended
byte_read : (n i : ℕ) (ys buffer rest : List ℕ) → i < 4 → n ≤ 4 → length buffer ≡ 4 → (n < 4 → ys ≡ [])
    → get_or (take n buffer ++ (replicate {A = ℕ} (4 - n) 0 ++ rest)) i 0 ≡ get_or (take n buffer ++ ys) i 0
byte_read n i ys buffer rest small within long ended = elim (cases_lt i n) [
  | inl below ↦ read_byte n i ys (replicate {A = ℕ} (4 - n) 0 ++ rest) buffer (omega arith) below
  | inr behind ↦ zero_byte n i (4 - n) buffer rest (omega arith) behind (omega arith)
      ∙ sym (ap (λ l. get_or (take n buffer ++ l) i 0) (ended (omega arith)) ∙ absent_byte n i buffer (omega arith) behind)
]

bytes_read : (n : ℕ) (ys buffer rest : List ℕ) → n ≤ 4 → length buffer ≡ 4 → (n < 4 → ys ≡ [])
    → from_le_bytes w32 (take n buffer ++ (replicate {A = ℕ} (4 - n) 0 ++ rest)) ≡ number (take n buffer ++ ys)
unfolding number
bytes_read n ys buffer rest within long ended =
    let at : (i : ℕ) → i < 4 → get_or (take n buffer ++ (replicate {A = ℕ} (4 - n) 0 ++ rest)) i 0 ≡ get_or (take n buffer ++ ys) i 0 = λ i small. byte_read n i ys buffer rest small within long ended in
    grind (arith, at 0 (omega arith), at 1 (omega arith), at 2 (omega arith), at 3 (omega arith))

pub number_read : (a b : Option (List ℕ)) (n r : ℕ) (buffer zeros : List ℕ) → n ≤ length buffer → length buffer ≡ 4 → zeros ≡ replicate {A = ℕ} (4 - n) 0
    → r ≡ from_le_bytes w32 (put_mid n (4 - n) buffer zeros) → Consumes a b (take n buffer) → (n < length buffer → IsAtEnd b) → IfSome a (λ bytes. r ≡ number bytes)
number_read None b n r buffer zeros within long filled is read ended = tt
number_read (Some xs) None n r buffer zeros within long filled is read ended = absurd read
number_read (Some xs) (Some ys) n r buffer zeros within long filled is read ended =
    is ∙ ap (λ l. from_le_bytes w32 (put_mid n (4 - n) buffer l)) filled
    ∙ bytes_read n ys buffer _ (omega arith) long (λ below. ended (omega arith)) ∙ ap number (sym read)
