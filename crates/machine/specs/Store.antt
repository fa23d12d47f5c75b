-- The store, a row of cells (document 01, "The machine"): cell = key × 2^24 + word; cell i has the byte addresses 2i and 2i + 1.
-- Every write reduces what it is given to its width; a cell that is not there reads as 0, and a write to it changes nothing.
-- Assumes nothing.
use Rattle.std.specs.Prelude.{ℕ, ◌+◌, ◌-◌, ◌*◌, ◌/◌, ◌%◌, ◌^◌, Bool, false, cond, List, eqb, leb, length, get_or, set}
use Rattle.registers.specs.Reg.{word_range}
use Rattle.machine.specs.declared.Control.{Control}

-- the word of cell i: word(SB) is `word s (SB / 2)`
unfoldable pub word : List ℕ → ℕ → ℕ
word s i = get_or s i 0 % word_range

-- Wpre: if FR(6:7) = 0 then 3 else FR(6:7) - 1
abbrev pub previous : ℕ → ℕ
previous w = (w + 3) % 4

-- Wpre concat W
unfoldable pub pair : List ℕ → ℕ → ℕ
pair s w = word s (previous w) * word_range + word s w

-- protection key(SB)
unfoldable pub key : List ℕ → ℕ → ℕ
key s i = get_or s i 0 / word_range % 8

-- word(SB) := v; the key stays
unfoldable pub put_word : List ℕ → ℕ → ℕ → List ℕ
put_word s i v = set s i (get_or s i 0 / word_range * word_range + v % word_range)

-- protection key(SB) := k; the word stays
unfoldable pub put_key : List ℕ → ℕ → ℕ → List ℕ
put_key s i k = set s i (k % 8 * word_range + get_or s i 0 % word_range)

-- byte(SB): if SB(23) = 0 then word(SB)(0:11) else word(SB)(12:23)
unfoldable pub byte : List ℕ → ℕ → ℕ
byte s a = cond (eqb (a % 2) 0) (word s (a / 2) / 4096) (word s (a / 2) % 4096)

-- the word x with its byte at the address a replaced
unfoldable pub with_byte : ℕ → ℕ → ℕ → ℕ
with_byte x a v = cond (eqb (a % 2) 0) (v % 4096 * 4096 + x % 4096) (x / 4096 * 4096 + v % 4096)

-- byte(SB) := v
unfoldable pub put_byte : List ℕ → ℕ → ℕ → List ℕ
put_byte s a v = put_word s (a / 2) (with_byte (word s (a / 2)) a v)

-- if FR(6:7) <> 0 then W := v
unfoldable pub put_link : List ℕ → ℕ → ℕ → List ℕ
put_link s w v = cond (eqb w 0) s (put_word s w v)

-- SB(0:22) > word limit: an address is absent when it is at least 2n, with n cells (docs/DECISIONS.md B1)
unfoldable pub absent : List ℕ → ℕ → Bool
absent s a = leb (length s) (a / 2)

-- PR(PK) = 1: the bit of PR numbered by the key, from the left
unfoldable pub forbids : ℕ → ℕ → Bool
forbids pr k = eqb (pr / 2 ^ (7 - k % 8) % 2) 1

-- a cell is forbidden when the PR bit numbered by its key is one
unfoldable pub forbidden : List ℕ → Control → ℕ → Bool
forbidden s c i = forbids c.pr (key s i)

-- not monitor mode and PR(PK) = 1
unfoldable pub violation : List ℕ → Control → ℕ → Bool
violation s c i = cond c.monitor false (forbids c.pr (key s i))

-- SB(23) := 0
abbrev pub even_address : ℕ → ℕ
even_address a = a / 2 * 2

-- if SB = 0 then 6 else SB - 2, of an address without its right-most bit (docs/DECISIONS.md C2)
unfoldable pub first_word : ℕ → ℕ
first_word a = cond (eqb (a / 2) 0) 6 (even_address a - 2)
