-- The number that an input begins with. Assumes nothing.
use Rattle.std.specs.Prelude.{ℕ, ◌+◌, ◌*◌, List, get_or}

-- of the first four bytes, the lowest first; a byte that is not there is 0
unfoldable pub number : List ℕ → ℕ
number bytes = get_or bytes 0 0 + 256 * get_or bytes 1 0 + 65536 * get_or bytes 2 0 + 16777216 * get_or bytes 3 0
