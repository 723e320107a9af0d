-- Little-endian numbers, at every width: the number that bytes say, the number at a place, and the bytes of a number.
-- Assumes nothing.
use Rattle.std.specs.Prelude.{List, [], ◌∷◌, ℕ, zero, suc, ◌+◌, ◌*◌, ◌/◌, ◌%◌, ◌<◌, take, drop, get_or}

-- each element is a byte
abbrev pub Bytes : List ℕ → Type 0
Bytes l = (i : ℕ) → get_or l i 0 < 256

-- the number that the bytes say, the lowest first
unfoldable pub le : List ℕ → ℕ
le [] = 0
le (b ∷ l) = b + 256 * le l

-- the number of n bytes at a place; a byte past the end says 0
unfoldable pub le_at : ℕ → List ℕ → ℕ → ℕ
le_at n s at = le (take n (drop at s))

-- a number as n bytes
unfoldable pub bytes_of : ℕ → ℕ → List ℕ
bytes_of zero x = []
bytes_of (suc n) x = x % 256 ∷ bytes_of n (x / 256)
