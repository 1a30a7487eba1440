-- Numbers in bytes at any width: the highest byte first ("stored numbers big-endian", document 01), and the lowest first, as a search may compare them.
use Rattle.std.specs.Prelude.{ℕ, zero, suc, ◌+◌, ◌*◌, ◌/◌, ◌%◌, ◌^◌, ◌<◌, List, [], ◌∷◌, ◌++◌, length, get_or, set, take, drop}

-- every element is a byte, as a slice's type says of it
abbrev pub AreBytes : List ℕ → Type 0
AreBytes s = (i : ℕ) → get_or s i 0 < 256

-- the number in the k bytes of s from at on
unfoldable pub be_at : ℕ → List ℕ → ℕ → ℕ
be_at zero s at = 0
be_at (suc k) s at = be_at k s at * 256 + get_or s (at + k) 0

-- the number in the k bytes of s from at on, the lowest byte first
unfoldable pub le_at : ℕ → List ℕ → ℕ → ℕ
le_at zero s at = 0
le_at (suc k) s at = le_at k s at + get_or s (at + k) 0 * 256 ^ k

-- the k low bytes of x in the other order
unfoldable pub swap_bytes : ℕ → ℕ → ℕ
swap_bytes zero x = 0
swap_bytes (suc k) x = x % 256 * 256 ^ k + swap_bytes k (x / 256)

-- the k low bytes of x
unfoldable pub be_bytes : ℕ → ℕ → List ℕ
be_bytes zero x = []
be_bytes (suc k) x = be_bytes k (x / 256) ++ (x % 256 ∷ [])

-- s with the k low bytes of x from at on
unfoldable pub put_be : ℕ → List ℕ → ℕ → ℕ → List ℕ
put_be zero s at x = s
put_be (suc k) s at x = put_be k (set s (at + k) (x % 256)) at (x / 256)

-- s with the bytes b from at on
abbrev pub put : List ℕ → ℕ → List ℕ → List ℕ
put s at b = take at s ++ (b ++ drop (at + length b) s)
