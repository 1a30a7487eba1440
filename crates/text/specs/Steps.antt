-- What the private functions and the loops compute, on the way to the definitions of Text.
use Rattle.std.specs.Prelude.{ℕ, zero, suc, ◌+◌, ◌*◌, ◌/◌, ◌%◌, Bool, true, cond, ◌&&◌, List, [], ◌∷◌, ◌==◌, nat_lt}

-- every value is that of a hexadecimal digit
unfoldable pub all_hex : List ℕ → Bool
all_hex [] = true
all_hex (d ∷ values) = nat_lt d 16 && all_hex values

-- the bytes of the pairs of values, of which only the lower halves are taken
unfoldable pub pairs_of : List ℕ → List ℕ
pairs_of [] = []
pairs_of (h ∷ []) = []
pairs_of (h ∷ l ∷ values) = (h % 16 * 16 + l % 16) ∷ pairs_of values

-- the number of k bytes that each are b
unfoldable pub each_byte : ℕ → ℕ → ℕ
each_byte zero b = 0
each_byte (suc k) b = each_byte k b * 256 + b

-- the place of the first zero among the k low bytes of x, the lowest first; k where there is none
unfoldable pub first_zero : ℕ → ℕ → ℕ
first_zero zero x = 0
first_zero (suc k) x = cond (x % 256 == 0) 0 (suc (first_zero k (x / 256)))
