-- The text of a line (document 01, "Line program"): fields between commas, decimal numbers without leading zeros, bytes in hexadecimal.
use Rattle.std.specs.Prelude.{ℕ, ◌+◌, ◌-◌, ◌*◌, ◌^◌, cond, ◌&&◌, List, [], ◌∷◌, ◌++◌, length, drop, Option, Some, None, ◌==◌, nat_le, nat_lt}

-- ---- digits

-- the value of a hexadecimal digit of either case, of which a decimal one is below 10; 16 for another byte
unfoldable pub digit_value : ℕ → ℕ
digit_value b =
    cond (nat_le 0x30 b && nat_le b 0x39) (b - 0x30)
    (cond (nat_le 0x41 b && nat_le b 0x46) (b - 0x37)
    (cond (nat_le 0x61 b && nat_le b 0x66) (b - 0x57)
    16))

-- the digit of a value below 16, with small letters
abbrev pub hex_digit : ℕ → ℕ
hex_digit x = cond (nat_lt x 10) (x + 0x30) (x + 0x57)

-- ---- decimal numbers

-- the number whose digits are those of v and then s
unfoldable pub digits_from : ℕ → List ℕ → Option ℕ
digits_from v [] = Some v
digits_from v (b ∷ s) = cond (nat_lt (digit_value b) 10) (digits_from (v * 10 + digit_value b) s) None

-- at least one digit, and no zero in front of another
unfoldable pub decimal_of : List ℕ → Option ℕ
decimal_of [] = None
decimal_of (b ∷ s) = cond (b == 0x30 && nat_lt 0 (length s)) None (digits_from 0 (b ∷ s))

-- a number of 64 bits
unfoldable pub bounded : Option ℕ → Option ℕ
bounded None = None
bounded (Some v) = cond (nat_lt v (2 ^ 64)) (Some v) None

abbrev pub number_in : List ℕ → Option ℕ
number_in s = bounded (decimal_of s)

-- ---- hexadecimal bytes

-- b and then the bytes
unfoldable pub byte_then : ℕ → Option (List ℕ) → Option (List ℕ)
byte_then b None = None
byte_then b (Some s) = Some (b ∷ s)

-- two digits to a byte
unfoldable pub hex_of : List ℕ → Option (List ℕ)
hex_of [] = Some []
hex_of (h ∷ []) = None
hex_of (h ∷ l ∷ s) = cond (nat_lt (digit_value h) 16 && nat_lt (digit_value l) 16) (byte_then (digit_value h * 16 + digit_value l) (hex_of s)) None

-- up to 32 bytes, which is what a key may have
unfoldable pub decoded : Option (List ℕ) → Option (List ℕ)
decoded None = None
decoded (Some b) = cond (nat_le (length b) 32) (Some b) None

abbrev pub decoded_of : List ℕ → Option (List ℕ)
decoded_of s = decoded (hex_of s)

-- how many bytes were put, and the output after it
pub record HexLeft : Type 0 where
  pub read : Option ℕ
  pub out : List ℕ

abbrev pub hex_left : Option ℕ → List ℕ → HexLeft
hex_left read out = record { read = read; out = out }

-- the bytes at the front of an output that has room for them; else it stays as it is
unfoldable pub put_front : Option (List ℕ) → List ℕ → HexLeft
put_front None out = hex_left None out
put_front (Some b) out = cond (nat_le (length b) (length out)) (hex_left (Some (length b)) (b ++ drop (length b) out)) (hex_left None out)

abbrev pub hex_into : List ℕ → List ℕ → HexLeft
hex_into s out = put_front (hex_of s) out

-- ---- fields

abbrev pub comma : ℕ
comma = 0x2c

-- b in front of the first field
unfoldable pub longer : ℕ → List (List ℕ) → List (List ℕ)
longer b [] = (b ∷ []) ∷ []
longer b (f ∷ fs) = (b ∷ f) ∷ fs

-- the parts between the commas
unfoldable pub fields_of : List ℕ → List (List ℕ)
fields_of [] = [] ∷ []
fields_of (b ∷ s) = cond (b == comma) ([] ∷ fields_of s) (longer b (fields_of s))

-- each field behind a comma
unfoldable pub behind_commas : List (List ℕ) → List ℕ
behind_commas [] = []
behind_commas (f ∷ fs) = comma ∷ (f ++ behind_commas fs)

-- the fields with commas between them
unfoldable pub joined : List (List ℕ) → List ℕ
joined [] = []
joined (f ∷ fs) = f ++ behind_commas fs

unfoldable pub sum_lengths : List (List ℕ) → ℕ
sum_lengths [] = 0
sum_lengths (f ∷ fs) = length f + sum_lengths fs
