-- Worked examples, computed.
use Rattle.std.specs.Prelude.{◌≡◌, [], ◌∷◌, Some, None, refl}
use Rattle.text.specs.Text.{digit_value, digits_from, decimal_of, bounded, number_in, byte_then, hex_of, hex_left, put_front, hex_into, longer, fields_of}

-- "0" is a number, "00" and "" are none
pub zero-alone : decimal_of (0x30 ∷ []) ≡ Some 0
unfolding decimal_of digits_from digit_value
zero-alone = refl

pub two_zeros : decimal_of (0x30 ∷ 0x30 ∷ []) ≡ None
unfolding decimal_of
two_zeros = refl

pub no-digits : decimal_of [] ≡ None
unfolding decimal_of
no-digits = refl

-- "18446744073709551615" is the largest number of 64 bits
pub largest : number_in (0x31 ∷ 0x38 ∷ 0x34 ∷ 0x34 ∷ 0x36 ∷ 0x37 ∷ 0x34 ∷ 0x34 ∷ 0x30 ∷ 0x37 ∷ 0x33 ∷ 0x37 ∷ 0x30 ∷ 0x39 ∷ 0x35 ∷ 0x35 ∷ 0x31 ∷ 0x36 ∷ 0x31 ∷ 0x35 ∷ []) ≡ Some 0xffff_ffff_ffff_ffff
unfolding decimal_of digits_from digit_value bounded
largest = refl

-- "18446744073709551616" has 65
pub past-largest : number_in (0x31 ∷ 0x38 ∷ 0x34 ∷ 0x34 ∷ 0x36 ∷ 0x37 ∷ 0x34 ∷ 0x34 ∷ 0x30 ∷ 0x37 ∷ 0x33 ∷ 0x37 ∷ 0x30 ∷ 0x39 ∷ 0x35 ∷ 0x35 ∷ 0x31 ∷ 0x36 ∷ 0x31 ∷ 0x36 ∷ []) ≡ None
unfolding decimal_of digits_from digit_value bounded
past-largest = refl

-- "0aF9" is two bytes; "0" and "0g" are none
pub either-case : hex_of (0x30 ∷ 0x61 ∷ 0x46 ∷ 0x39 ∷ []) ≡ Some (0x0a ∷ 0xf9 ∷ [])
unfolding hex_of byte_then digit_value
either-case = refl

pub odd_count : hex_of (0x30 ∷ []) ≡ None
unfolding hex_of
odd_count = refl

pub no_digit : hex_of (0x30 ∷ 0x67 ∷ []) ≡ None
unfolding hex_of digit_value
no_digit = refl

-- "0aF9" into three bytes, of which the last stays; into one byte, which stays; "" into one byte
pub bytes-put : hex_into (0x30 ∷ 0x61 ∷ 0x46 ∷ 0x39 ∷ []) (1 ∷ 2 ∷ 3 ∷ []) ≡ hex_left (Some 2) (0x0a ∷ 0xf9 ∷ 3 ∷ [])
unfolding hex_of byte_then digit_value put_front
bytes-put = refl

pub no_room : hex_into (0x30 ∷ 0x61 ∷ 0x46 ∷ 0x39 ∷ []) (1 ∷ []) ≡ hex_left None (1 ∷ [])
unfolding hex_of byte_then digit_value put_front
no_room = refl

pub no-bytes-put : hex_into [] (1 ∷ []) ≡ hex_left (Some 0) (1 ∷ [])
unfolding hex_of put_front
no-bytes-put = refl

-- "a,,b," has four fields, and the empty line one
pub four-fields : fields_of (0x61 ∷ 0x2c ∷ 0x2c ∷ 0x62 ∷ 0x2c ∷ []) ≡ (0x61 ∷ []) ∷ [] ∷ (0x62 ∷ []) ∷ [] ∷ []
unfolding fields_of longer
four-fields = refl

pub empty-line : fields_of [] ≡ [] ∷ []
unfolding fields_of
empty-line = refl
