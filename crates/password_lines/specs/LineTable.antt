-- What lines mean (document 01, "Line program"): the document's line, the ends of T and C, an absent factor, hexadecimal digits of either case; and lines not
-- so made, as a table with one proof. In ASCII 1234 is 31323334 hexadecimal.
use Rattle.std.specs.Prelude.{ℕ, ◌-◌, ◌^◌, ◌≡◌, refl, Bool, true, ◌&&◌, Some, None, List, [], ◌∷◌, ◌++◌, replicate}
use Rattle.words.specs.Bytes.{be_bytes}
use Rattle.words.specs.Lists.{same_bytes, all_within}
use Rattle.otp.specs.Password.{challenge_ok, arguments_ok, password_of}
use Rattle.text.specs.Text.{digit_value, digits_from, decimal_of, byte_then, hex_of, longer, fields_of}
use Rattle.password_lines.specs.Line.{factor_field, password_text, fields_answer, line_answer}

-- a line by its fields key, T, C, Q, algorithm, digits
abbrev pub line : List ℕ → List ℕ → List ℕ → List ℕ → List ℕ → List ℕ → List ℕ
line key time count challenge algorithm digits = key ++ (0x2c ∷ (time ++ (0x2c ∷ (count ++ (0x2c ∷ (challenge ++ (0x2c ∷ (algorithm ++ (0x2c ∷ digits)))))))))

-- the key of document 01's line: 1234567890abcdef1234567890abcdef, and its last four digits as CDEF
abbrev pub key_text : List ℕ
key_text = be_bytes 32 0x3132333435363738393061626364656631323334353637383930616263646566

abbrev pub capital_text : List ℕ
capital_text = be_bytes 32 0x3132333435363738393061626364656631323334353637383930616243444546

abbrev pub key_of_line : List ℕ
key_of_line = be_bytes 16 0x1234567890abcdef1234567890abcdef

-- 1340783053, 1234, 5678
abbrev pub time_text : List ℕ
time_text = be_bytes 10 0x31333430373833303533

abbrev pub count_text : List ℕ
count_text = be_bytes 4 0x31323334

abbrev pub challenge_text : List ℕ
challenge_text = be_bytes 4 0x35363738

abbrev pub three : List ℕ
three = 0x33 ∷ []

abbrev pub four : List ℕ
four = 0x34 ∷ []

abbrev pub six : List ℕ
six = 0x36 ∷ []

-- the document's line, which prints 446720 by `worked_passwords_hold`
pub documents_line : line_answer (line key_text time_text count_text challenge_text four six) ≡ password_of 4 key_of_line (Some 1340783053) (Some 1234) (be_bytes 4 0x35363738) 6
unfolding be_bytes all_within challenge_ok arguments_ok digit_value digits_from decimal_of byte_then hex_of longer fields_of factor_field password_text fields_answer line_answer
documents_line = refl

-- T = 2^64 - 1 alone, without C and Q
pub longest-time : line_answer (line capital_text (be_bytes 20 0x3138343436373434303733373039353531363135) [] [] three (0x31 ∷ 0x30 ∷ []))
    ≡ password_of 3 key_of_line (Some (2 ^ 64 - 1)) None [] 10
unfolding be_bytes all_within challenge_ok arguments_ok digit_value digits_from decimal_of byte_then hex_of longer fields_of factor_field password_text fields_answer line_answer
longest-time = refl

-- C = 2^32 - 1 alone
pub longest-count : line_answer (line key_text [] (be_bytes 10 0x34323934393637323935) [] four six) ≡ password_of 4 key_of_line None (Some (2 ^ 32 - 1)) [] 6
unfolding be_bytes all_within challenge_ok arguments_ok digit_value digits_from decimal_of byte_then hex_of longer fields_of factor_field password_text fields_answer line_answer
longest-count = refl

abbrev pub all_refused : List (List ℕ) → Bool
all_refused [] = true
all_refused (l ∷ ls) = same_bytes (line_answer l) (0x39 ∷ 0x30 ∷ 0x30 ∷ 0x35 ∷ []) && all_refused ls

abbrev pub not_so_made : List (List ℕ)
not_so_made =
    []
    -- T = 2^64, C = 2^32, a leading zero, a letter
    ∷ line key_text (be_bytes 20 0x3138343436373434303733373039353531363136) [] [] three six
    ∷ line key_text [] (be_bytes 10 0x34323934393637323936) [] four six
    ∷ line key_text (0x30 ∷ 0x31 ∷ []) [] [] three six
    ∷ line key_text (0x78 ∷ []) [] [] three six
    -- 31 digits of a key, 15 bytes, 33 bytes, a letter beyond f
    ∷ line (replicate 31 0x31) time_text [] [] three six
    ∷ line (replicate 30 0x31) time_text [] [] three six
    ∷ line (replicate 66 0x31) time_text [] [] three six
    ∷ line (replicate 31 0x31 ++ (0x67 ∷ [])) time_text [] [] three six
    -- neither T nor C; Q of 3 bytes; algorithms 2 and 5; 5 and 11 digits
    ∷ line key_text [] [] challenge_text three six
    ∷ line key_text time_text [] (be_bytes 3 0x353637) three six
    ∷ line key_text time_text [] [] (0x32 ∷ []) six
    ∷ line key_text time_text [] [] (0x35 ∷ []) six
    ∷ line key_text time_text [] [] three (0x35 ∷ [])
    ∷ line key_text time_text [] [] three (0x31 ∷ 0x31 ∷ [])
    -- five fields, seven fields, and a carriage return
    ∷ (key_text ++ (0x2c ∷ (time_text ++ (0x2c ∷ (0x2c ∷ (three ++ (0x2c ∷ six)))))))
    ∷ line key_text time_text [] [] three (0x36 ∷ 0x2c ∷ [])
    ∷ line key_text time_text [] [] three (0x36 ∷ 0x0d ∷ [])
    ∷ []

pub lines_not_so_made : all_refused not_so_made ≡ true
unfolding be_bytes same_bytes all_within challenge_ok arguments_ok digit_value digits_from decimal_of byte_then hex_of longer fields_of factor_field password_text fields_answer line_answer
lines_not_so_made = refl
