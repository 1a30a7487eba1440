-- A password as it is typed (document 01, "What a turned-down call says", 9005), and as a number.
use Rattle.std.specs.Prelude.{ℕ, Bool, cond, ◌&&◌, List, length, nat_le, Option, Some, None}
use Rattle.words.specs.Lists.{all_within}
use Rattle.otp.specs.declared.typed.Password.{Password}
use Rattle.otp.specs.Password.{decimals}
use Rattle.otp.specs.Numbers.{number_from}

-- 6 to 10 ASCII digits
abbrev pub count_ok : ℕ → Bool
count_ok n = nat_le 6 n && nat_le n 10

unfoldable pub password_ok : List ℕ → Bool
password_ok s = count_ok (length s) && all_within 0x30 0x39 s

-- how many digits, and the number that they show
abbrev pub as_password : List ℕ → Password
as_password s = record { digits = length s; number = number_from 0 s }

unfoldable pub typed_of : List ℕ → Option Password
typed_of s = cond (password_ok s) (Some (as_password s)) None

-- its digits, with leading zeros
unfoldable pub digits_of : Password → List ℕ
digits_of p = decimals p.digits p.number
