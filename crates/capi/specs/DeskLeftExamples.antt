-- What the desk's C functions give of an answer, computed: the number, and d with its sign in two's complement before values that stay.
use Rattle.token.specs.Answers.{successful}
use Rattle.std.specs.Prelude.{◌-◌, ◌^◌, ◌≡◌, refl, [], ◌∷◌, Err}
use Rattle.otp.specs.Typed.{as_password}
use Rattle.token.specs.declared.answers.Content.{Content}
use Rattle.token.specs.declared.answers.Refusal.{Refusal}
use Rattle.token.specs.declared.lines.Request.{Request}
use Rattle.token.specs.Lines.{line_of}
use Rattle.token.specs.Codes.{signed_of, values_of}
use Rattle.desk.specs.Desk.{result_of}
use Rattle.capi.specs.DeskLeft.{left_with, result_left}

-- step 15 and d -2
pub login-left : result_left (result_of (successful (line_of (Request.Login (as_password []))).success (Content.Checked (record { 0 = 15 }) (record { 0 = 598 }))) []) (7 ∷ 8 ∷ 9 ∷ 10 ∷ [])
    ≡ left_with 0x0001 [] (15 ∷ (2 ^ 64 - 2) ∷ 9 ∷ 10 ∷ [])
unfolding signed_of values_of
login-left = refl

-- state 3, 5 errors, last use 1000
pub query-left : result_left (result_of (successful (line_of Request.Query).success (Content.Queried (record { state = 3; errors = 5; last_use = record { 0 = 1000 } }))) []) (7 ∷ 8 ∷ 9 ∷ 10 ∷ [])
    ≡ left_with 0x010b [] (3 ∷ 5 ∷ 1000 ∷ 10 ∷ [])
unfolding values_of
query-left = refl

pub refusal-left : result_left (result_of (Err Refusal.Unknown) []) (7 ∷ 8 ∷ 9 ∷ []) ≡ left_with 0x8402 [] (7 ∷ 8 ∷ 9 ∷ [])
refusal-left = refl
