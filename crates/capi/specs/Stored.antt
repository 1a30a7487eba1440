-- The C functions give a code and store their result in a lent output.
use Rattle.std.specs.Prelude.{ℕ, Bool, Some, None, Result, Ok, Err, cond, List, ◌++◌, length, drop, eqb, leb}
use Rattle.words.specs.Codes.{done, bad_argument}
use Rattle.words.specs.Output.{Left, answer_left}
use Rattle.words.specs.declared.codes.BadArgument.{BadArgument}
use Rattle.otp.specs.Password.{password_answer, Factor}
use Rattle.sm3.specs.Sm3.{sm3_answer}
use Rattle.sm4.specs.Sm4.{keys_answer, encrypt_answer, sm4_answer}

-- a code that is given, and an output as it is left
abbrev pub left : ℕ → List ℕ → Left
left code out = record { code = code; out = out }

-- A result goes to the front of an output that has room for it. Of a refusal or a short output, the code of a bad argument is given, and the output stays.
abbrev pub fits : {A : Type 0} → List A → List A → Bool
fits made out = leb (length made) (length out)

abbrev pub code_left : {A : Type 0} → Result (List A) BadArgument → List A → ℕ
code_left (Ok made) out = cond (fits made out) done bad_argument
code_left (Err refusal) out = bad_argument

abbrev pub out_left : {A : Type 0} → Result (List A) BadArgument → List A → List A
out_left (Ok made) out = cond (fits made out) (made ++ drop (length made) out) out
out_left (Err refusal) out = out

abbrev pub sm3_left : List ℕ → List ℕ → Left
sm3_left message out = answer_left (sm3_answer message) out

abbrev pub sm4_left : List ℕ → List ℕ → List ℕ → Left
sm4_left key block out = answer_left (sm4_answer key block) out

abbrev pub keys_left : List ℕ → List ℕ → Left
keys_left key out = answer_left (keys_answer key) out

abbrev pub encrypt_left : List ℕ → List ℕ → List ℕ → Left
encrypt_left keys block out = answer_left (encrypt_answer keys block) out

-- a factor with a flag beside its number: 0 says that it is absent
unfoldable pub factor_of : ℕ → ℕ → Factor
factor_of flag number = cond (eqb flag 0) None (Some number)

abbrev pub password_left : ℕ → List ℕ → ℕ → ℕ → ℕ → ℕ → List ℕ → ℕ → List ℕ → Left
password_left algorithm key hasTime time hasCount count challenge digits out =
    password_answer algorithm key (factor_of hasTime time) (factor_of hasCount count) challenge digits out
