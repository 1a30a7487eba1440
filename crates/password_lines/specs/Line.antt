-- What is printed for a line `key,T,C,Q,algorithm,digits` (document 01, "Line program").
use Rattle.std.specs.Prelude.{ℕ, ◌^◌, cond, Option, Some, None, List, [], ◌∷◌, eqb, ltb, length, get_or}
use Rattle.otp.specs.Password.{Factor, arguments_ok, password_of}
use Rattle.text.specs.Text.{decimal_of, hex_of, fields_of}

-- the text 9005
abbrev pub refusal : List ℕ
refusal = 0x39 ∷ 0x30 ∷ 0x30 ∷ 0x35 ∷ []

-- what follows of a value that was read, or the refusal
abbrev pub given : {A : Type 0} → Option A → (A → List ℕ) → List ℕ
given None f = refusal
given (Some x) f = f x

-- a number below the limit
abbrev pub below : ℕ → Option ℕ → Option Factor
below limit None = None
below limit (Some x) = cond (ltb x limit) (Some (Some x)) None

-- T and C: an empty field is absent
unfoldable pub factor_field : ℕ → List ℕ → Option Factor
factor_field limit [] = Some None
factor_field limit (b ∷ s) = below limit (decimal_of (b ∷ s))

-- the password, or the refusal where Part 2's arguments are bad
unfoldable pub password_text : ℕ → List ℕ → Factor → Factor → List ℕ → ℕ → List ℕ
password_text algorithm key time count challenge n =
    cond (arguments_ok algorithm key time count challenge n) (password_of algorithm key time count challenge n) refusal

-- the six fields
unfoldable pub fields_answer : List ℕ → List ℕ → List ℕ → List ℕ → List ℕ → List ℕ → List ℕ
fields_answer key time count challenge algorithm digits =
    given (hex_of key)
    (λ k. given (factor_field (2 ^ 64) time)
    (λ t. given (factor_field (2 ^ 32) count)
    (λ c. given (decimal_of algorithm)
    (λ a. given (decimal_of digits)
    (λ n. password_text a k t c challenge n)))))

-- a field of a line by its number
abbrev pub field_of : List ℕ → ℕ → List ℕ
field_of line i = get_or (fields_of line) i []

-- what is printed for a line, without the line feed
unfoldable pub line_answer : List ℕ → List ℕ
line_answer line =
    cond (eqb (length (fields_of line)) 6)
    (fields_answer (field_of line 0) (field_of line 1) (field_of line 2) (field_of line 3) (field_of line 4) (field_of line 5))
    refusal
