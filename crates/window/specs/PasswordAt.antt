-- The password of a step (document 01, Part 3), over the password rule.
use Rattle.std.specs.Prelude.{ℕ, Bool, List, eqb, Some, None}
use Rattle.words.specs.Lists.{same_bytes}
use Rattle.otp.specs.Password.{password_of, arguments_ok, Factor}
use Rattle.otp.specs.StepCuts.{time_at, count_at}
use Rattle.window.specs.declared.Scheme.{Scheme}
use Rattle.window.specs.Window.{time_token}

-- step s has T = s for a time token, C = s for an event token
abbrev pub time_of : ℕ → ℕ → Factor
time_of kind s = time_at (eqb kind time_token) s

abbrev pub count_of : ℕ → ℕ → Factor
count_of kind s = count_at (eqb kind time_token) s

unfoldable pub password_at : Scheme → List ℕ → List ℕ → ℕ → List ℕ
password_at scheme key challenge s = password_of scheme.algorithm key (time_of scheme.kind s) (count_of scheme.kind s) challenge scheme.digits

-- the scheme, the key and the challenge are in range (document 01, Part 2); a step adds nothing to that
abbrev pub in_range : Scheme → List ℕ → List ℕ → Bool
in_range scheme key challenge = arguments_ok scheme.algorithm key (Some 0) None challenge scheme.digits

-- a password rule: the digits of a step, from a token's scheme, its key and the challenge; `password_at` is the standard's
abbrev pub PasswordRule : Type 0
PasswordRule = Scheme → List ℕ → List ℕ → ℕ → List ℕ

-- by a password rule, step s has this password; one of another length it has not
abbrev pub has_by : PasswordRule → Scheme → List ℕ → List ℕ → List ℕ → ℕ → Bool
has_by passwords scheme key challenge presented s = same_bytes presented (passwords scheme key challenge s)
