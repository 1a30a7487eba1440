-- What a search asks of the password rule.
use Rattle.std.specs.Prelude.{ℕ, ◌≤◌, ◌≡◌, true, false, List, length, Some, None}
use Rattle.std.proofs.Common.{sym, ◌∙◌}
use Rattle.words.specs.ListsLaws.{same_lengths}
use Rattle.otp.specs.declared.typed.Password.{Password}
use Rattle.otp.specs.Password.{password_of}
use Rattle.otp.specs.PasswordLaws.{length-decimals, length-password, key-long, key-short, challenge-short, digits_high}
use Rattle.otp.specs.Typed.{digits_of}
use Rattle.window.specs.declared.Scheme.{Scheme}
use Rattle.window.specs.PasswordAt.{time_of, count_of, password_at, in_range, has_by}

-- what arguments in range tell
pub record Fitting (scheme : Scheme) (key challenge : List ℕ) : Type 0 where
  pub long : 16 ≤ length key
  pub short : length key ≤ 32
  pub room : length challenge ≤ 32
  pub counted : scheme.digits ≤ 10

pub range-fits : (scheme : Scheme) (key challenge : List ℕ) → in_range scheme key challenge ≡ true → Fitting scheme key challenge
range-fits scheme key challenge ok =
    record {
      long = key-long scheme.algorithm key (Some 0) None challenge scheme.digits ok;
      short = key-short scheme.algorithm key (Some 0) None challenge scheme.digits ok;
      room = challenge-short scheme.algorithm key (Some 0) None challenge scheme.digits ok;
      counted = digits_high scheme.algorithm key (Some 0) None challenge scheme.digits ok;
    }

-- no step has a password of another count of digits
pub other-count : (scheme : Scheme) (key challenge : List ℕ) (p : Password) (s : ℕ) → (p.digits ≡ scheme.digits → ⊥) → has_by password_at scheme key challenge (digits_of p) s ≡ false
unfolding password_at digits_of
other-count scheme key challenge p s n =
    let l = length-password scheme.algorithm key (time_of scheme.kind s) (count_of scheme.kind s) challenge scheme.digits in
    same_lengths _ (password_of scheme.algorithm key (time_of scheme.kind s) (count_of scheme.kind s) challenge scheme.digits)
    (λ e. n (sym (length-decimals p.digits p.number) ∙ e ∙ l))
