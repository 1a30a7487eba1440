-- A login's password that is found used is a double press exactly if the check says that it is presented again.
use Rattle.std.specs.Prelude.{ℕ, ◌≡◌, true, false, List}
use Rattle.otp.specs.Typed.{password_ok, as_password}
use Rattle.otp.specs.TypedLaws.{digits-back}
use Rattle.window.specs.declared.Size.TheVariants.{Small}
use Rattle.window.specs.declared.Track.{Track}
use Rattle.window.specs.declared.Outcome.{Outcome}
use Rattle.window.specs.PasswordAt.{PasswordRule, has_by}
use Rattle.window.specs.Asked.{one_asked}
use Rattle.window.proofs.Meaning.{single-again, single-used}
use Rattle.row.specs.Row.{row_at}
use Rattle.token.specs.StatesLaws.{waited-track}
use Rattle.desk.specs.Desk.{secret_at}
use Rattle.desk.proofs.BranchLaws.{row_now}
use Rattle.desk.specs.Press.{last_has}

module _ (passwords : PasswordRule) (k : Track) (key : List ℕ) (clock : ℕ) (challenge password : List ℕ) (ok : password_ok password ≡ true) where
  pub used_unpressed : one_asked passwords k clock key Small challenge (as_password password) ≡ Outcome.Used → last_has passwords k key clock challenge password ≡ false
  used_unpressed e = single-used k clock Small (has_by passwords k.scheme key challenge password) (rw (digits-back password ok) at e)

  pub again-pressed : one_asked passwords k clock key Small challenge (as_password password) ≡ Outcome.Again → last_has passwords k key clock challenge password ≡ true
  again-pressed e = single-again k clock Small (has_by passwords k.scheme key challenge password) (rw (digits-back password ok) at e)

-- of the row at a place, once a wait has run out
module _ (passwords : PasswordRule) (s : List ℕ) (at clock : ℕ) (challenge password : List ℕ) (ok : password_ok password ≡ true) where
  pub used_unpressed_now : one_asked passwords (row_now s at clock).track clock (secret_at s at) Small challenge (as_password password) ≡ Outcome.Used
      → last_has passwords (row_at s at).track (secret_at s at) clock challenge password ≡ false
  used_unpressed_now e = used_unpressed passwords _ _ _ challenge password ok (rw (waited-track (row_at s at) clock) at e)

  pub again-pressed_now : one_asked passwords (row_now s at clock).track clock (secret_at s at) Small challenge (as_password password) ≡ Outcome.Again
      → last_has passwords (row_at s at).track (secret_at s at) clock challenge password ≡ true
  again-pressed_now e = again-pressed passwords _ _ _ challenge password ok (rw (waited-track (row_at s at) clock) at e)
