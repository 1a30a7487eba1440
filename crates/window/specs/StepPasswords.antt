-- A step's password (document 01, Part 3): T = s for a time token and C = s for an event token, the other factor absent, and Q if the call has one.
use Rattle.std.specs.Prelude.{ℕ, ◌≡◌, List, Some, None}
use Rattle.std.proofs.Math.Path.{refl}
use Rattle.otp.specs.Password.{password_of}
use Rattle.window.specs.PasswordAt.{password_at}

module _ (algorithm digits : ℕ) (key challenge : List ℕ) (s : ℕ) where
  pub time-step : password_at (record { kind = 0; algorithm = algorithm; digits = digits }) key challenge s ≡ password_of algorithm key (Some s) None challenge digits
  unfolding password_at
  time-step = refl

  pub event_step : password_at (record { kind = 1; algorithm = algorithm; digits = digits }) key challenge s ≡ password_of algorithm key None (Some s) challenge digits
  unfolding password_at
  event_step = refl
