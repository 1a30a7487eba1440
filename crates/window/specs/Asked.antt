-- What is asked of a token's window, by a password rule (document 01, Part 3): a pair has no Q, and one password has it only where it is asked with one.
use Rattle.std.specs.Prelude.{ℕ, List, []}
use Rattle.otp.specs.declared.typed.Password.{Password}
use Rattle.otp.specs.Typed.{digits_of}
use Rattle.window.specs.declared.Size.{Size}
use Rattle.window.specs.declared.Track.{Track}
use Rattle.window.specs.declared.Outcome.{Outcome}
use Rattle.window.specs.declared.asked.Asked.{Asked}
use Rattle.window.specs.PasswordAt.{PasswordRule, has_by}
use Rattle.window.specs.TokenCheck.{single_check, pair_check}

module _ (passwords : PasswordRule) (k : Track) (clock : ℕ) (key : List ℕ) where
  abbrev pub one_asked : Size → List ℕ → Password → Outcome
  one_asked size challenge p = single_check k clock size (has_by passwords k.scheme key challenge (digits_of p))

  abbrev pub two_asked : Size → Password → Password → Outcome
  two_asked size p q = pair_check k clock size (has_by passwords k.scheme key [] (digits_of p)) (has_by passwords k.scheme key [] (digits_of q))

  abbrev pub outcome_of : List ℕ → Asked → Outcome
  outcome_of challenge (Asked.One size p) = one_asked size [] p
  outcome_of challenge (Asked.Challenged size p) = one_asked size challenge p
  outcome_of challenge (Asked.Two size p q) = two_asked size p q

abbrev pub window_size : Asked → Size
window_size (Asked.One size p) = size
window_size (Asked.Challenged size p) = size
window_size (Asked.Two size p q) = size
