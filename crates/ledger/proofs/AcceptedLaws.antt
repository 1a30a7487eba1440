-- A step that a check accepts: fresh, and near the clock's.
use Rattle.std.specs.Prelude.{ℕ, ◌≤◌, ◌<◌, ◌≡◌, refl, Bool, true, List, []}
use Rattle.std.proofs.Common.{arith, leb-true}
use Rattle.words.specs.BoolLaws.{and_left}
use Rattle.otp.specs.Typed.{digits_of}
use Rattle.window.specs.declared.Size.{Size}
use Rattle.window.specs.declared.Step.{Step}
use Rattle.window.specs.declared.Track.{Track}
use Rattle.window.specs.declared.Outcome.{Outcome}
use Rattle.window.specs.declared.asked.Asked.{Asked}
use Rattle.window.specs.Window.{time_token, step_at, distance, farthest, candidate, beyond}
use Rattle.window.specs.PasswordAt.{PasswordRule, has_by}
use Rattle.window.specs.TokenCheck.{single_check, pair_check}
use Rattle.window.specs.Asked.{outcome_of}
use Rattle.window.proofs.Meaning.{candidate-bounded, candidate-near, single_means, single_accepts_candidate, pair_means, pair_accepts_candidate}
use Rattle.token.specs.States.{IfAccepted}

-- at or after `next`, below the end of all candidates, and for a time token at most 600 from the clock's step
pub record Acceptable (k : Track) (clock a : ℕ) : Type 0 where
  pub fresh : k.next.0 ≤ a
  pub below : a < beyond k clock
  pub near : k.scheme.kind ≡ time_token → distance a (step_at clock k.period) ≤ farthest

module _ (k : Track) (clock : ℕ) (size : Size) where
  -- a fresh candidate is
  by-outcome : (o : Outcome) → ((a : Step) → o ≡ Outcome.Accepted a → (k.next.0 ≤ a.0) × (candidate k clock size a.0 ≡ true)) → IfAccepted (Acceptable k clock) o
  by-outcome (Outcome.Accepted a) h =
      let found = h a refl in
      record { fresh = found.0; below = candidate-bounded k clock size a.0 found.1; near = candidate-near k clock size a.0 found.1 }
  by-outcome Outcome.Several h = tt
  by-outcome Outcome.Again h = tt
  by-outcome Outcome.Used h = tt
  by-outcome Outcome.Wrong h = tt

  pub single_accepts : (matches : ℕ → Bool) → IfAccepted (Acceptable k clock) (single_check k clock size matches)
  single_accepts matches =
      by-outcome (single_check k clock size matches)
      (λ a e.
      let found = (single_means k clock size matches).accepted.0 a e in
      let l = leb-true k.next.0 found.0 (and_left _ _ found.1.1.passes) in
      (omega (arith, l, found.1.0), single_accepts_candidate k clock size matches e))

  pub pair_accepts : (first second : ℕ → Bool) → IfAccepted (Acceptable k clock) (pair_check k clock size first second)
  pair_accepts first second =
      by-outcome (pair_check k clock size first second)
      (λ a e.
      let found = (pair_means k clock size first second).accepted.0 a e in
      let l = leb-true k.next.0 found.0 (and_left _ _ found.1.1.passes) in
      (omega (arith, l, found.1.0), pair_accepts_candidate k clock size first second e))

pub asked_accepts : (passwords : PasswordRule) (k : Track) (clock : ℕ) (key challenge : List ℕ) (asked : Asked)
    → IfAccepted (Acceptable k clock) (outcome_of passwords k clock key challenge asked)
asked_accepts passwords k clock key challenge (Asked.One size p) = single_accepts k clock size (has_by passwords k.scheme key [] (digits_of p))
asked_accepts passwords k clock key challenge (Asked.Challenged size p) = single_accepts k clock size (has_by passwords k.scheme key challenge (digits_of p))
asked_accepts passwords k clock key challenge (Asked.Two size p q) =
    pair_accepts k clock size (has_by passwords k.scheme key [] (digits_of p)) (has_by passwords k.scheme key [] (digits_of q))
