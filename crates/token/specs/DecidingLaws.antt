-- What each branch of a decision returns.
use Rattle.std.specs.Prelude.{ℕ, ◌+◌, ◌^◌, ◌≤◌, ◌<◌, ◌≡◌, Bool, true, false, cond, not, List, eqb}
use Rattle.std.proofs.Math.Path.{sym}
use Rattle.std.proofs.Common.{ap, ◌∙◌, div-le_self, arith}
use borrow.Author.Tests.{le-leb, lt-leb, not-true, not-false}
use Rattle.window.specs.declared.Size.{Size}
use Rattle.window.specs.declared.Track.{Track}
use Rattle.window.specs.declared.Outcome.{Outcome}
use Rattle.window.specs.declared.asked.Asked.{Asked}
use Rattle.window.specs.Window.{time_token, step_at, farthest, candidate, beyond, Sound}
use Rattle.window.specs.PasswordAt.{PasswordRule, password_at}
use Rattle.window.proofs.Meaning.{candidate-bounded, candidate-near}
use Rattle.window.specs.Asked.{window_size, outcome_of}
use Rattle.window.proofs.AskedLaws.{asked_accepts_candidate}
use Rattle.row.specs.declared.Row.{Row}
use Rattle.token.specs.declared.answers.Refusal.{Refusal}
use Rattle.token.specs.declared.lines.Request.{Request}
use Rattle.token.specs.declared.lines.Fails.{Fails}
use Rattle.token.specs.declared.lines.Way.{Way}
use Rattle.token.specs.declared.lines.Line.{Line}
use Rattle.token.specs.declared.deciding.Decision.{Decision}
use Rattle.token.specs.Lines.{line_of, allowed, state_refusal}
use Rattle.token.specs.States.{waited, Near, IfAccepted}
use Rattle.token.specs.Deciding.{refusing, judging, timely, doing, deciding, decided}

-- ---- a step that a check accepts may be accepted

candidate-accepted : (k : Track) (clock : ℕ) (size : Size) (a : ℕ) → Sound k clock → candidate k clock size a ≡ true → Near k clock a
unfolding beyond
candidate-accepted k clock size a good c =
    record { fits = below (eqb k.scheme.kind time_token) (candidate-bounded k clock size a c); close = candidate-near k clock size a c }
  where
    below : (b : Bool) → a < cond b (step_at clock k.period + farthest + 1) (2 ^ 32) → a < 2 ^ 41
    below true l = omega (arith, good.timely, div-le_self clock k.period)
    below false l = omega arith

pub checked-near : (passwords : PasswordRule) (k : Track) (clock : ℕ) (key challenge : List ℕ) (asked : Asked) (o : Outcome)
    → Sound k clock → o ≡ outcome_of passwords k clock key challenge asked → IfAccepted (Near k clock) o
checked-near passwords k clock key challenge asked (Outcome.Accepted a) good e =
    candidate-accepted k clock (window_size asked) a.0 good (asked_accepts_candidate passwords k clock key challenge asked (sym e))
checked-near passwords k clock key challenge asked Outcome.Several good e = tt
checked-near passwords k clock key challenge asked Outcome.Again good e = tt
checked-near passwords k clock key challenge asked Outcome.Used good e = tt
checked-near passwords k clock key challenge asked Outcome.Wrong good e = tt

-- ---- the branches

module _ (request : Request) (r : Row) (key : List ℕ) (clock : ℕ) (challenge : List ℕ) {l : Line} {w : Row} {b : Bool} {x : Decision}
    (listed : l ≡ line_of request) (wait : w ≡ waited r clock) (test : b ≡ allowed l.needs w.state) where
  pub decided-refused : {f : Refusal} → not b ≡ true → f ≡ state_refusal w.state → x ≡ refusing f w → x ≡ decided password_at request r key clock challenge
  unfolding decided deciding
  decided-refused t e p = rw (← listed, ← wait, ← test, not-true b t, ← e) p

  module _ (t : not b ≡ false) {way : Way} (done : l.way ≡ way) where
    -- what is done, in a state that is needed
    pub decided-doing : x ≡ doing l w clock (λ k asked. outcome_of password_at k clock key challenge asked) way → x ≡ decided password_at request r key clock challenge
    unfolding decided deciding
    decided-doing p =
        rw (← listed, ← wait, ← test, not-false b t) (p ∙ sym (ap (doing l w clock (λ k asked. outcome_of password_at k clock key challenge asked)) done))

    module _ {asked : Asked} {f : Fails} (checks : way ≡ Way.Checks asked f) where
      by-outcome : x ≡ timely l f w clock (outcome_of password_at w.track clock key challenge asked) → x ≡ decided password_at request r key clock challenge
      by-outcome p = decided-doing (p ∙ sym (ap (doing l w clock (λ k asked. outcome_of password_at k clock key challenge asked)) checks))

      pub decided-expired : w.expiry.0 ≤ clock → x ≡ refusing Refusal.Expired w → x ≡ decided password_at request r key clock challenge
      decided-expired h p = by-outcome (rw (le-leb w.expiry.0 clock h) p)

      pub decided-checked : {o : Outcome} → clock < w.expiry.0 → o ≡ outcome_of password_at w.track clock key challenge asked → x ≡ judging l f w clock o
          → x ≡ decided password_at request r key clock challenge
      decided-checked h e p = by-outcome (rw (lt-leb w.expiry.0 clock h, ← e) p)
