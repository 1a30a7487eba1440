-- A request leaves a row in range that is not empty, with its particulars.
use Rattle.std.specs.Prelude.{ℕ, ◌^◌, ◌<◌, ◌≡◌, refl, Bool, true, ◌&&◌, List, leb, ltb}
use Rattle.std.proofs.Common.{arith, leb-true, ltb-true}
use Rattle.words.specs.BoolLaws.{and_left, and_right, either}
use Rattle.window.specs.declared.Track.{Track}
use Rattle.window.specs.declared.Outcome.{Outcome}
use Rattle.window.specs.declared.asked.Asked.{Asked}
use Rattle.window.specs.PasswordAt.{PasswordRule}
use Rattle.window.specs.Asked.{outcome_of}
use Rattle.row.specs.declared.Row.{Row}
use Rattle.row.specs.Row.{last_state}
use Rattle.token.specs.declared.lines.Request.{Request as Valued}
use Rattle.token.specs.declared.lines.Fails.{Fails}
use Rattle.token.specs.declared.lines.Way.{Way}
use Rattle.token.specs.declared.lines.After.{After}
use Rattle.token.specs.declared.lines.Line.{Line}
use Rattle.token.specs.declared.deciding.Left.{Left}
use Rattle.token.specs.declared.deciding.Decision.{Decision}
use Rattle.token.specs.Lines.{void, line_of, allowed}
use Rattle.token.specs.States.{waited, accepted, IfAccepted}
use Rattle.token.specs.Deciding.{left_by, judging, doing, deciding, decided}
use Rattle.ledger.specs.Tokens.{Live, Leaves}
use Rattle.ledger.proofs.AcceptedLaws.{Acceptable, asked_accepts}
use Rattle.ledger.proofs.RangeLaws.{leaves-next, waited-leaves, state-leaves, failed-leaves, accepted-leaves}

-- what is left in place of the row r
abbrev pub LeavesBy : Row → Left → Type 0
LeavesBy r Left.Same = Unit {0}
LeavesBy r (Left.Stored x) = Leaves r x
LeavesBy r (Left.Voided x) = Leaves r x

-- every state that a line sets is one of 1 to 6
abbrev state_ok : After → Bool
state_ok After.Kept = true
state_ok (After.Becomes state) = ltb 0 state && leb state last_state
state_ok After.Voided = true

line-state-ok : (request : Valued) → state_ok (line_of request).after ≡ true
line-state-ok (Valued.Login p) = refl
line-state-ok (Valued.ChallengeLogin p) = refl
line-state-ok (Valued.Activate p q) = refl
line-state-ok Valued.Lock = refl
line-state-ok (Valued.Unlock p) = refl
line-state-ok Valued.Suspend = refl
line-state-ok (Valued.Resume p) = refl
line-state-ok (Valued.Sync size p q) = refl
line-state-ok Valued.Void = refl
line-state-ok Valued.Query = refl

-- any line, on the row w that a wait has left in place of r
module _ (l : Line) (clock : ℕ) (h : clock < 2 ^ 40) (r w : Row) (first : Leaves r w) where
  abbrev DecisionLeaves : Decision → Type 0
  DecisionLeaves d = LeavesBy r d.left

  left-leaves : (after : After) → state_ok after ≡ true → (x : Row) → Leaves r x → LeavesBy r (left_by after x)
  left-leaves After.Kept ok x leaves = leaves
  left-leaves (After.Becomes state) ok x leaves =
      leaves-next leaves
      (state-leaves x leaves.live state (ltb-true 0 state (and_left _ _ ok)) (leb-true state last_state (and_right (ltb 0 state) _ ok)))
  left-leaves After.Voided ok x leaves = leaves-next leaves (state-leaves x leaves.live void (omega arith) (omega arith))

  module _ (ok : state_ok l.after ≡ true) where
    judging-leaves : (f : Fails) (o : Outcome) → IfAccepted (Acceptable w.track clock) o → DecisionLeaves (judging l f w clock o)
    judging-leaves f (Outcome.Accepted a) good = left-leaves l.after ok (accepted w clock a.0) (leaves-next first (accepted-leaves w first.live clock a.0 h good))
    judging-leaves f Outcome.Several good = first
    judging-leaves f Outcome.Again good = either (Leaves r) f.forgives first (leaves-next first (failed-leaves w first.live clock h f.locks))
    judging-leaves f Outcome.Used good = leaves-next first (failed-leaves w first.live clock h f.locks)
    judging-leaves f Outcome.Wrong good = leaves-next first (failed-leaves w first.live clock h f.locks)

    doing-leaves : (check : Track → Asked → Outcome) → ((asked : Asked) → IfAccepted (Acceptable w.track clock) (check w.track asked))
        → (way : Way) → DecisionLeaves (doing l w clock check way)
    doing-leaves check good Way.Changes = left-leaves l.after ok w first
    doing-leaves check good Way.Tells = tt
    doing-leaves check good (Way.Checks asked f) =
        either DecisionLeaves (leb w.expiry.0 clock) first (judging-leaves f (check w.track asked) (good asked))

pub decided-leaves : (passwords : PasswordRule) (request : Valued) (r : Row) → Live r → (key : List ℕ) (clock : ℕ) → clock < 2 ^ 40 → (challenge : List ℕ)
    → LeavesBy r (decided passwords request r key clock challenge).left
unfolding decided deciding
decided-leaves passwords request r live key clock h challenge =
    let l = line_of request in
    let w = waited r clock in
    let first = waited-leaves r live clock in
    either (λ (d : Decision). LeavesBy r d.left) (allowed l.needs w.state)
    (doing-leaves l clock h r w first (line-state-ok request) (λ k asked. outcome_of passwords k clock key challenge asked)
    (λ asked. asked_accepts passwords w.track clock key challenge asked) l.way)
    first
