-- What a request does with one well-formed row (document 01, Part 5 and "What a turned-down call says"): the answer, and what is left of the
-- row. The check's outcome is a parameter, and so is the password rule: a request rests on no cipher.
use Rattle.token.specs.Answers.{successful}
use Rattle.std.specs.Prelude.{ℕ, cond, List, leb, Err}
use Rattle.window.specs.declared.Track.{Track}
use Rattle.window.specs.declared.Outcome.{Outcome}
use Rattle.window.specs.declared.asked.Asked.{Asked}
use Rattle.window.specs.PasswordAt.{PasswordRule}
use Rattle.window.specs.Asked.{outcome_of}
use Rattle.row.specs.declared.Row.{Row}
use Rattle.token.specs.declared.answers.Content.{Content}
use Rattle.token.specs.declared.answers.Refusal.{Refusal}
use Rattle.token.specs.declared.lines.Request.{Request}
use Rattle.token.specs.declared.lines.Fails.{Fails}
use Rattle.token.specs.declared.lines.Way.{Way}
use Rattle.token.specs.declared.lines.After.{After}
use Rattle.token.specs.declared.lines.Line.{Line}
use Rattle.token.specs.declared.deciding.Left.{Left}
use Rattle.token.specs.declared.deciding.Decision.{Decision}
use Rattle.token.specs.Lines.{void, line_of, allowed, state_refusal}
use Rattle.token.specs.States.{waited, with_state, offset_after, accepted, failed, repeated}

-- a refusal keeps a wait run out
abbrev pub refusing : Refusal → Row → Decision
refusing refusal r = record { answer = Err refusal; left = Left.Stored r }

-- what follows a success: only a void zeroes the key
abbrev pub left_by : After → Row → Left
left_by After.Kept r = Left.Stored r
left_by (After.Becomes state) r = Left.Stored (with_state r state)
left_by After.Voided r = Left.Voided (with_state r void)

abbrev pub changing : Line → Row → Decision
changing l r = record { answer = successful l.success Content.Plain; left = left_by l.after r }

-- a query reports a wait that has run out, and leaves the row
abbrev pub telling : Line → Row → Decision
telling l r =
    record {
      answer = successful l.success (Content.Queried (record { state = r.state; errors = r.errors; last_use = r.last_use }));
      left = Left.Same;
    }

-- the check's outcome decides: success, several, again, used, wrong; several is no error
abbrev pub judging : Line → Fails → Row → ℕ → Outcome → Decision
judging l f r clock (Outcome.Accepted a) =
    record { answer = successful l.success (Content.Checked a (offset_after r.track clock a.0)); left = left_by l.after (accepted r clock a.0) }
judging l f r clock Outcome.Several = refusing f.several r
judging l f r clock Outcome.Again = refusing f.used (repeated r clock f.forgives f.locks)
judging l f r clock Outcome.Used = refusing f.used (failed r clock f.locks)
judging l f r clock Outcome.Wrong = refusing f.wrong (failed r clock f.locks)

-- a checked request is refused at or after the expiry
abbrev pub timely : Line → Fails → Row → ℕ → Outcome → Decision
timely l f r clock outcome = cond (leb r.expiry.0 clock) (refusing Refusal.Expired r) (judging l f r clock outcome)

-- what a line does; `check` gives the outcome by the token's window
abbrev pub doing : Line → Row → ℕ → (Track → Asked → Outcome) → Way → Decision
doing l r clock check Way.Changes = changing l r
doing l r clock check Way.Tells = telling l r
doing l r clock check (Way.Checks asked f) = timely l f r clock (check r.track asked)

-- a request in the state that its row has once a wait has run out
abbrev pub permitted : Line → Row → ℕ → (Track → Asked → Outcome) → Decision
permitted l r clock check = cond (allowed l.needs r.state) (doing l r clock check l.way) (refusing (state_refusal r.state) r)

unfoldable pub deciding : Line → Row → ℕ → (Track → Asked → Outcome) → Decision
deciding l r clock check = permitted l (waited r clock) clock check

-- by a password rule, the token's key and the lent challenge
unfoldable pub decided : PasswordRule → Request → Row → List ℕ → ℕ → List ℕ → Decision
decided passwords request r key clock challenge = deciding (line_of request) r clock (λ k asked. outcome_of passwords k clock key challenge asked)
