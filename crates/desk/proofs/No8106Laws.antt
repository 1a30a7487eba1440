-- No call is answered 8106, and an accepted step of a time token lies at most 600 from T (`No8106`).
use Rattle.token.specs.Answers.{Answer}
use Rattle.std.specs.Prelude.{ℕ, ◌^◌, ◌≤◌, ◌≡◌, refl, false, List, eqb, Err}
use Rattle.std.proofs.Common.{sym, ap, subst, ltb-true}
use Rattle.std.proofs.Math.Option.{Option, some, get_or}
use Rattle.words.specs.Lists.{one_of}
use Rattle.words.specs.BoolLaws.{impossible}
use Rattle.window.specs.declared.Step.{Step}
use Rattle.window.specs.declared.Offset.{Offset}
use Rattle.window.specs.declared.Track.{Track}
use Rattle.window.specs.declared.Outcome.{Outcome}
use Rattle.window.specs.declared.asked.Asked.{Asked}
use Rattle.window.specs.Window.{time_token, step_at, distance, Sound}
use Rattle.window.specs.PasswordAt.{PasswordRule}
use Rattle.row.specs.declared.Row.{Row}
use Rattle.row.specs.Row.{last_state, row_at}
use Rattle.row.specs.RangeLaws.{row-sound}
use Rattle.token.specs.declared.answers.Refusal.{Refusal}
use Rattle.token.specs.declared.lines.Way.{Way}
use Rattle.token.specs.Codes.{number_of}
use Rattle.token.specs.StatesLaws.{waited-track}
use Rattle.token.specs.DecidingLaws.{checked-near}
use Rattle.desk.specs.Requests.{Request, DeskCall, challenge_of}
use Rattle.desk.specs.Desk.{secret_at, checked_of}
use Rattle.desk.proofs.ServingLaws.{numbers_of}
use Rattle.desk.proofs.BranchLaws.{Reached, row_now, line_for, check_at, Succeeds, load-answer-holds, named-answer-holds, by-refusal}
use Rattle.desk.specs.Demand1.{codes_of}
use Rattle.desk.specs.No8106.{No8106, AcceptedNear}

-- ---- 8106

abbrev Other : Answer → Type 0
Other answer = eqb (number_of answer) 0x8106 ≡ false

refusal-other : (f : Refusal) → Other (Err f)
refusal-other = by-refusal (λ f. Other (Err f)) refl refl refl refl refl refl refl refl refl refl refl refl refl refl refl refl refl refl refl refl refl

success-other : (w : Row) (clock : ℕ) (check : Track → Asked → Outcome) (request : Request) → Succeeds Other (line_for request) w clock check (line_for request).way
success-other w clock check (Request.login password) = λ a e. refl
success-other w clock check (Request.challenge_login challenge password) = λ a e. refl
success-other w clock check (Request.activate password following) = λ a e. refl
success-other w clock check Request.lock = refl
success-other w clock check (Request.unlock password) = λ a e. refl
success-other w clock check Request.suspend = refl
success-other w clock check (Request.resume password) = λ a e. refl
success-other w clock check (Request.sync choice password following) = λ a e. refl
success-other w clock check Request.void = refl
success-other w clock check Request.query = refl

-- no answer has that number
pub no_8106 : No8106
no_8106 passwords (DeskCall.load p key) s = load-answer-holds Other refusal-other passwords s p key refl
no_8106 passwords (DeskCall.named request serial clock) s =
    named-answer-holds Other refusal-other passwords s request serial clock (λ at r. success-other (row_now s at clock) clock (check_at passwords request s at clock) request)

-- and no call has it among its codes
pub not_listed : (call : DeskCall) → one_of 0x8106 (codes_of call) ≡ false
not_listed (DeskCall.load p key) = refl
not_listed (DeskCall.named request serial clock) = by_request request
  where
    by_request : (request : Request) → one_of 0x8106 (codes_of (DeskCall.named request serial clock)) ≡ false
    by_request (Request.login password) = refl
    by_request (Request.challenge_login challenge password) = refl
    by_request (Request.activate password following) = refl
    by_request Request.lock = refl
    by_request (Request.unlock password) = refl
    by_request Request.suspend = refl
    by_request (Request.resume password) = refl
    by_request (Request.sync choice password following) = refl
    by_request Request.void = refl
    by_request Request.query = refl

-- ---- an accepted step is a candidate

abbrev NearIn : Track → ℕ → Answer → Type 0
NearIn k clock answer =
    (a d : ℕ) → checked_of answer ≡ some (record { 0 = a }, record { 0 = d }) → k.scheme.kind ≡ time_token → distance a (step_at clock k.period) ≤ 600

module _ (passwords : PasswordRule) (request : Request) (serial clock : ℕ) (s : List ℕ) (at : ℕ) (r : Reached request serial clock s at) where
  sound : Sound (row_now s at clock).track clock
  sound = rw (waited-track (row_at s at) clock) (row-sound last_state (row_at s at) (numbers_of last_state s at r.formed) clock (ltb-true clock (2 ^ 40) r.fit.timely))

  abbrev SuccessNear : Track → Way → Type 0
  SuccessNear k way = Succeeds (NearIn k clock) (line_for request) (row_now s at clock) clock (check_at passwords request s at clock) way

  way_near : (way : Way) → SuccessNear (row_now s at clock).track way
  way_near Way.Changes = λ a d e. impossible (cc)
  way_near Way.Tells = λ a d e. impossible (cc)
  way_near (Way.Checks asked f) = λ b accepted a d e.
      let same : b.0 ≡ a = ap (λ (o : Option (Step × Offset)). (get_or o (b, record { 0 = d })).0.0) e in
      rw same at (checked-near passwords (row_now s at clock).track clock (secret_at s at) (challenge_of request) asked (Outcome.Accepted b) sound (sym accepted)).close

  success-near : SuccessNear (row_at s at).track (line_for request).way
  success-near = subst (λ (k : Track). SuccessNear k (line_for request).way) (waited-track (row_at s at) clock) (way_near (line_for request).way)

pub accepted-near : AcceptedNear
accepted-near passwords request serial clock s at a d found =
    named-answer-holds (NearIn (row_at s at).track clock) (λ f a d e. impossible (cc)) passwords s request serial clock
    (λ by r. let here : by ≡ at = cc in rw (← here) (success-near passwords request serial clock s by r)) a d
