-- The order of the refusals (`FirstLine`): along the branches of a call, each line that does not hold is passed.
use Rattle.std.specs.Prelude.{ℕ, ◌≡◌, refl, true, false, cond, List}
use Rattle.words.specs.BoolLaws.{and_left, and_right, by-test}
use Rattle.otp.specs.Typed.{password_ok}
use Rattle.otp.specs.TypedLaws.{digits-back}
use Rattle.otp.specs.declared.typed.Password.{Password}
use Rattle.window.specs.declared.Size.{Size}
use Rattle.window.specs.declared.Outcome.{Outcome}
use Rattle.window.specs.declared.asked.Asked.{Asked}
use Rattle.window.specs.PasswordAt.{PasswordRule}
use Rattle.row.specs.declared.Row.{Row}
use Rattle.row.specs.Row.{row_bytes}
use Rattle.token.specs.declared.lines.Fails.{Fails}
use Rattle.token.specs.declared.lines.Line.{Line as Listed}
use Rattle.token.specs.Lines.{allowed, state_refusal}
use Rattle.token.specs.Codes.{refusal_number, number_of}
use Rattle.desk.specs.Requests.{Request, DeskCall, table_ok, clock_ok, challenge_given, choice_ok, request_ok, load_ok}
use Rattle.desk.specs.Desk.{Result, secret_at}
use Rattle.desk.proofs.BranchLaws.{if_single, Judged, row_now, line_for, Made, load-holds, named-holds, Standing, reached_standing, by_state}
use Rattle.desk.specs.FirstLine.{Line, first_of, needed, success_code, single_lines, pair_lines, request_lines, state_lines, lines_for, success, FirstLineThatHolds}

-- the lines of the state decide as the request's needed states do
state_decides : (request : Request) (further : List Line) (other state : ℕ) → Standing state
    → first_of (state_lines (needed request) state further) other ≡ cond (allowed (line_for request).needs state) (first_of further other) (refusal_number (state_refusal state))
state_decides (Request.login password) further other = by_state _ refl refl refl refl refl refl
state_decides (Request.challenge_login challenge password) further other = by_state _ refl refl refl refl refl refl
state_decides (Request.activate password following) further other = by_state _ refl refl refl refl refl refl
state_decides Request.lock further other = by_state _ refl refl refl refl refl refl
state_decides (Request.unlock password) further other = by_state _ refl refl refl refl refl refl
state_decides Request.suspend further other = by_state _ refl refl refl refl refl refl
state_decides (Request.resume password) further other = by_state _ refl refl refl refl refl refl
state_decides (Request.sync choice password following) further other = by_state _ refl refl refl refl refl refl
state_decides Request.void further other = by_state _ refl refl refl refl refl refl
state_decides Request.query further other = by_state _ refl refl refl refl refl refl

-- the lines of a check decide as its outcome does
module _ (l : Listed) (f : Fails) (w : Row) (clock : ℕ) (o : Outcome) where
  abbrev Decides : Asked → List Line → Type 0
  Decides asked lines = Judged l w clock (λ d. number_of d.answer ≡ first_of lines l.success) asked f o

  one_decides : (asked : Asked) → Decides asked (single_lines w clock (refusal_number f.several) (refusal_number f.used) (refusal_number f.wrong) o)
  one_decides asked =
      record {
        expired = λ t. rw t;
        accepted = λ t a e. rw (t, e);
        several = if_single asked (λ t e. rw (t, e));
        again = λ t e. rw (t, e);
        used = λ t e. rw (t, e);
        wrong = λ t e. rw (t, e);
      }

  two_decides : (size : Size) (p q : Password) → Decides (Asked.Two size p q) (pair_lines w clock (refusal_number f.used) (refusal_number f.wrong) o)
  two_decides size p q = record { expired = λ t. rw t; accepted = λ t a e. rw (t, e); several = tt; again = λ t e. rw (t, e); used = λ t e. rw (t, e); wrong = λ t e. rw (t, e) }

-- so do the lines of a request, whose passwords were typed well
request_decides : (passwords : PasswordRule) (request : Request) (s : List ℕ) (at clock : ℕ) → request_ok request ≡ true
    → Made passwords request s at clock (λ x. number_of x.answer ≡ first_of (request_lines passwords (row_now s at clock) (secret_at s at) clock request) (success_code request))
unfolding request_ok
request_decides passwords (Request.login p) s at clock ok = rw (digits-back p ok) (one_decides _ _ _ _ _ _)
request_decides passwords (Request.challenge_login q p) s at clock ok = rw (digits-back p (and_right (challenge_given q) _ ok)) (one_decides _ _ _ _ _ _)
request_decides passwords (Request.activate p q) s at clock ok =
    rw (digits-back p (and_left _ _ ok), digits-back q (and_right (password_ok p) _ ok)) (two_decides _ _ _ _ _ _ _ _)
request_decides passwords Request.lock s at clock ok = refl
request_decides passwords (Request.unlock p) s at clock ok = rw (digits-back p ok) (one_decides _ _ _ _ _ _)
request_decides passwords Request.suspend s at clock ok = refl
request_decides passwords (Request.resume p) s at clock ok = rw (digits-back p ok) (one_decides _ _ _ _ _ _)
request_decides passwords (Request.sync choice p q) s at clock ok =
    let typed = and_right (choice_ok choice) _ ok in
    rw (digits-back p (and_left _ _ typed), digits-back q (and_right (password_ok p) _ typed)) (two_decides _ _ _ _ _ _ _ _)
request_decides passwords Request.void s at clock ok = refl
request_decides passwords Request.query s at clock ok = refl

-- ---- every call on every table

abbrev Answers : PasswordRule → DeskCall → List ℕ → Result → Type 0
Answers passwords call s x = number_of x.answer ≡ first_of (lines_for passwords call s) (success call)

pub first-line_that_holds : FirstLineThatHolds
first-line_that_holds passwords (DeskCall.load p key) s =
    load-holds passwords s (Answers passwords (DeskCall.load p key) s) p key
    (record {
      bad = λ t. by-test (table_ok row_bytes s) (λ a. let b : load_ok p key ≡ false = rw a at t in rw (a, b)) (λ a. rw a);
      taken = λ fit other e. rw (fit.table, fit.values, e);
      full = λ fit none e. rw (fit.table, fit.values, none, e);
      made = λ fit none at e. rw (fit.table, fit.values, none, e);
    })
first-line_that_holds passwords (DeskCall.named request serial clock) s =
    named-holds passwords s (Answers passwords (DeskCall.named request serial clock) s) request serial clock
    (record {
      bad = λ t.
          by-test (table_ok row_bytes s)
          (λ a. by-test (clock_ok clock) (λ b. let c : request_ok request ≡ false = rw (a, b) at t in rw (a, b, c)) (λ b. rw (a, b)))
          (λ a. rw a);
      unknown = λ fit e. rw (fit.table, fit.timely, fit.arguments, e);
      damaged = λ fit at e f. rw (fit.table, fit.timely, fit.arguments, e, f);
      unfit = λ at r f.
          let w = row_now s at clock in
          let decided = state_decides request (request_lines passwords w (secret_at s at) clock request) (success_code request) w.state (reached_standing r) in
          rw (r.fit.table, r.fit.timely, r.fit.arguments, r.found, r.formed, decided, f);
      made = λ at r t.
          let w = row_now s at clock in
          let decided = state_decides request (request_lines passwords w (secret_at s at) clock request) (success_code request) w.state (reached_standing r) in
          rw (r.fit.table, r.fit.timely, r.fit.arguments, r.found, r.formed, decided, t) (request_decides passwords request s at clock r.fit.arguments);
    })
