-- Demand 1 (`Demand1`): every branch of a call gives a listed code and leaves the bytes named for it.
use Rattle.std.specs.Prelude.{ℕ, ◌≡◌, refl, Bool, true, false, ◌&&◌, ◌||◌, Some, None, Err}
use mathlib.Core.List.{List, []}
use Rattle.words.specs.Lists.{one_of}
use Rattle.words.specs.BoolLaws.{and_left, and_right, clash}
use Rattle.window.specs.PasswordAt.{PasswordRule}
use Rattle.row.specs.Row.{row_bytes}
use Rattle.row.specs.Table.{Place, find_row, store_row}
use Rattle.token.specs.declared.answers.Refusal.{Refusal}
use Rattle.token.specs.Lines.{allowed, state_refusal}
use Rattle.token.specs.Codes.{refusal_number, number_of}
use Rattle.token.specs.States.{failed}
use Rattle.token.specs.Deciding.{refusing}
use Rattle.desk.specs.Requests.{Request, DeskCall, challenge_given, request_ok}
use Rattle.desk.specs.Desk.{Result, stored}
use Rattle.desk.proofs.BranchLaws.{row_now, line_for, Made, load-holds, named-holds, Standing, reached_standing, by_state}
use Rattle.desk.proofs.PressLaws.{used_unpressed_now, again-pressed_now}
use Rattle.desk.specs.Demand1.{codes_of, at_place, wait_codes, request_bytes, press_at, bytes_for, Demand1}

-- the refusal is listed for the request, and leaves only a wait run out
abbrev keeps : Request → Refusal → Bool
keeps request refusal = one_of (refusal_number refusal) (codes_of (DeskCall.named request 0 0)) && one_of (refusal_number refusal) wait_codes

-- in states 1 to 6 the request is made, or its refusal is such
state-listed : (request : Request) (state : ℕ) → Standing state → allowed (line_for request).needs state || keeps request (state_refusal state) ≡ true
state-listed (Request.login password) = by_state _ refl refl refl refl refl refl
state-listed (Request.challenge_login challenge password) = by_state _ refl refl refl refl refl refl
state-listed (Request.activate password following) = by_state _ refl refl refl refl refl refl
state-listed Request.lock = by_state _ refl refl refl refl refl refl
state-listed (Request.unlock password) = by_state _ refl refl refl refl refl refl
state-listed Request.suspend = by_state _ refl refl refl refl refl refl
state-listed (Request.resume password) = by_state _ refl refl refl refl refl refl
state-listed (Request.sync choice password following) = by_state _ refl refl refl refl refl refl
state-listed Request.void = by_state _ refl refl refl refl refl refl
state-listed Request.query = by_state _ refl refl refl refl refl refl

-- ---- a request to the row at a place

module _ (passwords : PasswordRule) (s : List ℕ) (at clock : ℕ) where
  abbrev Fits : Request → Result → Type 0
  Fits request x = (one_of (number_of x.answer) (codes_of (DeskCall.named request 0 0)) ≡ true) × (x.table ≡ request_bytes clock s at (press_at passwords request clock s at) x.answer)

  kept-fits : (request : Request) (refusal : Refusal) → keeps request refusal ≡ true → Fits request (stored s at (refusing refusal (row_now s at clock)))
  kept-fits request refusal t =
      let code = refusal_number refusal in
      let w = and_right (one_of code (codes_of (DeskCall.named request 0 0))) _ t in
      (search (and_left), rw w)

  -- what 8004 leaves of a login: nothing but a wait run out at a double press, else an error more
  again-left : (press : Bool) → press ≡ true → store_row s at (row_now s at clock) ≡ request_bytes clock s at press (Err Refusal.UsedAtLogin)
  again-left true e = refl
  again-left false e = clash e refl

  used-left : (press : Bool) → press ≡ false → store_row s at (failed (row_now s at clock) clock true) ≡ request_bytes clock s at press (Err Refusal.UsedAtLogin)
  used-left true e = clash refl e
  used-left false e = refl

  made-fits : (request : Request) → request_ok request ≡ true → Made passwords request s at clock (Fits request)
  unfolding request_ok
  made-fits (Request.login p) ok =
      record {
        expired = search;
        accepted = search;
        several = search;
        again = λ t e. (refl, again-left _ (again-pressed_now passwords s at clock [] p ok e));
        used = λ t e. (refl, used-left _ (used_unpressed_now passwords s at clock [] p ok e));
        wrong = search;
      }
  made-fits (Request.challenge_login q p) ok =
      let typed = and_right (challenge_given q) _ ok in
      record {
        expired = search;
        accepted = search;
        several = search;
        again = λ t e. (refl, again-left _ (again-pressed_now passwords s at clock q p typed e));
        used = λ t e. (refl, used-left _ (used_unpressed_now passwords s at clock q p typed e));
        wrong = search;
      }
  made-fits (Request.activate password following) ok = search
  made-fits Request.lock ok = search
  made-fits (Request.unlock password) ok = search
  made-fits Request.suspend ok = search
  made-fits (Request.resume password) ok = search
  made-fits (Request.sync choice password following) ok = search
  made-fits Request.void ok = search
  made-fits Request.query ok = search

-- ---- the calls

pub unchanged_anywhere : (s : List ℕ) (place : Place) → s ≡ at_place s place (λ at. s)
unchanged_anywhere s (Some at) = refl
unchanged_anywhere s None = refl

abbrev Meets : PasswordRule → DeskCall → List ℕ → Result → Type 0
Meets passwords call s x = (one_of (number_of x.answer) (codes_of call) ≡ true) × (x.table ≡ bytes_for passwords call s x.answer)

pub demand_1 : Demand1
demand_1 passwords (DeskCall.load p key) s =
    load-holds passwords s (Meets passwords (DeskCall.load p key) s) p key
    (record { bad = λ t. (refl, refl); taken = λ t other e. (refl, refl); full = λ t none e. (refl, refl); made = λ t none at e. rw e (refl, refl) })
demand_1 passwords (DeskCall.named request serial clock) s =
    named-holds passwords s (Meets passwords (DeskCall.named request serial clock) s) request serial clock
    (record {
      bad = λ t. (refl, unchanged_anywhere s (find_row row_bytes s serial));
      unknown = λ fit e. rw e (refl, refl);
      damaged = λ fit at e f. rw e (refl, refl);
      unfit = λ at r f. rw r.found (kept-fits passwords s at clock request (state_refusal (row_now s at clock).state) (rw f at (state-listed request (row_now s at clock).state (reached_standing r))));
      made = λ at r t. rw r.found (made-fits passwords s at clock request r.fit.arguments);
    })
