-- One double press: it finds its token ready, leaves of the row only a wait run out, and so does the idle call in its place.
use Rattle.std.specs.Prelude.{ℕ, ◌+◌, ◌≤◌, ◌<◌, ◌≡◌, true, ◌&&◌, leb, length, get_or, set}
use Rattle.std.proofs.Math.Path.{refl}
use Rattle.std.proofs.Common.{sym, ◌∙◌, inl, arith, leb-true}
use Rattle.std.proofs.Math.Bool.{false}
use mathlib.Core.List.{List, []}
use Rattle.std.proofs.Math.Dec.{eqb}
use Rattle.std.proofs.Math.ListN.{length-set}
use Rattle.std.proofs.Math.Seq.{get_or-set_same, get_or-set_other}
use Rattle.words.specs.Bytes.{AreBytes}
use Rattle.words.specs.BytesLaws.{get_or-put_be}
use Rattle.words.specs.Lists.{all_within}
use Rattle.words.specs.BoolLaws.{and_left, and_right, clash}
use Rattle.otp.specs.Typed.{password_ok, as_password}
use Rattle.window.specs.declared.Size.TheVariants.{Small}
use Rattle.window.specs.declared.Outcome.{Outcome}
use Rattle.window.specs.declared.asked.Asked.{Asked}
use Rattle.window.specs.PasswordAt.{PasswordRule}
use Rattle.window.specs.Asked.{one_asked}
use Rattle.row.specs.declared.Row.{Row}
use Rattle.row.specs.Row.{row_bytes, row_at}
use Rattle.row.specs.Table.{find_row, located, store_row}
use Rattle.row.specs.FoundLaws.{found_within}
use Rattle.row.specs.StoreLaws.{store_same}
use Rattle.token.specs.declared.lines.Fails.{Fails}
use Rattle.token.specs.declared.lines.Way.TheVariants.{Checks}
use Rattle.token.specs.declared.lines.After.TheVariants.{Kept}
use Rattle.token.specs.declared.lines.Line.{Line}
use Rattle.token.specs.Lines.{ready, at_login, listed, allowed, state_refusal, from_to}
use Rattle.token.specs.Codes.{refusal_number, number_of}
use Rattle.token.specs.States.{wait_over, waited}
use Rattle.token.specs.Deciding.{deciding, decided}
use Rattle.desk.specs.Requests.{Request, DeskCall, challenge_given, request_ok}
use Rattle.desk.specs.Desk.{Result, secret_at, stored, served_at, desk_after}
use Rattle.desk.proofs.BranchLaws.{if_single, Judged, Reached, row_now, line_for, Made, named-holds, reached_standing, by_state}
use Rattle.desk.specs.Press.{last_has}
use Rattle.desk.proofs.PressLaws.{used_unpressed_now}
use Rattle.desk.specs.Demand1.{press_at}
use Rattle.presses.specs.Presses.{of_row, is_press, PressLeavesReady, idle, finds_locked}

-- ---- a press leaves of the row that it reaches only a wait run out

module _ (passwords : PasswordRule) (serial clock : ℕ) (s : List ℕ) where
  pub record Forgiven (request : Request) (x : Result) : Type 0 where
    pub at : ℕ
    pub reached : Reached request serial clock s at
    pub ready : (row_now s at clock).state ≡ 2
    pub answer : number_of x.answer ≡ 0x8004
    pub table : x.table ≡ store_row s at (row_now s at clock)

  abbrev IfPress : Request → Result → Type 0
  IfPress request x = eqb (number_of x.answer) 0x8004 ≡ true → of_row (find_row row_bytes s serial) (press_at passwords request clock s) ≡ true → Forgiven request x

  -- no press has another number
  other : (request : Request) {x : Result} → eqb (number_of x.answer) 0x8004 ≡ false → IfPress request x
  other request f t p = clash t f

  module _ (request : Request) (at : ℕ) where
    abbrev Judges : Line → Asked → Fails → Outcome → Type 0
    Judges l asked f o = Judged l (row_now s at clock) clock (λ d. IfPress request (stored s at d)) asked f o

    elsewhere-judged : (l : Line) (asked : Asked) (f : Fails) (o : Outcome) → eqb l.success 0x8004 ≡ false → eqb (refusal_number f.several) 0x8004 ≡ false
        → eqb (refusal_number f.used) 0x8004 ≡ false → eqb (refusal_number f.wrong) 0x8004 ≡ false → Judges l asked f o
    elsewhere-judged l asked f o success several used wrong =
        record {
          expired = λ t. other request refl;
          accepted = λ t a e. other request success;
          several = if_single asked (λ t e. other request several);
          again = λ t e. other request used;
          used = λ t e. other request used;
          wrong = λ t e. other request wrong;
        }

    -- a login's used password is a press only if it is presented again
    login-judged : (asked : Asked) (success : ℕ) (challenge p : List ℕ) (o : Outcome) → Reached request serial clock s at → leb 2 (row_now s at clock).state && leb (row_now s at clock).state 2 ≡ true
        → password_ok p ≡ true → press_at passwords request clock s at ≡ last_has passwords (row_at s at).track (secret_at s at) clock challenge p
        → o ≡ one_asked passwords (row_now s at clock).track clock (secret_at s at) Small challenge (as_password p) → eqb success 0x8004 ≡ false
        → Judges (listed (from_to ready ready) (Checks asked at_login) success Kept) asked at_login o
    login-judged asked success challenge p o r t ok same eo apart =
        let state = (row_now s at clock).state in
        record {
          expired = λ u. other request refl;
          accepted = λ u a e. other request apart;
          several = if_single asked (λ u e. other request refl);
          again = λ u e n q.
              record {
                at = at;
                reached = r;
                ready = omega (arith, leb-true 2 state (and_left _ _ t), leb-true state 2 (and_right (leb 2 state) _ t));
                answer = refl;
                table = refl;
              };
          used = λ u e n q. clash (rw r.found at q) (same ∙ used_unpressed_now passwords s at clock challenge p ok (sym eo ∙ e));
          wrong = λ u e. other request refl;
        }

  made-press : (request : Request) (at : ℕ) → Reached request serial clock s at → allowed (line_for request).needs (row_now s at clock).state ≡ true
      → Made passwords request s at clock (IfPress request)
  unfolding request_ok
  made-press (Request.login p) at r t = login-judged _ at _ 0x0001 [] p _ r t r.fit.arguments refl refl refl
  made-press (Request.challenge_login q p) at r t = login-judged _ at _ 0x0002 q p _ r t (and_right (challenge_given q) _ r.fit.arguments) refl refl refl
  made-press (Request.activate p f) at r t = elsewhere-judged _ at _ _ _ _ refl refl refl refl
  made-press Request.lock at r t = other _ refl
  made-press (Request.unlock p) at r t = elsewhere-judged _ at _ _ _ _ refl refl refl refl
  made-press Request.suspend at r t = other _ refl
  made-press (Request.resume p) at r t = elsewhere-judged _ at _ _ _ _ refl refl refl refl
  made-press (Request.sync choice p f) at r t = elsewhere-judged _ at _ _ _ _ refl refl refl refl
  made-press Request.void at r t = other _ refl
  made-press Request.query at r t = other _ refl

  pub press_forgiven : (request : Request) → is_press passwords (DeskCall.named request serial clock) s ≡ true → Forgiven request (desk_after passwords (DeskCall.named request serial clock) s)
  unfolding is_press
  press_forgiven request t =
      named-holds passwords s (IfPress request) request serial clock
      (record {
        bad = λ t. other request refl;
        unknown = λ fit e. other request refl;
        damaged = λ fit at e f. other request refl;
        unfit = λ at r f.
            other request
            (by_state (λ n. eqb (refusal_number (state_refusal n)) 0x8004 ≡ false) refl refl refl refl refl refl (row_now s at clock).state (reached_standing r));
        made = made-press request;
      })
      (and_left _ _ t) (and_right (eqb (number_of (desk_after passwords (DeskCall.named request serial clock) s).answer) 0x8004) _ t)

-- ---- the token is ready, with its errors

module _ (s : List ℕ) (at : ℕ) (r : Row) (room : at + row_bytes ≤ length s) where
  abbrev head_stored : List ℕ
  head_stored = set (set s (at + 0) r.state) (at + 6) r.errors

  -- before the first unused step only the state and the errors are stored
  stored-head : (n : ℕ) → n < 48 → get_or (store_row s at r) (at + n) 0 ≡ get_or head_stored (at + n) 0
  unfolding store_row
  stored-head n l =
      get_or-put_be 8 _ (at + 80) _ (at + n) (inl (omega arith))
      ∙ get_or-put_be 8 _ (at + 72) _ (at + n) (inl (omega arith))
      ∙ get_or-put_be 2 _ (at + 56) _ (at + n) (inl (omega arith))
      ∙ get_or-put_be 8 _ (at + 48) _ (at + n) (inl (omega arith))

  stored-state : (row_at (store_row s at r) at).state ≡ r.state
  unfolding row_at
  stored-state =
      stored-head 0 (omega arith)
      ∙ get_or-set_other (set s (at + 0) r.state) (at + 6) (at + 0) r.errors 0 (λ e. omega arith)
      ∙ get_or-set_same s (at + 0) r.state 0 (omega arith)

  stored-errors : (row_at (store_row s at r) at).errors ≡ r.errors
  unfolding row_at
  stored-errors = stored-head 6 (omega arith) ∙ get_or-set_same (set s (at + 0) r.state) (at + 6) r.errors 0 (rw length-set (omega arith))

pub press-leaves-ready : PressLeavesReady
press-leaves-ready passwords request serial clock s t =
    let f = press_forgiven passwords serial clock s request t in
    let w = row_now s f.at clock in
    let room = found_within row_bytes s serial (omega arith) f.at f.reached.found in (
      f.at,
      record {
        found = f.reached.found;
        answer = f.answer;
        table = f.table;
        state = rw f.table (stored-state s f.at w room ∙ f.ready);
        errors = rw f.table (stored-errors s f.at w room);
      },
    )

-- ---- the idle call, and no call

module _ (passwords : PasswordRule) where
  idle-table : (request : Request) (serial clock : ℕ) (s : List ℕ) (at : ℕ) → Reached request serial clock s at → (row_now s at clock).state ≡ 2
      → (desk_after passwords (idle (DeskCall.named request serial clock)) s).table ≡ store_row s at (row_now s at clock)
  unfolding desk_after located served_at decided deciding request_ok password_ok all_within
  idle-table request serial clock s at r ready = rw (r.fit.table, r.fit.timely, r.found, r.formed, ready)

  -- the idle call leaves the table that the press leaves
  pub press-is-idle : (call : DeskCall) (s : List ℕ) → is_press passwords call s ≡ true → (desk_after passwords (idle call) s).table ≡ (desk_after passwords call s).table
  press-is-idle (DeskCall.load p key) s t = refl
  press-is-idle (DeskCall.named request serial clock) s t =
      let f = press_forgiven passwords serial clock s request t in
      idle-table request serial clock s f.at f.reached f.ready ∙ sym f.table

  unlocked_waits_not : (r : Row) (clock : ℕ) → eqb r.state 3 ≡ false → waited r clock ≡ r
  unfolding waited wait_over
  unlocked_waits_not r clock e = rw e

  -- a press that finds its token unlocked changes no byte
  pub press-is_nothing : (call : DeskCall) (s : List ℕ) → AreBytes s → is_press passwords call s ≡ true → finds_locked call s ≡ false → (desk_after passwords call s).table ≡ s
  unfolding is_press
  press-is_nothing (DeskCall.load p key) s bytes t e = clash t refl
  press-is_nothing (DeskCall.named request serial clock) s bytes t e =
      let f = press_forgiven passwords serial clock s request t in
      let unlocked : eqb (row_at s f.at).state 3 ≡ false = rw f.reached.found at e in
      f.table ∙ rw (unlocked_waits_not (row_at s f.at) clock unlocked) (store_same s f.at bytes)
