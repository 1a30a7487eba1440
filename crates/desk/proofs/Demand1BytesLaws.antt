-- Demand 1 by bytes (`Demand1Bytes`): every branch of a call leaves the changes listed for its code.
use Rattle.std.specs.Prelude.{ℕ, ◌+◌, ◌≤◌, ◌≡◌, Bool, true, false, ◌||◌, cond, eqb, leb, length, Some, None}
use Rattle.std.proofs.Math.Path.{refl, sym, ap}
use Rattle.std.proofs.Common.{◌∙◌, arith}
use mathlib.Core.List.{List, [], ◌∷◌, ◌++◌}
use Rattle.words.specs.Bytes.{AreBytes, be_bytes}
use Rattle.words.specs.Lists.{one_of}
use Rattle.words.specs.BoolLaws.{and_right, clash}
use Rattle.otp.specs.Typed.{password_ok, as_password}
use Rattle.window.specs.declared.Size.TheVariants.{Small}
use Rattle.window.specs.declared.Step.{Step}
use Rattle.window.specs.declared.Outcome.{Outcome}
use Rattle.window.specs.declared.asked.Asked.{Asked}
use Rattle.window.specs.PasswordAt.{PasswordRule}
use Rattle.window.specs.Asked.{one_asked}
use Rattle.row.specs.declared.Row.{Row}
use Rattle.row.specs.Row.{row_bytes, last_state, row_at, well_formed}
use Rattle.row.specs.Table.{Place, find_row, find_empty, store_row, wipe_key}
use Rattle.row.specs.RangeLaws.{unlocked_elsewhere}
use Rattle.row.specs.FoundLaws.{found_within, empty-within}
use Rattle.row.specs.StoreLaws.{store_same}
use Rattle.token.specs.declared.lines.Way.TheVariants.{Checks}
use Rattle.token.specs.declared.lines.After.TheVariants.{Kept}
use Rattle.token.specs.Lines.{ready, at_login, listed, allowed, state_refusal, from_to}
use Rattle.token.specs.Codes.{number_of}
use Rattle.token.specs.States.{changed, wait_over, waited, with_state, accepted, errors_after, failed}
use Rattle.token.specs.Deciding.{refusing}
use Rattle.desk.specs.Requests.{Request, DeskCall, challenge_given, request_ok}
use Rattle.desk.specs.Desk.{Result, secret_at, stored, desk_after}
use Rattle.desk.proofs.ServingLaws.{numbers_of}
use Rattle.desk.proofs.LoadLaws.{loaded-key-short}
use Rattle.desk.specs.Press.{last_has, pressed}
use Rattle.desk.proofs.PressLaws.{again-pressed, used_unpressed}
use Rattle.desk.proofs.BranchLaws.{if_single, Judged, Done, line_for, check_at, load-holds, row_now, named-holds, reached_standing, by_state}
use Rattle.desk.specs.Demand1.{at_place}
use Rattle.desk.specs.Demand1Bytes.{Change, laid, state, errors, locked_at, unchanged_codes, wait_run_out, ran_out, accepted_step, besides, left_by, step_in, press_in, left_in, Demand1Bytes}
use Rattle.desk.proofs.LaidLaws.{laid-append}
use Rattle.desk.proofs.Demand1Laws.{unchanged_anywhere}
use Rattle.desk.proofs.RowBytesLaws.{stored-over, seconds, over, failed-laid, moved-laid, left_laid, marked-laid, followed-laid, load-laid}

-- ---- the row as a call finds it, once a wait has run out

abbrev waited_by : Bool → Row → Row
waited_by b r = changed r (cond b ready r.state) (cond b 0 r.errors) r.track (cond b (seconds 0) r.locked_at) r.last_use

abbrev found : List ℕ → ℕ → ℕ → Row
found s at clock = waited_by (wait_run_out s at clock) (row_at s at)

waited-found : (s : List ℕ) (at clock : ℕ) → waited (row_at s at) clock ≡ found s at clock
unfolding waited wait_over row_at
waited-found s at clock = by_cases (wait_run_out s at clock)
  where
    by_cases : (b : Bool) → cond b (changed (row_at s at) ready 0 (row_at s at).track (seconds 0) (row_at s at).last_use) (row_at s at) ≡ waited_by b (row_at s at)
    by_cases true = refl
    by_cases false = refl

found-laid : (s : List ℕ) (at clock : ℕ) → AreBytes s → at + row_bytes ≤ length s → laid s at (ran_out s at clock) ≡ store_row s at (found s at clock)
unfolding be_bytes
found-laid s at clock bytes room = by_cases (wait_run_out s at clock)
  where
    by_cases : (b : Bool) → laid s at (cond b (state 2 ∷ errors 0 ∷ locked_at 0 ∷ []) []) ≡ store_row s at (waited_by b (row_at s at))
    by_cases true =
        let cs = state 2 ∷ errors 0 ∷ locked_at 0 ∷ [] in
        ap (λ (z : List ℕ). laid z at cs) (sym (store_same s at bytes)) ∙ stored-over s at room (row_at s at) (waited_by true (row_at s at)) cs refl refl
    by_cases false = sym (store_same s at bytes)

found_unlocked : (s : List ℕ) (at clock : ℕ) → well_formed last_state s at ≡ true → eqb (found s at clock).state 3 || eqb (found s at clock).locked_at.0 0 ≡ true
found_unlocked s at clock ok = by_cases (wait_run_out s at clock)
  where
    by_cases : (b : Bool) → eqb (waited_by b (row_at s at)).state 3 || eqb (waited_by b (row_at s at)).locked_at.0 0 ≡ true
    by_cases true = refl
    by_cases false = unlocked_elsewhere last_state (row_at s at) (numbers_of last_state s at ok)

-- ---- a request to the row at a place

module _ (s : List ℕ) (at clock : ℕ) (press : Bool) where
  abbrev row : Row
  row = found s at clock

  -- the table that a code leaves, over the stored row
  abbrev leaving : ℕ → ℕ → List ℕ
  leaving code a = cond (one_of code unchanged_codes) s (laid (store_row s at row) at (besides s at clock press code a))

  abbrev Leaves : Result → Type 0
  Leaves x = x.table ≡ leaving (number_of x.answer) (step_in x.answer)

  module _ (room : at + row_bytes ≤ length s) where
    leaving-laid : AreBytes s → (code a : ℕ) → leaving code a ≡ laid s at (left_by s at clock press code a)
    leaving-laid bytes code a = by_cases (one_of code unchanged_codes)
      where
        by_cases : (b : Bool) → cond b s (laid (store_row s at row) at (besides s at clock press code a)) ≡ laid s at (cond b [] (ran_out s at clock ++ besides s at clock press code a))
        by_cases true = refl
        by_cases false = rw (laid-append at s (ran_out s at clock) (besides s at clock press code a), found-laid s at clock bytes room)

    failed-login : store_row s at (failed row clock true) ≡ leaving 0x8002 0
    unfolding row_at failed
    failed-login = sym (failed-laid s at clock room row (leb row.limit (errors_after row)))

    -- used: a double press, or not
    pressed-login : press ≡ true → store_row s at row ≡ leaving 0x8004 0
    pressed-login = by-press press
      where
        by-press : (b : Bool) → b ≡ true → store_row s at row ≡ laid (store_row s at row) at (besides s at clock b 0x8004 0)
        by-press true e = refl
        by-press false e = clash e refl

    used-login : press ≡ false → store_row s at (failed row clock true) ≡ leaving 0x8004 0
    used-login = by-press press
      where
        by-press : (b : Bool) → b ≡ false → store_row s at (failed row clock true) ≡ laid (store_row s at row) at (besides s at clock b 0x8004 0)
        by-press true e = clash refl e
        by-press false e = failed-login

    failed-elsewhere : store_row s at (failed row clock false) ≡ leaving 0x8104 0
    unfolding row_at failed
    failed-elsewhere = sym (failed-laid s at clock room row false)

    kept : (a : Step) → store_row s at (accepted row clock a.0) ≡ leaving 0x0001 a.0
    unfolding row_at
    kept a = sym (marked-laid s at clock room row a.0)

    becomes : (after : ℕ) (cs : List Change) → over s at clock room row cs ≡ store_row s at (with_state row after) → (a : Step)
        → store_row s at (with_state (accepted row clock a.0) after) ≡ over s at clock room row (cs ++ accepted_step s at clock a.0)
    unfolding row_at
    becomes after cs h a = sym (followed-laid s at clock room row after cs a.0 h)

    login-leaves : (passwords : PasswordRule) (asked : Asked) (success : ℕ) (challenge p : List ℕ) → password_ok p ≡ true → press ≡ last_has passwords (row_at s at).track (secret_at s at) clock challenge p
        → (o : Outcome) → o ≡ one_asked passwords (row_at s at).track clock (secret_at s at) Small challenge (as_password p)
        → leaving success ≡ leaving 0x0001
        → Judged (listed (from_to ready ready) (Checks asked at_login) success Kept) row clock (λ d. Leaves (stored s at d)) asked at_login o
    login-leaves passwords asked success challenge p ok same o eo es =
        record {
          expired = λ t. refl;
          accepted = λ t a e. kept a ∙ sym (ap (λ (f : ℕ → List ℕ). f a.0) es);
          several = if_single asked (λ t e. refl);
          again = λ t e. pressed-login (same ∙ again-pressed passwords _ _ _ challenge p ok (sym eo ∙ e));
          used = λ t e. used-login (same ∙ used_unpressed passwords _ _ _ challenge p ok (sym eo ∙ e));
          wrong = λ t e. failed-login;
        }

    made-leaves : (passwords : PasswordRule) (request : Request) → request_ok request ≡ true → press ≡ pressed passwords (row_at s at).track (secret_at s at) clock request
        → allowed (line_for request).needs row.state ≡ true → eqb row.state 3 || eqb row.locked_at.0 0 ≡ true
        → Done (line_for request) row clock (λ d. Leaves (stored s at d)) (check_at passwords request s at clock) (line_for request).way
    unfolding wipe_key request_ok
    made-leaves passwords (Request.login p) ok same t u = login-leaves passwords _ 0x0001 [] p ok same _ refl refl
    made-leaves passwords (Request.challenge_login q p) ok same t u = login-leaves passwords _ 0x0002 q p (and_right (challenge_given q) _ ok) same _ refl refl
    made-leaves passwords (Request.activate password following) ok same t u =
        let ready = becomes 2 (state 2 ∷ []) (moved-laid s at clock room row 1 2 t refl) in search (ready, failed-elsewhere)
    made-leaves passwords Request.lock ok same t u = sym (moved-laid s at clock room row 2 4 t refl)
    made-leaves passwords (Request.unlock password) ok same t u =
        let ready = becomes 2 (state 2 ∷ locked_at 0 ∷ []) (left_laid s at clock room row 2 refl u) in search (ready, failed-elsewhere)
    made-leaves passwords Request.suspend ok same t u = sym (left_laid s at clock room row 5 refl u)
    made-leaves passwords (Request.resume password) ok same t u =
        let ready = becomes 2 (state 2 ∷ []) (moved-laid s at clock room row 5 2 t refl) in search (ready, failed-elsewhere)
    made-leaves passwords (Request.sync choice password following) ok same t u = search (kept, failed-elsewhere)
    made-leaves passwords Request.void ok same t u = ap (λ (z : List ℕ). wipe_key z at) (sym (left_laid s at clock room row 6 refl u))
    made-leaves passwords Request.query ok same t u = refl

-- ---- the calls

abbrev Holds : PasswordRule → List ℕ → DeskCall → Result → Type 0
Holds passwords s call x = x.table ≡ left_in passwords call s x.answer

module _ (passwords : PasswordRule) (s : List ℕ) (request : Request) (serial clock : ℕ) where
  abbrev press : ℕ → Bool
  press at = press_in passwords request s at clock

  press-read : (at : ℕ) → press at ≡ pressed passwords (row_at s at).track (secret_at s at) clock request
  unfolding row_at
  press-read at = refl

  abbrev Somewhere : Result → Type 0
  Somewhere x = x.table ≡ at_place s (find_row row_bytes s serial) (λ at. leaving s at clock (press at) (number_of x.answer) (step_in x.answer))

  within : {at : ℕ} → find_row row_bytes s serial ≡ Some at → at + row_bytes ≤ length s
  within {at} e = found_within row_bytes s serial (omega arith) at e

  named-leaves : Somewhere (desk_after passwords (DeskCall.named request serial clock) s)
  named-leaves =
      named-holds passwords s Somewhere request serial clock
      (record {
        bad = λ t. unchanged_anywhere s (find_row row_bytes s serial);
        unknown = λ fit e. unchanged_anywhere s (find_row row_bytes s serial);
        damaged = λ fit at e f. unchanged_anywhere s (find_row row_bytes s serial);
        unfit = λ at r f.
            rw r.found
            (by_state (λ n. Leaves s at clock (press at) (stored s at (refusing (state_refusal n) (row_now s at clock)))) (unfit at) (unfit at) (unfit at) (unfit at) (unfit at) (unfit at)
            (row_now s at clock).state (reached_standing r));
        made = λ at r t.
            rw (r.found, waited-found s at clock)
            (made-leaves s at clock (press at) (within r.found) passwords request r.fit.arguments (press-read at) (rw (waited-found s at clock) at t) (found_unlocked s at clock r.formed));
      })
    where
      unfit : (at : ℕ) → store_row s at (row_now s at clock) ≡ store_row s at (found s at clock)
      unfit at = rw (waited-found s at clock)

  placed : AreBytes s → (place : Place) → find_row row_bytes s serial ≡ place → (code a : ℕ)
      → at_place s place (λ at. leaving s at clock (press at) code a) ≡ at_place s place (λ at. laid s at (left_by s at clock (press at) code a))
  placed bytes (Some at) e code a = leaving-laid s at clock (press at) (within e) bytes code a
  placed bytes None e code a = refl

pub demand_1_bytes : Demand1Bytes
demand_1_bytes passwords (DeskCall.load p key) s bytes =
    load-holds passwords s (Holds passwords s (DeskCall.load p key)) p key
    (record {
      bad = λ t. unchanged_anywhere s (find_empty row_bytes s);
      taken = λ fit other e. unchanged_anywhere s (find_empty row_bytes s);
      full = λ fit none e. unchanged_anywhere s (find_empty row_bytes s);
      made = λ fit none at e. rw e (sym (load-laid p key s at (loaded-key-short p key fit.values) (empty-within row_bytes s (omega arith) at e)));
    })
demand_1_bytes passwords (DeskCall.named request serial clock) s bytes =
    let answer = (desk_after passwords (DeskCall.named request serial clock) s).answer in
    named-leaves passwords s request serial clock ∙ placed passwords s request serial clock bytes (find_row row_bytes s serial) refl (number_of answer) (step_in answer)
