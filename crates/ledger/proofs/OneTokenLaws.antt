-- A request does with one token what the ledger machine enters, part by part and for any line: refusals by state, expiry and the outcome of a check.
use Rattle.token.specs.Answers.{Answer, successful}
use Prim.Native.Nat.{ℕ, ◌+◌, ◌-◌, ◌/◌, min, max, ◌≤◌, ◌<◌}
use Rattle.std.specs.Prelude.{◌≡◌, Bool, true, false, ◌&&◌, cond, List, [], Err}
use Rattle.std.proofs.Math.Path.{refl, sym}
use Rattle.std.proofs.Common.{◌∙◌, ne_eqb}
use Rattle.std.proofs.Math.Bool.{not}
use native.Mathlib.Omega.{arith}
use Rattle.std.proofs.lemmas.Bool.{not-true}
use Rattle.std.proofs.Math.Dec.{eqb, leb}
use Rattle.words.specs.Lists.{one_of}
use Rattle.words.specs.BoolLaws.{and_left, and_right, by-test, either}
use Rattle.window.specs.declared.Seconds.{Seconds}
use Rattle.window.specs.declared.Step.{Step}
use Rattle.window.specs.declared.Offset.{Offset}
use Rattle.window.specs.declared.Track.{Track}
use Rattle.window.specs.declared.Outcome.{Outcome}
use Rattle.window.specs.declared.asked.Asked.{Asked}
use Rattle.window.specs.Window.{time_token, farthest}
use Rattle.window.specs.PasswordAt.{PasswordRule}
use Rattle.row.specs.declared.Row.{Row}
use Rattle.token.specs.declared.answers.Content.{Content}
use Rattle.token.specs.declared.answers.Refusal.{Refusal}
use Rattle.token.specs.declared.lines.Fails.{Fails}
use Rattle.token.specs.declared.lines.Way.{Way}
use Rattle.token.specs.declared.lines.After.{After}
use Rattle.token.specs.declared.lines.Line.{Line}
use Rattle.token.specs.declared.deciding.Left.{Left}
use Rattle.token.specs.declared.deciding.Decision.{Decision}
use Rattle.token.specs.Lines.{line_of, allowed, state_refusal}
use Rattle.token.specs.Codes.{refusal_number}
use Rattle.token.specs.States.{wait_over, waited, with_state, offset_after, accepted, failed, repeated}
use Rattle.token.specs.Deciding.{refusing, left_by, changing, judging, timely}
use Rattle.desk.specs.Requests.{Request, valued}
use Rattle.desk.proofs.BranchLaws.{by_state}
use Rattle.ledger.specs.Ledger.{Loaded, Marks, Reading, run_out, is_login, counted, pressed, needing, offset_with, judged_by, track_of, row_of, key_of}
use Rattle.ledger.specs.Tokens.{Token, kept}
use Rattle.ledger.specs.HistoryTokens.{token_with}
use Rattle.ledger.specs.EntryRow.{Agrees}
use Rattle.ledger.proofs.LineLaws.{state_by, wipes, Listed, made_alike, alive, leads_to_void, counts, errs, quiet, counts_unpressed, press_uncounted, other-counts, Failing, Checked}

-- ---- a row and its readings, in either case

cond_inside : {A B : Type 0} (f : A → B) (b : Bool) (x y : A) → cond b (f x) (f y) ≡ f (cond b x y)
cond_inside f true x y = refl
cond_inside f false x y = refl

-- a state that stays leaves `locked at`
unmoved : (b : Bool) (n : ℕ) → cond (b && not b) 0 n ≡ n
unmoved true n = refl
unmoved false n = refl

-- d of an accepted step, as the row and as the ledger has it
offset-alike : (k : Track) (clock a : ℕ) → offset_after k clock a ≡ offset_with k clock a
offset-alike k clock a =
    let e : a + farthest - clock / k.period ≡ farthest + a - clock / k.period = omega arith in
    cond_inside (λ d. let o : Offset = record { 0 = d } in o) (eqb k.scheme.kind time_token) (a + farthest - clock / k.period) k.offset.0 ∙ rw e

-- a wait run out of the row is one run out of the reading
pub waited-reads : (l : Loaded) (x : Reading) (m : Marks) (clock : ℕ) → waited (row_of l x m) clock ≡ row_of l (run_out l clock x) m
unfolding waited wait_over row_of
waited-reads l x m clock =
    cond_inside (λ r. row_of l r m) (eqb x.state 3 && (leb x.locked_at clock && leb l.particulars.wait (clock - x.locked_at)))
    (record { state = 2; errors = 0; locked_at = 0 }) x

-- ---- the parts of a request, on a row with the readings y, whose key is the token's

module _ (passwords : PasswordRule) (l : Loaded) (y : Reading) (m : Marks) (clock : ℕ) (t : Token) (keyed : t.key ≡ key_of l y) where
  stored-token : (r : Reading) (n : Marks) → eqb y.state 6 ≡ eqb r.state 6 → kept t (Left.Stored (row_of l r n)) ≡ token_with l r n
  unfolding key_of
  stored-token r n e = rw (keyed, e)

  -- a reading in another state
  abbrev moved : Reading → ℕ → Reading
  moved r state = record { state = state; errors = r.errors; locked_at = cond (eqb r.state 3 && not (eqb state 3)) 0 r.locked_at }

  moved_row : (r : Reading) (n : Marks) (state : ℕ) → with_state (row_of l r n) state ≡ row_of l (moved r state) n
  unfolding with_state row_of
  moved_row r n state = rw (cond_inside (λ n. let s : Seconds = record { 0 = n } in s) (eqb r.state 3 && not (eqb state 3)) 0 r.locked_at)

  left-token : (r : Reading) (n : Marks) → eqb y.state 6 ≡ false → (after : After) → eqb (state_by after r.state) 6 ≡ wipes after
      → kept t (left_by after (row_of l r n)) ≡ token_with l (moved r (state_by after r.state)) n
  unfolding key_of
  left-token r n lives After.Kept v = rw (unmoved (eqb r.state 3) r.locked_at) (stored-token r n (lives ∙ sym v))
  left-token r n lives (After.Becomes state) v = rw (moved_row r n state) (stored-token (moved r state) n (lives ∙ sym v))
  left-token r n lives After.Voided v = rw (moved_row r n 6)

  abbrev here : Row
  here = row_of l y m

  module _ (request : Request) where
    abbrev Alike : Decision → Answer → Type 0
    Alike d a = Agrees passwords l y m clock request t d a

    either_agrees : {c d : Decision} {a b : Answer} (test : Bool) → (test ≡ true → Alike c a) → (test ≡ false → Alike d b) → Alike (cond test c d) (cond test a b)
    either_agrees true p q = p refl
    either_agrees false p q = q refl

    -- a refusal that is neither 9005 nor used nor wrong changes nothing
    still_agrees : (f : Refusal) → quiet f → Alike (refusing f here) (Err f)
    still_agrees f q = record { answer = refl; numbered = q.0; token = rw q.1 (stored-token y m refl) }

    state_agrees : 0 < y.state → y.state ≤ 6 → (a : Answer) → Alike (refusing (state_refusal y.state) here) (needing [] y.state a)
    state_agrees h high a =
        by_state (λ s. Alike (refusing (state_refusal s) here) (needing [] s a))
        (still_agrees Refusal.Inactive (refl, refl))
        (still_agrees Refusal.Ready (refl, refl))
        (still_agrees Refusal.Locked (refl, refl))
        (still_agrees Refusal.Locked (refl, refl))
        (still_agrees Refusal.Suspended (refl, refl))
        (still_agrees Refusal.Void (refl, refl))
        y.state (ne_eqb y.state 0 (λ e. omega arith), omega arith)

    module _ {states : List ℕ} {success : ℕ} {way : Way} (listed : Listed request states success way) (high : y.state ≤ 6) where
      abbrev line : Line
      line = line_of (valued request)

      -- a request is made in the same states, and refused alike in the others
      pub needing_agrees : 0 < y.state → {d : Decision} {a : Answer} → (one_of y.state states ≡ true → Alike d a)
          → Alike (cond (allowed line.needs y.state) d (refusing (state_refusal y.state) here)) (needing states y.state a)
      needing_agrees h {d} {a} p =
          rw (made_alike listed y.state high) (either_agrees (one_of y.state states) p (λ f. state_agrees h high a))

      module _ (made : one_of y.state states ≡ true) where
        lives : eqb y.state 6 ≡ false
        lives = alive listed y.state high made

        -- what follows a success, from a reading in the same state
        followed : (r : Reading) (n : Marks) → r.state ≡ y.state → kept t (left_by line.after (row_of l r n)) ≡ token_with l (moved r (state_by line.after y.state)) n
        followed r n e = rw (← e) (left-token r n lives line.after (rw e (leads_to_void listed y.state high made)))

        pub changing_agrees : Alike (changing line here) (successful success Content.Plain)
        changing_agrees =
            record {
              answer = rw listed.succeeds;
              numbered = listed.numbered;
              token = rw (listed.leads y.state) at (followed y m refl);
            }

        module _ (f : Fails) (failing : Failing request f) where
          accepted_agrees : (a : Step) → m.next ≤ a.0 → Alike (judging line f here clock (Outcome.Accepted a)) (judged_by success f.several f.used f.wrong (track_of l m) clock (Outcome.Accepted a))
          unfolding accepted row_of
          accepted_agrees a h =
              let e : max (a.0 + 1) m.next ≡ a.0 + 1 = omega arith in
              let o = offset-alike (track_of l m) clock a.0 in
              let r : Reading = record { state = y.state; errors = 0; locked_at = y.locked_at } in
              let n : Marks = record { next = a.0 + 1; offset = offset_with (track_of l m) clock a.0; used = clock } in
              record {
                answer = rw (listed.succeeds, o);
                numbered = listed.numbered;
                token = rw (o, e) (rw (listed.leads y.state) at (followed r n refl));
              }

          abbrev press : Bool
          press = pressed passwords l m request clock

          unlike_9005 : (g : Refusal) → errs g ≡ true → eqb (refusal_number g) 0x9005 ≡ false
          unlike_9005 g t = not-true (eqb (refusal_number g) 0x9005) (and_left _ _ t)

          counts-listed : (g : Refusal) → errs g ≡ true → counts g ≡ true
          counts-listed g t = and_right (not (eqb (refusal_number g) 0x9005)) _ t

          -- a refusal that adds an error
          failed_agrees : (g : Refusal) → errs g ≡ true → counted press (refusal_number g) ≡ true → Alike (refusing g (failed here clock f.locks)) (Err g)
          unfolding failed row_of
          failed_agrees g t o =
              let errors = min 255 (y.errors + 1) in
              let test = is_login request && leb l.particulars.limit errors in
              let locking : Reading = record { state = 3; errors = errors; locked_at = clock } in
              let counting : Reading = record { state = y.state; errors = errors; locked_at = y.locked_at } in
              record {
                answer = refl;
                numbered = unlike_9005 g t;
                token =
                    rw (o, failing.locks, cond_inside (λ r. row_of l r m) test locking counting)
                    (stored-token (cond test locking counting) m (lives ∙ sym (either (λ (r : Reading). eqb r.state 6 ≡ false) test refl lives)));
              }

          used_agrees : press ≡ false → Alike (refusing f.used (failed here clock f.locks)) (Err f.used)
          used_agrees p = failed_agrees f.used failing.used (counts_unpressed (refusal_number f.used) press p (counts-listed f.used failing.used))

          -- presented again: a login forgives it
          again_agrees : press ≡ is_login request → Alike (refusing f.used (repeated here clock f.forgives f.locks)) (Err f.used)
          again_agrees p =
              by-test (is_login request)
              (λ b.
              let o = press_uncounted (refusal_number f.used) press (p ∙ b) (failing.said ∙ b) in
              rw (failing.forgives ∙ b) (record { answer = refl; numbered = unlike_9005 f.used failing.used; token = rw o (stored-token y m refl) }))
              (λ b. rw (failing.forgives ∙ b) (used_agrees (p ∙ b)))

          outcome_agrees : {asked : Asked} (o : Outcome) → Checked passwords l m y clock request asked o → Alike (judging line f here clock o) (judged_by success f.several f.used f.wrong (track_of l m) clock o)
          outcome_agrees (Outcome.Accepted a) checked = accepted_agrees a checked.acceptable.fresh
          outcome_agrees Outcome.Several checked = still_agrees f.several failing.several
          outcome_agrees Outcome.Again checked = again_agrees (checked.again refl)
          outcome_agrees Outcome.Used checked = used_agrees (checked.used refl)
          outcome_agrees Outcome.Wrong checked = failed_agrees f.wrong failing.wrong (other-counts (refusal_number f.wrong) press failing.other (counts-listed f.wrong failing.wrong))

          pub check_agrees : {asked : Asked} (o : Outcome) → Checked passwords l m y clock request asked o
              → Alike (timely line f here clock o) (cond (leb l.particulars.expiry.0 clock) (Err Refusal.Expired) (judged_by success f.several f.used f.wrong (track_of l m) clock o))
          unfolding row_of
          check_agrees o checked = either_agrees (leb l.particulars.expiry.0 clock) (λ t. still_agrees Refusal.Expired (refl, refl)) (λ t. outcome_agrees o checked)
