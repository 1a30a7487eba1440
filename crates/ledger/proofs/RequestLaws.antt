-- Every request does with one token what the ledger machine enters: the same answer, and the token with the readings after it.
use Rattle.token.specs.Answers.{Answer}
use Rattle.std.specs.Prelude.{ℕ, ◌-◌, ◌≤◌, ◌<◌, ◌≡◌, true, false, ◌&&◌, List, eqb, leb, take, replicate}
use Rattle.std.proofs.Math.Path.{refl}
use Rattle.std.proofs.Common.{◌∙◌, arith, eqb-true, take_at}
use Rattle.std.proofs.Math.ListN.{length}
use Rattle.words.specs.BoolLaws.{by-test, and_left}
use Rattle.window.specs.declared.Outcome.{Outcome}
use Rattle.window.specs.declared.asked.Asked.{Asked}
use Rattle.window.specs.PasswordAt.{PasswordRule}
use Rattle.row.specs.Row.{key_bytes}
use Rattle.token.specs.declared.lines.Fails.{Fails}
use Rattle.token.specs.declared.lines.Way.TheVariants.{Changes, Checks}
use Rattle.token.specs.Deciding.{deciding, decided}
use Rattle.desk.specs.Requests.{Request, DeskCall, request_ok}
use Rattle.desk.specs.Desk.{checked_of}
use Rattle.ledger.specs.Ledger.{Entry, Loaded, Marks, Reading, marks, marked, run_out, is_query, entered, with_check, without_check, requested, row_of, key_of}
use Rattle.ledger.specs.Tokens.{Token, decided_on, kept}
use Rattle.ledger.specs.HistoryTokens.{token_with}
use Rattle.ledger.specs.EntryRow.{Agrees}
use Rattle.ledger.proofs.LineLaws.{Listed, alive, Failing, Checked, by-line}
use Rattle.ledger.proofs.OneTokenLaws.{waited-reads, needing_agrees, changing_agrees, check_agrees}

-- ---- a wait run out

module _ (l : Loaded) (clock : ℕ) (x : Reading) where
  -- only from state 3, and then to state 2
  run-out-either : (P : ℕ → Type 0) → (x.state ≡ 3 → P 2) → P x.state → P (run_out l clock x).state
  run-out-either P q r =
      let late = leb x.locked_at clock && leb l.particulars.wait (clock - x.locked_at) in
      by-test (eqb x.state 3 && late) (λ t. rw t (q (eqb-true x.state 3 (and_left _ _ t)))) (λ t. rw t r)

  pub run-out-void : eqb x.state 6 ≡ eqb (run_out l clock x).state 6
  run-out-void = run-out-either (λ s. eqb x.state 6 ≡ eqb s 6) (λ e. rw e) refl

  run-out-low : 0 < x.state → 0 < (run_out l clock x).state
  run-out-low h = run-out-either (λ s. 0 < s) (λ e. omega arith) h

  run-out_high : x.state ≤ 6 → (run_out l clock x).state ≤ 6
  run-out_high h = run-out-either (λ s. s ≤ 6) (λ e. omega arith) h

-- ---- a request to the token of a load with its readings

module _ (passwords : PasswordRule) (l : Loaded) (older : List Entry) (x : Reading) (serial clock : ℕ) (low : 0 < x.state) (high : x.state ≤ 6) where
  abbrev m : Marks
  m = marks older

  abbrev y : Reading
  y = run_out l clock x

  abbrev t : Token
  t = token_with l x m

  -- what the request does, and what the machine enters
  pub record Enters (request : Request) (a : Answer) : Type 0 where
    pub answer : (decided_on passwords request clock t).answer ≡ a
    pub token : kept t (decided_on passwords request clock t).left ≡ token_with l (entered passwords l older (DeskCall.named request serial clock) a x) (marked (checked_of a) clock m)

  keyed : t.key ≡ key_of l y
  unfolding key_of
  keyed = rw (run-out-void l clock x)

  secret : eqb y.state 6 ≡ false → take (row_of l x m).key_length t.key ≡ l.key
  unfolding key_of row_of
  secret f = rw (run-out-void l clock x ∙ f) (take_at l.key (replicate (key_bytes - length l.key) 0) (length l.key) refl)

  agreed : {request : Request} {a : Answer} → is_query request ≡ false → Agrees passwords l y m clock request t (decided_on passwords request clock t) a → Enters request a
  agreed asked agrees = record { answer = agrees.answer; token = rw (asked, agrees.numbered) agrees.token }

  changes_enters : (request : Request) (states : List ℕ) (success : ℕ) → Listed request states success Changes → request_ok request ≡ true
      → Enters request (without_check passwords l m y clock states success)
  unfolding decided deciding row_of
  changes_enters request states success listed ok =
      let upper = run-out_high l clock x high in
      agreed listed.asked
      (rw (waited-reads l x m clock, listed.does)
      (needing_agrees passwords l y m clock t keyed request listed upper (run-out-low l clock x low)
      (λ made. changing_agrees passwords l y m clock t keyed request listed upper made)))

  checks_enters : (request : Request) (states : List ℕ) (success : ℕ) (f : Fails) (asked : Asked) (o : Outcome) → Listed request states success (Checks asked f) → Failing request f
      → Checked passwords l m y clock request asked o → request_ok request ≡ true → Enters request (with_check passwords l m y clock states success f.several f.used f.wrong o)
  unfolding decided deciding row_of
  checks_enters request states success f asked o listed failing checked ok =
      let upper = run-out_high l clock x high in
      agreed listed.asked
      (rw (waited-reads l x m clock, listed.does)
      (needing_agrees passwords l y m clock t keyed request listed upper (run-out-low l clock x low)
      (λ made. rw (secret (alive listed y.state upper made), checked.same ok) (check_agrees passwords l y m clock t keyed request listed upper made f failing o checked))))

  query_enters : request_ok Request.query ≡ true → Enters Request.query (requested passwords l m y clock Request.query)
  unfolding decided deciding row_of
  query_enters ok = record { answer = rw (waited-reads l x m clock); token = refl }

  pub request_enters : (request : Request) → request_ok request ≡ true → Enters request (requested passwords l m y clock request)
  request_enters = by-line passwords l m y clock (λ request a. request_ok request ≡ true → Enters request a) checks_enters changes_enters query_enters
