-- One token of a history, and one more entry: an entry that does not name it leaves it, and one that does is what the desk does with it.
use Rattle.token.specs.Answers.{Answer}
use Rattle.std.specs.Prelude.{ℕ, ◌≡◌, true, false, List, ◌∷◌, Err}
use Rattle.std.proofs.Common.{eq-eqb}
use Rattle.words.specs.BoolLaws.{by-test}
use Rattle.window.specs.PasswordAt.{PasswordRule}
use Rattle.token.specs.declared.answers.Refusal.{Refusal}
use Rattle.desk.specs.Requests.{Request, DeskCall, request_ok}
use Rattle.ledger.specs.Ledger.{Entry, Loaded, Reading, names, entries_of, marks, is_query, entered, reading, requested_by, row_of}
use Rattle.ledger.specs.Tokens.{Serviceable, decided_on, kept}
use Rattle.ledger.specs.HistoryTokens.{with_entry, token_of}
use Rattle.ledger.proofs.RangeLaws.{highest_state}
use Rattle.ledger.proofs.RequestLaws.{request_enters}

-- ---- a serial's entries

module _ (serial : ℕ) (e : Entry) (history : List Entry) where
  pub unnamed_entries : names e.call serial ≡ false → entries_of serial (e ∷ history) ≡ entries_of serial history
  unfolding entries_of
  unnamed_entries n = rw n

  pub named-entries : names e.call serial ≡ true → entries_of serial (e ∷ history) ≡ e ∷ entries_of serial history
  unfolding entries_of
  named-entries n = rw n

  -- a refusal marks nothing
  pub refused-marks : {f : Refusal} → e.answer ≡ Err f → marks (entries_of serial (e ∷ history)) ≡ marks (entries_of serial history)
  unfolding marks
  refused-marks a = by-test (names e.call serial) (λ t. rw (named-entries t, a)) (λ n. rw (unnamed_entries n))

module _ (passwords : PasswordRule) (e : Entry) (history : List Entry) (l : Loaded) where
  pub unnamed_stays : names e.call l.particulars.serial ≡ false → token_of passwords (e ∷ history) l ≡ token_of passwords history l
  unnamed_stays n = rw (unnamed_entries l.particulars.serial e history n)

  -- a refusal by which no reading changes
  pub refused-stays : {f : Refusal} → e.answer ≡ Err f → ((older : List Entry) (r : Reading) → entered passwords l older e.call (Err f) r ≡ r)
      → token_of passwords (e ∷ history) l ≡ token_of passwords history l
  unfolding reading marks
  refused-stays a still =
      by-test (names e.call l.particulars.serial)
      (λ t. rw (named-entries l.particulars.serial e history t, a, still))
      unnamed_stays

pub bad_argument_enters : (passwords : PasswordRule) (l : Loaded) (older : List Entry) (request : Request) (serial clock : ℕ) (r : Reading)
    → entered passwords l older (DeskCall.named request serial clock) (Err Refusal.BadArgument) r ≡ r
bad_argument_enters passwords l older request serial clock r = by-test (is_query request) (λ t. rw t) (λ f. rw f)

-- ---- a request to the token

pub request_token : (passwords : PasswordRule) (l : Loaded) (history : List Entry) (request : Request) (serial clock : ℕ) (a : Answer)
    → serial ≡ l.particulars.serial → request_ok request ≡ true → Serviceable (token_of passwords history l)
    → a ≡ requested_by passwords l (entries_of l.particulars.serial history) clock request
    → ((decided_on passwords request clock (token_of passwords history l)).answer ≡ a)
    × (kept (token_of passwords history l) (decided_on passwords request clock (token_of passwords history l)).left
    ≡ token_of passwords (with_entry (DeskCall.named request serial clock) a history) l)
unfolding reading marks row_of
request_token passwords l history request serial clock a e ok good q =
    let older = entries_of l.particulars.serial history in
    let high = highest_state (token_of passwords history l).row good.live in
    let law = request_enters passwords l older (reading passwords l older) serial clock good.live.taken high request ok in
    let entry : Entry = record { call = DeskCall.named request serial clock; answer = a } in
    rw (named-entries l.particulars.serial entry history (eq-eqb serial l.particulars.serial e), q) (law.answer, law.token)
