-- Part 5's table twice: a request's line in the ledger machine and the one that `token` has for it are the same, by tests that are computed.
use Rattle.token.specs.Answers.{Answer}
use Rattle.std.specs.Prelude.{ℕ, ◌≤◌, ◌≡◌, Bool, true, false, ◌&&◌, not, cond, eqb, get_or, replicate}
use Rattle.std.proofs.Math.Path.{refl}
use Rattle.std.proofs.Common.{sym, ◌∙◌, arith}
use mathlib.Core.List.{List, [], ◌∷◌}
use Rattle.std.proofs.lemmas.Bool.{not-true}
use Rattle.words.specs.Lists.{one_of}
use Rattle.words.specs.BoolLaws.{by-test, clash, and_left, and_right, and_false}
use Rattle.words.specs.Entries.{every, entry_rule}
use Rattle.otp.specs.Typed.{password_ok, as_password}
use Rattle.otp.specs.TypedLaws.{digits-back}
use Rattle.window.specs.declared.Size.{Size}
use Rattle.window.specs.declared.Size.TheVariants.{Small, Large}
use Rattle.window.specs.declared.Outcome.{Outcome}
use Rattle.window.specs.declared.asked.Asked.{Asked}
use Rattle.window.specs.declared.asked.Asked.TheVariants.{One, Challenged, Two}
use Rattle.window.specs.PasswordAt.{PasswordRule}
use Rattle.window.specs.Asked.{outcome_of}
use Rattle.window.proofs.Meaning.{single-again, single-used}
use Rattle.row.specs.Row.{all_of}
use Rattle.row.specs.RangeLaws.{test-passes}
use Rattle.token.specs.declared.answers.Refusal.{Refusal}
use Rattle.token.specs.declared.lines.Fails.{Fails}
use Rattle.token.specs.declared.lines.Way.{Way}
use Rattle.token.specs.declared.lines.Way.TheVariants.{Changes, Checks}
use Rattle.token.specs.declared.lines.After.{After}
use Rattle.token.specs.declared.lines.Line.{Line}
use Rattle.token.specs.Lines.{void, at_login, at_sync, elsewhere, line_of, allowed}
use Rattle.token.specs.Codes.{refusal_number}
use Rattle.token.specs.States.{IfAccepted}
use Rattle.desk.specs.Requests.{Request, challenge_given, choice_ok, request_ok, size_of, valued, challenge_of}
use Rattle.ledger.specs.Ledger.{Loaded, Marks, Reading, follows, is_login, counted_codes, counted, last_has, pressed, is_query, track_of, single, pair, with_check, without_check, requested}
use Rattle.ledger.proofs.AcceptedLaws.{Acceptable, single_accepts, pair_accepts}

-- what follows a line's success: the state, and whether the key is zeroed
abbrev pub state_by : After → ℕ → ℕ
state_by After.Kept state = state
state_by (After.Becomes other) state = other
state_by After.Voided state = void

abbrev pub wipes : After → Bool
wipes After.Kept = false
wipes (After.Becomes other) = false
wipes After.Voided = true

abbrev alike : Bool → Bool → Bool
alike a b = cond a b (not b)

alike_equal : (a b : Bool) → alike a b ≡ true → a ≡ b
alike_equal true b t = sym t
alike_equal false true t = t
alike_equal false false t = refl

-- in a state: made or refused by both; never made in state 6, to which only a void leads
abbrev same_in : List ℕ → Line → ℕ → List Bool
same_in states line s =
    alike (allowed line.needs s) (one_of s states)
    ∷ cond (one_of s states) (not (eqb s 6)) true
    ∷ cond (one_of s states) (alike (eqb (state_by line.after s) 6) (wipes line.after)) true
    ∷ []

-- a request's line
pub record Listed (request : Request) (states : List ℕ) (success : ℕ) (way : Way) : Type 0 where
  pub succeeds : (line_of (valued request)).success ≡ success
  pub does : (line_of (valued request)).way ≡ way
  pub asked : is_query request ≡ false
  pub numbered : eqb success 0x9005 ≡ false
  pub leads : (s : ℕ) → state_by (line_of (valued request)).after s ≡ follows request s
  pub voids : (s : ℕ) → cond (eqb success 0x010a) (eqb (follows request s) 6) true ≡ true
  pub same : every (λ s n. all_of (same_in states (line_of (valued request)) s)) 0 (replicate {A = ℕ} 7 0) ≡ true

module _ {request : Request} {states : List ℕ} {success : ℕ} {way : Way} (listed : Listed request states success way) where
  module _ (s : ℕ) (high : s ≤ 6) where
    passes : (i : ℕ) → get_or (same_in states (line_of (valued request)) s) i true ≡ true
    passes i =
        test-passes (same_in states (line_of (valued request)) s) i
        (entry_rule (λ s n. all_of (same_in states (line_of (valued request)) s)) (replicate {A = ℕ} 7 0) listed.same s (omega arith))

    pub made_alike : allowed (line_of (valued request)).needs s ≡ one_of s states
    made_alike = alike_equal (allowed (line_of (valued request)).needs s) (one_of s states) (passes 0)

    module _ (made : one_of s states ≡ true) where
      pub alive : eqb s 6 ≡ false
      alive = not-true (eqb s 6) (rw made at (passes 1))

      pub leads_to_void : eqb (state_by (line_of (valued request)).after s) 6 ≡ wipes (line_of (valued request)).after
      leads_to_void = alike_equal (eqb (state_by (line_of (valued request)).after s) 6) (wipes (line_of (valued request)).after) (rw made at (passes 2))

  pub never_void : one_of 6 states ≡ false
  never_void = by-test (one_of 6 states) (λ made. clash refl (alive 6 (omega arith) made)) (λ f. f)

-- ---- refusals that add an error

-- used or wrong
abbrev pub counts : Refusal → Bool
counts f = one_of (refusal_number f) counted_codes

abbrev pub errs : Refusal → Bool
errs f = not (eqb (refusal_number f) 0x9005) && counts f

-- a refusal that is neither 9005 nor counts
abbrev pub quiet : Refusal → Type 0
quiet f = (eqb (refusal_number f) 0x9005 ≡ false) × (counts f ≡ false)

-- used counts where it is no double press; 8004 to one does not; any other code does
pub counts_unpressed : (code : ℕ) (press : Bool) → press ≡ false → one_of code counted_codes ≡ true → counted press code ≡ true
counts_unpressed code true e o = clash refl e
counts_unpressed code false e o = rw o (simp and_false)

pub press_uncounted : (code : ℕ) (press : Bool) → press ≡ true → eqb code 0x8004 ≡ true → counted press code ≡ false
press_uncounted code false e s = clash e refl
press_uncounted code true e s = by_code (one_of code counted_codes) (eqb code 0x8004) s
  where
    by_code : (listed said : Bool) → said ≡ true → listed && not (said && true) ≡ false
    by_code true true s = refl
    by_code false true s = refl
    by_code listed false s = clash s refl

pub other-counts : (code : ℕ) (press : Bool) → eqb code 0x8004 ≡ false → one_of code counted_codes ≡ true → counted press code ≡ true
other-counts code press n o = rw (o, n)

-- a used and a wrong password count, and lock at a login, which alone says 8004 and forgives a double press; one that several steps have does not count
pub record Failing (request : Request) (f : Fails) : Type 0 where
  pub several : quiet f.several
  pub used : errs f.used ≡ true
  pub wrong : errs f.wrong ≡ true
  pub locks : f.locks ≡ is_login request
  pub forgives : f.forgives ≡ is_login request
  pub said : eqb (refusal_number f.used) 0x8004 ≡ is_login request
  pub other : eqb (refusal_number f.wrong) 0x8004 ≡ false

-- ---- every request has a line

module _ (passwords : PasswordRule) (l : Loaded) (m : Marks) (r : Reading) (clock : ℕ) where
  -- the outcome of the request's check, as the machine has it
  pub record Checked (request : Request) (asked : Asked) (o : Outcome) : Type 0 where
    pub acceptable : IfAccepted (Acceptable (track_of l m) clock) o
    pub same : request_ok request ≡ true → outcome_of passwords (track_of l m) clock l.key (challenge_of request) asked ≡ o
    -- a used password is a double press, if it is a login's and presented again
    pub again : o ≡ Outcome.Again → pressed passwords l m request clock ≡ is_login request
    pub used : o ≡ Outcome.Used → pressed passwords l m request clock ≡ false

  -- of a login the password that is presented again is pressed
  module _ (challenge password : List ℕ) where
    abbrev found : Outcome
    found = single passwords l m r clock Small challenge password

    login-used : found ≡ Outcome.Used → last_has passwords l m clock challenge password ≡ false
    login-used e = single-used (track_of l m) clock Small _ e

    login-again : found ≡ Outcome.Again → last_has passwords l m clock challenge password ≡ true
    login-again e = single-again (track_of l m) clock Small _ e

    login-checked : {request : Request} {asked : Asked} → is_login request ≡ true → pressed passwords l m request clock ≡ last_has passwords l m clock challenge password
        → (request_ok request ≡ true → outcome_of passwords (track_of l m) clock l.key (challenge_of request) asked ≡ found) → Checked request asked found
    login-checked login press same =
        record { acceptable = single_accepts (track_of l m) clock Small _; same = same; again = λ e. press ∙ login-again e ∙ sym login; used = λ e. press ∙ login-used e }

  -- of any other call none is
  module _ {request : Request} {size : Size} (login : is_login request ≡ false) (none : pressed passwords l m request clock ≡ false) where
    one-checked : (password : List ℕ) → (request_ok request ≡ true → password_ok password ≡ true)
        → Checked request (One size (as_password password)) (single passwords l m r clock size [] password)
    one-checked password ok =
        record { acceptable = single_accepts (track_of l m) clock size _; same = λ t. rw (digits-back password (ok t)); again = λ e. none ∙ sym login; used = λ e. none }

    two_checked : (password following : List ℕ) → (request_ok request ≡ true → password_ok password && password_ok following ≡ true)
        → Checked request (Two size (as_password password) (as_password following)) (pair passwords l m r clock size password following)
    two_checked password following ok =
        record {
          acceptable = pair_accepts (track_of l m) clock size _ _;
          same = λ t.
              rw (
                digits-back password (and_left _ _ (ok t)),
                digits-back following (and_right (password_ok password) _ (ok t)),
              );
          again = λ e. none ∙ sym login;
          used = λ e. none;
        }

  module _ (P : Request → Answer → Type 0)
      (checks : (request : Request) (states : List ℕ) (success : ℕ) (f : Fails) (asked : Asked) (o : Outcome)
      → Listed request states success (Checks asked f) → Failing request f → Checked request asked o → P request (with_check passwords l m r clock states success f.several f.used f.wrong o))
      (changes : (request : Request) (states : List ℕ) (success : ℕ) → Listed request states success Changes → P request (without_check passwords l m r clock states success))
      (tells : P Request.query (requested passwords l m r clock Request.query)) where
    -- what holds of every line holds of every request
    pub by-line : (request : Request) → P request (requested passwords l m r clock request)
    unfolding request_ok
    by-line (Request.login password) =
        checks _ (2 ∷ []) 0x0001 at_login (One Small (as_password password)) _ (search) (search) (login-checked [] password refl refl (λ t. rw (digits-back password t)))
    by-line (Request.challenge_login challenge password) =
        checks _ (2 ∷ []) 0x0002 at_login (Challenged Small (as_password password)) _ (search) (search)
        (login-checked challenge password refl refl (λ t. rw (digits-back password (and_right (challenge_given challenge) _ t))))
    by-line (Request.activate password following) =
        checks _ (1 ∷ []) 0x0101 elsewhere (Two Large (as_password password) (as_password following)) _ (search) (search) (two_checked refl refl password following (λ t. t))
    by-line Request.lock = changes _ (2 ∷ []) 0x0102 (search)
    by-line (Request.unlock password) = checks _ (3 ∷ 4 ∷ []) 0x0103 elsewhere (One Small (as_password password)) _ (search) (search) (one-checked refl refl password (λ t. t))
    by-line Request.suspend = changes _ (2 ∷ 3 ∷ 4 ∷ []) 0x0104 (search)
    by-line (Request.resume password) = checks _ (5 ∷ []) 0x0105 elsewhere (One Small (as_password password)) _ (search) (search) (one-checked refl refl password (λ t. t))
    by-line (Request.sync choice password following) =
        checks _ (2 ∷ 3 ∷ 4 ∷ []) 0x0108 at_sync (Two (size_of choice) (as_password password) (as_password following)) _ (search) (search)
        (two_checked refl refl password following (λ t. and_right (choice_ok choice) _ t))
    by-line Request.void = changes _ (1 ∷ 2 ∷ 3 ∷ 4 ∷ 5 ∷ []) 0x010a (search)
    by-line Request.query = tells
