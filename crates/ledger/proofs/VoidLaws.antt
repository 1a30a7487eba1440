-- A void token accepts nothing, for ever, over the ledger machine's own answers.
use Rattle.token.specs.Answers.{Answer}
use Rattle.std.specs.Prelude.{ℕ, ◌≡◌, false, ◌&&◌, ltb, length}
use Rattle.std.proofs.Math.Path.{refl, ap}
use Rattle.std.proofs.Common.{sym, ◌∙◌}
use Rattle.std.proofs.Math.Bool.{true}
use mathlib.Core.List.{List, [], ◌∷◌}
use Rattle.std.proofs.Math.Option.{Option, none, some}
use borrow.Author.Tests.{eqb-true, eq-eqb}
use Rattle.std.proofs.Math.Dec.{eqb}
use Rattle.words.specs.BoolLaws.{by-test, and_left, and_right, either, clash}
use Rattle.window.specs.PasswordAt.{PasswordRule}
use Rattle.token.specs.declared.lines.Way.{Way}
use Rattle.token.specs.Codes.{number_of}
use Rattle.desk.specs.Requests.{Request, DeskCall, clock_ok, request_ok, load_ok}
use Rattle.desk.specs.Desk.{checked_of}
use Rattle.ledger.specs.Ledger.{Entry, Loaded, Marks, Reading, names, entries_of, loads, load_in, load_of, marks, run_out, entered, reading, needing, requested, requested_of, loaded_of, answer_to, ledger_from, ledger}
use Rattle.ledger.specs.Demand3.{accepted_steps, AfterVoid}
use Rattle.ledger.specs.HistoryTokens.{with_entry}
use Rattle.ledger.proofs.LoadsLaws.{found-serial, found-behind}
use Rattle.ledger.proofs.LineLaws.{Listed, never_void, by-line}
use Rattle.ledger.proofs.RequestLaws.{run-out-void}
use Rattle.ledger.proofs.TokenLaws.{unnamed_entries, named-entries, bad_argument_enters}
use Rattle.ledger.proofs.AnswerLaws.{request_fits}

-- ---- a request to a void token

module _ (passwords : PasswordRule) (l : Loaded) (older : List Entry) (m : Marks) (x : Reading) (serial clock : ℕ) (void : x.state ≡ 6) where
  abbrev waiting : Reading
  waiting = run_out l clock x

  still_void : waiting.state ≡ 6
  still_void = eqb-true waiting.state 6 (sym (run-out-void l clock x) ∙ eq-eqb x.state 6 void)

  -- no step is accepted, and the token stays void
  abbrev Dead : Request → Answer → Type 0
  Dead request a = (checked_of a ≡ none) × ((entered passwords l older (DeskCall.named request serial clock) a x).state ≡ 6)

  refused_dead : (request : Request) {states : List ℕ} {success : ℕ} {way : Way} → Listed request states success way → (a : Answer) → Dead request (needing states waiting.state a)
  refused_dead request listed a = rw (still_void, never_void listed, listed.asked) (refl, still_void)

  request_dead : (request : Request) → Dead request (requested passwords l m waiting clock request)
  request_dead =
      by-line passwords l m waiting clock Dead
      (λ request states success f asked o listed failing checked. refused_dead request listed _)
      (λ request states success listed. refused_dead request listed _)
      (refl, void)

-- ---- a call, where the serial is void before it

module _ (passwords : PasswordRule) (serial : ℕ) where
  -- the serial is loaded, and its state reads void
  pub record Voided (history : List Entry) : Type 0 where
    pub load : Loaded
    pub found : load_of serial (loads history) ≡ some load
    pub void : (reading passwords load (entries_of load.particulars.serial history)).state ≡ 6

  module _ (rows : ℕ) (history : List Entry) where
    module _ (v : Voided history) where
      abbrev entries : List Entry
      entries = entries_of v.load.particulars.serial history

      abbrev Quiet : DeskCall → Answer → Type 0
      Quiet call a = (checked_of a ≡ none) × ((entered passwords v.load entries call a (reading passwords v.load entries)).state ≡ 6)

      call-quiet : (call : DeskCall) → names call serial ≡ true → Quiet call (answer_to passwords rows history call)
      unfolding answer_to
      call-quiet (DeskCall.load p key) t =
          let found : load_of p.serial (loads history) ≡ some v.load = rw (eqb-true p.serial serial t) v.found in
          rw found (either (Quiet (DeskCall.load p key)) (load_ok p key) (refl, v.void) (refl, v.void))
      call-quiet (DeskCall.named request other clock) t =
          let found : load_of other (loads history) ≡ some v.load = rw (eqb-true other serial t) v.found in
          rw found
          (either (Quiet (DeskCall.named request other clock)) (clock_ok clock && request_ok request)
          (request_dead passwords v.load entries (marks entries) (reading passwords v.load entries) other clock v.void request)
          (refl, rw (bad_argument_enters passwords v.load entries request other clock (reading passwords v.load entries)) v.void))

      stays-voided : (call : DeskCall) → Voided (with_entry call (answer_to passwords rows history call) history)
      unfolding loads reading
      stays-voided call =
          let answer = answer_to passwords rows history call in
          let e : Entry = record { call = call; answer = answer } in
          let known = v.load.particulars.serial in
          let same = ap (names call) (found-serial serial v.load (loads history) v.found) in
          record {
            load = v.load;
            found = found-behind serial v.load (loads history) (load_in call answer) v.found;
            void =
                by-test (names call serial)
                (λ t. rw (named-entries known e history (same ∙ t)) (call-quiet call t).1)
                (λ f. rw (unnamed_entries known e history (same ∙ f)) v.void);
          }

    -- ---- a call that makes it void

    abbrev NoVoid : Answer → Type 0
    NoVoid a = eqb (number_of a) 0x010a ≡ false

    load-numbered : (o : Option Loaded) → NoVoid (loaded_of rows (loads history) o)
    load-numbered none = either NoVoid (ltb (length (loads history)) rows) refl refl
    load-numbered (some l) = refl

    request_voids : (request : Request) (clock : ℕ) (o : Option Loaded) → load_of serial (loads history) ≡ o
        → eqb (number_of (requested_of passwords history clock request o)) 0x010a ≡ true
        → Voided (with_entry (DeskCall.named request serial clock) (requested_of passwords history clock request o) history)
    unfolding loads reading
    request_voids request clock none found n = clash n refl
    request_voids request clock (some l) found n =
        let known = l.particulars.serial in
        let before = entries_of known history in
        let fits = request_fits passwords l (marks before) (run_out l clock (reading passwords l before)) serial clock request in
        let e : Entry = record { call = DeskCall.named request serial clock; answer = requested_of passwords history clock request (some l) } in
        record {
          load = l;
          found = found-behind serial l (loads history) [] found;
          void = rw (named-entries known e history (eq-eqb serial known (sym (found-serial serial l (loads history) found)))) (fits.voids n before (reading passwords l before));
        }

    call-voids : (call : DeskCall) → names call serial ≡ true → eqb (number_of (answer_to passwords rows history call)) 0x010a ≡ true
        → Voided (with_entry call (answer_to passwords rows history call) history)
    unfolding answer_to
    call-voids (DeskCall.load p key) t n = clash n (either NoVoid (load_ok p key) (load-numbered (load_of p.serial (loads history))) refl)
    call-voids (DeskCall.named request other clock) t n =
        let e = eqb-true other serial t in
        by-test (clock_ok clock && request_ok request)
        (λ b. rw (b, e) (request_voids request clock (load_of serial (loads history)) refl (rw (b, e) at n)))
        (λ b. clash n (rw b))

  -- ---- a list of calls

  module _ (rows : ℕ) where
    abbrev NoSteps : List DeskCall → List Answer → Type 0
    NoSteps calls answers = accepted_steps serial calls answers ≡ []

    nothing_accepted : (history : List Entry) (calls : List DeskCall) → Voided history → NoSteps calls (ledger_from passwords rows history calls).answers
    unfolding ledger_from accepted_steps
    nothing_accepted history [] v = refl
    nothing_accepted history (call ∷ calls) v =
        let later = nothing_accepted (with_entry call (answer_to passwords rows history call) history) calls (stays-voided rows history v call) in
        by-test (names call serial)
        (λ t. rw (t, (call-quiet rows history v call t).0) later)
        (λ f. rw f later)

    nothing_after-void : (history : List Entry) (calls : List DeskCall) → AfterVoid serial NoSteps calls (ledger_from passwords rows history calls).answers
    unfolding ledger_from
    nothing_after-void history [] = tt
    nothing_after-void history (call ∷ calls) =
        let answer = answer_to passwords rows history call in
        let longer = with_entry call answer history in
        let voids : names call serial && eqb (number_of answer) 0x010a ≡ true → Voided longer =
        λ t. call-voids rows history call (and_left _ _ t) (and_right (names call serial) _ t) in
        (λ t. nothing_accepted longer calls (voids t), nothing_after-void longer calls)

    pub ledger-void_accepts_nothing : (calls : List DeskCall) → AfterVoid serial NoSteps calls (ledger passwords rows calls).answers
    ledger-void_accepts_nothing calls = nothing_after-void [] calls
