-- The accepted steps of a token rise, over the ledger machine's own answers.
use Rattle.token.specs.Answers.{Answer}
use Rattle.std.specs.Prelude.{ℕ, ◌<◌, ◌≡◌, refl, true, ◌&&◌, ltb, length}
use mathlib.Core.List.{List, [], ◌∷◌, ◌++◌}
use Rattle.std.proofs.Math.Option.{Option, none, some}
use Rattle.std.proofs.Common.{arith}
use borrow.Author.Tests.{eqb-true}
use Rattle.words.specs.BoolLaws.{by-test, either}
use Rattle.window.specs.declared.Step.{Step}
use Rattle.window.specs.declared.Offset.{Offset}
use Rattle.window.specs.PasswordAt.{PasswordRule}
use Rattle.desk.specs.Requests.{Request, DeskCall, clock_ok, request_ok, load_ok}
use Rattle.desk.specs.Desk.{checked_of}
use Rattle.ledger.specs.Ledger.{Entry, Loaded, Marks, names, entries_of, loads, load_of, clock_of, marked, marks, run_out, reading, requested_of, loaded_of, answer_to, ledger_from, ledger}
use Rattle.ledger.specs.Demand3.{step_in, accepted_steps, AllAbove, Rising}
use Rattle.ledger.proofs.LoadsLaws.{found-serial}
use Rattle.ledger.proofs.TokenLaws.{unnamed_entries, named-entries}
use Rattle.ledger.proofs.AnswerLaws.{StepFrom, request_fits}

-- ---- an accepted step is at or after the serial's `next`

abbrev next_of : ℕ → List Entry → ℕ
next_of serial history = (marks (entries_of serial history)).next

module _ (passwords : PasswordRule) (history : List Entry) where
  abbrev FreshAnswer : ℕ → Answer → Type 0
  FreshAnswer serial a = StepFrom (next_of serial history) (checked_of a)

  request_fresh : (request : Request) (serial clock : ℕ) (o : Option Loaded) → load_of serial (loads history) ≡ o → FreshAnswer serial (requested_of passwords history clock request o)
  request_fresh request serial clock none e = tt
  request_fresh request serial clock (some l) e =
      let entries = entries_of l.particulars.serial history in
      rw (← found-serial serial l (loads history) e) (request_fits passwords l (marks entries) (run_out l clock (reading passwords l entries)) serial clock request).fresh

  load_fresh : (rows serial : ℕ) (o : Option Loaded) → FreshAnswer serial (loaded_of rows (loads history) o)
  load_fresh rows serial none = either (FreshAnswer serial) (ltb (length (loads history)) rows) tt tt
  load_fresh rows serial (some l) = tt

  answer-fresh : (rows : ℕ) (call : DeskCall) (serial : ℕ) → names call serial ≡ true → FreshAnswer serial (answer_to passwords rows history call)
  unfolding answer_to
  answer-fresh rows (DeskCall.load p key) serial t = either (FreshAnswer serial) (load_ok p key) (load_fresh rows serial (load_of p.serial (loads history))) tt
  answer-fresh rows (DeskCall.named request other clock) serial t =
      rw (← eqb-true other serial t)
      (either (FreshAnswer other) (clock_ok clock && request_ok request) (request_fresh request other clock (load_of other (loads history)) refl) tt)

-- ---- so it lies above all before

-- all steps are at or after `next`, and rise
abbrev RisingFrom : ℕ → List ℕ → Type 0
RisingFrom next steps = ((a : ℕ) → a < next → AllAbove a steps) × Rising steps

rises_on : (m : Marks) (clock : ℕ) (checked : Option (Step × Offset)) (steps : List ℕ) → StepFrom m.next checked → RisingFrom (marked checked clock m).next steps
    → RisingFrom m.next (step_in checked ++ steps)
rises_on m clock none steps s r = r
rises_on m clock (some checked) steps s r = (λ a h. (omega arith, r.0 a (omega arith)), (r.0 checked.0.0 (omega arith), r.1))

module _ (passwords : PasswordRule) (rows serial : ℕ) where
  rising-from : (history : List Entry) (calls : List DeskCall) → RisingFrom (next_of serial history) (accepted_steps serial calls (ledger_from passwords rows history calls).answers)
  unfolding ledger_from accepted_steps marks
  rising-from history [] = (λ a h. tt, tt)
  rising-from history (call ∷ calls) =
      let answer = answer_to passwords rows history call in
      let e : Entry = record { call = call; answer = answer } in
      let later = rising-from (e ∷ history) calls in
      by-test (names call serial)
      (λ t. rw t
      (rises_on (marks (entries_of serial history)) (clock_of call) (checked_of answer) _ (answer-fresh passwords history rows call serial t)
      (rw (next_of, named-entries serial e history t) at later)))
      (λ f. rw f (rw (next_of, unnamed_entries serial e history f) at later))

  pub ledger-steps_rise : (calls : List DeskCall) → Rising (accepted_steps serial calls (ledger passwords rows calls).answers)
  ledger-steps_rise calls = (rising-from [] calls).1
