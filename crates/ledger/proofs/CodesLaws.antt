-- On any table, an answer of the desk has the code of a checked success exactly if it carries a step; so a token of which no step is accepted
-- has none of these codes in its answers.
use Rattle.token.specs.Answers.{Answer}
use Rattle.std.specs.Prelude.{ℕ, ◌≡◌, refl, Bool, true, ◌&&◌, cond, Err}
use Rattle.std.proofs.Math.Bool.{false}
use mathlib.Core.List.{List, [], ◌∷◌, ◌++◌}
use Rattle.std.proofs.Math.Option.{Option, none, some}
use Rattle.std.proofs.Common.{arith, leb-true, ne_eqb}
use Rattle.words.specs.Lists.{one_of}
use Rattle.words.specs.Exactly.{Exactly}
use Rattle.words.specs.BoolLaws.{by-test, clash, impossible}
use Rattle.window.specs.declared.Step.{Step}
use Rattle.window.specs.declared.Offset.{Offset}
use Rattle.window.specs.declared.Track.{Track}
use Rattle.window.specs.declared.Outcome.{Outcome}
use Rattle.window.specs.declared.asked.Asked.{Asked}
use Rattle.window.specs.PasswordAt.{PasswordRule}
use Rattle.row.specs.declared.Row.{Row}
use Rattle.token.specs.declared.answers.Refusal.{Refusal}
use Rattle.token.specs.Codes.{refusal_number, number_of}
use Rattle.desk.specs.Requests.{Request, DeskCall}
use Rattle.desk.specs.Desk.{desk_after, run, checked_of}
use Rattle.desk.proofs.BranchLaws.{line_for, row_now, check_at, Succeeds, load-answer-holds, named-answer-holds}
use Rattle.ledger.specs.Ledger.{names}
use Rattle.ledger.specs.Demand3.{step_in, accepted_steps, AfterVoid, acceptance_codes, CodesCarrySteps, NoneAccepted}
use Rattle.ledger.proofs.AnswerLaws.{refusal_high}

-- ---- the code tells whether the answer carries a step

abbrev carries : Option (Step × Offset) → Bool
carries none = false
carries (some checked) = true

abbrev Coded : Answer → Type 0
Coded answer = one_of (number_of answer) acceptance_codes ≡ carries (checked_of answer)

refusal-coded : (f : Refusal) → Coded (Err f)
refusal-coded f =
    let n = refusal_number f in
    let h = leb-true 0x8000 n (refusal_high f) in
    rw (
      ne_eqb n 0x0001 (λ e. omega arith),
      ne_eqb n 0x0002 (λ e. omega arith),
      ne_eqb n 0x0101 (λ e. omega arith),
      ne_eqb n 0x0103 (λ e. omega arith),
      ne_eqb n 0x0105 (λ e. omega arith),
      ne_eqb n 0x0108 (λ e. omega arith),
    )

-- the requests whose success has one of the codes are those that check a password
success-coded : (w : Row) (clock : ℕ) (check : Track → Asked → Outcome) (request : Request) → Succeeds Coded (line_for request) w clock check (line_for request).way
success-coded w clock check (Request.login password) = λ a e. refl
success-coded w clock check (Request.challenge_login challenge password) = λ a e. refl
success-coded w clock check (Request.activate password following) = λ a e. refl
success-coded w clock check Request.lock = refl
success-coded w clock check (Request.unlock password) = λ a e. refl
success-coded w clock check Request.suspend = refl
success-coded w clock check (Request.resume password) = λ a e. refl
success-coded w clock check (Request.sync choice password following) = λ a e. refl
success-coded w clock check Request.void = refl
success-coded w clock check Request.query = refl

desk_coded : (passwords : PasswordRule) (s : List ℕ) (call : DeskCall) → Coded (desk_after passwords call s).answer
desk_coded passwords s (DeskCall.load p key) = load-answer-holds Coded refusal-coded passwords s p key refl
desk_coded passwords s (DeskCall.named request serial clock) =
    named-answer-holds Coded refusal-coded passwords s request serial clock (λ at reached. success-coded (row_now s at clock) clock (check_at passwords request s at clock) request)

carried : (n : ℕ) (o : Option (Step × Offset)) → one_of n acceptance_codes ≡ carries o → Exactly (one_of n acceptance_codes ≡ true) ((checked : Step × Offset) × (o ≡ some checked))
carried n none t = (λ h. clash h t, λ x. let e = x.1 in impossible (cc))
carried n (some checked) t = (λ h. (checked, refl), λ x. t)

pub codes_carry_steps : CodesCarrySteps
codes_carry_steps passwords call s =
    let answer = (desk_after passwords call s).answer in
    carried (number_of answer) (checked_of answer) (desk_coded passwords s call)

-- ---- a list of calls

append-empty : (a b : List ℕ) → a ++ b ≡ [] → (a ≡ []) × (b ≡ [])
append-empty [] b e = (refl, e)
append-empty (x ∷ a) b e = (cc, cc)

no_step : (o : Option (Step × Offset)) → step_in o ≡ [] → carries o ≡ false
no_step none e = refl
no_step (some checked) e = impossible (cc)

module _ (passwords : PasswordRule) (serial : ℕ) where
  -- where no step of the token is accepted, no answer has a code of an acceptance
  none-accepted : (calls : List DeskCall) (s : List ℕ) → accepted_steps serial calls (run passwords calls s).answers ≡ [] → NoneAccepted serial calls (run passwords calls s).answers
  unfolding run accepted_steps
  none-accepted [] s e = tt
  none-accepted (call ∷ calls) s e =
      let answer = (desk_after passwords call s).answer in
      let empty = append-empty (cond (names call serial) (step_in (checked_of answer)) []) _ e in
      let none : names call serial && one_of (number_of answer) acceptance_codes ≡ false =
      by-test (names call serial)
      (λ t. rw (t, desk_coded passwords s call) (no_step (checked_of answer) (rw t at empty.0)))
      (λ f. rw f) in
      (none, none-accepted calls (desk_after passwords call s).table empty.1)

  pub after-void-by-code : (calls : List DeskCall) (s : List ℕ)
      → AfterVoid serial (λ later answers. accepted_steps serial later answers ≡ []) calls (run passwords calls s).answers
      → AfterVoid serial (NoneAccepted serial) calls (run passwords calls s).answers
  unfolding run
  after-void-by-code [] s h = tt
  after-void-by-code (call ∷ calls) s h =
      let after = (desk_after passwords call s).table in
      (λ t. none-accepted calls after (h.0 t), after-void-by-code calls after h.1)
