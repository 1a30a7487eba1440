-- What the ledger machine's answers to a token can be: steps that are accepted are fresh, and 010a is answered only to a void.
use Rattle.token.specs.Answers.{Answer, successful}
use Rattle.std.specs.Prelude.{ℕ, ◌≤◌, ◌≡◌, refl, true, List, eqb, leb, Err}
use Rattle.std.proofs.Math.Option.{Option, none, some}
use Rattle.std.proofs.Common.{arith, eqb-true, leb-true}
use Rattle.words.specs.Lists.{one_of}
use Rattle.words.specs.BoolLaws.{either, clash}
use Rattle.window.specs.declared.Step.{Step}
use Rattle.window.specs.declared.Offset.{Offset}
use Rattle.window.specs.declared.Outcome.{Outcome}
use Rattle.window.specs.PasswordAt.{PasswordRule}
use Rattle.token.specs.declared.answers.Content.{Content}
use Rattle.token.specs.declared.answers.Refusal.{Refusal}
use Rattle.token.specs.declared.lines.Fails.{Fails}
use Rattle.token.specs.declared.lines.Way.{Way}
use Rattle.token.specs.Codes.{refusal_number, number_of}
use Rattle.token.specs.States.{IfAccepted}
use Rattle.desk.specs.Requests.{Request, DeskCall}
use Rattle.desk.specs.Desk.{checked_of}
use Rattle.desk.proofs.BranchLaws.{by-refusal}
use Rattle.ledger.specs.Ledger.{Entry, Loaded, Marks, Reading, run_out, follows, entered, needing, offset_with, judged_by, track_of, requested}
use Rattle.ledger.proofs.AcceptedLaws.{Acceptable}
use Rattle.ledger.proofs.LineLaws.{Listed, by-line}

-- the step of a checked success is at or after `next`
abbrev pub StepFrom : ℕ → Option (Step × Offset) → Type 0
StepFrom next none = Unit {0}
StepFrom next (some checked) = next ≤ checked.0.0

pub refusal_high : (f : Refusal) → leb 0x8000 (refusal_number f) ≡ true
refusal_high = by-refusal (λ f. leb 0x8000 (refusal_number f) ≡ true) refl refl refl refl refl refl refl refl refl refl refl refl refl refl refl refl refl refl refl refl refl

module _ (passwords : PasswordRule) (l : Loaded) (m : Marks) (y : Reading) (serial clock : ℕ) where
  -- of an answer to the request: a step in it is fresh, and if it is 010a, then it leaves the token void
  pub record Fits (request : Request) (a : Answer) : Type 0 where
    pub fresh : StepFrom m.next (checked_of a)
    pub voids : eqb (number_of a) 0x010a ≡ true → (older : List Entry) (x : Reading) → (entered passwords l older (DeskCall.named request serial clock) a x).state ≡ 6

  refusal-fits : (request : Request) (f : Refusal) → Fits request (Err f)
  refusal-fits request f =
      record {
        fresh = tt;
        voids = λ t older x.
            let e = eqb-true (refusal_number f) 0x010a t in
            let h = leb-true 0x8000 (refusal_number f) (refusal_high f) in
            absurd (omega arith);
      }

  module _ (request : Request) {states : List ℕ} {success : ℕ} {way : Way} (listed : Listed request states success way) where
    success-fits : (content : Content) → StepFrom m.next (checked_of (successful success content)) → Fits request (successful success content)
    success-fits content s =
        record {
          fresh = s;
          voids = λ t older x. rw (listed.asked, listed.numbered) (eqb-true (follows request (run_out l clock x).state) 6 (rw t at (listed.voids (run_out l clock x).state)));
        }

    needing-fits : {a : Answer} → Fits request a → Fits request (needing states y.state a)
    needing-fits p = either (Fits request) (one_of y.state states) p (refusal-fits request _)

    outcome_fits : (f : Fails) (o : Outcome) → IfAccepted (Acceptable (track_of l m) clock) o → Fits request (judged_by success f.several f.used f.wrong (track_of l m) clock o)
    outcome_fits f (Outcome.Accepted a) good = success-fits (Content.Checked a (offset_with (track_of l m) clock a.0)) good.fresh
    outcome_fits f Outcome.Several good = refusal-fits request f.several
    outcome_fits f Outcome.Again good = refusal-fits request f.used
    outcome_fits f Outcome.Used good = refusal-fits request f.used
    outcome_fits f Outcome.Wrong good = refusal-fits request f.wrong

  pub request_fits : (request : Request) → Fits request (requested passwords l m y clock request)
  request_fits =
      by-line passwords l m y clock Fits
      (λ request states success f asked o listed failing checked.
      needing-fits request listed
      (either (Fits request) (leb l.particulars.expiry.0 clock) (refusal-fits request Refusal.Expired) (outcome_fits request listed f o checked.acceptable)))
      (λ request states success listed. needing-fits request listed (success-fits request listed Content.Plain tt))
      (record { fresh = tt; voids = λ t older x. clash t refl })
