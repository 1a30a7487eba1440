-- What each branch of a desk's C function returns.
use Rattle.token.specs.Answers.{Answer}
use Rattle.std.specs.Prelude.{ℕ, ◌+◌, ◌-◌, ◌≤◌, ◌<◌, ◌≡◌, refl, List, [], ◌∷◌, length, set}
use Rattle.std.proofs.Common.{ap, arith, le-leb}
use Rattle.std.proofs.lemmas.Bool.{lt-leb}
use Rattle.words.specs.Codes.{bad_argument}
use Rattle.window.specs.declared.Step.{Step}
use Rattle.window.specs.declared.Offset.{Offset}
use Rattle.window.specs.PasswordAt.{password_at}
use Rattle.token.specs.declared.answers.Status.{Status}
use Rattle.token.specs.declared.answers.Content.{Content}
use Rattle.token.specs.Codes.{signed_of, values_of, number_of}
use Rattle.desk.specs.Requests.{DeskCall}
use Rattle.desk.specs.Desk.{Result, result_of, desk_after}
use Rattle.capi.specs.Stored.{left}
use Rattle.capi.specs.DeskLeft.{left_with, word, content_left, answer_left, returned_with, plain_left}

-- ---- an offset as a word

module _ (d : Offset) where
  pub word-ahead : 600 ≤ d.0 → d.0 - 600 ≡ word (signed_of d)
  unfolding signed_of
  word-ahead h = rw (le-leb 600 d.0 h)

  pub word-behind : d.0 < 600 → 0xffffffffffffffff - (600 - d.0) + 1 ≡ word (signed_of d)
  unfolding signed_of
  word-behind l = rw (lt-leb 600 d.0 l) (omega arith)

-- ---- what a success carries, written element by element

pub plain-written : (values : List ℕ) → values ≡ content_left Content.Plain values
unfolding values_of
plain-written values = refl

pub checked-written : (values : List ℕ) → 3 ≤ length values → (step : Step) (d : Offset) {w : ℕ} → w ≡ word (signed_of d)
    → set (set values 0 step.0) 1 w ≡ content_left (Content.Checked step d) values
unfolding values_of
checked-written [] room step d e = absurd (omega arith)
checked-written (x ∷ []) room step d e = absurd (omega arith)
checked-written (x ∷ y ∷ values) room step d e = ap (λ (w : ℕ). step.0 ∷ w ∷ values) e

pub queried-written : (values : List ℕ) → 3 ≤ length values → (status : Status)
    → set (set (set values 0 status.state) 1 status.errors) 2 status.last_use.0 ≡ content_left (Content.Queried status) values
unfolding values_of
queried-written [] room status = absurd (omega arith)
queried-written (x ∷ []) room status = absurd (omega arith)
queried-written (x ∷ y ∷ []) room status = absurd (omega arith)
queried-written (x ∷ y ∷ z ∷ values) room status = refl

-- ---- the desk's answer

pub left-plain : (call : DeskCall) (s : List ℕ) {answer : Answer} {after : List ℕ} → result_of answer after ≡ desk_after password_at call s → {code : ℕ} → code ≡ number_of answer → left code after ≡ plain_left call s
unfolding plain_left
left-plain call s made numbered = rw (numbered, ← made)

-- of a call or a message
pub left-answered : (r : Result) (s : List ℕ) {answer : Answer} {after : List ℕ} → result_of answer after ≡ r → {code : ℕ} → code ≡ number_of answer
    → (values : List ℕ) → 3 ≤ length values → {carried : List ℕ} → carried ≡ answer_left answer values → left_with code after carried ≡ returned_with s values r
unfolding returned_with
left-answered r s made numbered values room e = rw (le-leb 3 (length values) room, numbered, e, ← made)

pub left-short : (r : Result) (s values : List ℕ) → length values < 3 → left_with bad_argument s values ≡ returned_with s values r
unfolding returned_with
left-short r s values l = rw (lt-leb 3 (length values) l)
