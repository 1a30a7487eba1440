-- The buyer's third demand (docs/OFFER.md), for every password rule. This page has the statements; `Demand3Laws`, `CodesLaws` and `OtherRows` have
-- the proofs.
use Rattle.token.specs.Answers.{Answer}
use Rattle.std.specs.Prelude.{ℕ, ◌+◌, ◌*◌, ◌≤◌, ◌<◌, ◌≡◌, true, false, ◌&&◌, cond, List, [], ◌∷◌, ◌++◌, eqb, length, take, drop, replicate}
use Rattle.std.proofs.Math.Option.{Option, none, some}
use Rattle.words.specs.Lists.{one_of}
use Rattle.words.specs.Exactly.{Exactly}
use Rattle.window.specs.declared.Step.{Step}
use Rattle.window.specs.declared.Offset.{Offset}
use Rattle.window.specs.PasswordAt.{PasswordRule}
use Rattle.row.specs.Row.{row_bytes}
use Rattle.row.specs.Table.{is_empty, has_serial}
use Rattle.token.specs.Codes.{number_of}
use Rattle.desk.specs.Requests.{DeskCall}
use Rattle.desk.specs.Desk.{desk_after, run, checked_of}
use Rattle.ledger.specs.Ledger.{names, ledger}

-- ---- the claim about the list as a whole

-- from 1 to 256 zero rows, every list of calls has the ledger machine's answers with their contents, and leaves its table
abbrev pub Demand3 : Type 0
Demand3 =
    (passwords : PasswordRule) (rows : ℕ) → 1 ≤ rows → rows ≤ 256 → (calls : List DeskCall)
    → run passwords calls (replicate {A = ℕ} (row_bytes * rows) 0) ≡ ledger passwords rows calls

-- ---- what follows for each token, over the desk's own answers

-- the answers to a list of calls, from zero rows on
abbrev pub answers_of : PasswordRule → ℕ → List DeskCall → List Answer
answers_of passwords rows calls = (run passwords calls (replicate {A = ℕ} (row_bytes * rows) 0)).answers

abbrev pub step_in : Option (Step × Offset) → List ℕ
step_in none = []
step_in (some checked) = checked.0.0 ∷ []

-- the steps in the checked successes of calls naming a token, in their order
unfoldable pub accepted_steps : ℕ → List DeskCall → List Answer → List ℕ
accepted_steps serial [] answers = []
accepted_steps serial (call ∷ calls) [] = []
accepted_steps serial (call ∷ calls) (answer ∷ answers) = cond (names call serial) (step_in (checked_of answer)) [] ++ accepted_steps serial calls answers

abbrev pub AllAbove : ℕ → List ℕ → Type 0
AllAbove a [] = Unit {0}
AllAbove a (b ∷ steps) = (a < b) × AllAbove a steps

-- each number is below all that follow it, so none comes twice
abbrev pub Rising : List ℕ → Type 0
Rising [] = Unit {0}
Rising (a ∷ steps) = AllAbove a steps × Rising steps

abbrev pub StepsRise : Type 0
StepsRise =
    (passwords : PasswordRule) (rows : ℕ) → 1 ≤ rows → rows ≤ 256 → (calls : List DeskCall) (serial : ℕ)
    → Rising (accepted_steps serial calls (answers_of passwords rows calls))

-- behind every void of a token that was answered 010a, the claim holds of the calls that follow and their answers
abbrev pub AfterVoid : ℕ → (List DeskCall → List Answer → Type 0) → List DeskCall → List Answer → Type 0
AfterVoid serial claim [] answers = Unit {0}
AfterVoid serial claim (call ∷ calls) [] = Unit {0}
AfterVoid serial claim (call ∷ calls) (answer ∷ answers) =
    (names call serial && eqb (number_of answer) 0x010a ≡ true → claim calls answers) × AfterVoid serial claim calls answers

-- no step of a void token is accepted
abbrev pub VoidAcceptsNothing : Type 0
VoidAcceptsNothing =
    (passwords : PasswordRule) (rows : ℕ) → 1 ≤ rows → rows ≤ 256 → (calls : List DeskCall) (serial : ℕ)
    → AfterVoid serial (λ later answers. accepted_steps serial later answers ≡ []) calls (answers_of passwords rows calls)

-- ---- the same by the codes of the answers

-- the codes of a checked success (Part 5)
abbrev pub acceptance_codes : List ℕ
acceptance_codes = 0x0001 ∷ 0x0002 ∷ 0x0101 ∷ 0x0103 ∷ 0x0105 ∷ 0x0108 ∷ []

-- on any table, an answer has one of these codes exactly if it carries a step
abbrev pub CodesCarrySteps : Type 0
CodesCarrySteps =
    (passwords : PasswordRule) (call : DeskCall) (s : List ℕ)
    → Exactly (one_of (number_of (desk_after passwords call s).answer) acceptance_codes ≡ true) ((checked : Step × Offset) × (checked_of (desk_after passwords call s).answer ≡ some checked))

-- no answer to a call naming a token has one of these codes
abbrev pub NoneAccepted : ℕ → List DeskCall → List Answer → Type 0
NoneAccepted serial [] answers = Unit {0}
NoneAccepted serial (call ∷ calls) [] = Unit {0}
NoneAccepted serial (call ∷ calls) (answer ∷ answers) = (names call serial && one_of (number_of answer) acceptance_codes ≡ false) × NoneAccepted serial calls answers

-- a void token is answered none of these codes
abbrev pub VoidAcceptsNoCode : Type 0
VoidAcceptsNoCode =
    (passwords : PasswordRule) (rows : ℕ) → 1 ≤ rows → rows ≤ 256 → (calls : List DeskCall) (serial : ℕ)
    → AfterVoid serial (NoneAccepted serial) calls (answers_of passwords rows calls)

-- ---- other tokens' rows, on any table: damaged rows included

-- a call naming a serial leaves every row that is not empty and does not have it
abbrev pub OtherRowsStay : Type 0
OtherRowsStay =
    (passwords : PasswordRule) (call : DeskCall) (serial : ℕ) → names call serial ≡ true → (s : List ℕ) (i : ℕ) → row_bytes * i + row_bytes ≤ length s
    → is_empty s (row_bytes * i) ≡ false → has_serial s serial (row_bytes * i) ≡ false
    → take row_bytes (drop (row_bytes * i) (desk_after passwords call s).table) ≡ take row_bytes (drop (row_bytes * i) s)
