-- The third demand for what is read into calls (document 02, Ask 1): whoever chooses messages chooses no more than calls. This page has the statements;
-- `Demand3ReadsLaws` has the proofs.
use Rattle.token.specs.Answers.{Answer}
use Rattle.std.specs.Prelude.{ℕ, ◌*◌, ◌≤◌, ◌≡◌, Bool, true, false, ◌&&◌, cond, List, [], ◌∷◌, ◌++◌, eqb, replicate}
use Rattle.window.specs.PasswordAt.{PasswordRule}
use Rattle.row.specs.Row.{row_bytes}
use Rattle.token.specs.Codes.{number_of}
use Rattle.desk.specs.Desk.{run, checked_of}
use Rattle.desk.specs.Reads.{Reads}
use Rattle.ledger.specs.Ledger.{names, ledger}
use Rattle.ledger.specs.ReadRuns.{run_reads, calls_in, with_refusals}
use Rattle.ledger.specs.Demand3.{step_in, Rising}

-- on any table, what is read comes to the calls that are served, with the refusals of the others in their places
abbrev pub ReadsAreCalls : Type 0
ReadsAreCalls =
    (passwords : PasswordRule) (asked : List Reads) (s : List ℕ) → run_reads passwords asked s ≡ with_refusals asked (run passwords (calls_in asked) s)

-- from 1 to 256 zero rows, answers and table are those of the ledger machine that is fed these calls
abbrev pub Demand3Reads : Type 0
Demand3Reads =
    (passwords : PasswordRule) (rows : ℕ) → 1 ≤ rows → rows ≤ 256 → (asked : List Reads)
    → run_reads passwords asked (replicate {A = ℕ} (row_bytes * rows) 0) ≡ with_refusals asked (ledger passwords rows (calls_in asked))

-- ---- what follows for each token

abbrev pub answers_to : PasswordRule → ℕ → List Reads → List Answer
answers_to passwords rows asked = (run_reads passwords asked (replicate {A = ℕ} (row_bytes * rows) 0)).answers

-- what is refused before there is a call names no token
abbrev pub names_token : Reads → ℕ → Bool
names_token (Reads.serves call) serial = names call serial
names_token (Reads.refuses refusal) serial = false

-- the steps in the checked successes of what names a token, in their order
unfoldable pub steps_accepted : ℕ → List Reads → List Answer → List ℕ
steps_accepted serial [] answers = []
steps_accepted serial (r ∷ asked) [] = []
steps_accepted serial (r ∷ asked) (answer ∷ answers) = cond (names_token r serial) (step_in (checked_of answer)) [] ++ steps_accepted serial asked answers

abbrev pub ReadStepsRise : Type 0
ReadStepsRise =
    (passwords : PasswordRule) (rows : ℕ) → 1 ≤ rows → rows ≤ 256 → (asked : List Reads) (serial : ℕ)
    → Rising (steps_accepted serial asked (answers_to passwords rows asked))

-- behind every void of a token that was answered 010a, the claim holds of what follows and its answers
abbrev pub BehindVoid : ℕ → (List Reads → List Answer → Type 0) → List Reads → List Answer → Type 0
BehindVoid serial claim [] answers = Unit {0}
BehindVoid serial claim (r ∷ asked) [] = Unit {0}
BehindVoid serial claim (r ∷ asked) (answer ∷ answers) =
    (names_token r serial && eqb (number_of answer) 0x010a ≡ true → claim asked answers) × BehindVoid serial claim asked answers

abbrev pub ReadVoidAcceptsNothing : Type 0
ReadVoidAcceptsNothing =
    (passwords : PasswordRule) (rows : ℕ) → 1 ≤ rows → rows ≤ 256 → (asked : List Reads) (serial : ℕ)
    → BehindVoid serial (λ later answers. steps_accepted serial later answers ≡ []) asked (answers_to passwords rows asked)
