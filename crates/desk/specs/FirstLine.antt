-- The order of the refusals (document 01, "What a turned-down call says"): the lines of the table in its order, each a condition with a name and the
-- code that it returns. For every call, table and clock the answer has the code of the first line that holds, else that of the success (Part 5).
-- `FirstLineLaws` has the proof.
use Rattle.std.specs.Prelude.{ℕ, ◌≡◌, Bool, true, false, ◌&&◌, not, cond, List, [], ◌∷◌, eqb, leb, Some, None}
use Rattle.words.specs.Lists.{one_of}
use Rattle.window.specs.declared.Size.{Size}
use Rattle.window.specs.declared.Size.TheVariants.{Small, Medium, Large}
use Rattle.window.specs.declared.Outcome.{Outcome}
use Rattle.window.specs.PasswordAt.{PasswordRule, has_by}
use Rattle.window.specs.TokenCheck.{single_check, pair_check}
use Rattle.row.specs.declared.Row.{Row}
use Rattle.row.specs.Row.{row_bytes, last_state, row_at, well_formed}
use Rattle.row.specs.Table.{Place, find_row, find_empty}
use Rattle.token.specs.Codes.{number_of}
use Rattle.token.specs.States.{waited}
use Rattle.desk.specs.declared.Particulars.{Particulars}
use Rattle.desk.specs.Requests.{Request, DeskCall, table_ok, clock_ok, request_ok, load_ok}
use Rattle.desk.specs.Desk.{secret_at, desk_after}

-- a line of the table: when it holds, and what is then returned
pub record Line : Type 0 where
  pub holds : Bool
  pub code : ℕ

abbrev pub returns : ℕ → Bool → Line
returns code holds = record { holds = holds; code = code }

-- the code of the first line that holds, else the other
abbrev pub first_of : List Line → ℕ → ℕ
first_of [] other = other
first_of (l ∷ ls) other = cond l.holds l.code (first_of ls other)

-- ---- the conditions

abbrev pub table_length_bad : List ℕ → Bool
table_length_bad s = not (table_ok row_bytes s)

abbrev pub clock_too_late : ℕ → Bool
clock_too_late clock = not (clock_ok clock)

-- a password, Q or sync choice of the request
abbrev pub argument_bad : Request → Bool
argument_bad request = not (request_ok request)

abbrev pub load_value_bad : Particulars → List ℕ → Bool
load_value_bad p key = not (load_ok p key)

abbrev pub nowhere : Place → Bool
nowhere (Some at) = false
nowhere None = true

-- load: the serial is in a row not empty
abbrev pub serial_taken : List ℕ → ℕ → Bool
serial_taken s serial = not (nowhere (find_row row_bytes s serial))

abbrev pub no_row_empty : List ℕ → Bool
no_row_empty s = nowhere (find_empty row_bytes s)

abbrev pub no_row_of_serial : List ℕ → ℕ → Bool
no_row_of_serial s serial = nowhere (find_row row_bytes s serial)

abbrev pub row_damaged : List ℕ → ℕ → Bool
row_damaged s at = not (well_formed last_state s at)

-- the state is one of these, and none of the needed ones
abbrev pub state_unfit : List ℕ → List ℕ → ℕ → Bool
state_unfit these needed state = one_of state these && not (one_of state needed)

-- a checked call at or after the expiry
abbrev pub expired : Row → ℕ → Bool
expired r clock = leb r.expiry.0 clock

-- two or more fresh steps have the one password (document 02, Ask 5)
abbrev pub several_match : Outcome → Bool
several_match (Outcome.Accepted a) = false
several_match Outcome.Several = true
several_match Outcome.Again = false
several_match Outcome.Used = false
several_match Outcome.Wrong = false

-- presented again or not
abbrev pub match_used : Outcome → Bool
match_used (Outcome.Accepted a) = false
match_used Outcome.Several = false
match_used Outcome.Again = true
match_used Outcome.Used = true
match_used Outcome.Wrong = false

abbrev pub nothing_matches : Outcome → Bool
nothing_matches (Outcome.Accepted a) = false
nothing_matches Outcome.Several = false
nothing_matches Outcome.Again = false
nothing_matches Outcome.Used = false
nothing_matches Outcome.Wrong = true

-- ---- Part 5's table: needed state, check, success

abbrev pub needed : Request → List ℕ
needed (Request.login password) = 2 ∷ []
needed (Request.challenge_login challenge password) = 2 ∷ []
needed (Request.activate password following) = 1 ∷ []
needed Request.lock = 2 ∷ []
needed (Request.unlock password) = 3 ∷ 4 ∷ []
needed Request.suspend = 2 ∷ 3 ∷ 4 ∷ []
needed (Request.resume password) = 5 ∷ []
needed (Request.sync choice password following) = 2 ∷ 3 ∷ 4 ∷ []
needed Request.void = 1 ∷ 2 ∷ 3 ∷ 4 ∷ 5 ∷ []
needed Request.query = 1 ∷ 2 ∷ 3 ∷ 4 ∷ 5 ∷ 6 ∷ []

abbrev pub success_code : Request → ℕ
success_code (Request.login password) = 0x0001
success_code (Request.challenge_login challenge password) = 0x0002
success_code (Request.activate password following) = 0x0101
success_code Request.lock = 0x0102
success_code (Request.unlock password) = 0x0103
success_code Request.suspend = 0x0104
success_code (Request.resume password) = 0x0105
success_code (Request.sync choice password following) = 0x0108
success_code Request.void = 0x010a
success_code Request.query = 0x010b

-- the lines of a call that checks one password, with its codes of several, used and wrong
abbrev pub single_lines : Row → ℕ → ℕ → ℕ → ℕ → Outcome → List Line
single_lines r clock several used wrong outcome =
    returns 0x8408 (expired r clock)
    ∷ returns several (several_match outcome)
    ∷ returns used (match_used outcome)
    ∷ returns wrong (nothing_matches outcome)
    ∷ []

-- and of one that checks two, with its codes of used and wrong
abbrev pub pair_lines : Row → ℕ → ℕ → ℕ → Outcome → List Line
pair_lines r clock used wrong outcome =
    returns 0x8408 (expired r clock)
    ∷ returns used (match_used outcome)
    ∷ returns wrong (nothing_matches outcome)
    ∷ []

module _ (passwords : PasswordRule) (r : Row) (key : List ℕ) (clock : ℕ) where
  -- one password, and two without a challenge
  abbrev pub single : Size → List ℕ → List ℕ → Outcome
  single size challenge password = single_check r.track clock size (has_by passwords r.track.scheme key challenge password)

  abbrev pub pair : Size → List ℕ → List ℕ → Outcome
  pair size password following =
      pair_check r.track clock size (has_by passwords r.track.scheme key [] password) (has_by passwords r.track.scheme key [] following)

  abbrev pub request_lines : Request → List Line
  request_lines (Request.login password) = single_lines r clock 0x8001 0x8004 0x8002 (single Small [] password)
  request_lines (Request.challenge_login challenge password) = single_lines r clock 0x8001 0x8004 0x8002 (single Small challenge password)
  request_lines (Request.activate password following) = pair_lines r clock 0x8104 0x8102 (pair Large password following)
  request_lines Request.lock = []
  request_lines (Request.unlock password) = single_lines r clock 0x8101 0x8104 0x8102 (single Small [] password)
  request_lines Request.suspend = []
  request_lines (Request.resume password) = single_lines r clock 0x8101 0x8104 0x8102 (single Small [] password)
  request_lines (Request.sync choice password following) = pair_lines r clock 0x8104 0x8105 (pair (cond (eqb choice 1) Medium Large) password following)
  request_lines Request.void = []
  request_lines Request.query = []

-- ---- the table, line by line

abbrev pub state_lines : List ℕ → ℕ → List Line → List Line
state_lines needed state further =
    returns 0x8409 (state_unfit (2 ∷ []) needed state)
    ∷ returns 0x8404 (state_unfit (3 ∷ 4 ∷ []) needed state)
    ∷ returns 0x8405 (state_unfit (5 ∷ []) needed state)
    ∷ returns 0x8406 (state_unfit (1 ∷ []) needed state)
    ∷ returns 0x8407 (state_unfit (6 ∷ []) needed state)
    ∷ further

-- the lines of the row that has the serial, once a wait has run out
abbrev pub row_lines : PasswordRule → Request → ℕ → List ℕ → Place → List Line
row_lines passwords request clock s (Some at) =
    returns 0x8403 (row_damaged s at)
    ∷ state_lines (needed request) (waited (row_at s at) clock).state (request_lines passwords (waited (row_at s at) clock) (secret_at s at) clock request)
row_lines passwords request clock s None = []

abbrev pub lines_for : PasswordRule → DeskCall → List ℕ → List Line
lines_for passwords (DeskCall.load p key) s =
    returns 0x9005 (table_length_bad s)
    ∷ returns 0x9005 (load_value_bad p key)
    ∷ returns 0x8411 (serial_taken s p.serial)
    ∷ returns 0x8410 (no_row_empty s)
    ∷ []
lines_for passwords (DeskCall.named request serial clock) s =
    returns 0x9005 (table_length_bad s)
    ∷ returns 0x9005 (clock_too_late clock)
    ∷ returns 0x9005 (argument_bad request)
    ∷ returns 0x8402 (no_row_of_serial s serial)
    ∷ row_lines passwords request clock s (find_row row_bytes s serial)

abbrev pub success : DeskCall → ℕ
success (DeskCall.load p key) = 0x0140
success (DeskCall.named request serial clock) = success_code request

abbrev pub FirstLineThatHolds : Type 0
FirstLineThatHolds =
    (passwords : PasswordRule) (call : DeskCall) (s : List ℕ) → number_of (desk_after passwords call s).answer ≡ first_of (lines_for passwords call s) (success call)
