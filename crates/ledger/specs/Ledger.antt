-- The ledger machine (document 01, "The ledger machine"): it is fed the number of rows and the calls, and keeps the list of earlier calls with
-- the answers that it gave itself. No byte of the desk's table is known to it.
use Rattle.token.specs.Answers.{Answer, successful}
use Rattle.std.specs.Prelude.{ℕ, ◌+◌, ◌-◌, ◌*◌, ◌/◌, min, max, Bool, true, false, ◌&&◌, ◌||◌, not, cond, List, [], ◌∷◌, ◌++◌, eqb, leb, ltb, length, replicate, Err, Ok}
use Rattle.std.proofs.Math.Option.{Option, none, some}
use Rattle.words.specs.Lists.{one_of}
use Rattle.window.specs.declared.Size.{Size}
use Rattle.window.specs.declared.Size.TheVariants.{Small, Medium, Large}
use Rattle.window.specs.declared.Step.{Step}
use Rattle.window.specs.declared.Offset.{Offset}
use Rattle.window.specs.declared.Track.{Track}
use Rattle.window.specs.declared.Outcome.{Outcome}
use Rattle.window.specs.Window.{time_token, farthest, candidate}
use Rattle.window.specs.PasswordAt.{PasswordRule, has_by}
use Rattle.window.specs.TokenCheck.{single_check, pair_check}
use Rattle.row.specs.declared.Row.{Row}
use Rattle.row.specs.Row.{row_bytes, key_bytes, render}
use Rattle.row.specs.Table.{zero_filled}
use Rattle.token.specs.declared.answers.Content.{Content}
use Rattle.token.specs.declared.answers.Refusal.{Refusal}
use Rattle.token.specs.Codes.{number_of}
use Rattle.desk.specs.declared.Particulars.{Particulars}
use Rattle.desk.specs.Requests.{Request, DeskCall, clock_ok, request_ok, load_ok}
use Rattle.desk.specs.Desk.{Run, preceded, checked_of}

-- ---- the history, latest entry first

-- an earlier call, and the answer given to it
pub record Entry : Type 0 where
  pub call : DeskCall
  pub answer : Answer

abbrev pub names : DeskCall → ℕ → Bool
names (DeskCall.load p key) serial = eqb p.serial serial
names (DeskCall.named request other clock) serial = eqb other serial

-- the entries that name a serial
unfoldable pub entries_of : ℕ → List Entry → List Entry
entries_of serial [] = []
entries_of serial (e ∷ history) = cond (names e.call serial) (e ∷ entries_of serial history) (entries_of serial history)

-- ---- particulars: those of the load answered 0140; rows stand in the order of such loads

pub record Loaded : Type 0 where
  pub particulars : Particulars
  pub key : List ℕ

abbrev pub load_in : DeskCall → Answer → List Loaded
load_in (DeskCall.load p key) answer = cond (eqb (number_of answer) 0x0140) (record { particulars = p; key = key } ∷ []) []
load_in (DeskCall.named request serial clock) answer = []

unfoldable pub loads : List Entry → List Loaded
loads [] = []
loads (e ∷ history) = loads history ++ load_in e.call e.answer

unfoldable pub load_of : ℕ → List Loaded → Option Loaded
load_of serial [] = none
load_of serial (l ∷ ls) = cond (eqb l.particulars.serial serial) (some l) (load_of serial ls)

-- ---- next, d and last use: what a serial's checked successes say

pub record Marks : Type 0 where
  pub next : ℕ
  pub offset : Offset
  pub used : ℕ

abbrev pub clock_of : DeskCall → ℕ
clock_of (DeskCall.load p key) = 0
clock_of (DeskCall.named request serial clock) = clock

-- `next` is one more than the largest step; d and last use come from the latest of them
abbrev pub marked : Option (Step × Offset) → ℕ → Marks → Marks
marked none clock m = m
marked (some checked) clock m = record { next = max (checked.0.0 + 1) m.next; offset = checked.1; used = clock }

-- by a serial's entries; with no such success they are 0, and d is held as d + 600
unfoldable pub marks : List Entry → Marks
marks [] = record { next = 0; offset = record { 0 = farthest }; used = 0 }
marks (e ∷ older) = marked (checked_of e.answer) (clock_of e.call) (marks older)

-- the numbers that a check reads
abbrev pub track_of : Loaded → Marks → Track
track_of l m = record { scheme = l.particulars.scheme; period = l.particulars.period; next = record { 0 = m.next }; offset = m.offset }

-- ---- state, errors and `locked at`: they change with each entry that names the serial, oldest first

pub record Reading : Type 0 where
  pub state : ℕ
  pub errors : ℕ
  pub locked_at : ℕ

abbrev pub at_loading : Reading
at_loading = record { state = 1; errors = 0; locked_at = 0 }

-- a wait run out by a clock reading
abbrev pub run_out : Loaded → ℕ → Reading → Reading
run_out l clock r =
    cond (eqb r.state 3 && (leb r.locked_at clock && leb l.particulars.wait (clock - r.locked_at))) (record { state = 2; errors = 0; locked_at = 0 }) r

-- the state that Part 5's table sets
abbrev pub follows : Request → ℕ → ℕ
follows (Request.login password) state = state
follows (Request.challenge_login challenge password) state = state
follows (Request.activate password following) state = 2
follows Request.lock state = 4
follows (Request.unlock password) state = 2
follows Request.suspend state = 5
follows (Request.resume password) state = 2
follows (Request.sync choice password following) state = state
follows Request.void state = 6
follows Request.query state = state

-- a checked success sets errors 0
abbrev pub errors_by : Option (Step × Offset) → ℕ → ℕ
errors_by none errors = errors
errors_by (some checked) errors = 0

-- leaving state 3 zeroes `locked at`
abbrev pub succeeded : Request → Answer → Reading → Reading
succeeded request answer r =
    record {
      state = follows request r.state;
      errors = errors_by (checked_of answer) r.errors;
      locked_at = cond (eqb r.state 3 && not (eqb (follows request r.state) 3)) 0 r.locked_at;
    }

abbrev pub is_login : Request → Bool
is_login (Request.login password) = true
is_login (Request.challenge_login challenge password) = true
is_login (Request.activate password following) = false
is_login Request.lock = false
is_login (Request.unlock password) = false
is_login Request.suspend = false
is_login (Request.resume password) = false
is_login (Request.sync choice password following) = false
is_login Request.void = false
is_login Request.query = false

-- used or wrong adds 1, at most 255; a login that adds an error and is then at the limit locks
abbrev pub erred : Loaded → Request → ℕ → Reading → Reading
erred l request clock r =
    cond (is_login request && leb l.particulars.limit (min 255 (r.errors + 1)))
    (record { state = 3; errors = min 255 (r.errors + 1); locked_at = clock })
    (record { state = r.state; errors = min 255 (r.errors + 1); locked_at = r.locked_at })

-- used is 8004 or 8104, wrong 8002, 8102 or 8105
abbrev pub counted_codes : List ℕ
counted_codes = 0x8004 ∷ 0x8104 ∷ 0x8002 ∷ 0x8102 ∷ 0x8105 ∷ []

-- 8004 to a double press adds none (document 02, Ask 4)
abbrev pub counted : Bool → ℕ → Bool
counted press code = one_of code counted_codes && not (eqb code 0x8004 && press)

-- a double press: a login's password is that of the candidate `next` - 1, by what the entries before it say
module _ (passwords : PasswordRule) (l : Loaded) (m : Marks) where
  abbrev pub last_has : ℕ → List ℕ → List ℕ → Bool
  last_has clock challenge password =
      ltb 0 m.next && (candidate (track_of l m) clock Small (m.next - 1) && has_by passwords l.particulars.scheme l.key challenge password (m.next - 1))

  abbrev pub pressed : Request → ℕ → Bool
  pressed (Request.login password) clock = last_has clock [] password
  pressed (Request.challenge_login challenge password) clock = last_has clock challenge password
  pressed (Request.activate password following) clock = false
  pressed Request.lock clock = false
  pressed (Request.unlock password) clock = false
  pressed Request.suspend clock = false
  pressed (Request.resume password) clock = false
  pressed (Request.sync choice password following) clock = false
  pressed Request.void clock = false
  pressed Request.query clock = false

  -- other refusals change nothing more
  abbrev pub answered : Request → ℕ → Answer → Reading → Reading
  answered request clock (Ok success) r = succeeded request (Ok success) r
  answered request clock (Err refusal) r = cond (counted (pressed request clock) (number_of (Err refusal))) (erred l request clock r) r

abbrev pub is_query : Request → Bool
is_query (Request.login password) = false
is_query (Request.challenge_login challenge password) = false
is_query (Request.activate password following) = false
is_query Request.lock = false
is_query (Request.unlock password) = false
is_query Request.suspend = false
is_query (Request.resume password) = false
is_query (Request.sync choice password following) = false
is_query Request.void = false
is_query Request.query = true

-- an entry, with the serial's older ones: a query, a refused load or a call answered 9005 changes nothing; any other call first lets a wait run out
abbrev pub entered : PasswordRule → Loaded → List Entry → DeskCall → Answer → Reading → Reading
entered passwords l older (DeskCall.load p key) answer r = cond (eqb (number_of answer) 0x0140) at_loading r
entered passwords l older (DeskCall.named request serial clock) answer r =
    cond (is_query request || eqb (number_of answer) 0x9005) r (answered passwords l (marks older) request clock answer (run_out l clock r))

unfoldable pub reading : PasswordRule → Loaded → List Entry → Reading
reading passwords l [] = at_loading
reading passwords l (e ∷ older) = entered passwords l older e.call e.answer (reading passwords l older)

-- ---- the answer to a call: the first line of "What a turned-down call says" that holds, else the success

-- the state is not a needed one
abbrev pub needing : List ℕ → ℕ → Answer → Answer
needing states state answer =
    cond (one_of state states) answer
    (Err (cond (eqb state 2) Refusal.Ready
    (cond (one_of state (3 ∷ 4 ∷ [])) Refusal.Locked
    (cond (eqb state 5) Refusal.Suspended
    (cond (eqb state 1) Refusal.Inactive Refusal.Void)))))

-- d = a - T for a time token; an event token keeps its d
abbrev pub offset_with : Track → ℕ → ℕ → Offset
offset_with k clock a = record { 0 = cond (eqb k.scheme.kind time_token) (farthest + a - clock / k.period) k.offset.0 }

-- a check's outcome: the success with step and d, the call for the next password (document 02, Ask 5), used or wrong
abbrev pub judged_by : ℕ → Refusal → Refusal → Refusal → Track → ℕ → Outcome → Answer
judged_by success unclear stale missed k clock (Outcome.Accepted a) = successful success (Content.Checked a (offset_with k clock a.0))
judged_by success unclear stale missed k clock Outcome.Several = Err unclear
judged_by success unclear stale missed k clock Outcome.Again = Err stale
judged_by success unclear stale missed k clock Outcome.Used = Err stale
judged_by success unclear stale missed k clock Outcome.Wrong = Err missed

-- a request to a loaded token, whose reading r has a wait run out by the clock
module _ (passwords : PasswordRule) (l : Loaded) (m : Marks) (r : Reading) (clock : ℕ) where
  -- Part 3's checks; a pair has no Q
  abbrev pub single : Size → List ℕ → List ℕ → Outcome
  single size challenge password = single_check (track_of l m) clock size (has_by passwords l.particulars.scheme l.key challenge password)

  abbrev pub pair : Size → List ℕ → List ℕ → Outcome
  pair size password following =
      pair_check (track_of l m) clock size (has_by passwords l.particulars.scheme l.key [] password) (has_by passwords l.particulars.scheme l.key [] following)

  -- 8408 comes before the check
  abbrev pub with_check : List ℕ → ℕ → Refusal → Refusal → Refusal → Outcome → Answer
  with_check states success several used wrong outcome =
      needing states r.state (cond (leb l.particulars.expiry.0 clock) (Err Refusal.Expired) (judged_by success several used wrong (track_of l m) clock outcome))

  abbrev pub without_check : List ℕ → ℕ → Answer
  without_check states success = needing states r.state (successful success Content.Plain)

  -- Part 5's table: the needed states, the success, what several, used and wrong are called, the check; no pair has several
  abbrev pub requested : Request → Answer
  requested (Request.login password) = with_check (2 ∷ []) 0x0001 Refusal.NextAtLogin Refusal.UsedAtLogin Refusal.WrongAtLogin (single Small [] password)
  requested (Request.challenge_login challenge password) = with_check (2 ∷ []) 0x0002 Refusal.NextAtLogin Refusal.UsedAtLogin Refusal.WrongAtLogin (single Small challenge password)
  requested (Request.activate password following) = with_check (1 ∷ []) 0x0101 Refusal.NextWanted Refusal.Used Refusal.Wrong (pair Large password following)
  requested Request.lock = without_check (2 ∷ []) 0x0102
  requested (Request.unlock password) = with_check (3 ∷ 4 ∷ []) 0x0103 Refusal.NextWanted Refusal.Used Refusal.Wrong (single Small [] password)
  requested Request.suspend = without_check (2 ∷ 3 ∷ 4 ∷ []) 0x0104
  requested (Request.resume password) = with_check (5 ∷ []) 0x0105 Refusal.NextWanted Refusal.Used Refusal.Wrong (single Small [] password)
  requested (Request.sync choice password following) =
      with_check (2 ∷ 3 ∷ 4 ∷ []) 0x0108 Refusal.NextWanted Refusal.Used Refusal.WrongAtSync (pair (cond (eqb choice 1) Medium Large) password following)
  requested Request.void = without_check (1 ∷ 2 ∷ 3 ∷ 4 ∷ 5 ∷ []) 0x010a
  requested Request.query = successful 0x010b (Content.Queried (record { state = r.state; errors = r.errors; last_use = record { 0 = m.used } }))

abbrev pub requested_by : PasswordRule → Loaded → List Entry → ℕ → Request → Answer
requested_by passwords l entries clock request = requested passwords l (marks entries) (run_out l clock (reading passwords l entries)) clock request

abbrev pub requested_of : PasswordRule → List Entry → ℕ → Request → Option Loaded → Answer
requested_of passwords history clock request none = Err Refusal.Unknown
requested_of passwords history clock request (some l) = requested_by passwords l (entries_of l.particulars.serial history) clock request

abbrev pub loaded_of : ℕ → List Loaded → Option Loaded → Answer
loaded_of rows ls (some l) = Err Refusal.AlreadyLoaded
loaded_of rows ls none = cond (ltb (length ls) rows) (successful 0x0140 Content.Plain) (Err Refusal.TableFull)

unfoldable pub answer_to : PasswordRule → ℕ → List Entry → DeskCall → Answer
answer_to passwords rows history (DeskCall.load p key) =
    cond (load_ok p key) (loaded_of rows (loads history) (load_of p.serial (loads history))) (Err Refusal.BadArgument)
answer_to passwords rows history (DeskCall.named request serial clock) =
    cond (clock_ok clock && request_ok request) (requested_of passwords history clock request (load_of serial (loads history))) (Err Refusal.BadArgument)

-- ---- the table: the readings in Part 4's layout

unfoldable pub row_of : Loaded → Reading → Marks → Row
row_of l r m =
    record {
      state = r.state;
      track = track_of l m;
      limit = l.particulars.limit;
      errors = r.errors;
      key_length = length l.key;
      serial = l.particulars.serial;
      wait = l.particulars.wait;
      expiry = l.particulars.expiry;
      locked_at = record { 0 = r.locked_at };
      last_use = record { 0 = m.used };
    }

-- a void row's key is zero
unfoldable pub key_of : Loaded → Reading → List ℕ
key_of l r = cond (eqb r.state 6) (replicate key_bytes 0) (zero_filled l.key)

abbrev pub render_by : PasswordRule → Loaded → List Entry → List ℕ
render_by passwords l entries = render (row_of l (reading passwords l entries) (marks entries)) (key_of l (reading passwords l entries))

unfoldable pub rows_of : PasswordRule → List Loaded → List Entry → List ℕ
rows_of passwords [] history = []
rows_of passwords (l ∷ ls) history = render_by passwords l (entries_of l.particulars.serial history) ++ rows_of passwords ls history

-- rows not loaded are all zero
unfoldable pub table_of : PasswordRule → ℕ → List Entry → List ℕ
table_of passwords rows history = rows_of passwords (loads history) history ++ replicate (row_bytes * (rows - length (loads history))) 0

-- ---- a list of calls

unfoldable pub ledger_from : PasswordRule → ℕ → List Entry → List DeskCall → Run
ledger_from passwords rows history [] = record { answers = []; table = table_of passwords rows history }
ledger_from passwords rows history (call ∷ calls) =
    preceded (answer_to passwords rows history call)
    (ledger_from passwords rows (record { call = call; answer = answer_to passwords rows history call } ∷ history) calls)

abbrev pub ledger : PasswordRule → ℕ → List DeskCall → Run
ledger passwords rows calls = ledger_from passwords rows [] calls
