-- The calls with their arguments, and which arguments are in range (document 01, Part 5 and "What a turned-down call says", 9005).
use Rattle.std.specs.Prelude.{ℕ, ◌^◌, ◌/◌, ◌%◌, Bool, true, ◌&&◌, ◌||◌, cond, List, [], eqb, leb, ltb, length}
use Rattle.otp.specs.Password.{challenge_ok}
use Rattle.otp.specs.Typed.{password_ok, as_password}
use Rattle.window.specs.declared.Size.{Size}
use Rattle.window.specs.declared.Size.TheVariants.{Medium, Large}
use Rattle.window.specs.Window.{farthest}
use Rattle.row.specs.declared.Row.{Row}
use Rattle.row.specs.Row.{last_state, numbers_ok}
use Rattle.token.specs.declared.lines.Request.{Request as Valued}
use Rattle.token.specs.Lines.{inactive}
use Rattle.desk.specs.declared.Particulars.{Particulars}

-- what is asked of a token that a call names, with the arguments of its own: passwords and a challenge are bytes
pub data Request : Type 0 where
  login : (password : List ℕ) → Request
  challenge_login : (challenge password : List ℕ) → Request
  activate : (password following : List ℕ) → Request
  lock : Request
  unlock : (password : List ℕ) → Request
  suspend : Request
  resume : (password : List ℕ) → Request
  sync : (choice : ℕ) (password following : List ℕ) → Request
  void : Request
  query : Request

-- a call of the desk: a load of a token with its key, or a request that names a serial at a clock reading
pub data DeskCall : Type 0 where
  load : (particulars : Particulars) (key : List ℕ) → DeskCall
  named : (request : Request) (serial clock : ℕ) → DeskCall

abbrev pub login_call : List ℕ → ℕ → ℕ → DeskCall
login_call password serial clock = DeskCall.named (Request.login password) serial clock

abbrev pub challenge_call : List ℕ → List ℕ → ℕ → ℕ → DeskCall
challenge_call challenge password serial clock = DeskCall.named (Request.challenge_login challenge password) serial clock

abbrev pub activate_call : List ℕ → List ℕ → ℕ → ℕ → DeskCall
activate_call password following serial clock = DeskCall.named (Request.activate password following) serial clock

abbrev pub lock_call : ℕ → ℕ → DeskCall
lock_call serial clock = DeskCall.named Request.lock serial clock

abbrev pub unlock_call : List ℕ → ℕ → ℕ → DeskCall
unlock_call password serial clock = DeskCall.named (Request.unlock password) serial clock

abbrev pub suspend_call : ℕ → ℕ → DeskCall
suspend_call serial clock = DeskCall.named Request.suspend serial clock

abbrev pub resume_call : List ℕ → ℕ → ℕ → DeskCall
resume_call password serial clock = DeskCall.named (Request.resume password) serial clock

abbrev pub sync_call : ℕ → List ℕ → List ℕ → ℕ → ℕ → DeskCall
sync_call choice password following serial clock = DeskCall.named (Request.sync choice password following) serial clock

abbrev pub void_call : ℕ → ℕ → DeskCall
void_call serial clock = DeskCall.named Request.void serial clock

abbrev pub query_call : ℕ → ℕ → DeskCall
query_call serial clock = DeskCall.named Request.query serial clock

-- ---- arguments in range

-- 1 to 256 rows of a width
unfoldable pub table_ok : ℕ → List ℕ → Bool
table_ok width s = eqb (length s % width) 0 && (leb 1 (length s / width) && leb (length s / width) 256)

abbrev pub clock_ok : ℕ → Bool
clock_ok clock = ltb clock (2 ^ 40)

-- a challenge login needs its challenge
unfoldable pub challenge_given : List ℕ → Bool
challenge_given q = ltb 0 (length q) && challenge_ok q

-- sync 1 is medium, 2 large
abbrev pub choice_ok : ℕ → Bool
choice_ok choice = eqb choice 1 || eqb choice 2

unfoldable pub request_ok : Request → Bool
request_ok (Request.login password) = password_ok password
request_ok (Request.challenge_login challenge password) = challenge_given challenge && password_ok password
request_ok (Request.activate password following) = password_ok password && password_ok following
request_ok Request.lock = true
request_ok (Request.unlock password) = password_ok password
request_ok Request.suspend = true
request_ok (Request.resume password) = password_ok password
request_ok (Request.sync choice password following) = choice_ok choice && (password_ok password && password_ok following)
request_ok Request.void = true
request_ok Request.query = true

-- ---- the request as a value: passwords as numbers, the challenge beside it

abbrev pub size_of : ℕ → Size
size_of choice = cond (eqb choice 1) Medium Large

abbrev pub valued : Request → Valued
valued (Request.login password) = Valued.Login (as_password password)
valued (Request.challenge_login challenge password) = Valued.ChallengeLogin (as_password password)
valued (Request.activate password following) = Valued.Activate (as_password password) (as_password following)
valued Request.lock = Valued.Lock
valued (Request.unlock password) = Valued.Unlock (as_password password)
valued Request.suspend = Valued.Suspend
valued (Request.resume password) = Valued.Resume (as_password password)
valued (Request.sync choice password following) = Valued.Sync (size_of choice) (as_password password) (as_password following)
valued Request.void = Valued.Void
valued Request.query = Valued.Query

-- the challenge lent beside it is in range: a challenge login needs one
abbrev pub challenge_fits : Valued → List ℕ → Bool
challenge_fits (Valued.Login p) q = challenge_ok q
challenge_fits (Valued.ChallengeLogin p) q = challenge_given q
challenge_fits (Valued.Activate p r) q = challenge_ok q
challenge_fits Valued.Lock q = challenge_ok q
challenge_fits (Valued.Unlock p) q = challenge_ok q
challenge_fits Valued.Suspend q = challenge_ok q
challenge_fits (Valued.Resume p) q = challenge_ok q
challenge_fits (Valued.Sync size p r) q = challenge_ok q
challenge_fits Valued.Void q = challenge_ok q
challenge_fits Valued.Query q = challenge_ok q

abbrev pub challenge_of : Request → List ℕ
challenge_of (Request.login password) = []
challenge_of (Request.challenge_login challenge password) = challenge
challenge_of (Request.activate password following) = []
challenge_of Request.lock = []
challenge_of (Request.unlock password) = []
challenge_of Request.suspend = []
challenge_of (Request.resume password) = []
challenge_of (Request.sync choice password following) = []
challenge_of Request.void = []
challenge_of Request.query = []

-- ---- a load

-- the row that a load sets: state 1; next, d, errors and times are 0
abbrev pub loaded_row : Particulars → List ℕ → Row
loaded_row p key =
    record {
      state = inactive;
      track = record { scheme = p.scheme; period = p.period; next = record { 0 = 0 }; offset = record { 0 = farthest } };
      limit = p.limit;
      errors = 0;
      key_length = length key;
      serial = p.serial;
      wait = p.wait;
      expiry = p.expiry;
      locked_at = record { 0 = 0 };
      last_use = record { 0 = 0 };
    }

-- a load's values are in range if the serial has 8 bytes and the row that they give keeps Part 4's list
unfoldable pub load_ok : Particulars → List ℕ → Bool
load_ok p key = ltb p.serial (2 ^ 64) && numbers_ok last_state (loaded_row p key)
