-- The buyer's second demand (docs/OFFER.md): accepted exactly when a candidate at or after the first unused step has the presented password, which for one
-- password means exactly one such candidate (document 02, Ask 5); else several, used or wrong exactly as the documents say. It holds for every password rule, both kinds and both ciphers at once; `Demand2Laws` has the proof.
use Rattle.token.specs.Answers.{Answer}
use Rattle.std.specs.Prelude.{ℕ, ◌+◌, ◌≤◌, ◌<◌, ◌≡◌, Bool, true, false, ◌&&◌, List, [], ◌∷◌, Some}
use Rattle.std.proofs.Math.Option.{Option, none, some}
use Rattle.words.specs.Lists.{one_of}
use Rattle.words.specs.Exactly.{Exactly}
use Rattle.window.specs.declared.Size.{Size}
use Rattle.window.specs.declared.Size.TheVariants.{Small, Medium, Large}
use Rattle.window.specs.declared.Offset.{Offset}
use Rattle.window.specs.Window.{candidate}
use Rattle.window.specs.PasswordAt.{PasswordRule, has_by}
use Rattle.row.specs.Row.{row_bytes, last_state, row_at, well_formed}
use Rattle.row.specs.Table.{find_row}
use Rattle.token.specs.Codes.{number_of}
use Rattle.token.specs.States.{waited}
use Rattle.desk.specs.Requests.{Request, DeskCall, table_ok, clock_ok, request_ok}
use Rattle.desk.specs.Desk.{secret_at, desk_after, checked_of}

-- the calls that check a password, with the states in which they are made, the window's size and the codes of success, several, used and wrong
pub record Checking : Type 0 where
  pub states : List ℕ
  pub size : Size
  pub success : ℕ
  -- where two or more steps match; a pair's check ends at the first
  pub several : Option ℕ
  pub used : ℕ
  pub wrong : ℕ
  -- how far the accepted step stands ahead of the one that matches: a pair's is the next one
  pub ahead : ℕ
  -- a step matches: it has the password or, of a pair, it has the first and the step after it the second
  pub matches : (List ℕ → List ℕ → ℕ → Bool) → (ℕ → Bool) → ℕ → Bool

-- one password, with a challenge or none
abbrev pub alone : List ℕ → List ℕ → (List ℕ → List ℕ → ℕ → Bool) → (ℕ → Bool) → ℕ → Bool
alone challenge password has candidate s = candidate s && has challenge password s

-- two passwords in a row, both of candidates
abbrev pub in_row : List ℕ → List ℕ → (List ℕ → List ℕ → ℕ → Bool) → (ℕ → Bool) → ℕ → Bool
in_row password following has candidate s = (candidate s && candidate (s + 1)) && (has [] password s && has [] following (s + 1))

pub data Checks : Request → Checking → Type 0 where
  login : {p : List ℕ}
      → Checks (Request.login p) (record { states = 2 ∷ []; size = Small; success = 0x0001; several = some 0x8001; used = 0x8004; wrong = 0x8002; ahead = 0; matches = alone [] p })
  challenge_login : {q p : List ℕ}
      → Checks (Request.challenge_login q p) (record { states = 2 ∷ []; size = Small; success = 0x0002; several = some 0x8001; used = 0x8004; wrong = 0x8002; ahead = 0; matches = alone q p })
  activate : {p f : List ℕ}
      → Checks (Request.activate p f) (record { states = 1 ∷ []; size = Large; success = 0x0101; several = none; used = 0x8104; wrong = 0x8102; ahead = 1; matches = in_row p f })
  unlock : {p : List ℕ}
      → Checks (Request.unlock p) (record { states = 3 ∷ 4 ∷ []; size = Small; success = 0x0103; several = some 0x8101; used = 0x8104; wrong = 0x8102; ahead = 0; matches = alone [] p })
  resume : {p : List ℕ}
      → Checks (Request.resume p) (record { states = 5 ∷ []; size = Small; success = 0x0105; several = some 0x8101; used = 0x8104; wrong = 0x8102; ahead = 0; matches = alone [] p })
  sync_medium : {p f : List ℕ}
      → Checks (Request.sync 1 p f) (record { states = 2 ∷ 3 ∷ 4 ∷ []; size = Medium; success = 0x0108; several = none; used = 0x8104; wrong = 0x8105; ahead = 1; matches = in_row p f })
  sync_large : {p f : List ℕ}
      → Checks (Request.sync 2 p f) (record { states = 2 ∷ 3 ∷ 4 ∷ []; size = Large; success = 0x0108; several = none; used = 0x8104; wrong = 0x8105; ahead = 1; matches = in_row p f })

-- the demand's premises: arguments in range, a well_formed_lem row of the serial in the right state once a wait has run out, and not expired
pub record Ready (request : Request) (c : Checking) (serial clock : ℕ) (s : List ℕ) (at : ℕ) : Type 0 where
  pub table : table_ok row_bytes s ≡ true
  pub timely : clock_ok clock ≡ true
  pub arguments : request_ok request ≡ true
  pub found : find_row row_bytes s serial ≡ Some at
  pub formed : well_formed last_state s at ≡ true
  pub state : one_of (waited (row_at s at) clock).state c.states ≡ true
  pub unexpired : clock < (row_at s at).expiry.0

-- step x of the row at a place matches what the call presents
abbrev pub Hits : PasswordRule → Checking → ℕ → List ℕ → ℕ → ℕ → Bool
Hits passwords c clock s at x =
    c.matches (λ challenge presented. has_by passwords (row_at s at).track.scheme (secret_at s at) challenge presented) (candidate (row_at s at).track clock c.size) x

abbrev pub next_at : List ℕ → ℕ → ℕ
next_at s at = (row_at s at).track.next.0

-- a step from the first unused one on matches; exactly one does; two do
abbrev pub SomeFresh : ℕ → (ℕ → Bool) → Type 0
SomeFresh next hits = (x : ℕ) × ((next ≤ x) × (hits x ≡ true))

abbrev pub OnlyOne : ℕ → (ℕ → Bool) → Type 0
OnlyOne next hits = (x : ℕ) × ((next ≤ x) × ((hits x ≡ true) × ((y : ℕ) → next ≤ y → hits y ≡ true → y ≡ x)))

abbrev pub TwoFresh : ℕ → (ℕ → Bool) → Type 0
TwoFresh next hits = (x : ℕ) × ((y : ℕ) × ((next ≤ x) × ((x < y) × ((hits x ≡ true) × (hits y ≡ true)))))

-- what acceptance means: exactly one such step, where there is a code for several of them
abbrev pub Acceptable : Option ℕ → ℕ → (ℕ → Bool) → Type 0
Acceptable (some code) next hits = OnlyOne next hits
Acceptable none next hits = SomeFresh next hits

abbrev pub if_any : Option ℕ → List ℕ
if_any (some code) = code ∷ []
if_any none = []

-- what an answer says of the steps that match, from the row's first unused step on or before it
pub record Verdict (answer : Answer) (c : Checking) (next : ℕ) (hits : ℕ → Bool) : Type 0 where
  pub accepted : Exactly (number_of answer ≡ c.success) (Acceptable c.several next hits)
  -- the smallest such step counts
  pub smallest : number_of answer ≡ c.success → (x : ℕ) → next ≤ x → hits x ≡ true → ((y : ℕ) → next ≤ y → y < x → hits y ≡ false)
      → (d : Offset) × (checked_of answer ≡ some (record { 0 = x + c.ahead }, d))
  pub several : (code : ℕ) → c.several ≡ some code → Exactly (number_of answer ≡ code) (TwoFresh next hits)
  pub used : Exactly (number_of answer ≡ c.used) (((x : ℕ) → next ≤ x → hits x ≡ false) × ((x : ℕ) × ((x < next) × (hits x ≡ true))))
  pub wrong : Exactly (number_of answer ≡ c.wrong) ((x : ℕ) → hits x ≡ false)
  -- and nothing else is said
  pub listed : one_of (number_of answer) (c.success ∷ c.used ∷ c.wrong ∷ if_any c.several) ≡ true

abbrev pub Demand2 : Type 0
Demand2 =
    (passwords : PasswordRule) (request : Request) (c : Checking) → Checks request c → (serial clock : ℕ) (s : List ℕ) (at : ℕ) → Ready request c serial clock s at
    → Verdict (desk_after passwords (DeskCall.named request serial clock) s).answer c (next_at s at) (Hits passwords c clock s at)
