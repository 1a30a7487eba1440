-- The desk (document 01, Part 5 and "What a turned-down call says"): for every call and every bytes of the table, the answer and every byte
-- after. The password rule is a parameter.
use Rattle.token.specs.Answers.{Answer, missing, successful}
use Rattle.std.specs.Prelude.{ℕ, ◌+◌, ◌&&◌, cond, List, [], ◌∷◌, take, drop, Some, None, Ok, Err}
use Rattle.std.proofs.Math.Option.{Option, none, some}
use Rattle.window.specs.declared.Step.{Step}
use Rattle.window.specs.declared.Offset.{Offset}
use Rattle.window.specs.PasswordAt.{PasswordRule}
use Rattle.row.specs.declared.Row.{Row}
use Rattle.row.specs.Row.{row_bytes, last_state, row_at}
use Rattle.row.specs.Table.{Place, Sought, find_row, find_empty, located, store_row, wipe_key, write_row}
use Rattle.token.specs.declared.answers.Content.{Content}
use Rattle.token.specs.declared.answers.Refusal.{Refusal}
use Rattle.token.specs.declared.lines.Request.{Request as Valued}
use Rattle.token.specs.declared.deciding.Left.{Left}
use Rattle.token.specs.declared.deciding.Decision.{Decision}
use Rattle.token.specs.Deciding.{decided}
use Rattle.desk.specs.declared.Particulars.{Particulars}
use Rattle.desk.specs.Requests.{DeskCall, table_ok, clock_ok, request_ok, valued, challenge_fits, challenge_of, loaded_row, load_ok}

-- an answer, and a table of bytes
pub record Result : Type 0 where
  pub answer : Answer
  pub table : List ℕ

abbrev pub result_of : Answer → List ℕ → Result
result_of answer s = record { answer = answer; table = s }

-- a refusal that leaves the table unchanged
abbrev pub refused : Refusal → List ℕ → Result
refused refusal s = result_of (Err refusal) s

-- ---- load

abbrev pub loaded_at : Particulars → List ℕ → List ℕ → Place → Result
loaded_at p key s (Some at) = result_of (successful 0x0140 Content.Plain) (write_row s at (loaded_row p key) key)
loaded_at p key s None = refused Refusal.TableFull s

-- 8411 comes before 8410
abbrev pub loaded_beside : Particulars → List ℕ → List ℕ → Place → Result
loaded_beside p key s (Some other) = refused Refusal.AlreadyLoaded s
loaded_beside p key s None = loaded_at p key s (find_empty row_bytes s)

-- ---- a request to the row of a serial

-- the key of the row at a place, as long as the row says
abbrev pub secret_at : List ℕ → ℕ → List ℕ
secret_at s at = take (row_at s at).key_length (drop (at + 16) s)

-- what a decision leaves of the row at a place
abbrev pub left_at : List ℕ → ℕ → Left → List ℕ
left_at s at Left.Same = s
left_at s at (Left.Stored r) = store_row s at r
left_at s at (Left.Voided r) = wipe_key (store_row s at r) at

abbrev pub stored : List ℕ → ℕ → Decision → Result
stored s at d = result_of d.answer (left_at s at d.left)

-- 8402 and 8403, where there is no row to serve

module _ (passwords : PasswordRule) (request : Valued) (challenge : List ℕ) (clock : ℕ) (s : List ℕ) where
  unfoldable pub served_at : ℕ → Row → Result
  served_at at r = stored s at (decided passwords request r (secret_at s at) clock challenge)

  abbrev pub served_from : Sought → Result
  served_from (Ok found) = served_at found.at found.row
  served_from (Err unserved) = refused (missing unserved) s

-- a request by value, with its challenge lent
unfoldable pub served : PasswordRule → Valued → List ℕ → ℕ → ℕ → List ℕ → Result
served passwords request challenge serial clock s =
    cond ((table_ok row_bytes s && clock_ok clock) && challenge_fits request challenge) (served_from passwords request challenge clock s (located row_bytes last_state s serial))
    (refused Refusal.BadArgument s)

-- ---- the eleven calls

unfoldable pub desk_after : PasswordRule → DeskCall → List ℕ → Result
desk_after passwords (DeskCall.load p key) s =
    cond (table_ok row_bytes s && load_ok p key) (loaded_beside p key s (find_row row_bytes s p.serial)) (refused Refusal.BadArgument s)
desk_after passwords (DeskCall.named request serial clock) s =
    cond (table_ok row_bytes s && (clock_ok clock && request_ok request))
    (served_from passwords (valued request) (challenge_of request) clock s (located row_bytes last_state s serial))
    (refused Refusal.BadArgument s)

-- ---- a list of calls, each on the table as the last one left it

pub record Run : Type 0 where
  pub answers : List Answer
  pub table : List ℕ

abbrev pub preceded : Answer → Run → Run
preceded answer r = record { answers = answer ∷ r.answers; table = r.table }

unfoldable pub run : PasswordRule → List DeskCall → List ℕ → Run
run passwords [] s = record { answers = []; table = s }
run passwords (call ∷ calls) s = preceded (desk_after passwords call s).answer (run passwords calls (desk_after passwords call s).table)

-- ---- what a checked success carries: the step and d

abbrev pub step_in : Content → Option (Step × Offset)
step_in Content.Plain = none
step_in (Content.Checked step d) = some (step, d)
step_in (Content.Queried status) = none

abbrev pub checked_of : Answer → Option (Step × Offset)
checked_of (Ok success) = step_in success.content
checked_of (Err refusal) = none
