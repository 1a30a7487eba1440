-- The buyer's first demand (docs/OFFER.md): one of the codes listed for the call, and the bytes named for that code. It holds for every
-- password rule; `Demand1Laws` has the proof.
use Rattle.token.specs.Answers.{Answer}
use Rattle.std.specs.Prelude.{ℕ, ◌≡◌, Bool, true, ◌&&◌, ◌||◌, cond, List, [], ◌∷◌, eqb, Some, None, Err, Ok}
use Rattle.words.specs.Lists.{one_of}
use Rattle.window.specs.PasswordAt.{PasswordRule}
use Rattle.row.specs.declared.Row.{Row}
use Rattle.row.specs.Row.{row_bytes, row_at}
use Rattle.row.specs.Table.{Place, find_row, find_empty, store_row, wipe_key, write_row}
use Rattle.token.specs.declared.answers.Content.{Content}
use Rattle.token.specs.Codes.{number_of}
use Rattle.token.specs.States.{waited, with_state, accepted, failed}
use Rattle.desk.specs.Requests.{Request, DeskCall, loaded_row}
use Rattle.desk.specs.Desk.{secret_at, desk_after}
use Rattle.desk.specs.Press.{pressed}

abbrev pub request_codes : Request → List ℕ
request_codes (Request.login password) = 0x0001 ∷ 0x8404 ∷ 0x8405 ∷ 0x8406 ∷ 0x8407 ∷ 0x8408 ∷ 0x8001 ∷ 0x8004 ∷ 0x8002 ∷ []
request_codes (Request.challenge_login challenge password) = 0x0002 ∷ 0x8404 ∷ 0x8405 ∷ 0x8406 ∷ 0x8407 ∷ 0x8408 ∷ 0x8001 ∷ 0x8004 ∷ 0x8002 ∷ []
request_codes (Request.activate password following) = 0x0101 ∷ 0x8409 ∷ 0x8404 ∷ 0x8405 ∷ 0x8407 ∷ 0x8408 ∷ 0x8104 ∷ 0x8102 ∷ []
request_codes Request.lock = 0x0102 ∷ 0x8404 ∷ 0x8405 ∷ 0x8406 ∷ 0x8407 ∷ []
request_codes (Request.unlock password) = 0x0103 ∷ 0x8409 ∷ 0x8405 ∷ 0x8406 ∷ 0x8407 ∷ 0x8408 ∷ 0x8101 ∷ 0x8104 ∷ 0x8102 ∷ []
request_codes Request.suspend = 0x0104 ∷ 0x8405 ∷ 0x8406 ∷ 0x8407 ∷ []
request_codes (Request.resume password) = 0x0105 ∷ 0x8409 ∷ 0x8404 ∷ 0x8406 ∷ 0x8407 ∷ 0x8408 ∷ 0x8101 ∷ 0x8104 ∷ 0x8102 ∷ []
request_codes (Request.sync choice password following) = 0x0108 ∷ 0x8405 ∷ 0x8406 ∷ 0x8407 ∷ 0x8408 ∷ 0x8104 ∷ 0x8105 ∷ []
request_codes Request.void = 0x010a ∷ 0x8407 ∷ []
request_codes Request.query = 0x010b ∷ []

-- what may be said to each call
abbrev pub codes_of : DeskCall → List ℕ
codes_of (DeskCall.load p key) = 0x0140 ∷ 0x9005 ∷ 0x8411 ∷ 0x8410 ∷ []
codes_of (DeskCall.named request serial clock) = 0x9005 ∷ 0x8402 ∷ 0x8403 ∷ request_codes request

abbrev pub at_place : List ℕ → Place → (ℕ → List ℕ) → List ℕ
at_place s (Some at) written = written at
at_place s None written = s

-- the column "Left in the table": the codes that leave only a wait run out, and those that add an error
abbrev pub wait_codes : List ℕ
wait_codes = 0x8409 ∷ 0x8404 ∷ 0x8405 ∷ 0x8406 ∷ 0x8407 ∷ 0x8408 ∷ 0x8001 ∷ 0x8101 ∷ []

abbrev pub error_codes : List ℕ
error_codes = 0x8004 ∷ 0x8104 ∷ 0x8002 ∷ 0x8102 ∷ 0x8105 ∷ []

-- only a wait run out, and so for 8004 to a double press; or errors + 1, which locks at the two logins, whose errors are 8004 and 8002; else unchanged
abbrev pub refused_bytes : ℕ → List ℕ → ℕ → Bool → ℕ → List ℕ
refused_bytes clock s at press code =
    cond (one_of code wait_codes || (eqb code 0x8004 && press)) (store_row s at (waited (row_at s at) clock))
    (cond (one_of code error_codes) (store_row s at (failed (waited (row_at s at) clock) clock (one_of code (0x8004 ∷ 0x8002 ∷ [])))) s)

-- the column "Success, and what follows": ready, or another state; of any other code the state is kept
abbrev pub followed : ℕ → Row → Row
followed code r =
    cond (one_of code (0x0101 ∷ 0x0103 ∷ 0x0105 ∷ [])) (with_state r 2)
    (cond (eqb code 0x0102) (with_state r 4) (cond (eqb code 0x0104) (with_state r 5) (cond (eqb code 0x010a) (with_state r 6) r)))

-- an accepted step marks the row; only a void zeroes the key; a query writes nothing
abbrev pub success_bytes : ℕ → List ℕ → ℕ → ℕ → Content → List ℕ
success_bytes clock s at code (Content.Checked a d) = store_row s at (followed code (accepted (waited (row_at s at) clock) clock a.0))
success_bytes clock s at code Content.Plain =
    let after = store_row s at (followed code (waited (row_at s at) clock)) in cond (eqb code 0x010a) (wipe_key after at) after
success_bytes clock s at code (Content.Queried status) = s

abbrev pub request_bytes : ℕ → List ℕ → ℕ → Bool → Answer → List ℕ
request_bytes clock s at press (Ok success) = success_bytes clock s at success.number success.content
request_bytes clock s at press (Err refusal) = refused_bytes clock s at press (number_of (Err refusal))

-- the row at a place finds a double press in the request
abbrev pub press_at : PasswordRule → Request → ℕ → List ℕ → ℕ → Bool
press_at passwords request clock s at = pressed passwords (row_at s at).track (secret_at s at) clock request

-- the bytes that the documents name for an answer to a call
abbrev pub bytes_for : PasswordRule → DeskCall → List ℕ → Answer → List ℕ
bytes_for passwords (DeskCall.load p key) s (Ok success) = at_place s (find_empty row_bytes s) (λ at. write_row s at (loaded_row p key) key)
bytes_for passwords (DeskCall.load p key) s (Err refusal) = s
bytes_for passwords (DeskCall.named request serial clock) s answer =
    at_place s (find_row row_bytes s serial) (λ at. request_bytes clock s at (press_at passwords request clock s at) answer)

abbrev pub Demand1 : Type 0
Demand1 =
    (passwords : PasswordRule) (call : DeskCall) (s : List ℕ)
    → (one_of (number_of (desk_after passwords call s).answer) (codes_of call) ≡ true) × ((desk_after passwords call s).table ≡ bytes_for passwords call s (desk_after passwords call s).answer)
