-- Part 5's table and the table of refusals (document 01) restated: every call in every state, as lines of data with one proof. A wrong entry of a
-- definition cannot hide behind the same entry in the code.
use Rattle.std.specs.Prelude.{ℕ, ◌≡◌, refl, true, ◌&&◌, List, [], ◌∷◌, ◌++◌, replicate}
use Rattle.words.specs.Bytes.{be_at, be_bytes, put_be}
use Rattle.words.specs.Lists.{same_bytes, all_zero, all_within}
use Rattle.otp.specs.Password.{decimals, challenge_ok}
use Rattle.otp.specs.Numbers.{number_from}
use Rattle.otp.specs.Typed.{password_ok, digits_of}
use Rattle.window.specs.Window.{time_candidate, candidate, beyond}
use Rattle.window.specs.Check.{smallest, how_many, checked}
use Rattle.window.specs.TokenCheck.{fresh_matches, single_check, pair_check}
use Rattle.row.specs.Row.{row_at, before_key, step_bytes, time_bytes, render, number_tests, numbers_ok, zeros_ok, well_formed}
use Rattle.row.specs.Table.{has_serial, first_row, find_row, find_empty, located, store_row, wipe_key, write_row}
use Rattle.token.specs.Codes.{signed_of, values_of}
use Rattle.token.specs.Codes.Signed.{plus, minus}
use Rattle.token.specs.States.{wait_over, waited, with_state, accepted, failed}
use Rattle.token.specs.Deciding.{deciding, decided}
use Rattle.desk.specs.Requests.{Request, DeskCall, table_ok, challenge_given, request_ok, load_ok}
use Rattle.desk.specs.Desk.{served_at, desk_after}
use Rattle.desk.specs.Demand1Bytes.{Change, laid, state, errors, zero_key, next, offset, locked_at, last_use}
use Rattle.desk.specs.CallLines.{row_with, six_rows, Cell, cell, no, Line, line, all_hold}

-- ---- accepted: before the wait has run out (clock 1059)

abbrev pub digits : ℕ → List ℕ
digits x = decimals 6 x

abbrev pub challenge : List ℕ
challenge = 0x35 ∷ 0x36 ∷ 0x37 ∷ 0x38 ∷ []

-- step 17, d 0; of a pair step 18, d 1
abbrev pub single : ℕ → ℕ → List Change → Cell
single code clock more = cell code (plus 17 ∷ plus 0 ∷ []) (errors 0 ∷ next 18 ∷ offset 600 ∷ last_use clock ∷ more)

abbrev pub pair : ℕ → ℕ → List Change → Cell
pair code clock more = cell code (plus 18 ∷ plus 1 ∷ []) (errors 0 ∷ next 19 ∷ offset 601 ∷ last_use clock ∷ more)

abbrev pub voided : List Change → Cell
voided more = cell 0x010a [] (state 6 ∷ zero_key ∷ more)

-- a query carries the state, the errors and the last use
abbrev pub queried : ℕ → ℕ → Cell
queried inState counted = cell 0x010b (plus inState ∷ plus counted ∷ plus 500 ∷ []) []

abbrev pub accepted_lines : List Line
accepted_lines =
    line (Request.login (digits 17)) 1059
    (no 0x8406) (single 0x0001 1059 []) (no 0x8404) (no 0x8404) (no 0x8405) (no 0x8407)
    ∷ line (Request.challenge_login challenge (digits 4017)) 1059
    (no 0x8406) (single 0x0002 1059 []) (no 0x8404) (no 0x8404) (no 0x8405) (no 0x8407)
    ∷ line (Request.activate (digits 17) (digits 18)) 1059
    (pair 0x0101 1059 (state 2 ∷ [])) (no 0x8409) (no 0x8404) (no 0x8404) (no 0x8405) (no 0x8407)
    ∷ line Request.lock 1059
    (no 0x8406) (cell 0x0102 [] (state 4 ∷ [])) (no 0x8404) (no 0x8404) (no 0x8405) (no 0x8407)
    ∷ line (Request.unlock (digits 17)) 1059
    (no 0x8406) (no 0x8409) (single 0x0103 1059 (state 2 ∷ locked_at 0 ∷ [])) (single 0x0103 1059 (state 2 ∷ [])) (no 0x8405) (no 0x8407)
    ∷ line Request.suspend 1059
    (no 0x8406) (cell 0x0104 [] (state 5 ∷ [])) (cell 0x0104 [] (state 5 ∷ locked_at 0 ∷ [])) (cell 0x0104 [] (state 5 ∷ [])) (no 0x8405) (no 0x8407)
    ∷ line (Request.resume (digits 17)) 1059
    (no 0x8406) (no 0x8409) (no 0x8404) (no 0x8404) (single 0x0105 1059 (state 2 ∷ [])) (no 0x8407)
    ∷ line (Request.sync 1 (digits 17) (digits 18)) 1059
    (no 0x8406) (pair 0x0108 1059 []) (pair 0x0108 1059 []) (pair 0x0108 1059 []) (no 0x8405) (no 0x8407)
    ∷ line (Request.sync 2 (digits 17) (digits 18)) 1059
    (no 0x8406) (pair 0x0108 1059 []) (pair 0x0108 1059 []) (pair 0x0108 1059 []) (no 0x8405) (no 0x8407)
    ∷ line Request.void 1059
    (voided []) (voided []) (voided (locked_at 0 ∷ [])) (voided []) (voided []) (no 0x8407)
    ∷ line Request.query 1059
    (queried 1 2) (queried 2 2) (queried 3 2) (queried 4 2) (queried 5 2) (queried 6 2)
    ∷ []

-- ---- used and wrong (clock 1059): each call's codes; an error more, and the lock at the limit by the two logins alone

abbrev pub failed_login : Request → ℕ → Line
failed_login request code =
    line request 1059 (no 0x8406) (cell code [] (state 3 ∷ errors 3 ∷ locked_at 1059 ∷ [])) (no 0x8404) (no 0x8404) (no 0x8405) (no 0x8407)

-- an error more
abbrev pub counted : ℕ → Cell
counted code = cell code [] (errors 3 ∷ [])

abbrev pub failed_activation : Request → ℕ → Line
failed_activation request code = line request 1059 (counted code) (no 0x8409) (no 0x8404) (no 0x8404) (no 0x8405) (no 0x8407)

abbrev pub failed_unlock : Request → ℕ → Line
failed_unlock request code = line request 1059 (no 0x8406) (no 0x8409) (counted code) (counted code) (no 0x8405) (no 0x8407)

abbrev pub failed_resume : Request → ℕ → Line
failed_resume request code = line request 1059 (no 0x8406) (no 0x8409) (no 0x8404) (no 0x8404) (counted code) (no 0x8407)

abbrev pub failed_sync : Request → ℕ → Line
failed_sync request code = line request 1059 (no 0x8406) (counted code) (counted code) (counted code) (no 0x8405) (no 0x8407)

-- steps 15, and 15 with 16, are not fresh
abbrev pub used_lines : List Line
used_lines =
    failed_login (Request.login (digits 15)) 0x8004
    ∷ failed_login (Request.challenge_login challenge (digits 4015)) 0x8004
    ∷ failed_activation (Request.activate (digits 15) (digits 16)) 0x8104
    ∷ failed_unlock (Request.unlock (digits 15)) 0x8104
    ∷ failed_resume (Request.resume (digits 15)) 0x8104
    ∷ failed_sync (Request.sync 1 (digits 15) (digits 16)) 0x8104
    ∷ failed_sync (Request.sync 2 (digits 15) (digits 16)) 0x8104
    ∷ []

-- no candidate matches; a challenge's password is none without it; two passwords in the wrong order
abbrev pub wrong_lines : List Line
wrong_lines =
    failed_login (Request.login (digits 4017)) 0x8002
    ∷ failed_login (Request.challenge_login challenge (digits 17)) 0x8002
    ∷ failed_activation (Request.activate (digits 18) (digits 17)) 0x8102
    ∷ failed_unlock (Request.unlock (digits 999999)) 0x8102
    ∷ failed_resume (Request.resume (digits 999999)) 0x8102
    ∷ failed_sync (Request.sync 1 (digits 17) (digits 17)) 0x8105
    ∷ failed_sync (Request.sync 2 (digits 18) (digits 17)) 0x8105
    ∷ []

-- a digit count not the row's: step 17 in seven digits
abbrev pub miscounted_lines : List Line
miscounted_lines =
    failed_login (Request.login (decimals 7 17)) 0x8002
    ∷ failed_login (Request.challenge_login challenge (decimals 7 4017)) 0x8002
    ∷ failed_activation (Request.activate (digits 17) (decimals 7 18)) 0x8102
    ∷ failed_unlock (Request.unlock (decimals 7 17)) 0x8102
    ∷ failed_resume (Request.resume (decimals 7 17)) 0x8102
    ∷ failed_sync (Request.sync 1 (decimals 7 17) (digits 18)) 0x8105
    ∷ failed_sync (Request.sync 2 (digits 17) (decimals 7 18)) 0x8105
    ∷ []

-- ---- a wait that has run out (clock 1060) makes the token in state 3 ready with errors 0, before the call looks at the state; it stays so if the call refuses

abbrev pub ran_out : List Change
ran_out = state 2 ∷ errors 0 ∷ locked_at 0 ∷ []

abbrev pub waited_lines : List Line
waited_lines =
    line (Request.login (digits 17)) 1060
    (no 0x8406) (single 0x0001 1060 []) (single 0x0001 1060 ran_out) (no 0x8404) (no 0x8405) (no 0x8407)
    ∷ line (Request.challenge_login challenge (digits 4017)) 1060
    (no 0x8406) (single 0x0002 1060 []) (single 0x0002 1060 ran_out) (no 0x8404) (no 0x8405) (no 0x8407)
    -- the errors begin anew: one of three
    ∷ line (Request.login (digits 999999)) 1060
    (no 0x8406) (cell 0x8002 [] (state 3 ∷ errors 3 ∷ locked_at 1060 ∷ [])) (cell 0x8002 [] (state 2 ∷ errors 1 ∷ locked_at 0 ∷ [])) (no 0x8404) (no 0x8405) (no 0x8407)
    ∷ line (Request.activate (digits 17) (digits 18)) 1060
    (pair 0x0101 1060 (state 2 ∷ [])) (no 0x8409) (cell 0x8409 [] ran_out) (no 0x8404) (no 0x8405) (no 0x8407)
    ∷ line Request.lock 1060
    (no 0x8406) (cell 0x0102 [] (state 4 ∷ [])) (cell 0x0102 [] (state 4 ∷ errors 0 ∷ locked_at 0 ∷ [])) (no 0x8404) (no 0x8405) (no 0x8407)
    ∷ line (Request.unlock (digits 17)) 1060
    (no 0x8406) (no 0x8409) (cell 0x8409 [] ran_out) (single 0x0103 1060 (state 2 ∷ [])) (no 0x8405) (no 0x8407)
    ∷ line Request.suspend 1060
    (no 0x8406) (cell 0x0104 [] (state 5 ∷ [])) (cell 0x0104 [] (state 5 ∷ errors 0 ∷ locked_at 0 ∷ [])) (cell 0x0104 [] (state 5 ∷ [])) (no 0x8405) (no 0x8407)
    ∷ line (Request.resume (digits 17)) 1060
    (no 0x8406) (no 0x8409) (cell 0x8409 [] ran_out) (no 0x8404) (single 0x0105 1060 (state 2 ∷ [])) (no 0x8407)
    ∷ line (Request.sync 1 (digits 17) (digits 18)) 1060
    (no 0x8406) (pair 0x0108 1060 []) (pair 0x0108 1060 ran_out) (pair 0x0108 1060 []) (no 0x8405) (no 0x8407)
    ∷ line (Request.sync 2 (digits 17) (digits 18)) 1060
    (no 0x8406) (pair 0x0108 1060 []) (pair 0x0108 1060 ran_out) (pair 0x0108 1060 []) (no 0x8405) (no 0x8407)
    ∷ line Request.void 1060
    (voided []) (voided []) (voided (errors 0 ∷ locked_at 0 ∷ [])) (voided []) (voided []) (no 0x8407)
    -- a query tells it, and writes nothing
    ∷ line Request.query 1060
    (queried 1 2) (queried 2 2) (queried 2 0) (queried 4 2) (queried 5 2) (queried 6 2)
    ∷ []

-- ---- at the expiry (clock 5000) every checked call is refused in the states in which it is made, and no other call

abbrev pub expired_login : Request → Line
expired_login request = line request 5000 (no 0x8406) (no 0x8408) (cell 0x8408 [] ran_out) (no 0x8404) (no 0x8405) (no 0x8407)

abbrev pub expired_sync : Request → Line
expired_sync request = line request 5000 (no 0x8406) (no 0x8408) (cell 0x8408 [] ran_out) (no 0x8408) (no 0x8405) (no 0x8407)

-- step 83 is T, and comes even before a digit count that is not the row's
abbrev pub expired_lines : List Line
expired_lines =
    expired_login (Request.login (digits 83))
    ∷ expired_login (Request.login (decimals 7 83))
    ∷ expired_login (Request.challenge_login challenge (digits 4083))
    ∷ line (Request.activate (digits 83) (digits 84)) 5000
    (no 0x8408) (no 0x8409) (cell 0x8409 [] ran_out) (no 0x8404) (no 0x8405) (no 0x8407)
    ∷ line (Request.unlock (digits 83)) 5000
    (no 0x8406) (no 0x8409) (cell 0x8409 [] ran_out) (no 0x8408) (no 0x8405) (no 0x8407)
    ∷ line (Request.resume (digits 83)) 5000
    (no 0x8406) (no 0x8409) (cell 0x8409 [] ran_out) (no 0x8404) (no 0x8408) (no 0x8407)
    ∷ expired_sync (Request.sync 1 (digits 83) (digits 84))
    ∷ expired_sync (Request.sync 2 (digits 83) (digits 84))
    ∷ line Request.lock 5000
    (no 0x8406) (cell 0x0102 [] (state 4 ∷ [])) (cell 0x0102 [] (state 4 ∷ errors 0 ∷ locked_at 0 ∷ [])) (no 0x8404) (no 0x8405) (no 0x8407)
    ∷ line Request.suspend 5000
    (no 0x8406) (cell 0x0104 [] (state 5 ∷ [])) (cell 0x0104 [] (state 5 ∷ errors 0 ∷ locked_at 0 ∷ [])) (cell 0x0104 [] (state 5 ∷ [])) (no 0x8405) (no 0x8407)
    ∷ line Request.void 5000
    (voided []) (voided []) (voided (errors 0 ∷ locked_at 0 ∷ [])) (voided []) (voided []) (no 0x8407)
    ∷ line Request.query 5000
    (queried 1 2) (queried 2 2) (queried 2 0) (queried 4 2) (queried 5 2) (queried 6 2)
    ∷ []

-- ---- load looks at states and serials only, and sets all 96 bytes of an empty row

abbrev pub load_of : ℕ → DeskCall
load_of serial =
    DeskCall.load
    (record { serial = serial; scheme = record { kind = 0; algorithm = 4; digits = 8 }; period = 30; limit = 5; wait = 600; expiry = record { 0 = 7000 } })
    (replicate 20 9)

-- state 1, errors 0, next 0, d 0, not locked, never used
abbrev pub loaded_row : ℕ → List ℕ
loaded_row serial =
    (1 ∷ 0 ∷ 4 ∷ 8 ∷ 30 ∷ 5 ∷ 0 ∷ 20 ∷ [])
    ++ (be_bytes 8 serial ++ ((replicate 20 9 ++ replicate 12 0) ++ (replicate 8 0 ++ (be_bytes 2 600 ++ (replicate 2 0 ++ (be_bytes 4 600 ++ (be_bytes 8 7000 ++ replicate 24 0)))))))

-- of a serial that a row has, of another one where no row is empty, and in an empty row whatever its other bytes are
abbrev pub load_lines : List Line
load_lines =
    record { call = load_of 9; rows = six_rows; cells = no 0x8411 ∷ no 0x8411 ∷ no 0x8411 ∷ no 0x8411 ∷ no 0x8411 ∷ no 0x8411 ∷ [] }
    ∷ record { call = load_of 8; rows = six_rows; cells = no 0x8410 ∷ no 0x8410 ∷ no 0x8410 ∷ no 0x8410 ∷ no 0x8410 ∷ no 0x8410 ∷ [] }
    ∷ record {
      call = load_of 9;
      rows = replicate 96 0 ∷ row_with 0 2 17 0 ∷ [];
      cells = cell 0x0140 [] (record { offset = 0; bytes = loaded_row 9 } ∷ []) ∷ cell 0x0140 [] (record { offset = 0; bytes = loaded_row 9 } ∷ []) ∷ [];
    }
    ∷ []

-- ---- which row is the serial's, and 8402 and 8403 before everything that the row decides

-- a row that is not well formed: its limit is 0
abbrev pub damaged : List ℕ
damaged = laid (row_with 2 2 17 0) 0 (record { offset = 5; bytes = 0 ∷ [] } ∷ [])

-- an empty row that has the serial
abbrev pub emptied : List ℕ
emptied = row_with 0 2 17 0

abbrev pub ready : List ℕ
ready = row_with 2 2 17 0

-- no row but an empty one; a damaged row, alone, before and behind a good one with the serial; an empty row before the good one
abbrev pub found_in : List (List ℕ)
found_in = replicate 96 0 ∷ emptied ∷ damaged ∷ (damaged ++ ready) ∷ (ready ++ damaged) ∷ (emptied ++ ready) ∷ []

abbrev pub unfound : Request → Line
unfound request = record { call = DeskCall.named request 9 1059; rows = emptied ∷ damaged ∷ (damaged ++ ready) ∷ []; cells = no 0x8402 ∷ no 0x8403 ∷ no 0x8403 ∷ [] }

abbrev pub found_lines : List Line
found_lines =
    record {
      call = DeskCall.named Request.lock 9 1059;
      rows = found_in;
      cells = no 0x8402 ∷ no 0x8402 ∷ no 0x8403 ∷ no 0x8403 ∷ cell 0x0102 [] (state 4 ∷ []) ∷ cell 0x0102 [] (record { offset = 96; bytes = 4 ∷ [] } ∷ []) ∷ [];
    }
    ∷ unfound (Request.login (digits 17))
    ∷ unfound (Request.challenge_login challenge (digits 4017))
    ∷ unfound (Request.activate (digits 17) (digits 18))
    ∷ unfound (Request.unlock (digits 17))
    ∷ unfound Request.suspend
    ∷ unfound (Request.resume (digits 17))
    ∷ unfound (Request.sync 1 (digits 17) (digits 18))
    ∷ unfound Request.void
    ∷ unfound Request.query
    -- a load looks at no more than states and serials
    ∷ record { call = load_of 9; rows = damaged ∷ (ready ++ emptied) ∷ (emptied ++ ready) ∷ []; cells = no 0x8411 ∷ no 0x8411 ∷ no 0x8411 ∷ [] }
    ∷ record {
      call = load_of 8;
      rows = damaged ∷ (ready ++ emptied) ∷ (emptied ++ emptied) ∷ [];
      cells = no 0x8410 ∷ cell 0x0140 [] (record { offset = 96; bytes = loaded_row 8 } ∷ []) ∷ cell 0x0140 [] (record { offset = 0; bytes = loaded_row 8 } ∷ []) ∷ [];
    }
    ∷ []

-- ---- what is marked: d with its sign, and errors up to 255

abbrev pub marked_lines : List Line
marked_lines =
    record {
      call = DeskCall.named (Request.login (digits 15)) 9 1059;
      rows = row_with 2 2 15 0 ∷ [];
      cells = cell 0x0001 (plus 15 ∷ minus 2 ∷ []) (errors 0 ∷ next 16 ∷ offset 598 ∷ last_use 1059 ∷ []) ∷ [];
    }
    ∷ record {
      call = DeskCall.named (Request.login (digits 19)) 9 1059;
      rows = row_with 2 2 15 0 ∷ [];
      cells = cell 0x0001 (plus 19 ∷ plus 2 ∷ []) (errors 0 ∷ next 20 ∷ offset 602 ∷ last_use 1059 ∷ []) ∷ [];
    }
    ∷ record {
      call = DeskCall.named (Request.sync 1 (digits 17) (digits 17)) 9 1059;
      rows = row_with 2 253 17 0 ∷ row_with 2 254 17 0 ∷ row_with 2 255 17 0 ∷ [];
      cells = cell 0x8105 [] (errors 254 ∷ []) ∷ cell 0x8105 [] (errors 255 ∷ []) ∷ no 0x8105 ∷ [];
    }
    -- an error held at 255 locks too; below the limit none does
    ∷ record {
      call = DeskCall.named (Request.login (digits 15)) 9 1059;
      rows = row_with 2 0 17 0 ∷ row_with 2 1 17 0 ∷ row_with 2 2 17 0 ∷ row_with 2 255 17 0 ∷ [];
      cells = cell 0x8004 [] (errors 1 ∷ []) ∷ cell 0x8004 [] (errors 2 ∷ []) ∷ cell 0x8004 [] (state 3 ∷ errors 3 ∷ locked_at 1059 ∷ []) ∷ cell 0x8004 [] (state 3 ∷ locked_at 1059 ∷ []) ∷ [];
    }
    ∷ []

pub call-table-holds
    : ((all_hold accepted_lines && all_hold used_lines) && (all_hold wrong_lines && all_hold miscounted_lines)) && ((all_hold waited_lines && all_hold expired_lines) && (all_hold load_lines && (all_hold found_lines && all_hold marked_lines)))
    ≡ true
unfolding be_at be_bytes put_be same_bytes all_zero all_within decimals challenge_ok password_ok number_from digits_of time_candidate candidate beyond smallest how_many checked fresh_matches single_check pair_check
    row_at before_key step_bytes time_bytes render number_tests numbers_ok zeros_ok well_formed has_serial first_row find_row find_empty located store_row wipe_key write_row
    signed_of values_of wait_over waited with_state accepted failed deciding decided served_at table_ok challenge_given request_ok load_ok desk_after
call-table-holds = refl
