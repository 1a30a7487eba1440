-- The double press (document 02, Ask 4) at the desk, as lines of data with one proof: of the candidates 15 to 19, 16 is the one before the first unused step.
use Rattle.std.specs.Prelude.{◌≡◌, refl, true, ◌&&◌, List, [], ◌∷◌}
use Rattle.words.specs.Bytes.{be_at, be_bytes, put_be}
use Rattle.words.specs.Lists.{same_bytes, all_zero, all_within}
use Rattle.otp.specs.Password.{decimals, challenge_ok}
use Rattle.otp.specs.Numbers.{number_from}
use Rattle.otp.specs.Typed.{password_ok, digits_of}
use Rattle.window.specs.Window.{time_candidate, candidate, beyond}
use Rattle.window.specs.Check.{smallest, how_many, checked}
use Rattle.window.specs.TokenCheck.{fresh_matches, single_check, pair_check}
use Rattle.row.specs.Row.{row_at, number_tests, numbers_ok, zeros_ok, well_formed}
use Rattle.row.specs.Table.{has_serial, first_row, find_row, located, store_row}
use Rattle.token.specs.Codes.{signed_of, values_of}
use Rattle.token.specs.States.{wait_over, waited, with_state, accepted, failed}
use Rattle.token.specs.Deciding.{deciding, decided}
use Rattle.desk.specs.Requests.{Request, DeskCall, table_ok, challenge_given, request_ok}
use Rattle.desk.specs.Desk.{served_at, desk_after}
use Rattle.desk.specs.Demand1Bytes.{state, errors, locked_at}
use Rattle.desk.specs.CallLines.{row_with, cell, no, Line, line, all_hold, all_hold_by}
use Rattle.desk.specs.CallTable.{digits, challenge, pair, failed_activation, failed_unlock, failed_resume, failed_sync, ran_out}
use Rattle.desk.specs.SeveralTable.{remainders}

-- every call in every state: only the two logins forgive it
abbrev pub press_lines : List Line
press_lines =
    line (Request.login (digits 16)) 1059
    (no 0x8406) (no 0x8004) (no 0x8404) (no 0x8404) (no 0x8405) (no 0x8407)
    ∷ line (Request.challenge_login challenge (digits 4016)) 1059
    (no 0x8406) (no 0x8004) (no 0x8404) (no 0x8404) (no 0x8405) (no 0x8407)
    ∷ failed_unlock (Request.unlock (digits 16)) 0x8104
    ∷ failed_resume (Request.resume (digits 16)) 0x8104
    -- a pair that begins there is used, since it is fresh by its first step
    ∷ failed_activation (Request.activate (digits 16) (digits 17)) 0x8104
    ∷ failed_sync (Request.sync 1 (digits 16) (digits 17)) 0x8104
    ∷ failed_sync (Request.sync 2 (digits 16) (digits 17)) 0x8104
    -- a wait that has run out stays so
    ∷ line (Request.login (digits 16)) 1060
    (no 0x8406) (no 0x8004) (cell 0x8004 [] ran_out) (no 0x8404) (no 0x8405) (no 0x8407)
    ∷ line (Request.challenge_login challenge (digits 4016)) 1060
    (no 0x8406) (no 0x8004) (cell 0x8004 [] ran_out) (no 0x8404) (no 0x8405) (no 0x8407)
    -- the expiry comes before: step 82, where 83 is T
    ∷ record { call = DeskCall.named (Request.login (digits 82)) 9 5000; rows = row_with 2 2 83 0 ∷ []; cells = no 0x8408 ∷ [] }
    -- at the limit and above no lock; a password without its challenge is wrong; without a used step there is no press
    ∷ record {
      call = DeskCall.named (Request.login (digits 16)) 9 1059;
      rows = row_with 2 3 17 0 ∷ row_with 2 9 17 0 ∷ row_with 2 255 17 0 ∷ [];
      cells = no 0x8004 ∷ no 0x8004 ∷ no 0x8004 ∷ [];
    }
    ∷ record {
      call = DeskCall.named (Request.challenge_login challenge (digits 16)) 9 1059;
      rows = row_with 2 0 17 0 ∷ [];
      cells = cell 0x8002 [] (errors 1 ∷ []) ∷ [];
    }
    ∷ record { call = DeskCall.named (Request.login (digits 0)) 9 119; rows = row_with 2 0 1 0 ∷ row_with 2 0 2 0 ∷ []; cells = no 0x8004 ∷ cell 0x8004 [] (errors 1 ∷ []) ∷ [] }
    -- the step before the first unused one is no candidate: 14 is none, and 18 leaves 19 the last; an older step that matches counts
    ∷ record {
      call = DeskCall.named (Request.login (digits 14)) 9 1059;
      rows = row_with 2 0 15 0 ∷ [];
      cells = cell 0x8002 [] (errors 1 ∷ []) ∷ [];
    }
    ∷ record {
      call = DeskCall.named (Request.login (digits 17)) 9 1059;
      rows = row_with 2 0 18 0 ∷ row_with 2 0 19 0 ∷ row_with 2 2 40 0 ∷ [];
      cells = no 0x8004 ∷ cell 0x8004 [] (errors 1 ∷ []) ∷ cell 0x8004 [] (state 3 ∷ errors 3 ∷ locked_at 1059 ∷ []) ∷ [];
    }
    ∷ []

-- modulo 2: 16 and 18 have the password 0, 15, 17 and 19 have 1; an older step beside the last used one changes nothing, a fresh one is accepted
abbrev pub beside_lines : List Line
beside_lines =
    line (Request.login (digits 0)) 1059
    (no 0x8406) (pair 0x0001 1059 []) (no 0x8404) (no 0x8404) (no 0x8405) (no 0x8407)
    ∷ record {
      call = DeskCall.named (Request.login (digits 0)) 9 1059;
      rows = row_with 2 2 19 0 ∷ row_with 2 2 20 0 ∷ [];
      cells = no 0x8004 ∷ cell 0x8004 [] (state 3 ∷ errors 3 ∷ locked_at 1059 ∷ []) ∷ [];
    }
    ∷ []

pub press-table-holds : all_hold press_lines && all_hold_by (remainders 2) beside_lines ≡ true
unfolding be_at be_bytes put_be same_bytes all_zero all_within decimals challenge_ok password_ok number_from digits_of time_candidate candidate beyond smallest how_many checked fresh_matches single_check pair_check
    row_at number_tests numbers_ok zeros_ok well_formed has_serial first_row find_row located store_row
    signed_of values_of wait_over waited with_state accepted failed deciding decided served_at table_ok challenge_given request_ok desk_after
press-table-holds = refl
