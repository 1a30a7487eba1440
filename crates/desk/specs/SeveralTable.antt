-- Two steps with one password (document 02, Ask 5) at the desk, as lines of data with one proof. Of the candidates 15 to 19, 17 to 19 are fresh.
use Rattle.std.specs.Prelude.{ℕ, ◌+◌, ◌*◌, ◌%◌, ◌≡◌, refl, true, ◌&&◌, List, [], ◌∷◌, length}
use Rattle.words.specs.Bytes.{be_at, be_bytes, put_be}
use Rattle.words.specs.Lists.{same_bytes, all_zero, all_within}
use Rattle.otp.specs.Password.{decimals, challenge_ok}
use Rattle.otp.specs.Numbers.{number_from}
use Rattle.otp.specs.Typed.{password_ok, digits_of}
use Rattle.window.specs.Window.{time_candidate, candidate, beyond}
use Rattle.window.specs.Check.{smallest, how_many, checked}
use Rattle.window.specs.PasswordAt.{PasswordRule}
use Rattle.window.specs.TokenCheck.{fresh_matches, single_check, pair_check}
use Rattle.row.specs.Row.{row_at, number_tests, numbers_ok, zeros_ok, well_formed}
use Rattle.row.specs.Table.{has_serial, first_row, find_row, located, store_row}
use Rattle.token.specs.Codes.{signed_of, values_of}
use Rattle.token.specs.Codes.Signed.{plus}
use Rattle.token.specs.States.{wait_over, waited, with_state, accepted, failed}
use Rattle.token.specs.Deciding.{deciding, decided}
use Rattle.desk.specs.Requests.{Request, DeskCall, table_ok, challenge_given, request_ok}
use Rattle.desk.specs.Desk.{served_at, desk_after}
use Rattle.desk.specs.Demand1Bytes.{errors, next, offset, last_use}
use Rattle.desk.specs.CallLines.{row_with, cell, no, Line, line, all_hold_by}
use Rattle.desk.specs.CallTable.{digits, challenge, pair, failed_login, ran_out}

-- step s has the password s modulo m, and 1000 more for each byte of the challenge
abbrev pub remainders : ℕ → PasswordRule
remainders m scheme key challenge s = decimals scheme.digits (s % m + 1000 * length challenge)

-- modulo 2: 17 and 19 have the password 1, 18 alone has 0, which the used step 16 has too
abbrev pub two_lines : List Line
two_lines =
    line (Request.login (digits 1)) 1059
    (no 0x8406) (no 0x8001) (no 0x8404) (no 0x8404) (no 0x8405) (no 0x8407)
    ∷ line (Request.challenge_login challenge (digits 4001)) 1059
    (no 0x8406) (no 0x8001) (no 0x8404) (no 0x8404) (no 0x8405) (no 0x8407)
    ∷ line (Request.unlock (digits 1)) 1059
    (no 0x8406) (no 0x8409) (no 0x8101) (no 0x8101) (no 0x8405) (no 0x8407)
    ∷ line (Request.resume (digits 1)) 1059
    (no 0x8406) (no 0x8409) (no 0x8404) (no 0x8404) (no 0x8101) (no 0x8407)
    -- a wait that has run out stays so
    ∷ line (Request.login (digits 1)) 1060
    (no 0x8406) (no 0x8001) (cell 0x8001 [] ran_out) (no 0x8404) (no 0x8405) (no 0x8407)
    ∷ line (Request.challenge_login challenge (digits 4001)) 1060
    (no 0x8406) (no 0x8001) (cell 0x8001 [] ran_out) (no 0x8404) (no 0x8405) (no 0x8407)
    ∷ line (Request.unlock (digits 1)) 1060
    (no 0x8406) (no 0x8409) (cell 0x8409 [] ran_out) (no 0x8101) (no 0x8405) (no 0x8407)
    ∷ line (Request.resume (digits 1)) 1060
    (no 0x8406) (no 0x8409) (cell 0x8409 [] ran_out) (no 0x8404) (no 0x8101) (no 0x8407)
    -- the expiry comes before
    ∷ line (Request.login (digits 1)) 5000
    (no 0x8406) (no 0x8408) (cell 0x8408 [] ran_out) (no 0x8404) (no 0x8405) (no 0x8407)
    -- one fresh step is accepted, used ones or not
    ∷ line (Request.login (digits 0)) 1059
    (no 0x8406) (pair 0x0001 1059 []) (no 0x8404) (no 0x8404) (no 0x8405) (no 0x8407)
    -- a pair is, whatever pairs follow
    ∷ line (Request.sync 1 (digits 1) (digits 0)) 1059
    (no 0x8406) (pair 0x0108 1059 []) (pair 0x0108 1059 []) (pair 0x0108 1059 []) (no 0x8405) (no 0x8407)
    -- at the limit no error is added; with one fresh step left, 19, it is accepted
    ∷ record {
      call = DeskCall.named (Request.login (digits 1)) 9 1059;
      rows = row_with 2 255 17 0 ∷ row_with 2 2 18 0 ∷ [];
      cells = no 0x8001 ∷ cell 0x0001 (plus 19 ∷ plus 2 ∷ []) (errors 0 ∷ next 20 ∷ offset 602 ∷ last_use 1059 ∷ []) ∷ [];
    }
    ∷ []

-- modulo 1: every step has the password 0, three fresh ones among them, or two, one and none
abbrev pub three_lines : List Line
three_lines =
    line (Request.login (digits 0)) 1059
    (no 0x8406) (no 0x8001) (no 0x8404) (no 0x8404) (no 0x8405) (no 0x8407)
    ∷ line (Request.unlock (digits 0)) 1059
    (no 0x8406) (no 0x8409) (no 0x8101) (no 0x8101) (no 0x8405) (no 0x8407)
    ∷ failed_login (Request.login (digits 1)) 0x8002
    ∷ record {
      call = DeskCall.named (Request.login (digits 0)) 9 1059;
      rows = row_with 2 0 18 0 ∷ row_with 2 0 19 0 ∷ row_with 2 0 20 0 ∷ row_with 2 0 21 0 ∷ [];
      cells = no 0x8001 ∷ cell 0x0001 (plus 19 ∷ plus 2 ∷ []) (next 20 ∷ offset 602 ∷ last_use 1059 ∷ []) ∷ no 0x8004 ∷ cell 0x8004 [] (errors 1 ∷ []) ∷ [];
    }
    ∷ []

pub several-table-holds : all_hold_by (remainders 2) two_lines && all_hold_by (remainders 1) three_lines ≡ true
unfolding be_at be_bytes put_be same_bytes all_zero all_within decimals challenge_ok password_ok number_from digits_of time_candidate candidate beyond smallest how_many checked fresh_matches single_check pair_check
    row_at number_tests numbers_ok zeros_ok well_formed has_serial first_row find_row located store_row
    signed_of values_of wait_over waited with_state accepted failed deciding decided served_at table_ok challenge_given request_ok desk_after
several-table-holds = refl
