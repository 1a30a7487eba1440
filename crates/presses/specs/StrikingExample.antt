-- Presses cannot be struck from every list: one lets a wait run out, and a clock that goes back then finds its token ready. Computed, for a token that was locked
-- by errors at 1000 with a wait of 60 seconds.
use Rattle.token.specs.Answers.{Answer}
use Rattle.std.specs.Prelude.{ℕ, ◌≡◌, refl, List, [], ◌∷◌}
use Rattle.words.specs.Bytes.{be_at, be_bytes, put_be}
use Rattle.words.specs.Lists.{same_bytes, all_zero, all_within}
use Rattle.otp.specs.Password.{decimals}
use Rattle.otp.specs.Numbers.{number_from}
use Rattle.otp.specs.Typed.{password_ok, digits_of}
use Rattle.window.specs.Window.{time_candidate, candidate, beyond}
use Rattle.window.specs.Check.{smallest, how_many, checked}
use Rattle.window.specs.TokenCheck.{fresh_matches, single_check}
use Rattle.row.specs.Row.{row_at, number_tests, numbers_ok, zeros_ok, well_formed}
use Rattle.row.specs.Table.{has_serial, first_row, find_row, located, store_row}
use Rattle.token.specs.Codes.{number_of}
use Rattle.token.specs.States.{wait_over, waited, with_state, accepted, failed}
use Rattle.token.specs.Deciding.{deciding, decided}
use Rattle.desk.specs.Requests.{Request, DeskCall, table_ok, request_ok}
use Rattle.desk.specs.Desk.{served_at, desk_after, run}
use Rattle.desk.specs.CallLines.{row_with, by_steps}
use Rattle.presses.specs.Presses.{is_press, others, struck}

abbrev pub table : List ℕ
table = row_with 3 2 17 1000

-- a press at 1060, and the right login at 1059
abbrev pub calls : List DeskCall
calls = DeskCall.named (Request.login (decimals 6 16)) 9 1060 ∷ DeskCall.named (Request.login (decimals 6 17)) 9 1059 ∷ []

abbrev pub numbers : List Answer → List ℕ
numbers [] = []
numbers (a ∷ answers) = number_of a ∷ numbers answers

-- the login is accepted behind the press, and refused without it
pub striking-differs
    : (numbers (run by_steps calls table).answers ≡ 0x8004 ∷ 0x0001 ∷ [])
    × ((numbers (others by_steps calls table (run by_steps calls table).answers) ≡ 0x0001 ∷ [])
    × (numbers (run by_steps (struck by_steps calls table) table).answers ≡ 0x8404 ∷ []))
unfolding be_at be_bytes put_be same_bytes all_zero all_within decimals password_ok number_from digits_of time_candidate candidate beyond smallest how_many checked fresh_matches single_check
    row_at number_tests numbers_ok zeros_ok well_formed has_serial first_row find_row located store_row
    wait_over waited with_state accepted failed deciding decided served_at table_ok request_ok desk_after run is_press others struck
striking-differs = (refl, (refl, refl))
