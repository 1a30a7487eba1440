-- The arguments of the calls (document 01, "What a turned-down call says", 9005), as a table with one proof through the desk: each at both ends of its
-- range, where it is taken, and beyond them, where the call is refused and no byte changes.
use Rattle.std.specs.Prelude.{ℕ, ◌+◌, ◌-◌, ◌*◌, ◌^◌, ◌≡◌, refl, Bool, true, not, ◌&&◌, List, [], ◌∷◌, ◌++◌, eqb, replicate}
use Rattle.words.specs.Bytes.{be_at, be_bytes, put_be}
use Rattle.words.specs.Lists.{same_bytes, all_zero, all_within}
use Rattle.otp.specs.Password.{decimals, challenge_ok}
use Rattle.otp.specs.Numbers.{number_from}
use Rattle.otp.specs.Typed.{password_ok, digits_of, as_password}
use Rattle.window.specs.Window.{time_candidate, candidate, beyond}
use Rattle.window.specs.Check.{smallest, how_many, checked}
use Rattle.window.specs.TokenCheck.{fresh_matches, single_check, pair_check}
use Rattle.row.specs.Row.{row_bytes, row_at, number_tests, numbers_ok, zeros_ok, well_formed}
use Rattle.row.specs.Table.{has_serial, first_row, find_row, find_empty, located, store_row, wipe_key}
use Rattle.token.specs.declared.lines.Request.{Request as Valued}
use Rattle.token.specs.Codes.{number_of}
use Rattle.token.specs.States.{wait_over, waited, with_state, accepted, failed}
use Rattle.token.specs.Deciding.{deciding, decided}
use Rattle.desk.specs.Requests.{Request, DeskCall, table_ok, challenge_given, request_ok, load_ok}
use Rattle.desk.specs.Desk.{Result, served_at, served, desk_after}
use Rattle.desk.specs.CallLines.{row_with, by_steps}

-- a ready token with the serial 9 is all of the table
abbrev pub one_row : List ℕ
one_row = row_with 2 2 17 0

-- ---- the calls' own arguments

abbrev pub is_refused : Result → Bool
is_refused x = eqb (number_of x.answer) 0x9005

abbrev pub all_taken : List DeskCall → Bool
all_taken [] = true
all_taken (call ∷ calls) = not (is_refused (desk_after by_steps call one_row)) && all_taken calls

abbrev pub all_refused : List DeskCall → Bool
all_refused [] = true
all_refused (call ∷ calls) = (is_refused (desk_after by_steps call one_row) && same_bytes (desk_after by_steps call one_row).table one_row) && all_refused calls

-- a request to that token at a clock reading
abbrev pub ask : Request → ℕ → DeskCall
ask request clock = DeskCall.named request 9 clock

abbrev pub digits : List ℕ
digits = replicate 6 0x30

-- the clock is below 2^40, of every call but load
abbrev pub timed : ℕ → List DeskCall
timed clock =
    ask (Request.login digits) clock
    ∷ ask (Request.challenge_login (replicate 4 0x21) digits) clock
    ∷ ask (Request.activate digits digits) clock
    ∷ ask Request.lock clock
    ∷ ask (Request.unlock digits) clock
    ∷ ask Request.suspend clock
    ∷ ask (Request.resume digits) clock
    ∷ ask (Request.sync 1 digits digits) clock
    ∷ ask Request.void clock
    ∷ ask Request.query clock
    ∷ []

-- a password in each place that has one
abbrev pub presented : List ℕ → List DeskCall
presented p =
    ask (Request.login p) 1059
    ∷ ask (Request.challenge_login (replicate 4 0x21) p) 1059
    ∷ ask (Request.activate p digits) 1059
    ∷ ask (Request.activate digits p) 1059
    ∷ ask (Request.unlock p) 1059
    ∷ ask (Request.resume p) 1059
    ∷ ask (Request.sync 1 p digits) 1059
    ∷ ask (Request.sync 2 digits p) 1059
    ∷ []

abbrev pub challenged : List ℕ → List DeskCall
challenged q = ask (Request.challenge_login q digits) 1059 ∷ []

abbrev pub chosen : ℕ → List DeskCall
chosen choice = ask (Request.sync choice digits digits) 1059 ∷ []

-- 6 to 10 ASCII digits; 4 to 32 bytes, each 21 to 7e; sync 1 or 2
abbrev pub taken_calls : List DeskCall
taken_calls =
    timed 0
    ++ (timed (2 ^ 40 - 1)
    ++ (presented (replicate 6 0x30)
    ++ (presented (replicate 6 0x39)
    ++ (presented (replicate 10 0x30)
    ++ (challenged (replicate 4 0x21) ++ (challenged (replicate 32 0x21) ++ (challenged (replicate 4 0x7e) ++ (chosen 1 ++ chosen 2))))))))

abbrev pub refused_calls : List DeskCall
refused_calls =
    timed (2 ^ 40)
    ++ (presented []
    ++ (presented (replicate 5 0x30)
    ++ (presented (replicate 11 0x30)
    ++ (presented (0x2f ∷ replicate 5 0x30)
    ++ (presented (replicate 5 0x30 ++ (0x3a ∷ []))
    ++ (challenged []
    ++ (challenged (replicate 3 0x21)
    ++ (challenged (replicate 33 0x21)
    ++ (challenged (0x20 ∷ replicate 3 0x21) ++ (challenged (replicate 3 0x21 ++ (0x7f ∷ [])) ++ (chosen 0 ++ chosen 3)))))))))))

-- ---- a request by value: a challenge login needs its challenge, any other request goes without one

abbrev pub served_with : Valued → List ℕ → Result
served_with request q = served by_steps request q 9 1059 one_row

abbrev pub challenge_taken : Valued → List ℕ → Bool
challenge_taken request q = not (is_refused (served_with request q))

abbrev pub challenge_refused : Valued → List ℕ → Bool
challenge_refused request q = is_refused (served_with request q) && same_bytes (served_with request q).table one_row

abbrev pub by_challenge : Valued
by_challenge = Valued.ChallengeLogin (as_password digits)

pub lent-challenges-hold :
    (challenge_taken by_challenge (replicate 4 0x21) && challenge_taken Valued.Lock [])
    && (challenge_refused by_challenge [] && (challenge_refused by_challenge (replicate 3 0x21) && challenge_refused Valued.Lock (replicate 3 0x21)))
    ≡ true
unfolding be_at be_bytes put_be same_bytes all_zero all_within decimals challenge_ok number_from digits_of time_candidate candidate beyond smallest how_many checked fresh_matches single_check
    row_at number_tests numbers_ok zeros_ok well_formed has_serial first_row find_row located store_row
    wait_over waited with_state accepted failed deciding decided served_at table_ok challenge_given served
lent-challenges-hold = refl

-- ---- a load's values; a load that is taken finds the table full

abbrev pub loading : ℕ → ℕ → ℕ → ℕ → ℕ → ℕ → ℕ → ℕ → ℕ → DeskCall
loading serial kind algorithm digits period limit key_length wait expiry =
    DeskCall.load
    (record { serial = serial; scheme = record { kind = kind; algorithm = algorithm; digits = digits }; period = period; limit = limit; wait = wait; expiry = record { 0 = expiry } })
    (replicate key_length 7)

abbrev pub taken_loads : List DeskCall
taken_loads =
    loading 0 0 3 6 1 1 16 60 0
    ∷ loading (2 ^ 64 - 1) 0 4 10 60 10 32 86400 (2 ^ 40)
    ∷ loading 1 1 3 6 0 5 16 60 0
    ∷ []

-- one value of a load that would be taken is beyond its range
abbrev pub refused_loads : List DeskCall
refused_loads =
    loading (2 ^ 64) 0 3 6 30 5 16 60 0
    ∷ loading 1 2 3 6 0 5 16 60 0
    ∷ loading 1 0 2 6 30 5 16 60 0
    ∷ loading 1 0 5 6 30 5 16 60 0
    ∷ loading 1 0 3 5 30 5 16 60 0
    ∷ loading 1 0 3 11 30 5 16 60 0
    ∷ loading 1 0 3 6 0 5 16 60 0
    ∷ loading 1 0 3 6 61 5 16 60 0
    ∷ loading 1 1 3 6 1 5 16 60 0
    ∷ loading 1 0 3 6 30 0 16 60 0
    ∷ loading 1 0 3 6 30 11 16 60 0
    ∷ loading 1 0 3 6 30 5 15 60 0
    ∷ loading 1 0 3 6 30 5 33 60 0
    ∷ loading 1 0 3 6 30 5 16 59 0
    ∷ loading 1 0 3 6 30 5 16 86401 0
    ∷ loading 1 0 3 6 30 5 16 60 (2 ^ 40 + 1)
    ∷ []

pub arguments-hold : (all_taken taken_calls && all_refused refused_calls) && (all_taken taken_loads && all_refused refused_loads) ≡ true
unfolding be_at be_bytes put_be same_bytes all_zero all_within decimals challenge_ok password_ok number_from digits_of time_candidate candidate beyond smallest how_many checked fresh_matches single_check pair_check
    row_at number_tests numbers_ok zeros_ok well_formed has_serial first_row find_row find_empty located store_row wipe_key
    wait_over waited with_state accepted failed deciding decided served_at table_ok challenge_given request_ok load_ok desk_after
arguments-hold = refl

-- ---- the table has 96 times 1 to 256 bytes

abbrev pub taken_lengths : Bool
taken_lengths = table_ok row_bytes (replicate 96 0) && table_ok row_bytes (replicate (96 * 256) 0)

abbrev pub refused_lengths : Bool
refused_lengths = (not (table_ok row_bytes []) && not (table_ok row_bytes (replicate 95 0))) && (not (table_ok row_bytes (replicate 97 0)) && not (table_ok row_bytes (replicate (96 * 257) 0)))

pub table_lengths_hold : taken_lengths && refused_lengths ≡ true
unfolding table_ok
table_lengths_hold = refl

-- and a call on a table of another length is refused, load included
pub other_lengths_refused : (is_refused (desk_after by_steps (ask Request.query 0) []) && is_refused (desk_after by_steps (loading 0 0 3 6 1 1 16 60 0) (replicate 97 0))) ≡ true
unfolding table_ok desk_after
other_lengths_refused = refl
