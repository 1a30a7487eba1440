-- What dl_check gives and leaves: the check of document 01, Part 3, by a token's numbers, with what document 02 adds to it.
use Rattle.std.specs.Prelude.{ℕ, Bool, ◌&&◌, ◌||◌, not, cond, List, [], ◌∷◌, eqb, leb, ltb, length, drop, Option, Some, None}
use Rattle.words.specs.Codes.{done, bad_argument}
use Rattle.words.specs.Output.{Left}
use Rattle.otp.specs.Typed.{password_ok, as_password}
use Rattle.window.specs.declared.Size.{Size}
use Rattle.window.specs.declared.Size.TheVariants.{Small, Medium, Large}
use Rattle.window.specs.declared.Track.{Track}
use Rattle.window.specs.declared.Outcome.{Outcome}
use Rattle.window.specs.declared.Outcome.TheVariants.{Accepted, Several, Again, Used, Wrong}
use Rattle.window.specs.declared.asked.Asked.{Asked}
use Rattle.window.specs.declared.asked.Asked.TheVariants.{One, Challenged, Two}
use Rattle.window.specs.PasswordAt.{password_at, in_range, has_by}
use Rattle.window.specs.TokenCheck.{fresh_matches, single_check, pair_check}
use Rattle.window.specs.Sweep.{computed_to, acceptances}
use Rattle.row.specs.Row.{track_ok}
use Rattle.desk.specs.Requests.{clock_ok}
use Rattle.capi.specs.Stored.{left}

abbrev pub track_of : ℕ → ℕ → ℕ → ℕ → ℕ → ℕ → Track
track_of kind algorithm digits period next offset =
    record { scheme = record { kind = kind; algorithm = algorithm; digits = digits }; period = period; next = record { 0 = next }; offset = record { 0 = offset } }

-- the header's numbers of the sizes, 1 to 3
abbrev pub size_of : ℕ → Size
size_of number = cond (eqb number 1) Small (cond (eqb number 2) Medium Large)

-- ---- arguments in range

abbrev pub size_ok : ℕ → Bool
size_ok number = leb 1 number && leb number 3

-- Part 2: the algorithm, the key, Q and the count of digits; Part 3: the clock and the window's size;
-- Part 4: the kind, the period, the first unused step and d + 600
unfoldable pub check_numbers_ok : Track → ℕ → ℕ → List ℕ → List ℕ → Bool
check_numbers_ok k clock size key challenge = in_range k.scheme key challenge && (clock_ok clock && size_ok size) && track_ok k

-- one password of 6 to 10 ASCII digits, or two such as a pair, which has no Q
unfoldable pub passwords_ok : List ℕ → List ℕ → List ℕ → Bool
passwords_ok challenge presented following =
    password_ok presented && (eqb (length following) 0 || (eqb (length challenge) 0 && password_ok following))

unfoldable pub check_arguments_ok : Track → ℕ → ℕ → List ℕ → List ℕ → List ℕ → List ℕ → Bool
check_arguments_ok k clock size key challenge presented following = check_numbers_ok k clock size key challenge && passwords_ok challenge presented following

-- ---- what is asked of the window

-- one password, with its Q where there is one, or a pair
abbrev pub asked_of : Size → List ℕ → List ℕ → List ℕ → Asked
asked_of size challenge presented following =
    cond (eqb (length following) 0)
    (cond (eqb (length challenge) 0) (One size (as_password presented)) (Challenged size (as_password presented)))
    (Two size (as_password presented) (as_password following))

unfoldable pub presented_of : Size → List ℕ → List ℕ → List ℕ → Option Asked
presented_of size challenge presented following =
    cond (passwords_ok challenge presented following) (Some (asked_of size challenge presented following)) None

-- ---- the check

-- the single check of the presented password, with its Q; or the pair check of both, with none
unfoldable pub check_of : Track → ℕ → Size → List ℕ → List ℕ → List ℕ → List ℕ → Outcome
check_of k clock size key challenge presented following =
    cond (eqb (length following) 0)
    (single_check k clock size (has_by password_at k.scheme key challenge presented))
    (pair_check k clock size (has_by password_at k.scheme key [] presented) (has_by password_at k.scheme key [] following))

-- each presented password has the token's count of digits
abbrev pub digits_right : ℕ → List ℕ → List ℕ → Bool
digits_right digits presented following = eqb (length presented) digits && (eqb (length following) 0 || eqb (length following) digits)

-- how many passwords it computes (document 02, Ask 2)
unfoldable pub check_computed : Track → ℕ → Size → List ℕ → List ℕ → List ℕ → List ℕ → ℕ
check_computed k clock size key challenge presented following =
    cond (digits_right k.scheme.digits presented following) (computed_to (not (eqb (length following) 0)) k clock size (check_of k clock size key challenge presented following)) 0

-- how many unused steps match (document 02, Ask 5); a pair's check looks for no second
unfoldable pub check_fresh : Track → ℕ → Size → List ℕ → List ℕ → List ℕ → List ℕ → ℕ
check_fresh k clock size key challenge presented following =
    cond (eqb (length following) 0)
    (fresh_matches k clock size (has_by password_at k.scheme key challenge presented))
    (acceptances (check_of k clock size key challenge presented following))

-- ---- what is left: the code, the accepted step and the two counts

pub record CheckLeft : Type 0 where
  pub code : ℕ
  pub step : List ℕ
  pub computed : List ℕ
  pub fresh : List ℕ

abbrev pub checked : ℕ → List ℕ → List ℕ → List ℕ → CheckLeft
checked code step computed fresh = record { code = code; step = step; computed = computed; fresh = fresh }

-- an accepted step goes to the first element; any other outcome leaves that output as it was
abbrev pub outcome_left : Outcome → List ℕ → Left
outcome_left (Accepted s) out = left done (s.0 ∷ drop 1 out)
outcome_left Several out = left 0x8001 out
outcome_left Again out = left 0x8004 out
outcome_left Used out = left 0x8004 out
outcome_left Wrong out = left 0x8002 out

-- each count goes to the first element of its output, whatever the outcome
abbrev pub outcome_counted : Outcome → ℕ → ℕ → List ℕ → List ℕ → List ℕ → CheckLeft
outcome_counted o made matched step computed fresh =
    checked (outcome_left o step).code (outcome_left o step).out (made ∷ drop 1 computed) (matched ∷ drop 1 fresh)

-- every output has room
abbrev pub room_for : List ℕ → List ℕ → List ℕ → Bool
room_for step computed fresh = ltb 0 (length step) && (ltb 0 (length computed) && ltb 0 (length fresh))

unfoldable pub check_left : Track → ℕ → ℕ → List ℕ → List ℕ → List ℕ → List ℕ → List ℕ → List ℕ → List ℕ → CheckLeft
check_left k clock size key challenge presented following step computed fresh =
    cond (check_arguments_ok k clock size key challenge presented following && room_for step computed fresh)
    (outcome_counted (check_of k clock (size_of size) key challenge presented following) (check_computed k clock (size_of size) key challenge presented following)
    (check_fresh k clock (size_of size) key challenge presented following) step computed fresh)
    (checked bad_argument step computed fresh)
