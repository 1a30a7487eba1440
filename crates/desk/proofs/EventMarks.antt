-- What a checked success marks of an event token (document 01, Part 3): next, errors and last use; d stays 0. A double press marks nothing. An event token's steps are too many to
-- be computed one by one, so that the check's outcome comes from its meaning, and the rest computes.
use Rattle.std.specs.Prelude.{ℕ, ◌+◌, ◌-◌, ◌≤◌, ◌<◌, ◌≡◌, refl, Bool, true, false, not, [], ◌∷◌, ◌⊎◌, leb, replicate}
use Rattle.std.proofs.Common.{inl, inr, ⊎_elim, arith, le-ltb}
use Rattle.std.proofs.lemmas.Bool.{not-true}
use Rattle.std.proofs.lemmas.List.{length-replicate}
use Rattle.words.specs.BoolLaws.{and_left, and_right, and_false, clash}
use Rattle.words.specs.Bytes.{be_at, be_bytes, put_be}
use Rattle.words.specs.Lists.{same_bytes, all_zero, all_within}
use Rattle.words.specs.Entries.{every, entry_rule}
use Rattle.otp.specs.Password.{decimals}
use Rattle.otp.specs.Numbers.{number_from}
use Rattle.otp.specs.Typed.{password_ok, digits_of}
use Rattle.window.specs.declared.Size.TheVariants.{Small, Large}
use Rattle.window.specs.declared.Outcome.TheVariants.{Accepted, Again}
use Rattle.window.specs.Window.{event_candidate, candidate}
use Rattle.window.specs.WindowTable.{event_track}
use Rattle.window.specs.Range.{first_step, end_step}
use Rattle.window.specs.WindowLaws.{candidates_are-range}
use Rattle.window.proofs.CheckLaws.{order}
use Rattle.window.specs.Check.{fresh_hit, single_hit, pair_hit}
use Rattle.window.proofs.Meaning.{First, Only, single_means, pair_means}
use Rattle.window.specs.PasswordAt.{has_by}
use Rattle.window.specs.TokenCheck.{single_check, pair_check}
use Rattle.row.specs.Row.{row_at, number_tests, numbers_ok, zeros_ok, well_formed}
use Rattle.row.specs.Table.{has_serial, first_row, find_row, located, store_row}
use Rattle.token.specs.Codes.{signed_of, values_of}
use Rattle.token.specs.Codes.Signed.{plus}
use Rattle.token.specs.States.{wait_over, waited, with_state, accepted}
use Rattle.token.specs.Deciding.{deciding, decided}
use Rattle.desk.specs.Requests.{Request, DeskCall, table_ok, request_ok}
use Rattle.desk.specs.Desk.{served_at, desk_after}
use Rattle.desk.specs.Demand1Bytes.{state, errors, next, last_use}
use Rattle.desk.specs.CallLines.{row_by, cell, no, by_steps, cell_holds}

-- step s of the token has this password
abbrev has : ℕ → ℕ → Bool
has password = has_by by_steps (record { kind = 1; algorithm = 3; digits = 6 }) (replicate 16 7) [] (decimals 6 password)

-- a test that computes at each number below n
none_below : (test : ℕ → Bool) (n : ℕ) → every (λ i entry. not (test i)) 0 (replicate n 0) ≡ true → (r : ℕ) → r < n → test r ≡ false
none_below test n t r l = not-true (test r) (entry_rule (λ i entry. not (test i)) (replicate n 0) t r (rw length-replicate l))

none_between : (test : ℕ → Bool) (m n : ℕ) → every (λ i entry. not (test (m + i))) 0 (replicate n 0) ≡ true → (r : ℕ) → m ≤ r → r < m + n → test r ≡ false
none_between test m n t r l u = let e : r ≡ m + (r - m) = omega arith in rw e (none_below (λ i. test (m + i)) n t (r - m) (omega arith))

-- the candidates end with 16
past_candidates : (r : ℕ) → 17 ≤ r → candidate (event_track 7) 1059 Small r ≡ false
unfolding end_step
past_candidates r l = rw (candidates_are-range (event_track 7) 1059 Small r, le-ltb r 17 l) (and_false (leb (first_step (event_track 7) 1059 Small) r))

-- ---- a login with step 9, where step 7 is the first unused one

abbrev nine : ℕ → Bool
nine = fresh_hit (single_hit (candidate (event_track 7) 1059 Small) (has 9)) 7

only_nine : Only nine 9
unfolding candidate event_candidate same_bytes decimals
only_nine = record { passes = refl; alone = λ r t. by_place r t (order r 9) (order 9 r) (order r 17) }
  where
    by_place : (r : ℕ) → nine r ≡ true → (r < 9) ⊎ (9 ≤ r) → (9 < r) ⊎ (r ≤ 9) → (r < 17) ⊎ (17 ≤ r) → r ≡ 9
    by_place r t (inl l) b e = clash t (none_below nine 9 refl r l)
    by_place r t (inr l) (inr b) e = omega arith
    by_place r t (inr l) (inl b) (inl e) = clash t (none_between nine 10 7 refl r (omega arith) (omega arith))
    by_place r t (inr l) (inl b) (inr e) = clash (and_left _ _ (and_right (leb 7 r) _ t)) (past_candidates r e)

nine-accepted : single_check (event_track 7) 1059 Small (has 9) ≡ Accepted (record { 0 = 9 })
nine-accepted = (single_means (event_track 7) 1059 Small (has 9)).accepted.1 9 only_nine

pub event_login-marks : cell_holds (desk_after by_steps (DeskCall.named (Request.login (decimals 6 9)) 9 1059) (row_by 1 0 2 2 7 0)) (row_by 1 0 2 2 7 0)
    (cell 0x0001 (plus 9 ∷ plus 0 ∷ []) (errors 0 ∷ next 10 ∷ last_use 1059 ∷ []))
    ≡ true
unfolding be_at be_bytes put_be same_bytes all_zero all_within decimals password_ok number_from digits_of row_at number_tests numbers_ok zeros_ok well_formed has_serial first_row find_row located store_row
    signed_of values_of wait_over waited with_state accepted deciding decided served_at table_ok request_ok desk_after
event_login-marks = rw nine-accepted refl

-- ---- a login with step 6, the last used one: a double press (document 02, Ask 4)

abbrev six : ℕ → Bool
six = fresh_hit (single_hit (candidate (event_track 7) 1059 Small) (has 6)) 7

six-below : (r : ℕ) → r < 17 → six r ≡ false
unfolding candidate event_candidate same_bytes decimals
six-below = none_below six 17 refl

six-past : (r : ℕ) → 17 ≤ r → six r ≡ false
six-past r l = rw (past_candidates r l) (and_false (leb 7 r))

six-again : single_check (event_track 7) 1059 Small (has 6) ≡ Again
unfolding candidate event_candidate same_bytes decimals
six-again = (single_means (event_track 7) 1059 Small (has 6)).again.1 (λ r. ⊎_elim (six-below r) (six-past r) (order r 17)) 6 refl

pub event_press_forgiven : cell_holds (desk_after by_steps (DeskCall.named (Request.login (decimals 6 6)) 9 1059) (row_by 1 0 2 2 7 0)) (row_by 1 0 2 2 7 0) (no 0x8004) ≡ true
unfolding be_at be_bytes put_be same_bytes all_zero all_within decimals password_ok number_from digits_of row_at number_tests numbers_ok zeros_ok well_formed has_serial first_row find_row located store_row
    wait_over waited deciding decided served_at table_ok request_ok desk_after
event_press_forgiven = rw six-again refl

-- ---- an activation with steps 8 and 9

fresh_eight : First (fresh_hit (pair_hit (candidate (event_track 7) 1059 Large) (has 8) (has 9)) 7) 8
unfolding candidate event_candidate same_bytes decimals
fresh_eight = record { passes = refl; before = none_below (fresh_hit (pair_hit (candidate (event_track 7) 1059 Large) (has 8) (has 9)) 7) 8 refl }

pair-accepted : pair_check (event_track 7) 1059 Large (has 8) (has 9) ≡ Accepted (record { 0 = 9 })
pair-accepted = (pair_means (event_track 7) 1059 Large (has 8) (has 9)).accepted.1 8 fresh_eight

pub event_activation_marks : cell_holds (desk_after by_steps (DeskCall.named (Request.activate (decimals 6 8) (decimals 6 9)) 9 1059) (row_by 1 0 1 2 7 0)) (row_by 1 0 1 2 7 0)
    (cell 0x0101 (plus 9 ∷ plus 0 ∷ []) (state 2 ∷ errors 0 ∷ next 10 ∷ last_use 1059 ∷ []))
    ≡ true
unfolding be_at be_bytes put_be same_bytes all_zero all_within decimals password_ok number_from digits_of row_at number_tests numbers_ok zeros_ok well_formed has_serial first_row find_row located store_row
    signed_of values_of wait_over waited with_state accepted deciding decided served_at table_ok request_ok desk_after
event_activation_marks = rw pair-accepted refl
