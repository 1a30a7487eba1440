-- What each branch of a request to the token of a serial returns.
use Rattle.token.specs.Answers.{Answer, missing}
use Rattle.std.specs.Prelude.{ℕ, ◌+◌, ◌-◌, ◌^◌, ◌≤◌, ◌<◌, ◌≡◌, refl, Ok, Err, Bool, not, ◌&&◌, ◌||◌, eqb, ltb, length, take, drop}
use Rattle.std.proofs.Common.{sym, ap, ◌∙◌, ⊎_elim, arith, eq-eqb, le-leb, ltb-true, length-drop, length-take-le}
use Rattle.std.proofs.Math.Bool.{true, false}
use mathlib.Core.List.{List, []}
use Rattle.std.proofs.lemmas.Bool.{not-true, not-false}
use Rattle.words.specs.BoolLaws.{and_left, and_right, and_true, or_true}
use Rattle.otp.specs.declared.typed.Password.{Password}
use Rattle.otp.specs.Password.{challenge_ok, arguments_ok}
use Rattle.window.specs.Window.{Sound}
use Rattle.window.specs.PasswordAt.{PasswordRule, in_range}
use Rattle.row.specs.declared.Row.{Row}
use Rattle.row.specs.declared.reading.Located.{Located}
use Rattle.row.specs.Row.{row_bytes, last_state, row_at, numbers_ok, well_formed}
use Rattle.row.specs.RangeLaws.{known_algorithm, digits_in_range, length_in_range, row-sound}
use Rattle.row.specs.FoundLaws.{found_within}
use Rattle.row.specs.LocateLaws.{located-at}
use Rattle.row.specs.declared.reading.Unserved.{Unserved}
use Rattle.row.specs.Table.{Sought, located}
use Rattle.token.specs.declared.answers.Refusal.{Refusal}
use Rattle.token.specs.declared.lines.Request.{Request as Valued}
use Rattle.token.specs.declared.deciding.Decision.{Decision}
use Rattle.token.specs.Lines.{line_of}
use Rattle.token.specs.States.{waited}
use Rattle.token.specs.Deciding.{telling, deciding, decided}
use Rattle.desk.specs.Requests.{query_call, table_ok, clock_ok, challenge_given, request_ok, challenge_fits}
use Rattle.desk.specs.Desk.{result_of, refused, secret_at, left_at, served_at, served_from, served, desk_after}

pub numbers_of : (highest : ℕ) (s : List ℕ) (at : ℕ) → well_formed highest s at ≡ true → numbers_ok highest (row_at s at) ≡ true
unfolding well_formed
numbers_of highest s at t = and_left _ _ t

-- a well_formed_lem row's numbers, its key and a challenge in range are arguments of the password
row_in_range : (highest : ℕ) (r : Row) (key challenge : List ℕ) → numbers_ok highest r ≡ true → length key ≡ r.key_length → challenge_ok challenge ≡ true
    → in_range r.track.scheme key challenge ≡ true
unfolding arguments_ok
row_in_range highest r key challenge ok l c =
    let algorithm = r.track.scheme.algorithm in
    let known : eqb algorithm 3 || eqb algorithm 4 ≡ true =
    ⊎_elim (λ (e : algorithm ≡ 3). rw (eq-eqb algorithm 3 e)) (λ (e : algorithm ≡ 4). rw (eq-eqb algorithm 4 e) (or_true (eqb algorithm 3))) (known_algorithm highest r ok) in
    let n = length_in_range highest r ok in
    let d = digits_in_range highest r ok in
    rw (known, l, le-leb 16 r.key_length n.0, le-leb r.key_length 32 n.1, c, le-leb 6 r.track.scheme.digits d.0, le-leb r.track.scheme.digits 10 d.1)

-- ---- a row that was located, and its key as it is lent

module _ (s : List ℕ) (serial : ℕ) {x : Sought} {y : Located} (found : x ≡ located row_bytes last_state s serial) (here : x ≡ Ok y) where
  good : (well_formed last_state s y.at ≡ true) × (y.row ≡ row_at s y.at)
  good = (located-at row_bytes last_state s serial y (sym found ∙ here)).1

  pub row_within : y.at + row_bytes ≤ length s
  row_within = found_within row_bytes s serial (omega arith) y.at (located-at row_bytes last_state s serial y (sym found ∙ here)).0

  numbers : numbers_ok last_state y.row ≡ true
  numbers = rw good.1 (numbers_of last_state s y.at good.0)

  pub key-within : y.at + 16 + y.row.key_length ≤ length s
  key-within = let n = length_in_range last_state y.row numbers in omega (arith, row_within)

  key-lent : take (y.at + 16 + y.row.key_length - (y.at + 16)) (drop (y.at + 16) s) ≡ secret_at s y.at
  key-lent = let z : y.at + 16 + y.row.key_length - (y.at + 16) ≡ y.row.key_length = omega arith in rw (z, good.1)

  length-secret : length (secret_at s y.at) ≡ y.row.key_length
  length-secret = let d = length-drop (y.at + 16) s in rw (← good.1) (length-take-le y.row.key_length (drop (y.at + 16) s) (omega (arith, key-within, d)))

  pub lent_in_range : (challenge : List ℕ) {clock : ℕ} → clock < 2 ^ 40 → challenge_ok challenge ≡ true
      → Sound y.row.track clock × (in_range y.row.track.scheme (take (y.at + 16 + y.row.key_length - (y.at + 16)) (drop (y.at + 16) s)) challenge ≡ true)
  lent_in_range challenge {clock} h c =
      (row-sound last_state y.row numbers clock h, rw key-lent (row_in_range last_state y.row (secret_at s y.at) challenge numbers length-secret c))

  -- the decision on the row with its key as lent is that on the key as defined
  pub served-lent : (passwords : PasswordRule) (request : Valued) (challenge : List ℕ) (clock : ℕ) {d : Decision} {after : List ℕ}
      → d ≡ decided passwords request y.row (take (y.at + 16 + y.row.key_length - (y.at + 16)) (drop (y.at + 16) s)) clock challenge
      → after ≡ left_at s y.at d.left → result_of d.answer after ≡ served_at passwords request challenge clock s y.at y.row
  unfolding served_at
  served-lent passwords request challenge clock {d} e p = let f : d ≡ decided passwords request y.row (secret_at s y.at) clock challenge = rw key-lent at e in rw (p, f)

-- ---- the lent challenge

-- only a challenge login needs one
pub challenge_unasked : (request : Valued) (challenge : List ℕ) → ((p : Password) → request ≡ Valued.ChallengeLogin p → ⊥) → challenge_ok challenge ≡ challenge_fits request challenge
challenge_unasked (Valued.Login p) challenge n = refl
challenge_unasked (Valued.ChallengeLogin p) challenge n = absurd (n p refl)
challenge_unasked (Valued.Activate p q) challenge n = refl
challenge_unasked Valued.Lock challenge n = refl
challenge_unasked (Valued.Unlock p) challenge n = refl
challenge_unasked Valued.Suspend challenge n = refl
challenge_unasked (Valued.Resume p) challenge n = refl
challenge_unasked (Valued.Sync size p q) challenge n = refl
challenge_unasked Valued.Void challenge n = refl
challenge_unasked Valued.Query challenge n = refl

fit_in_range : (request : Valued) (challenge : List ℕ) → challenge_fits request challenge ≡ true → challenge_ok challenge ≡ true
unfolding challenge_given
fit_in_range (Valued.Login p) challenge t = t
fit_in_range (Valued.ChallengeLogin p) challenge t = and_right (ltb 0 (length challenge)) _ t
fit_in_range (Valued.Activate p q) challenge t = t
fit_in_range Valued.Lock challenge t = t
fit_in_range (Valued.Unlock p) challenge t = t
fit_in_range Valued.Suspend challenge t = t
fit_in_range (Valued.Resume p) challenge t = t
fit_in_range (Valued.Sync size p q) challenge t = t
fit_in_range Valued.Void challenge t = t
fit_in_range Valued.Query challenge t = t

-- ---- the branches of a request by value

module _ (b c : Bool) (t : not (b && c) ≡ false) where
  pub clock-lent : (s : List ℕ) (clock : ℕ) → b ≡ table_ok row_bytes s && clock_ok clock → clock < 2 ^ 40
  clock-lent s clock lent = ltb-true clock (2 ^ 40) (and_right (table_ok row_bytes s) (clock_ok clock) (rw lent at (and_left b c (not-false (b && c) t))))

  pub challenge-lent : (request : Valued) (challenge : List ℕ) → c ≡ challenge_fits request challenge → challenge_ok challenge ≡ true
  challenge-lent request challenge asked = fit_in_range request challenge (rw (← asked) (and_right b _ (not-false (b && c) t)))

module _ (passwords : PasswordRule) (request : Valued) (challenge : List ℕ) (serial clock : ℕ) (s : List ℕ) {b c : Bool}
    (lent : b ≡ table_ok row_bytes s && clock_ok clock) (asked : c ≡ challenge_fits request challenge) where
  pub serve_unfit : not (b && c) ≡ true → refused Refusal.BadArgument s ≡ served passwords request challenge serial clock s
  unfolding served
  serve_unfit t = let e : (table_ok row_bytes s && clock_ok clock) && challenge_fits request challenge ≡ false = rw (← lent, ← asked) (not-true (b && c) t) in rw e

  module _ (t : not (b && c) ≡ false) where
    module _ {x : Sought} (found : x ≡ located row_bytes last_state s serial) where
      pub serve_from : served_from passwords request challenge clock s x ≡ served passwords request challenge serial clock s
      unfolding served
      serve_from = let e : (table_ok row_bytes s && clock_ok clock) && challenge_fits request challenge ≡ true = rw (← lent, ← asked) (not-false (b && c) t) in rw (e, ← found)

      pub serve_missing : {e : Unserved} {f : Refusal} → x ≡ Err e → f ≡ missing e → refused f s ≡ served passwords request challenge serial clock s
      serve_missing h e = rw (e, ← serve_from, h)

      pub serve_made : {y : Located} → x ≡ Ok y → {d : Decision} {after : List ℕ}
          → d ≡ decided passwords request y.row (take (y.at + 16 + y.row.key_length - (y.at + 16)) (drop (y.at + 16) s)) clock challenge
          → after ≡ left_at s y.at d.left → result_of d.answer after ≡ served passwords request challenge serial clock s
      serve_made h e p = served-lent s serial found h passwords request challenge clock e p ∙ ap (served_from passwords request challenge clock s) (sym h) ∙ serve_from

-- ---- a query

module _ (passwords : PasswordRule) (serial clock : ℕ) (s : List ℕ) {b : Bool} (lent : b ≡ table_ok row_bytes s && clock_ok clock) where
  pub query-unfit : not b ≡ true → refused Refusal.BadArgument s ≡ desk_after passwords (query_call serial clock) s
  unfolding desk_after request_ok
  query-unfit t = let e : table_ok row_bytes s && clock_ok clock ≡ false = rw (← lent) (not-true b t) in rw (and_true (clock_ok clock), e)

  module _ (t : not b ≡ false) {x : Sought} (found : x ≡ located row_bytes last_state s serial) where
    query-from : served_from passwords Valued.Query [] clock s x ≡ desk_after passwords (query_call serial clock) s
    unfolding desk_after request_ok
    query-from = let e : table_ok row_bytes s && clock_ok clock ≡ true = rw (← lent) (not-false b t) in rw (and_true (clock_ok clock), e, ← found)

    pub query-missing : {e : Unserved} {f : Refusal} → x ≡ Err e → f ≡ missing e → refused f s ≡ desk_after passwords (query_call serial clock) s
    query-missing h e = rw (e, ← query-from, h)

    pub query-told : {y : Located} {a : Answer} → x ≡ Ok y → a ≡ (telling (line_of Valued.Query) (waited y.row clock)).answer
        → result_of a s ≡ desk_after passwords (query_call serial clock) s
    unfolding served_at decided deciding
    query-told h e = rw e (ap (served_from passwords Valued.Query [] clock s) (sym h) ∙ query-from)
