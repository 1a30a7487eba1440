-- The searches and the calls on the table that renders a list of tokens in rows of a width, with zero rows behind them.
use Prim.Native.Nat.{ℕ, zero, suc, ◌+◌, ◌-◌, ◌*◌, ◌^◌, ◌≤◌, ◌<◌}
use Rattle.std.specs.Prelude.{◌≡◌, Bool, true, false, cond, eqb, ltb, get_or, Some, None}
use Rattle.std.proofs.Math.Path.{refl}
use Rattle.std.proofs.Common.{sym, ◌∙◌, suc-add, zero-add, length-append, get_or-append-add}
use mathlib.Core.List.{List, [], ◌∷◌, ◌++◌, append_assoc, append-nil}
use Rattle.std.proofs.Math.Nat.{suc-mul}
use native.Mathlib.Omega.{arith}
use borrow.Author.Tests.{eq-eqb, lt-ltb}
use Rattle.std.proofs.Math.ListN.{length, replicate, replicate-append-replicate}
use Rattle.std.proofs.lemmas.List.{length-replicate}
use Rattle.std.proofs.Math.Seq.{take_at, drop_at, drop-drop}
use Rattle.words.specs.ListsLaws.{drop_zeros}
use Rattle.words.specs.BoolLaws.{by-test}
use Rattle.window.specs.PasswordAt.{PasswordRule}
use Rattle.row.specs.Row.{row_bytes, last_state}
use Rattle.row.specs.RowLaws.{length-render}
use Rattle.row.specs.Table.{is_empty, has_serial, first_row, find_empty, located_at, zero_filled, write_row}
use Rattle.token.specs.declared.answers.Refusal.{Refusal}
use Rattle.desk.specs.declared.Particulars.{Particulars}
use Rattle.desk.specs.Requests.{Request, valued, challenge_of}
use Rattle.desk.specs.Desk.{refused, loaded_at, loaded_beside, served_from}
use Rattle.ledger.specs.Tokens.{Token, decided_on, kept, served_among, has_token, wide_row, rendered, Serviceable, AllServiceable}
use Rattle.ledger.proofs.StandingLaws.{between, taken-read, serial-read, request_served}

-- ---- zero rows

zero-at : (n i : ℕ) → ◌≡◌ {A = ℕ} (get_or (replicate n 0) i 0) 0
zero-at zero i = refl
zero-at (suc n) zero = refl
zero-at (suc n) (suc i) = zero-at n i

module _ (s before : List ℕ) (n at : ℕ) (stands : s ≡ before ++ replicate n 0) (place : length before ≤ at) where
  empty-behind : is_empty s at ≡ true
  empty-behind =
      let i = at - length before in
      let e : at + 0 ≡ length before + i = omega arith in
      eq-eqb (get_or s (at + 0) 0) 0 (rw (stands, e, get_or-append-add before (replicate n 0) i 0) (zero-at n i))

  no-serial-behind : (serial : ℕ) → has_serial s serial at ≡ false
  unfolding has_serial
  no-serial-behind serial = rw empty-behind

module _ (width : ℕ) (long : row_bytes ≤ width) where
  none_passes : (test : ℕ → Bool) (count at : ℕ) → ((i : ℕ) → at ≤ i → test i ≡ false) → first_row width test count at ≡ None
  unfolding first_row
  none_passes test zero at h = refl
  none_passes test (suc count) at h = rw (h at (omega arith)) (none_passes test count (at + width) (λ i l. h i (omega arith)))

  length_wide : (t : Token) → Serviceable t → length (wide_row width t) ≡ width
  length_wide t good = rw (length-append, length-render t.row t.key good.long, length-replicate {A = ℕ} (width - row_bytes) 0) (omega arith)

  pub length-rendered : (ts : List Token) → AllServiceable ts → length (rendered width ts) ≡ length ts * width
  unfolding rendered
  length-rendered [] all = omega arith
  length-rendered (t ∷ ts) all = let m = suc-mul (length ts) width in rw (length-append, length_wide t all.0, length-rendered ts all.1) (omega arith)

  pub rendered_more : (ts : List Token) (t : Token) → rendered width (ts ++ (t ∷ [])) ≡ rendered width ts ++ wide_row width t
  unfolding rendered
  rendered_more [] t = append-nil (wide_row width t)
  rendered_more (u ∷ ts) t = rw (rendered_more ts t) (sym (append_assoc (wide_row width u) (rendered width ts) (wide_row width t)))

  -- ---- the first token of a list, and the tokens behind it

  -- the zeros behind a row, and what follows
  abbrev padded : List ℕ → List ℕ
  padded rest = replicate (width - row_bytes) 0 ++ rest

  module _ (before : List ℕ) (t : Token) (ts : List Token) (behind : List ℕ) where
    first-between : before ++ (rendered width (t ∷ ts) ++ behind) ≡ between before t (padded (rendered width ts ++ behind))
    unfolding rendered
    first-between = simp append_assoc

    others-behind : before ++ (rendered width (t ∷ ts) ++ behind) ≡ (before ++ wide_row width t) ++ (rendered width ts ++ behind)
    unfolding rendered
    others-behind = simp append_assoc

  module _ (s before : List ℕ) (at n : ℕ) (t : Token) (ts : List Token) (stands : s ≡ before ++ (rendered width (t ∷ ts) ++ replicate n 0))
      (place : length before ≡ at) (good : Serviceable t) where
    first-stands : s ≡ between before t (padded (rendered width ts ++ replicate n 0))
    first-stands = stands ∙ first-between before t ts (replicate n 0)

    others-stand : s ≡ (before ++ wide_row width t) ++ (rendered width ts ++ replicate n 0)
    others-stand = stands ∙ others-behind before t ts (replicate n 0)

    others-place : length (before ++ wide_row width t) ≡ at + width
    others-place = rw (length-append, place, length_wide t good)

    first_taken : is_empty s at ≡ false
    first_taken = taken-read s at t before (padded (rendered width ts ++ replicate n 0)) first-stands place good

    first-serial : (serial : ℕ) → has_serial s serial at ≡ eqb t.row.serial serial
    first-serial = serial-read s at t before (padded (rendered width ts ++ replicate n 0)) first-stands place good

  -- ---- a request to the token with a serial

  module _ (passwords : PasswordRule) (request : Request) (serial clock : ℕ) (h : clock < 2 ^ 40) (s : List ℕ) (n count : ℕ) where
    pub served-among : (ts : List Token) (before : List ℕ) (at : ℕ) → s ≡ before ++ (rendered width ts ++ replicate n 0) → length before ≡ at → AllServiceable ts
        → served_from passwords (valued request) (challenge_of request) clock s (located_at last_state s (first_row width (has_serial s serial) (length ts + count) at))
        ≡ record {
          answer = (served_among passwords request serial clock ts).answer;
          table = before ++ (rendered width (served_among passwords request serial clock ts).tokens ++ replicate n 0);
        }
    unfolding served_among rendered first_row
    served-among [] before at stands place all =
        rw (zero-add count, none_passes (has_serial s serial) count at (λ i l. no-serial-behind s before n i stands (omega arith) serial), ← stands)
    served-among (t ∷ ts) before at stands place all =
        rw (suc-add (length ts) count, first-serial s before at n t ts stands place all.0 serial)
        (by-test (eqb t.row.serial serial)
        (λ e.
        rw (e, first-between before (kept t (decided_on passwords request clock t).left) ts (replicate n 0))
        (request_served s at t before (padded (rendered width ts ++ replicate n 0)) (first-stands s before at n t ts stands place all.0) place all.0 passwords request clock h))
        (λ e.
        rw (e, others-behind before t (served_among passwords request serial clock ts).tokens (replicate n 0))
        (served-among ts (before ++ wide_row width t) (at + width) (others-stand s before at n t ts stands place all.0)
        (others-place s before at n t ts stands place all.0) all.1)))

  -- ---- a load

  -- whether a row has the serial, as whether a token has
  pub loaded-among : (p : Particulars) (key s : List ℕ) (n count : ℕ) (ts : List Token) (before : List ℕ) (at : ℕ)
      → s ≡ before ++ (rendered width ts ++ replicate n 0) → length before ≡ at → AllServiceable ts
      → loaded_beside p key s (first_row width (has_serial s p.serial) (length ts + count) at)
      ≡ cond (has_token p.serial ts) (refused Refusal.AlreadyLoaded s) (loaded_at p key s (find_empty row_bytes s))
  unfolding has_token rendered first_row
  loaded-among p key s n count [] before at stands place all =
      rw (zero-add count, none_passes (has_serial s p.serial) count at (λ i l. no-serial-behind s before n i stands (omega arith) p.serial))
  loaded-among p key s n count (t ∷ ts) before at stands place all =
      rw (suc-add (length ts) count, first-serial s before at n t ts stands place all.0 p.serial)
      (by-test (eqb t.row.serial p.serial)
      (λ e. rw e)
      (λ e.
      rw e
      (loaded-among p key s n count ts (before ++ wide_row width t) (at + width) (others-stand s before at n t ts stands place all.0)
      (others-place s before at n t ts stands place all.0) all.1)))

  -- the first empty row is the first behind the tokens
  pub empty-among : (s : List ℕ) (n count : ℕ) (ts : List Token) (before : List ℕ) (at : ℕ)
      → s ≡ before ++ (rendered width ts ++ replicate n 0) → length before ≡ at → AllServiceable ts
      → first_row width (is_empty s) (length ts + count) at ≡ cond (ltb 0 count) (Some (at + length ts * width)) None
  unfolding rendered first_row
  empty-among s n zero [] before at stands place all = refl
  empty-among s n (suc count) [] before at stands place all =
      let e : at + 0 * width ≡ at = omega arith in
      rw (zero-add (suc count), empty-behind s before n at stands (omega arith), e, lt-ltb 0 (suc count) (omega arith))
  empty-among s n count (t ∷ ts) before at stands place all =
      let m = suc-mul (length ts) width in
      let e : at + suc (length ts) * width ≡ at + width + length ts * width = omega arith in
      rw (suc-add (length ts) count, first_taken s before at n t ts stands place all.0, e)
      (empty-among s n count ts (before ++ wide_row width t) (at + width) (others-stand s before at n t ts stands place all.0)
      (others-place s before at n t ts stands place all.0) all.1)

  -- a row written there stands behind the tokens
  pub written_behind : (s front : List ℕ) (n at : ℕ) (t : Token) (key : List ℕ) → t.key ≡ zero_filled key → s ≡ front ++ replicate n 0 → length front ≡ at → width ≤ n
      → write_row s at t.row key ≡ (front ++ wide_row width t) ++ replicate (n - width) 0
  unfolding write_row
  written_behind s front n at t key filled stands place room =
      let e : n - row_bytes ≡ (width - row_bytes) + (n - width) = omega arith in
      rw (
        stands,
        take_at front (replicate n 0) at place,
        ← drop-drop row_bytes at (front ++ replicate n 0),
        drop_at front (replicate n 0) at place,
        drop_zeros row_bytes n,
        e,
        ← replicate-append-replicate {A = ℕ} (width - row_bytes) (n - width) 0,
        filled,
      )
      (simp append_assoc)
