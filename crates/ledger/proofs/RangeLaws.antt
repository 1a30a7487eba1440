-- Each change that a call makes of a row keeps its numbers in range (document 01, Part 4).
use Rattle.std.specs.Prelude.{ℕ, ◌+◌, ◌-◌, ◌*◌, ◌^◌, ◌≤◌, ◌<◌, ◌≡◌, Bool, ◌&&◌, ◌||◌, not, eqb, ltb, get_or}
use Rattle.std.proofs.Math.Path.{refl}
use Rattle.std.proofs.Common.{◌∙◌}
use Rattle.std.proofs.Math.Bool.{true, false, cond}
use Rattle.std.proofs.Math.Nat.{div-le_self}
use native.Mathlib.Omega.{arith}
use borrow.Author.Tests.{eqb-true, leb-true, ltb-true, le-leb, lt-ltb}
use Rattle.std.proofs.Math.Dec.{leb}
use Rattle.words.specs.BoolLaws.{and_left, and_right, either, and_both}
use Rattle.window.specs.declared.Seconds.{Seconds}
use Rattle.window.specs.declared.Offset.{Offset}
use Rattle.window.specs.declared.Track.{Track}
use Rattle.window.specs.Window.{time_token, step_at, distance, farthest, beyond}
use Rattle.row.specs.declared.Row.{Row}
use Rattle.row.specs.Row.{last_state, next_ok, offset_ok, number_tests, numbers_ok}
use Rattle.row.specs.RowLaws.{InWidths}
use Rattle.row.specs.RangeLaws.{test-passes, row-sound}
use Rattle.token.specs.Lines.{ready, locked_by_errors}
use Rattle.token.specs.States.{changed, wait_over, waited, locked_after, with_state, track_after, accepted, errors_after, failed}
use Rattle.ledger.specs.Tokens.{Live, Leaves}
use Rattle.ledger.proofs.AcceptedLaws.{Acceptable}

-- below 2^40, 0 unless state 3
abbrev locked_ok : ℕ → ℕ → Bool
locked_ok state locked = ltb locked (2 ^ 40) && (eqb state locked_by_errors || eqb locked 0)

module _ (r : Row) (l : Live r) where
  passes : (i : ℕ) → get_or (number_tests last_state r) i true ≡ true
  unfolding numbers_ok
  passes i = test-passes (number_tests last_state r) i l.numbers

  pub highest_state : r.state ≤ last_state
  unfolding number_tests
  highest_state = leb-true r.state last_state (passes 0)

  locked_ok_lem : locked_ok r.state r.locked_at.0 ≡ true
  unfolding number_tests
  locked_ok_lem = passes 11

  used-ok : ltb r.last_use.0 (2 ^ 40) ≡ true
  unfolding number_tests
  used-ok = passes 12

  -- numbers in range fit the bytes that they stand in
  pub live-fits : r.serial < 2 ^ 64 → InWidths r
  unfolding number_tests
  live-fits h =
      let sound = row-sound last_state r l.numbers 0 (omega arith) in
      let n = sound.counted in
      let o = sound.within in
      let t = leb-true r.wait 86400 (and_right (leb 60 r.wait) _ (passes 9)) in
      let e = leb-true r.expiry.0 (2 ^ 40) (passes 10) in
      let k = ltb-true r.locked_at.0 (2 ^ 40) (and_left _ _ locked_ok_lem) in
      let u = ltb-true r.last_use.0 (2 ^ 40) used-ok in
      record { serial = h; next = omega arith; offset = omega arith; wait = omega arith; expiry = omega arith; locked_at = omega arith; last_use = omega arith }

  -- ---- a row with other values of what calls change

  pub leaves_itself : Leaves r r
  leaves_itself = record { same = record { scheme = refl; period = refl; limit = refl; key_length = refl; serial = refl; wait = refl; expiry = refl }; live = l }

  changed-leaves : (state errors : ℕ) (track : Track) (locked used : Seconds) → track.scheme ≡ r.track.scheme → track.period ≡ r.track.period
      → 0 < state → state ≤ last_state → next_ok track ≡ true → offset_ok track ≡ true → locked_ok state locked.0 ≡ true → ltb used.0 (2 ^ 40) ≡ true
      → Leaves r (changed r state errors track locked used)
  unfolding numbers_ok number_tests
  changed-leaves state errors track locked used e f low high n o k u =
      record {
        same = record { scheme = e; period = f; limit = refl; key_length = refl; serial = refl; wait = refl; expiry = refl };
        live = record {
          numbers = rw (le-leb state last_state high, n, o, e, f, passes 1, passes 2, passes 3, passes 4, passes 5, passes 6, passes 9, passes 10, k, u);
          taken = low;
        };
      }

  -- the same with the track as it was
  kept-track : (state errors : ℕ) (locked used : Seconds) → 0 < state → state ≤ last_state → locked_ok state locked.0 ≡ true → ltb used.0 (2 ^ 40) ≡ true
      → Leaves r (changed r state errors r.track locked used)
  unfolding number_tests
  kept-track state errors locked used low high = changed-leaves state errors r.track locked used refl refl low high (passes 7) (passes 8)

  pub waited-leaves : (clock : ℕ) → Leaves r (waited r clock)
  unfolding waited
  waited-leaves clock =
      either (Leaves r) (wait_over r clock) (kept-track ready 0 (record { 0 = 0 }) r.last_use (omega arith) (omega arith) refl used-ok) leaves_itself

  locked_after-ok : (state : ℕ) → locked_ok state (locked_after r state).0 ≡ true
  locked_after-ok state = by-states (eqb r.state locked_by_errors) (eqb state locked_by_errors) r.locked_at locked_ok_lem
    where
      by-states : (before after : Bool) (locked : Seconds) → ltb locked.0 (2 ^ 40) && (before || eqb locked.0 0) ≡ true
          → ltb (cond (before && not after) (record { 0 = 0 }) locked).0 (2 ^ 40) && (after || eqb (cond (before && not after) (record { 0 = 0 }) locked).0 0) ≡ true
      by-states true true locked t = t
      by-states true false locked t = refl
      by-states false true locked t = and_both (and_left (ltb locked.0 (2 ^ 40)) (eqb locked.0 0) t) refl
      by-states false false locked t = t

  pub state-leaves : (state : ℕ) → 0 < state → state ≤ last_state → Leaves r (with_state r state)
  unfolding with_state
  state-leaves state low high = kept-track state r.errors (locked_after r state) r.last_use low high (locked_after-ok state) used-ok

  pub failed-leaves : (clock : ℕ) → clock < 2 ^ 40 → (locks : Bool) → Leaves r (failed r clock locks)
  unfolding failed
  failed-leaves clock h locks =
      either (Leaves r) (locks && leb r.limit (errors_after r))
      (kept-track locked_by_errors (errors_after r) (record { 0 = clock }) r.last_use (omega arith) (omega arith) (and_both (lt-ltb clock (2 ^ 40) h) refl) used-ok)
      (kept-track r.state (errors_after r) r.locked_at r.last_use l.taken highest_state locked_ok_lem used-ok)

  module _ (clock a : ℕ) (h : clock < 2 ^ 40) (good : Acceptable r.track clock a) where
    next-ok : next_ok (track_after r.track clock a) ≡ true
    unfolding beyond
    next-ok = by_kind (eqb r.track.scheme.kind time_token) good.below
      where
        by_kind : (time : Bool) → a < cond time (step_at clock r.track.period + farthest + 1) (2 ^ 32) → leb (a + 1) (cond time (2 ^ 40 + farthest) (2 ^ 32)) ≡ true
        by_kind true b = le-leb (a + 1) (2 ^ 40 + farthest) (omega (arith, div-le_self clock r.track.period))
        by_kind false b = le-leb (a + 1) (2 ^ 32) (omega arith)

    offset-after-ok : offset_ok (track_after r.track clock a) ≡ true
    unfolding number_tests
    offset-after-ok = by_kind (eqb r.track.scheme.kind time_token) r.track.offset (λ t. good.near (eqb-true r.track.scheme.kind time_token t)) (passes 8)
      where
        by_kind : (time : Bool) (d : Offset) → (time ≡ true → distance a (step_at clock r.track.period) ≤ farthest)
            → cond time (leb d.0 (2 * farthest)) (eqb d.0 farthest) ≡ true
            → cond time (leb (cond time (record { 0 = a + farthest - step_at clock r.track.period }) d).0 (2 * farthest))
            (eqb (cond time (record { 0 = a + farthest - step_at clock r.track.period }) d).0 farthest)
            ≡ true
        by_kind true d n o = let c = n refl in le-leb (a + farthest - step_at clock r.track.period) (2 * farthest) (omega arith)
        by_kind false d n o = o

    pub accepted-leaves : Leaves r (accepted r clock a)
    unfolding accepted
    accepted-leaves =
        changed-leaves r.state 0 (track_after r.track clock a) r.locked_at (record { 0 = clock }) refl refl l.taken highest_state next-ok offset-after-ok
        locked_ok_lem (lt-ltb clock (2 ^ 40) h)

pub leaves-next : {r x y : Row} → Leaves r x → Leaves x y → Leaves r y
leaves-next p q =
    record {
      same = record {
        scheme = q.same.scheme ∙ p.same.scheme;
        period = q.same.period ∙ p.same.period;
        limit = q.same.limit ∙ p.same.limit;
        key_length = q.same.key_length ∙ p.same.key_length;
        serial = q.same.serial ∙ p.same.serial;
        wait = q.same.wait ∙ p.same.wait;
        expiry = q.same.expiry ∙ p.same.expiry;
      };
      live = q.live;
    }
