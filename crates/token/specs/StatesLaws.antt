-- What each function over a token's states returns, and the steps that may be accepted.
use Rattle.std.specs.Prelude.{ℕ, ◌+◌, ◌-◌, ◌≤◌, ◌<◌, ◌≡◌, refl, Bool, true, false, ◌&&◌, cond, eqb, leb}
use Rattle.std.proofs.Common.{arith}
use borrow.Author.Tests.{eq-eqb, ne_eqb, le-leb, lt-leb}
use Rattle.words.specs.BoolLaws.{and_false}
use Rattle.window.specs.declared.Seconds.{Seconds}
use Rattle.window.specs.declared.Offset.{Offset}
use Rattle.window.specs.declared.Track.{Track}
use Rattle.window.specs.Window.{time_token, step_at, farthest}
use Rattle.row.specs.declared.Row.{Row}
use Rattle.token.specs.Lines.{ready, locked_by_errors}
use Rattle.token.specs.States.{changed, wait_over, waited, locked_after, with_state, Near, offset_after, track_after, accepted, errors_after, failed}

-- ---- the wait

module _ (r : Row) (clock : ℕ) where
  pub wait-elsewhere : (r.state ≡ locked_by_errors → ⊥) → false ≡ wait_over r clock
  unfolding wait_over
  wait-elsewhere n = rw (ne_eqb r.state locked_by_errors n)

  pub wait-before : clock < r.locked_at.0 → false ≡ wait_over r clock
  unfolding wait_over
  wait-before l = rw (lt-leb r.locked_at.0 clock l, and_false (eqb r.state locked_by_errors))

  pub wait-counted : r.state ≡ locked_by_errors → r.locked_at.0 ≤ clock → leb r.wait (clock - r.locked_at.0) ≡ wait_over r clock
  unfolding wait_over
  wait-counted e l = rw (eq-eqb r.state locked_by_errors e, le-leb r.locked_at.0 clock l)

  pub waited-out : {b : Bool} {x : Row} → b ≡ wait_over r clock → b ≡ true → x ≡ changed r ready 0 r.track (record { 0 = 0 }) r.last_use → x ≡ waited r clock
  unfolding waited
  waited-out o t e = rw (← o, t) e

  pub waited_on : {b : Bool} → b ≡ wait_over r clock → b ≡ false → r ≡ waited r clock
  unfolding waited
  waited_on o f = rw (← o, f)

-- a wait leaves the numbers that the window reads
pub waited-track : (r : Row) (clock : ℕ) → (waited r clock).track ≡ r.track
unfolding waited
waited-track r clock = by_cases (wait_over r clock)
  where
    by_cases : (b : Bool) → (cond b (changed r ready 0 r.track (record { 0 = 0 }) r.last_use) r).track ≡ r.track
    by_cases true = refl
    by_cases false = refl

-- ---- a success

pub with_state_lem : (r : Row) (state : ℕ) {locked : Seconds} {x : Row} → locked ≡ locked_after r state
    → x ≡ changed r state r.errors r.track locked r.last_use → x ≡ with_state r state
unfolding with_state
with_state_lem r state l e = rw (← l) e

module _ (k : Track) (clock a : ℕ) where
  pub offset_event : (k.scheme.kind ≡ time_token → ⊥) → k.offset ≡ offset_after k clock a
  offset_event n = rw (ne_eqb k.scheme.kind time_token n)

  module _ (near : Near k clock a) (time : k.scheme.kind ≡ time_token) {t : ℕ} (at : t ≡ step_at clock k.period) where
    pub offset-above : t ≤ a + farthest
    offset-above = let c = near.close time in omega arith

    pub offset-fits : a + farthest - t ≤ 1200
    offset-fits = let c = near.close time in omega arith

    pub offset-time : ◌≡◌ {A = Offset} (record { 0 = a + farthest - t }) (offset_after k clock a)
    offset-time = rw (eq-eqb k.scheme.kind time_token time, at)

pub accepted-by : (r : Row) (clock a : ℕ) {track : Track} {x : Row} → track ≡ track_after r.track clock a
    → x ≡ changed r r.state 0 track r.locked_at (record { 0 = clock }) → x ≡ accepted r clock a
unfolding accepted
accepted-by r clock a t e = rw (← t) e

-- ---- a refusal

module _ (r : Row) (clock : ℕ) (locks : Bool) {errors : ℕ} {x : Row} (counted : errors ≡ errors_after r) where
  pub failed-locks : locks && leb r.limit errors ≡ true → x ≡ changed r locked_by_errors errors r.track (record { 0 = clock }) r.last_use → x ≡ failed r clock locks
  unfolding failed
  failed-locks t e = rw (← counted, t) e

  pub failed-stays : locks && leb r.limit errors ≡ false → x ≡ changed r r.state errors r.track r.locked_at r.last_use → x ≡ failed r clock locks
  unfolding failed
  failed-stays t e = rw (← counted, t) e
