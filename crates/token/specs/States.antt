-- What happens to one token's row (document 01, Parts 3 and 5).
use Rattle.std.specs.Prelude.{ℕ, ◌+◌, ◌-◌, ◌^◌, ◌≤◌, ◌<◌, min, ◌≡◌, Bool, ◌&&◌, not, cond, eqb, leb}
use Rattle.window.specs.declared.Seconds.{Seconds}
use Rattle.window.specs.declared.Offset.{Offset}
use Rattle.window.specs.declared.Track.{Track}
use Rattle.window.specs.declared.Outcome.{Outcome}
use Rattle.window.specs.Window.{time_token, step_at, distance, farthest}
use Rattle.row.specs.declared.Row.{Row}
use Rattle.token.specs.Lines.{ready, locked_by_errors}

-- a row with other values of what calls change
abbrev pub changed : Row → ℕ → ℕ → Track → Seconds → Seconds → Row
changed r state errors track locked used =
    record {
      state = state;
      track = track;
      limit = r.limit;
      errors = errors;
      key_length = r.key_length;
      serial = r.serial;
      wait = r.wait;
      expiry = r.expiry;
      locked_at = locked;
      last_use = used;
    }

-- a row locked by errors whose wait has run out; a hand lock has no wait
unfoldable pub wait_over : Row → ℕ → Bool
wait_over r clock = eqb r.state locked_by_errors && (leb r.locked_at.0 clock && leb r.wait (clock - r.locked_at.0))

-- such a row becomes ready with errors 0
unfoldable pub waited : Row → ℕ → Row
waited r clock = cond (wait_over r clock) (changed r ready 0 r.track (record { 0 = 0 }) r.last_use) r

-- leaving state 3 zeroes `locked at`
abbrev pub locked_after : Row → ℕ → Seconds
locked_after r state = cond (eqb r.state locked_by_errors && not (eqb state locked_by_errors)) (record { 0 = 0 }) r.locked_at

-- a row in another state
unfoldable pub with_state : Row → ℕ → Row
with_state r state = changed r state r.errors r.track (locked_after r state) r.last_use

-- accepted step a: next = a + 1, and for a time token d = a - T
abbrev pub offset_after : Track → ℕ → ℕ → Offset
offset_after k clock a = cond (eqb k.scheme.kind time_token) (record { 0 = a + farthest - step_at clock k.period }) k.offset

abbrev pub track_after : Track → ℕ → ℕ → Track
track_after k clock a = record { scheme = k.scheme; period = k.period; next = record { 0 = a + 1 }; offset = offset_after k clock a }

-- accepted step a: besides, errors 0 and last use = now
unfoldable pub accepted : Row → ℕ → ℕ → Row
accepted r clock a = changed r r.state 0 (track_after r.track clock a) r.locked_at (record { 0 = clock })

-- used or wrong: errors + 1, at most 255
abbrev pub errors_after : Row → ℕ
errors_after r = min 255 (r.errors + 1)

-- where errors lock, one that reaches the limit does
unfoldable pub failed : Row → ℕ → Bool → Row
failed r clock locks =
    cond (locks && leb r.limit (errors_after r))
    (changed r locked_by_errors (errors_after r) r.track (record { 0 = clock }) r.last_use)
    (changed r r.state (errors_after r) r.track r.locked_at r.last_use)

-- the last used password presented again: an error too, unless it is forgiven (document 02, Ask 4)
abbrev pub repeated : Row → ℕ → Bool → Bool → Row
repeated r clock forgives locks = cond forgives r (failed r clock locks)

-- ---- what the code asks of an accepted step

-- its number fits, and for a time token it lies at most 600 from the clock's
pub record Near (k : Track) (clock a : ℕ) : Type 0 where
  pub fits : a < 2 ^ 41
  pub close : k.scheme.kind ≡ time_token → distance a (step_at clock k.period) ≤ farthest

-- the step of an accepting outcome is such
abbrev pub IfAccepted : (ℕ → Type 0) → Outcome → Type 0
IfAccepted P (Outcome.Accepted a) = P a.0
IfAccepted P Outcome.Several = Unit {0}
IfAccepted P Outcome.Again = Unit {0}
IfAccepted P Outcome.Used = Unit {0}
IfAccepted P Outcome.Wrong = Unit {0}
