-- The candidates as a range of steps, possibly empty: its first step, and the step where it ends.
use Rattle.std.specs.Prelude.{ℕ, ◌+◌, ◌-◌, ◌^◌, min, max, cond, eqb}
use Rattle.window.specs.declared.Size.{Size}
use Rattle.window.specs.declared.Track.{Track}
use Rattle.window.specs.Window.{time_token, step_at, time_width, event_width, farthest}

abbrev pub time_first : ℕ → ℕ → ℕ → ℕ
time_first t offset w = max (t + offset - (farthest + w)) (t - farthest)

abbrev pub time_end : ℕ → ℕ → ℕ → ℕ
time_end t offset w = min (t + offset + w + 1 - farthest) (t + farthest + 1)

abbrev pub event_first : ℕ → ℕ
event_first next = next - 1

abbrev pub event_end : ℕ → ℕ → ℕ
event_end next w = min (next + w) (2 ^ 32)

unfoldable pub first_step : Track → ℕ → Size → ℕ
first_step k clock size =
    cond (eqb k.scheme.kind time_token) (time_first (step_at clock k.period) k.offset.0 (time_width size)) (event_first k.next.0)

unfoldable pub end_step : Track → ℕ → Size → ℕ
end_step k clock size =
    cond (eqb k.scheme.kind time_token) (time_end (step_at clock k.period) k.offset.0 (time_width size)) (event_end k.next.0 (event_width size))
