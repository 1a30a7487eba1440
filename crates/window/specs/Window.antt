-- Steps and windows, in the order of document 01, Part 3.
use Rattle.std.specs.Prelude.{ℕ, ◌+◌, ◌-◌, ◌*◌, ◌/◌, ◌^◌, ◌≤◌, ◌<◌, ◌≡◌, Bool, cond, ◌&&◌, eqb, leb, ltb}
use Rattle.window.specs.declared.Size.{Size}
use Rattle.window.specs.declared.Size.TheVariants.{Small, Medium, Large}
use Rattle.window.specs.declared.Track.{Track}

-- the kinds of tokens (document 01, Part 4)
abbrev pub time_token : ℕ
time_token = 0

-- a clock reading in seconds becomes a step only by dividing by the period
abbrev pub step_at : ℕ → ℕ → ℕ
step_at clock period = clock / period

-- how far two numbers lie apart
abbrev pub distance : ℕ → ℕ → ℕ
distance a b = (a - b) + (b - a)

-- the widths w of the windows
abbrev pub time_width : Size → ℕ
time_width Small = 2
time_width Medium = 5
time_width Large = 10

abbrev pub event_width : Size → ℕ
event_width Small = 10
event_width Medium = 20
event_width Large = 50

-- the farthest that a step may lie from T, and d from 0; d is held as d + 600
abbrev pub farthest : ℕ
farthest = 600

-- time token: |s - (T + d)| at most w and |s - T| at most 600; both sides of the first are 600 larger here, so that none is negative
unfoldable pub time_candidate : ℕ → ℕ → ℕ → ℕ → Bool
time_candidate t offset w s = leb (distance (s + farthest) (t + offset)) w && leb (distance s t) farthest

-- event token: from next - 1 (only if next is above 0) to next + w - 1, none above 2^32 - 1
unfoldable pub event_candidate : ℕ → ℕ → ℕ → Bool
event_candidate next w s = (leb next (s + 1) && ltb s (next + w)) && ltb s (2 ^ 32)

-- the candidates of a token at a clock reading
unfoldable pub candidate : Track → ℕ → Size → ℕ → Bool
candidate k clock size s =
    cond (eqb k.scheme.kind time_token)
    (time_candidate (step_at clock k.period) k.offset.0 (time_width size) s)
    (event_candidate k.next.0 (event_width size) s)

-- every candidate lies below this step
unfoldable pub beyond : Track → ℕ → ℕ
beyond k clock = cond (eqb k.scheme.kind time_token) (step_at clock k.period + farthest + 1) (2 ^ 32)

-- what a well_formed_lem row and a clock below 2^40 give; 2^40 + 600 is the step after the last that such a clock lets in
pub record Sound (k : Track) (clock : ℕ) : Type 0 where
  pub divided : k.scheme.kind ≡ time_token → 0 < k.period
  pub timely : clock < 2 ^ 40
  pub counted : k.next.0 ≤ 2 ^ 40 + farthest
  pub within : k.offset.0 ≤ 2 * farthest
