-- The windows (document 01, Part 3), as a table with one proof: the candidates of small, medium and large windows of both kinds, and what cuts them off.
-- A wrong width or end that definition and code share shows here.
use Rattle.std.specs.Prelude.{ℕ, zero, suc, ◌+◌, ◌-◌, ◌^◌, ◌≡◌, refl, Bool, true, cond, ◌&&◌, List, [], ◌∷◌, ◌++◌}
use Rattle.words.specs.Lists.{same_bytes}
use Rattle.window.specs.declared.Size.{Size}
use Rattle.window.specs.declared.Size.TheVariants.{Small, Medium, Large}
use Rattle.window.specs.declared.Track.{Track}
use Rattle.window.specs.Window.{time_candidate, event_candidate, candidate}

-- a time token with its period and d + 600, and an event token with its first unused step
abbrev pub time_track : ℕ → ℕ → Track
time_track period offset = record { scheme = record { kind = 0; algorithm = 3; digits = 6 }; period = period; next = record { 0 = 0 }; offset = record { 0 = offset } }

abbrev pub event_track : ℕ → Track
event_track next = record { scheme = record { kind = 1; algorithm = 3; digits = 6 }; period = 0; next = record { 0 = next }; offset = record { 0 = 600 } }

-- the candidates among `count` steps, from a step on; `candidates_are-range` says that there are no gaps
unfoldable pub candidates_from : ℕ → ℕ → Track → ℕ → Size → List ℕ
candidates_from s zero k clock size = []
candidates_from s (suc count) k clock size = cond (candidate k clock size s) (s ∷ []) [] ++ candidates_from (s + 1) count k clock size

abbrev pub up_from : ℕ → ℕ → List ℕ
up_from s zero = []
up_from s (suc count) = s ∷ up_from (s + 1) count

-- a token's candidates: how many, from which step on; twenty steps on either side are looked at
pub record Case : Type 0 where
  pub track : Track
  pub clock : ℕ
  pub size : Size
  pub first : ℕ
  pub count : ℕ

abbrev pub case : Track → ℕ → Size → ℕ → ℕ → Case
case track clock size first count = record { track = track; clock = clock; size = size; first = first; count = count }

abbrev pub holds : Case → Bool
holds c = same_bytes (candidates_from (c.first - 20) (c.count + 40) c.track c.clock c.size) (up_from c.first c.count)

abbrev pub all_hold : List Case → Bool
all_hold [] = true
all_hold (c ∷ cs) = holds c && all_hold cs

-- time tokens at T = 1000
abbrev pub time_cases : List Case
time_cases =
    case (time_track 30 600) 30000 Small 998 5
    ∷ case (time_track 30 600) 30029 Medium 995 11
    ∷ case (time_track 30 600) 30000 Large 990 21
    -- d 7 and d -7
    ∷ case (time_track 30 607) 30000 Small 1005 5
    ∷ case (time_track 30 593) 30000 Small 991 5
    -- at most 600 from T
    ∷ case (time_track 30 1200) 30000 Small 1598 3
    ∷ case (time_track 30 0) 30000 Small 400 3
    ∷ case (time_track 30 1200) 30000 Large 1590 11
    ∷ []

-- event tokens: the step before the first unused one counts, if there is one
abbrev pub event_cases : List Case
event_cases =
    case (event_track 100) 0 Small 99 11
    ∷ case (event_track 100) 0 Medium 99 21
    ∷ case (event_track 100) 0 Large 99 51
    ∷ case (event_track 0) 0 Small 0 10
    ∷ case (event_track 0) 0 Medium 0 20
    ∷ case (event_track 0) 0 Large 0 50
    -- none above 2^32 - 1
    ∷ case (event_track (2 ^ 32 - 4)) 0 Small (2 ^ 32 - 5) 5
    ∷ case (event_track (2 ^ 32)) 0 Large (2 ^ 32 - 1) 1
    ∷ []

pub windows_hold : all_hold time_cases && all_hold event_cases ≡ true
unfolding same_bytes candidates_from candidate time_candidate event_candidate
windows_hold = refl
