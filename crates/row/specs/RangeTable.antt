-- The ranges of Part 4 (document 01), as a table with one proof: each number of a row at both ends of its range and beyond them, in a row that is well
-- formed but for it. An end that definition and code share wrongly shows here.
use Rattle.std.specs.Prelude.{ℕ, ◌+◌, ◌-◌, ◌^◌, ◌≡◌, refl, Bool, true, not, ◌&&◌, List, [], ◌∷◌, ◌++◌, replicate}
use Rattle.words.specs.Bytes.{be_at, be_bytes, put}
use Rattle.words.specs.Lists.{all_zero}
use Rattle.row.specs.Row.{last_state, row_at, number_tests, numbers_ok, zeros_ok, well_formed}

-- a well_formed_lem row by its first eight bytes and `locked at`: serial 1, a key of one byte and zeros, next 0, d 0, wait 60, expiry 0, last use 0
abbrev pub row_by : List ℕ → ℕ → List ℕ
row_by first locked =
    first
    ++ (be_bytes 8 1
    ++ ((1 ∷ replicate 31 0) ++ (replicate 8 0 ++ (be_bytes 2 600 ++ (replicate 2 0 ++ (be_bytes 4 60 ++ (replicate 8 0 ++ (be_bytes 8 locked ++ replicate 16 0))))))))

-- ready tokens of both kinds, and one locked by errors
abbrev pub time_row : List ℕ
time_row = row_by (2 ∷ 0 ∷ 3 ∷ 6 ∷ 30 ∷ 5 ∷ 0 ∷ 16 ∷ []) 0

abbrev pub event_row : List ℕ
event_row = row_by (2 ∷ 1 ∷ 4 ∷ 6 ∷ 0 ∷ 5 ∷ 0 ∷ 16 ∷ []) 0

abbrev pub locked_row : List ℕ
locked_row = row_by (3 ∷ 0 ∷ 3 ∷ 6 ∷ 30 ∷ 5 ∷ 0 ∷ 16 ∷ []) 1000

-- a number of a row: its offset and width, some numbers with which the row is well formed, and some with which it is not
pub record Range : Type 0 where
  pub row : List ℕ
  pub offset : ℕ
  pub width : ℕ
  pub within : List ℕ
  pub beyond : List ℕ

abbrev pub range : List ℕ → ℕ → ℕ → List ℕ → List ℕ → Range
range row offset width within beyond = record { row = row; offset = offset; width = width; within = within; beyond = beyond }

-- the row with another number at the offset is well formed
abbrev pub formed_with : Range → ℕ → Bool
formed_with c x = well_formed last_state (put c.row c.offset (be_bytes c.width x)) 0

abbrev pub all_formed : Range → List ℕ → Bool
all_formed c [] = true
all_formed c (x ∷ xs) = formed_with c x && all_formed c xs

abbrev pub none_formed : Range → List ℕ → Bool
none_formed c [] = true
none_formed c (x ∷ xs) = not (formed_with c x) && none_formed c xs

abbrev pub all_hold : List Range → Bool
all_hold [] = true
all_hold (c ∷ cs) = (all_formed c c.within && none_formed c c.beyond) && all_hold cs

-- Part 4's list in its order
abbrev pub first_ranges : List Range
first_ranges =
    -- state
    range time_row 0 1 (0 ∷ 1 ∷ 2 ∷ 3 ∷ 4 ∷ 5 ∷ 6 ∷ []) (7 ∷ 255 ∷ [])
    -- kind, with what the other kind has at 4
    ∷ range time_row 1 1 (0 ∷ []) (1 ∷ 2 ∷ 255 ∷ [])
    ∷ range event_row 1 1 (1 ∷ []) (0 ∷ 2 ∷ 255 ∷ [])
    -- algorithm
    ∷ range time_row 2 1 (3 ∷ 4 ∷ []) (0 ∷ 2 ∷ 5 ∷ 255 ∷ [])
    -- digits
    ∷ range time_row 3 1 (6 ∷ 10 ∷ []) (0 ∷ 5 ∷ 11 ∷ 255 ∷ [])
    -- period
    ∷ range time_row 4 1 (1 ∷ 60 ∷ []) (0 ∷ 61 ∷ 255 ∷ [])
    ∷ range event_row 4 1 (0 ∷ []) (1 ∷ 255 ∷ [])
    -- limit
    ∷ range time_row 5 1 (1 ∷ 10 ∷ []) (0 ∷ 11 ∷ 255 ∷ [])
    -- errors
    ∷ range time_row 6 1 (0 ∷ 255 ∷ []) []
    -- key length
    ∷ range time_row 7 1 (16 ∷ 32 ∷ []) (0 ∷ 15 ∷ 33 ∷ 255 ∷ [])
    -- serial
    ∷ range time_row 8 8 (0 ∷ (2 ^ 64 - 1) ∷ []) []
    -- the key's 16 bytes, and the zeros behind them
    ∷ range time_row 31 1 (0 ∷ 255 ∷ []) []
    ∷ range time_row 32 1 (0 ∷ []) (1 ∷ 255 ∷ [])
    ∷ range time_row 47 1 (0 ∷ []) (1 ∷ 255 ∷ [])
    ∷ []

abbrev pub last_ranges : List Range
last_ranges =
    -- next
    range time_row 48 8 (0 ∷ (2 ^ 40 + 600) ∷ []) ((2 ^ 40 + 601) ∷ (2 ^ 64 - 1) ∷ [])
    ∷ range event_row 48 8 (0 ∷ (2 ^ 32) ∷ []) ((2 ^ 32 + 1) ∷ (2 ^ 64 - 1) ∷ [])
    -- d + 600
    ∷ range time_row 56 2 (0 ∷ 1200 ∷ []) (1201 ∷ 65535 ∷ [])
    ∷ range event_row 56 2 (600 ∷ []) (0 ∷ 599 ∷ 601 ∷ 1200 ∷ [])
    -- two zeros
    ∷ range time_row 58 2 (0 ∷ []) (1 ∷ 256 ∷ [])
    -- wait
    ∷ range time_row 60 4 (60 ∷ 86400 ∷ []) (0 ∷ 59 ∷ 86401 ∷ (2 ^ 32 - 1) ∷ [])
    -- expiry
    ∷ range time_row 64 8 (0 ∷ (2 ^ 40) ∷ []) ((2 ^ 40 + 1) ∷ (2 ^ 64 - 1) ∷ [])
    -- locked at: 0 unless state 3
    ∷ range locked_row 72 8 (0 ∷ (2 ^ 40 - 1) ∷ []) ((2 ^ 40) ∷ (2 ^ 64 - 1) ∷ [])
    ∷ range locked_row 0 1 (3 ∷ []) (0 ∷ 1 ∷ 2 ∷ 4 ∷ 5 ∷ 6 ∷ [])
    ∷ range time_row 72 8 (0 ∷ []) (1 ∷ (2 ^ 40 - 1) ∷ [])
    -- last use
    ∷ range time_row 80 8 (0 ∷ (2 ^ 40 - 1) ∷ []) ((2 ^ 40) ∷ (2 ^ 64 - 1) ∷ [])
    -- eight zeros
    ∷ range time_row 88 8 (0 ∷ []) (1 ∷ (2 ^ 56) ∷ [])
    ∷ []

pub ranges_hold : all_hold first_ranges && all_hold last_ranges ≡ true
unfolding be_at be_bytes all_zero row_at number_tests numbers_ok zeros_ok well_formed
ranges_hold = refl
