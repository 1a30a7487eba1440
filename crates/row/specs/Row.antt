-- The row (document 01, Part 4): its layout, and when it is well formed. A table is a list of bytes; a row stands at a place in it.
use Rattle.std.specs.Prelude.{ℕ, ◌+◌, ◌*◌, ◌^◌, Bool, true, ◌&&◌, ◌||◌, cond, List, [], ◌∷◌, ◌++◌, eqb, leb, ltb, get_or, take, drop, replicate}
use Rattle.words.specs.Bytes.{be_at, be_bytes}
use Rattle.words.specs.Lists.{all_zero}
use Rattle.window.specs.declared.Track.{Track}
use Rattle.window.specs.Window.{time_token, farthest}
use Rattle.row.specs.declared.Row.{Row}

-- the bytes of the layout; the rows of a table may be wider (request 6 of document 02)
abbrev pub row_bytes : ℕ
row_bytes = 96

-- the highest state, void; an old table of request 6 has one more
abbrev pub last_state : ℕ
last_state = 6

-- the bytes of a row's key, zeros behind it included
abbrev pub key_bytes : ℕ
key_bytes = 32

-- ---- the layout

-- the numbers of the row at a place
unfoldable pub row_at : List ℕ → ℕ → Row
row_at s at =
    record {
      state = get_or s (at + 0) 0;
      track = record {
        scheme = record { kind = get_or s (at + 1) 0; algorithm = get_or s (at + 2) 0; digits = get_or s (at + 3) 0 };
        period = get_or s (at + 4) 0;
        next = record { 0 = be_at 8 s (at + 48) };
        offset = record { 0 = be_at 2 s (at + 56) };
      };
      limit = get_or s (at + 5) 0;
      errors = get_or s (at + 6) 0;
      key_length = get_or s (at + 7) 0;
      serial = be_at 8 s (at + 8);
      wait = be_at 4 s (at + 60);
      expiry = record { 0 = be_at 8 s (at + 64) };
      locked_at = record { 0 = be_at 8 s (at + 72) };
      last_use = record { 0 = be_at 8 s (at + 80) };
    }

-- the bytes of the key at offset 16
abbrev pub key_at : List ℕ → ℕ → List ℕ
key_at s at = take key_bytes (drop (at + 16) s)

-- the first 8 bytes, a number each
abbrev pub first_bytes : Row → List ℕ
first_bytes r =
    r.state ∷ r.track.scheme.kind ∷ r.track.scheme.algorithm ∷ r.track.scheme.digits ∷ r.track.period ∷ r.limit ∷ r.errors ∷ r.key_length ∷ []

-- the 16 bytes before the key
unfoldable pub before_key : Row → List ℕ
before_key r = first_bytes r ++ be_bytes 8 r.serial

-- the 12 bytes behind the key: the first unused step and the offset
unfoldable pub step_bytes : Row → List ℕ
step_bytes r = be_bytes 8 r.track.next.0 ++ (be_bytes 2 r.track.offset.0 ++ replicate 2 0)

-- the last 36 bytes: the wait and the clock readings
unfoldable pub time_bytes : Row → List ℕ
time_bytes r = be_bytes 4 r.wait ++ (be_bytes 8 r.expiry.0 ++ (be_bytes 8 r.locked_at.0 ++ (be_bytes 8 r.last_use.0 ++ replicate 8 0)))

-- the bytes of a row with a key that is filled up with zeros
unfoldable pub render : Row → List ℕ → List ℕ
render r key = before_key r ++ (key ++ (step_bytes r ++ time_bytes r))

-- ---- well formed

abbrev pub is_time : Track → Bool
is_time k = eqb k.scheme.kind time_token

abbrev pub kind_ok : Track → Bool
kind_ok k = leb k.scheme.kind 1

-- the ranges that differ by kind: of the period, the first unused step and d + 600
abbrev pub period_ok : Track → Bool
period_ok k = cond (is_time k) (leb 1 k.period && leb k.period 60) (eqb k.period 0)

abbrev pub next_ok : Track → Bool
next_ok k = leb k.next.0 (cond (is_time k) (2 ^ 40 + farthest) (2 ^ 32))

abbrev pub offset_ok : Track → Bool
offset_ok k = cond (is_time k) (leb k.offset.0 (2 * farthest)) (eqb k.offset.0 farthest)

-- a time token or an event token, with these in range
unfoldable pub track_ok : Track → Bool
track_ok k = ((kind_ok k && period_ok k) && next_ok k) && offset_ok k

abbrev pub all_of : List Bool → Bool
all_of [] = true
all_of (b ∷ bs) = b && all_of bs

-- Part 4's list in its order, with the highest state of the table; errors and serial take every value
unfoldable pub number_tests : ℕ → Row → List Bool
number_tests highest r =
    leb r.state highest
    ∷ kind_ok r.track
    ∷ (eqb r.track.scheme.algorithm 3 || eqb r.track.scheme.algorithm 4)
    ∷ (leb 6 r.track.scheme.digits && leb r.track.scheme.digits 10)
    ∷ period_ok r.track
    ∷ (leb 1 r.limit && leb r.limit 10)
    ∷ (leb 16 r.key_length && leb r.key_length key_bytes)
    ∷ next_ok r.track
    ∷ offset_ok r.track
    ∷ (leb 60 r.wait && leb r.wait 86400)
    ∷ leb r.expiry.0 (2 ^ 40)
    ∷ (ltb r.locked_at.0 (2 ^ 40) && (eqb r.state 3 || eqb r.locked_at.0 0))
    ∷ ltb r.last_use.0 (2 ^ 40)
    ∷ []

unfoldable pub numbers_ok : ℕ → Row → Bool
numbers_ok highest r = all_of (number_tests highest r)

-- the zeros of the row at a place: behind the key, and the spare bytes at 58 and 88
unfoldable pub zeros_ok : List ℕ → ℕ → Bool
zeros_ok s at =
    (all_zero (drop (get_or s (at + 7) 0) (key_at s at)) && all_zero (take 2 (drop (at + 58) s))) && all_zero (take 8 (drop (at + 88) s))

unfoldable pub well_formed : ℕ → List ℕ → ℕ → Bool
well_formed highest s at = numbers_ok highest (row_at s at) && zeros_ok s at
