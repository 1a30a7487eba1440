-- The table of rows (document 01, Part 4): which row has a serial, what is read of it, and what is stored.
use Rattle.std.specs.Prelude.{ℕ, zero, suc, ◌+◌, ◌-◌, ◌/◌, ◌^◌, ◌≤◌, Bool, ◌&&◌, cond, not, List, ◌++◌, eqb, length, get_or, set, take, drop, replicate, Option, Some, None, Result, Ok, Err}
use Rattle.words.specs.Bytes.{be_at, put_be}
use Rattle.row.specs.declared.Row.{Row}
use Rattle.row.specs.declared.reading.Located.{Located}
use Rattle.row.specs.declared.reading.Unserved.{Unserved}
use Rattle.row.specs.declared.reading.Unserved.TheVariants.{Unknown, Damaged}
use Rattle.row.specs.Row.{row_bytes, key_bytes, row_at, render, well_formed}

-- a width that a table's rows may have: `long` gives the layout room, and `short` lets the search look four rows ahead of any place of a table without
-- leaving the range of a usize
pub record WidthOk (width : ℕ) : Type 0 where
  pub long : row_bytes ≤ width
  pub short : width ≤ 2 ^ 16

-- the bytes of the row at a place
abbrev pub bytes_at : List ℕ → ℕ → List ℕ
bytes_at s at = take row_bytes (drop at s)

abbrev pub is_empty : List ℕ → ℕ → Bool
is_empty s at = eqb (get_or s (at + 0) 0) 0

-- the row at a place is not empty and has the serial
unfoldable pub has_serial : List ℕ → ℕ → ℕ → Bool
has_serial s serial at = not (is_empty s at) && eqb (be_at 8 s (at + 8)) serial

-- the place of a row, if there is one
abbrev pub Place : Type 0
Place = Option ℕ

-- what the search for a row to serve comes to
abbrev pub Sought : Type 0
Sought = Result Located Unserved

-- the first of `count` rows of a width, from a place on, that passes the test
unfoldable pub first_row : ℕ → (ℕ → Bool) → ℕ → ℕ → Place
first_row width test zero at = None
first_row width test (suc count) at = cond (test at) (Some at) (first_row width test count (at + width))

-- the serial's row is the first one not empty that has it
unfoldable pub find_row : ℕ → List ℕ → ℕ → Place
find_row width s serial = first_row width (has_serial s serial) (length s / width) 0

-- load takes the first empty row (document 01, Part 5)
unfoldable pub find_empty : ℕ → List ℕ → Place
find_empty width s = first_row width (is_empty s) (length s / width) 0

-- a call goes on only with a well_formed_lem row: with its place and its numbers
abbrev pub located_at : ℕ → List ℕ → Place → Sought
located_at highest s (Some at) = cond (well_formed highest s at) (Ok (record { at = at; row = row_at s at })) (Err Damaged)
located_at highest s None = Err Unknown

-- the serial's row in a table whose rows have a width and states up to the highest
unfoldable pub located : ℕ → ℕ → List ℕ → ℕ → Sought
located width highest s serial = located_at highest s (find_row width s serial)

-- the table with next and d stored at a place
abbrev pub steps_stored : List ℕ → ℕ → Row → List ℕ
steps_stored s at r = put_be 2 (put_be 8 s (at + 48) r.track.next.0) (at + 56) r.track.offset.0

-- the table with `locked at` and last use stored at a place
abbrev pub readings_stored : List ℕ → ℕ → Row → List ℕ
readings_stored s at r = put_be 8 (put_be 8 s (at + 72) r.locked_at.0) (at + 80) r.last_use.0

-- the table with the numbers that calls change stored at a place
unfoldable pub store_row : List ℕ → ℕ → Row → List ℕ
store_row s at r = readings_stored (steps_stored (set (set s (at + 0) r.state) (at + 6) r.errors) at r) at r

-- the table with a zero key at a place
unfoldable pub wipe_key : List ℕ → ℕ → List ℕ
wipe_key s at = take (at + 16) s ++ (replicate key_bytes 0 ++ drop (at + 16 + key_bytes) s)

-- a key with zeros behind it
abbrev pub zero_filled : List ℕ → List ℕ
zero_filled key = key ++ replicate (key_bytes - length key) 0

-- the table with all bytes of a row written at a place
unfoldable pub write_row : List ℕ → ℕ → Row → List ℕ → List ℕ
write_row s at r key = take at s ++ (render r (zero_filled key) ++ drop (at + row_bytes) s)
