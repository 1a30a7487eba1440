-- The sizes of the buffers.
use Rattle.std.specs.Prelude.{ℕ, ◌+◌, ◌*◌}
use Rattle.row.specs.Row.{row_bytes}

-- the longest line that is kept: a longer one is refused whatever it holds
abbrev pub longest : ℕ
longest = 4096

-- all rows of a table
abbrev pub table_bytes : ℕ
table_bytes = 256 * row_bytes

-- a row as text: two digits a byte, and a line feed
abbrev pub row_text : ℕ
row_text = 2 * row_bytes + 1

-- the most that a line prints: all rows
abbrev pub most_text : ℕ
most_text = 256 * row_text

-- beside what is not written out yet, room for what a line prints
abbrev pub output_bytes : ℕ
output_bytes = 65536 + most_text
