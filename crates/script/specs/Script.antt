-- What the program desk_lines prints for its lines (docs/DESK-LINES.md), whole and where the input comes in pieces.
use Rattle.std.specs.Prelude.{ℕ, zero, suc, ◌*◌, ◌/◌, ◌%◌, ◌≡◌, Bool, true, false, ◌&&◌, cond, List, [], ◌∷◌, ◌++◌, leb, length, take, drop, replicate, Option, Some, None}
use Rattle.words.specs.Lists.{same_bytes}
use Rattle.text.specs.Text.{hex_digit, comma, decimal_of}
use Rattle.lines.specs.Lines.{line_feed, lines_of, cut, kept, Put}
use Rattle.window.specs.PasswordAt.{PasswordRule}
use Rattle.row.specs.Row.{row_bytes}
use Rattle.call_lines.specs.Line.{line_after}
use Rattle.script.specs.declared.state.Table.{Table}
use Rattle.script.specs.Sizes.{longest}

-- ---- the table as text

-- two small hexadecimal digits a byte
unfoldable pub hex_text : List ℕ → List ℕ
hex_text [] = []
hex_text (b ∷ s) = hex_digit (b / 16) ∷ hex_digit (b % 16) ∷ hex_text s

-- the first rows of a table, a line each
unfoldable pub rows_text : ℕ → List ℕ → List ℕ
rows_text zero s = []
rows_text (suc n) s = (hex_text (take row_bytes s) ++ (line_feed ∷ [])) ++ rows_text n (drop row_bytes s)

abbrev pub table_text : List ℕ → List ℕ
table_text s = rows_text (length s / row_bytes) s

-- ---- a line

abbrev pub few_rows : Option ℕ → Option ℕ
few_rows None = None
few_rows (Some n) = cond (leb 1 n && leb n 256) (Some n) None

-- N of a line `rows,N`; a line of more than 4,096 bytes is none
unfoldable pub rows_of : List ℕ → Option ℕ
rows_of line =
    cond (leb (length line) 4096 && same_bytes (take 5 line) (0x72 ∷ 0x6f ∷ 0x77 ∷ 0x73 ∷ comma ∷ [])) (few_rows (decimal_of (drop 5 line))) None

-- the line `table`
abbrev pub is_table : List ℕ → Bool
is_table line = same_bytes line (0x74 ∷ 0x61 ∷ 0x62 ∷ 0x6c ∷ 0x65 ∷ [])

-- whether no line was read yet, and the table
pub record Stage : Type 0 where
  pub fresh : Bool
  pub table : List ℕ

-- what is printed, and the stage after it
pub record Served : Type 0 where
  pub text : List ℕ
  pub stage : Stage

abbrev pub serves : List ℕ → List ℕ → Served
serves text table = record { text = text; stage = record { fresh = false; table = table } }

-- a line that is no `rows` line, or not the first
unfoldable pub later_line : PasswordRule → List ℕ → List ℕ → Served
later_line passwords line s =
    cond (is_table line) (serves (table_text s) s) (serves ((line_after passwords line s).text ++ (line_feed ∷ [])) (line_after passwords line s).table)

-- a right `rows` line prints nothing
abbrev pub first_line : PasswordRule → Option ℕ → List ℕ → List ℕ → Served
first_line passwords (Some n) line s = serves [] (replicate (row_bytes * n) 0)
first_line passwords None line s = later_line passwords line s

unfoldable pub served : PasswordRule → List ℕ → Stage → Served
served passwords line stage =
    cond stage.fresh (first_line passwords (rows_of line) line stage.table) (later_line passwords line stage.table)

-- ---- a script

abbrev pub following : List ℕ → Served → Served
following text after = record { text = text ++ after.text; stage = after.stage }

unfoldable pub served_all : PasswordRule → List (List ℕ) → Stage → Served
served_all passwords [] stage = record { text = []; stage = stage }
served_all passwords (line ∷ lines) stage =
    following (served passwords line stage).text (served_all passwords lines (served passwords line stage).stage)

-- without a file there is no table before the first line
abbrev pub start : Stage
start = record { fresh = true; table = [] }

unfoldable pub output_of : PasswordRule → List ℕ → List ℕ
output_of passwords input = (served_all passwords (lines_of input) start).text

-- ---- the buffers

-- the table's rows stand at the front of its buffer
abbrev pub stage_in : Bool → ℕ → List ℕ → Stage
stage_in fresh rows table = record { fresh = fresh; table = take (row_bytes * rows) table }

abbrev pub stage_of : Table → Stage
stage_of t = stage_in t.stage.fresh t.stage.rows t.bytes

-- the lines were served: what they print was put into the output at at and ends at end, and the buffer holds the table after them
pub record Serves (passwords : PasswordRule) (lines : List (List ℕ)) (stage after : Stage) (out : List ℕ) (at : ℕ) (out' : List ℕ) (end : ℕ) : Type 0 where
  pub printed : Put out at (served_all passwords lines stage).text out' end
  pub staged : after ≡ (served_all passwords lines stage).stage

-- a piece was fed: what is kept of the pending line is that of the new one, and the lines that ended were served
pub record Follows (passwords : PasswordRule) (line : Option (List ℕ)) (piece : List ℕ) (line' : Option (List ℕ))
    (stage after : Stage) (out : List ℕ) (at : ℕ) (out' : List ℕ) (end : ℕ) : Type 0 where
  pub pending : (p : List ℕ) → line ≡ kept longest p → line' ≡ kept longest (cut p piece).pending
  pub serving : (p : List ℕ) → line ≡ kept longest p → Serves passwords (cut p piece).whole stage after out at out' end
