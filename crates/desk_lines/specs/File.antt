-- The file that a table is in.
use Rattle.std.specs.Prelude.{ℕ, ◌≡◌, false, ◌%◌, ◌&&◌, cond, List, [], ◌++◌, eqb, leb, length}
use Rattle.row.specs.Row.{row_bytes}
use Rattle.script.specs.Script.{Stage}
use Rattle.script.specs.Sizes.{table_bytes}

-- the table that a file of these bytes is: none if they are not the bytes of up to 256 rows
unfoldable pub file_table : List ℕ → List ℕ
file_table bytes = cond (leb (length bytes) table_bytes && eqb (length bytes % row_bytes) 0) bytes []

-- the stage on a table that stands before the first line, so that none makes it
abbrev pub rows_stage : List ℕ → Stage
rows_stage table = record { fresh = false; table = table }

abbrev pub file_stage : List ℕ → Stage
file_stage bytes = rows_stage (file_table bytes)

-- a new file's name: the other file's path, and a dot and six letters behind it
pub record IsBeside (path name : List ℕ) : Type 0 where
  pub letters : List ℕ
  pub seven : length letters ≡ 7
  pub behind : name ≡ path ++ letters
