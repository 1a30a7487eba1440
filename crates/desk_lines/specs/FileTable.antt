-- The tables that files of some lengths are, computed: one row, a byte less and more, as many rows as a table has, and a row more.
use Rattle.std.specs.Prelude.{ℕ, ◌≡◌, List, length, replicate, refl}
use Rattle.window.specs.PasswordAt.{PasswordRule}
use Rattle.script.specs.Script.{later_line, served}
use Rattle.desk_lines.specs.File.{file_table, file_stage}

-- the bytes of the table that a file of n bytes is
abbrev pub taken : ℕ → ℕ
taken n = length (file_table (replicate n 0))

pub file_table_holds : (taken 0 ≡ 0) × ((taken 95 ≡ 0) × ((taken 96 ≡ 96) × ((taken 97 ≡ 0) × ((taken 24576 ≡ 24576) × (taken 24672 ≡ 0)))))
unfolding file_table
file_table_holds = (refl, (refl, (refl, (refl, (refl, refl)))))

-- no line is the first on a file's table, so that a `rows` line makes none
pub no_line_is_first : (passwords : PasswordRule) (line bytes : List ℕ) → served passwords line (file_stage bytes) ≡ later_line passwords line (file_table bytes)
unfolding served
no_line_is_first passwords line bytes = refl
