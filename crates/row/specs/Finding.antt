-- The search for a row as the code makes it: by the serial's bytes in the other order, and over four rows at once.
use Rattle.std.specs.Prelude.{ℕ, ◌+◌, ◌-◌, ◌*◌, ◌/◌, Bool, not, ◌&&◌, ◌||◌, List, eqb, leb, length}
use Rattle.words.specs.Bytes.{le_at}
use Rattle.row.specs.declared.finding.Wanted.{Wanted}
use Rattle.row.specs.declared.finding.Wanted.TheVariants.{Serial, Empty}
use Rattle.row.specs.Table.{Place, is_empty, first_row}

-- whether the row at a place has the serial whose bytes, in the other order, are the wanted number
abbrev pub serial_is : List ℕ → ℕ → ℕ → Bool
serial_is s wanted at = eqb (le_at 8 s (at + 8)) wanted

-- whether the row at a place is the wanted one
abbrev pub passes : List ℕ → Wanted → ℕ → Bool
passes s (Serial wanted) at = not (is_empty s at) && serial_is s wanted at
passes s Empty at = is_empty s at

-- the first row that passes, of those from a place to the table's end
unfoldable pub first_from : ℕ → (ℕ → Bool) → List ℕ → ℕ → Place
first_from width test s at = first_row width test ((length s - at) / width) at

-- whether four rows are left at a place, and none of them has the serial
unfoldable pub four_lack : ℕ → List ℕ → ℕ → ℕ → Bool
four_lack width s wanted at =
    leb (at + 4 * width) (length s)
    && not (((serial_is s wanted at || serial_is s wanted (at + width)) || serial_is s wanted (at + 2 * width)) || serial_is s wanted (at + 3 * width))
