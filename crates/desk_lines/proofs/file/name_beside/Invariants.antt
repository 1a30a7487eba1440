use Rattle.std.proofs.Common.{◌≡◌, ◌+◌, List, ℕ, ◌++◌, length}
use Rattle.desk_lines.proofs.file.name_beside.Given as goal

abbrev pub invariant-loop-letter : goal.invariant-loop-letter
invariant-loop-letter l = (letters : List ℕ) × (length letters ≡ 1 + l.letter-index) × (l.name.bytes ≡ l.path ++ letters)
