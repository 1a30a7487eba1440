-- Passwords as numbers: to compare them, their digits need not be written.
use Rattle.std.specs.Prelude.{ℕ, ◌+◌, ◌-◌, ◌*◌, List, [], ◌∷◌}

-- the number that ASCII digits show, where x is that of the digits before them
unfoldable pub number_from : ℕ → List ℕ → ℕ
number_from x [] = x
number_from x (b ∷ s) = number_from (x * 10 + (b - 48)) s
