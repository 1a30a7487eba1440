-- A small number as the function gives it.
use Rattle.std.specs.Prelude.{ℕ, cond, Option, Some, None, nat_lt}

-- a number that a byte holds
abbrev pub byte_of : Option ℕ → Option ℕ
byte_of None = None
byte_of (Some x) = cond (nat_lt x 256) (Some x) None
