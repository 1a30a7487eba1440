-- The codes of document 01 that Parts 1 and 2 give.
use Rattle.std.specs.Prelude.{ℕ, Result, Ok, Err}
use Rattle.words.specs.declared.codes.BadArgument.{BadArgument}

-- nothing was refused; document 01 has no number for it
abbrev pub done : ℕ
done = 0

-- a bad argument ("What a turned-down call says")
abbrev pub bad_argument : ℕ
bad_argument = 0x9005

-- the code that C gets for what a function gives or refuses
abbrev pub code_of : {A : Type 0} → Result A BadArgument → ℕ
code_of (Ok made) = done
code_of (Err refused) = bad_argument
