-- What the line program prints for its input (document 01, "Line program"), and the same where the input comes in pieces.
use Rattle.std.specs.Prelude.{ℕ, ◌≡◌, Bool, true, Option}
use Rattle.std.specs.Io.KnownBytes.{Appends, Consumes}
use mathlib.Core.List.{List, [], ◌∷◌, ◌++◌, map, flatten}
use Rattle.password_lines.specs.Line.{line_answer}
use Rattle.lines.specs.Lines.{line_feed, lines_of, cut, last, kept}

-- what is printed for a line
abbrev pub answered : List ℕ → List ℕ
answered line = line_answer line ++ (line_feed ∷ [])

abbrev pub answered_all : List (List ℕ) → List ℕ
answered_all lines = flatten (map answered lines)

-- what is printed for the input
unfoldable pub output_of : List ℕ → List ℕ
output_of input = answered_all (lines_of input)

-- ---- the input in pieces

-- what the lines that end in a piece print, from the pending line p on
abbrev pub fed : List ℕ → List ℕ → List ℕ
fed p piece = answered_all (cut p piece).whole

-- what the end of the input prints
abbrev pub finished : List ℕ → List ℕ
finished p = answered_all (last p)

-- the longest line that is kept: a longer one is refused whatever it holds
abbrev pub longest : ℕ
longest = 256

-- a piece was fed: what is kept of the pending line is that of the new one, and text was printed
pub record Follows (line : Option (List ℕ)) (piece : List ℕ) (after : Option (List ℕ)) (text : List ℕ) : Type 0 where
  pub pending : (p : List ℕ) → line ≡ kept longest p → after ≡ kept longest (cut p piece).pending
  pub printed : (p : List ℕ) → line ≡ kept longest p → text ≡ fed p piece

-- an input was fed, where nothing was pending: kept is the line that no line feed of it has ended
pub record Leaves (line : Option (List ℕ)) : Type 0 where
  pub input : List ℕ
  pub pending : line ≡ kept longest (cut [] input).pending

-- an input was answered: where all was read and written out, text is what its end prints
pub record Answers (ok : Bool) (line : Option (List ℕ)) (text : List ℕ) : Type 0 where
  pub left : Leaves line
  pub printed : ok ≡ true → text ≡ finished (cut [] left.input).pending

-- ---- from a reader to a writer

-- a reader, of which `known` and `rest` are the bytes that it had left before and after, gave an input, where nothing was pending: a writer, of which
-- `old` and `new` are the bytes that it held before and after, took what the lines print that end in it, and kept is the line that none has ended
pub record Passes (known rest old new : Option (List ℕ)) (line : Option (List ℕ)) : Type 0 where
  pub input : List ℕ
  pub taken : Consumes known rest input
  pub pending : line ≡ kept longest (cut [] input).pending
  pub printed : Appends old new (fed [] input)
