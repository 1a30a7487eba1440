-- What a turn over a piece of the input does, and what all turns together do.
use Rattle.std.specs.Prelude.{ℕ, ◌≡◌, ◌≤◌, Bool, true, List, [], ◌++◌, length, take, Option, IfSome}
use Rattle.std.specs.Io.KnownBytes.{Appends, Consumes}
use Rattle.lines.specs.Lines.{lines_of, cut, kept}
use Rattle.window.specs.PasswordAt.{PasswordRule}
use Rattle.script.specs.Sizes.{longest}
use Rattle.script.specs.Script.{Stage, served_all}

-- a piece was served, whatever became of what it printed: the buffers hold the new pending line and the table after the lines that ended
pub record Advances (passwords : PasswordRule) (line : Option (List ℕ)) (piece : List ℕ) (line' : Option (List ℕ)) (stage after : Stage) : Type 0 where
  pub pending : (p : List ℕ) → line ≡ kept longest p → line' ≡ kept longest (cut p piece).pending
  pub staged : (p : List ℕ) → line ≡ kept longest p → after ≡ (served_all passwords (cut p piece).whole stage).stage

-- the first bytes of a piece were served, whether or not all that they printed is written out
pub record AdvancesSome (passwords : PasswordRule) (line : Option (List ℕ)) (piece : List ℕ) (line' : Option (List ℕ)) (stage after : Stage) : Type 0 where
  pub used : ℕ
  pub part : used ≤ length piece
  pub advances : Advances passwords line (take used piece) line' stage after

-- a piece was read into a buffer, none where the read failed, and its first bytes were served; `known` and `rest` are the bytes that the reader had left before and after
pub record ReadsSome (passwords : PasswordRule) (known rest : Option (List ℕ)) (buffer : List ℕ) (line line' : Option (List ℕ)) (stage after : Stage) : Type 0 where
  pub read : ℕ
  pub within : read ≤ length buffer
  pub taken : Consumes known rest (take read buffer)
  pub served : AdvancesSome passwords line (take read buffer) line' stage after

-- an input was served up to the last line feed in it: the buffers hold the line that none has ended and the table after the lines before it
pub record Leaves (passwords : PasswordRule) (stage : Stage) (line : Option (List ℕ)) (after : Stage) : Type 0 where
  pub input : List ℕ
  pub pending : line ≡ kept longest (cut [] input).pending
  pub staged : after ≡ (served_all passwords (cut [] input).whole stage).stage

-- the first lines of an input were served, all of them where all was read and written out
pub record ServesInput (passwords : PasswordRule) (ok : Bool) (stage after : Stage) : Type 0 where
  pub input : List ℕ
  pub lines : List (List ℕ)
  pub rest : List (List ℕ)
  pub split : lines_of input ≡ lines ++ rest
  pub all : ok ≡ true → rest ≡ []
  pub staged : after ≡ (served_all passwords lines stage).stage

-- ---- from a reader to a writer, of which `known` and `rest` are the bytes that the one had left before and after, and `old` and `new` those that the other held

-- what the lines print that end in a piece stands behind what the writer held
pub record Writes (passwords : PasswordRule) (line : Option (List ℕ)) (piece : List ℕ) (stage : Stage) (old new : Option (List ℕ)) : Type 0 where
  pub printed : (p : List ℕ) → line ≡ kept longest p → Appends old new (served_all passwords (cut p piece).whole stage).text

-- the reader gave an input, and its lines were served up to the last line feed in it
pub record Passes (passwords : PasswordRule) (known rest old new : Option (List ℕ)) (stage : Stage) (line : Option (List ℕ)) (after : Stage) : Type 0 where
  pub input : List ℕ
  pub taken : Consumes known rest input
  pub pending : line ≡ kept longest (cut [] input).pending
  pub printed : Appends old new (served_all passwords (cut [] input).whole stage).text
  pub staged : after ≡ (served_all passwords (cut [] input).whole stage).stage

-- all lines of what the reader had left were served: what they print stands behind what the writer held, and the stage is the one after them
abbrev pub ServesAll : PasswordRule → Option (List ℕ) → Option (List ℕ) → Option (List ℕ) → Stage → Stage → Type 0
ServesAll passwords known old new stage after =
    IfSome known (λ xs. Appends old new (served_all passwords (lines_of xs) stage).text × (after ≡ (served_all passwords (lines_of xs) stage).stage))
