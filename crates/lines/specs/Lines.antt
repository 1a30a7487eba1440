-- The lines of an input, whole and in pieces.
use Rattle.std.specs.Prelude.{ℕ, ◌+◌, ◌≡◌, cond, List, [], ◌∷◌, ◌++◌, eqb, nat_le, length, take, Option, Some, None}
use Rattle.text.specs.Text.{longer}

abbrev pub line_feed : ℕ
line_feed = 0x0a

-- the lines; each ends in a line feed, which the last may lack
unfoldable pub lines_of : List ℕ → List (List ℕ)
lines_of [] = []
lines_of (b ∷ s) = cond (eqb b line_feed) ([] ∷ lines_of s) (longer b (lines_of s))

-- ---- the input in pieces

-- the lines that a piece ends, and the line that no line feed has ended yet
pub record Cut : Type 0 where
  pub whole : List (List ℕ)
  pub pending : List ℕ

abbrev pub behind : List (List ℕ) → Cut → Cut
behind lines after = record { whole = lines ++ after.whole; pending = after.pending }

-- a piece of the input, from the pending line p on
unfoldable pub cut : List ℕ → List ℕ → Cut
cut p [] = record { whole = []; pending = p }
cut p (b ∷ s) = cond (eqb b line_feed) (behind (p ∷ []) (cut [] s)) (cut (p ++ (b ∷ [])) s)

-- the end of the input ends a line that has begun
unfoldable pub last : List ℕ → List (List ℕ)
last [] = []
last (b ∷ p) = (b ∷ p) ∷ []

-- ---- buffers

-- what n bytes keep of a pending line: of a longer one only that it is
abbrev pub kept : ℕ → List ℕ → Option (List ℕ)
kept n p = cond (nat_le (length p) n) (Some p) None

-- text was put into the output at at, behind what stood there, and ends at end
pub record Put (before : List ℕ) (at : ℕ) (text after : List ℕ) (end : ℕ) : Type 0 where
  pub place : end ≡ at + length text
  pub front : take end after ≡ take at before ++ text
