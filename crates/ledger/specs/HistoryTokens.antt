-- The tokens of a history, and what holds of every history that the ledger machine makes.
use Rattle.token.specs.Answers.{Answer}
use Rattle.std.specs.Prelude.{ℕ, ◌≤◌, ◌≡◌, List, [], ◌∷◌, length}
use Rattle.std.proofs.Math.Option.{none}
use Rattle.window.specs.PasswordAt.{PasswordRule}
use Rattle.desk.specs.Requests.{DeskCall}
use Rattle.ledger.specs.Ledger.{Entry, Loaded, Marks, Reading, entries_of, loads, load_of, marks, reading, row_of, key_of}
use Rattle.ledger.specs.Tokens.{Token, TokensAfter}

-- a history with one more call and its answer
abbrev pub with_entry : DeskCall → Answer → List Entry → List Entry
with_entry call answer history = record { call = call; answer = answer } ∷ history

-- a load with its readings
abbrev pub token_with : Loaded → Reading → Marks → Token
token_with l r m = record { row = row_of l r m; key = key_of l r }

abbrev pub token_of : PasswordRule → List Entry → Loaded → Token
token_of passwords history l = token_with l (reading passwords l (entries_of l.particulars.serial history)) (marks (entries_of l.particulars.serial history))

unfoldable pub tokens_of : PasswordRule → List Loaded → List Entry → List Token
tokens_of passwords [] history = []
tokens_of passwords (l ∷ ls) history = token_of passwords history l ∷ tokens_of passwords ls history

-- an answer, and the tokens of the history with the call and that answer
abbrev pub after_entry : PasswordRule → DeskCall → Answer → List Entry → TokensAfter
after_entry passwords call answer history =
    record { answer = answer; tokens = tokens_of passwords (loads (with_entry call answer history)) (with_entry call answer history) }

-- no two of the loads have a serial in common
abbrev pub Distinct : List Loaded → Type 0
Distinct [] = Unit {0}
Distinct (l ∷ ls) = (load_of l.particulars.serial ls ≡ none) × Distinct ls

-- the loads have a row each, no serial in common, and no other serial has been checked
pub record Consistent (rows : ℕ) (history : List Entry) : Type 0 where
  pub room : length (loads history) ≤ rows
  pub distinct : Distinct (loads history)
  pub unmarked : (serial : ℕ) → load_of serial (loads history) ≡ none → marks (entries_of serial history) ≡ marks []
