-- What a request leaves of a token agrees with the answer that the ledger machine enters.
use Rattle.token.specs.Answers.{Answer}
use Rattle.std.specs.Prelude.{ℕ, ◌≡◌, false, eqb}
use Rattle.token.specs.declared.deciding.Decision.{Decision}
use Rattle.token.specs.Codes.{number_of}
use Rattle.window.specs.PasswordAt.{PasswordRule}
use Rattle.desk.specs.Requests.{Request}
use Rattle.desk.specs.Desk.{checked_of}
use Rattle.ledger.specs.Ledger.{Loaded, Marks, Reading, marked, answered}
use Rattle.ledger.specs.Tokens.{Token, kept}
use Rattle.ledger.specs.HistoryTokens.{token_with}

-- the readings y have a wait run out; a query changes none, and enters otherwise
pub record Agrees (passwords : PasswordRule) (l : Loaded) (y : Reading) (m : Marks) (clock : ℕ) (request : Request) (t : Token) (d : Decision) (a : Answer) : Type 0 where
  pub answer : d.answer ≡ a
  pub numbered : eqb (number_of a) 0x9005 ≡ false
  pub token : kept t d.left ≡ token_with l (answered passwords l m request clock a y) (marked (checked_of a) clock m)
