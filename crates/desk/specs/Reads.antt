-- What is read into a call, or refused before there is one (document 02, Ask 1): such a refusal is no call and leaves every byte.
use Rattle.std.specs.Prelude.{ℕ, List}
use Rattle.window.specs.PasswordAt.{PasswordRule}
use Rattle.token.specs.declared.answers.Refusal.{Refusal}
use Rattle.desk.specs.Requests.{DeskCall}
use Rattle.desk.specs.Desk.{Result, refused, desk_after}

pub data Reads : Type 0 where
  serves : (call : DeskCall) → Reads
  refuses : (refusal : Refusal) → Reads

unfoldable pub read_after : PasswordRule → Reads → List ℕ → Result
read_after passwords (Reads.serves call) s = desk_after passwords call s
read_after passwords (Reads.refuses refusal) s = refused refusal s
