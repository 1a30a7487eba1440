-- A call that names a token is refused by its own arguments, or is its request by value.
use Rattle.std.specs.Prelude.{ℕ, ◌≡◌, false, List}
use Rattle.words.specs.BoolLaws.{and_false, and_assoc}
use Rattle.window.specs.PasswordAt.{PasswordRule}
use Rattle.row.specs.Row.{row_bytes}
use Rattle.token.specs.declared.answers.Refusal.{Refusal}
use Rattle.token.specs.declared.lines.Request.{Request as Valued}
use Rattle.desk.specs.Requests.{Request, DeskCall, table_ok, clock_ok, request_ok, valued, challenge_fits, challenge_of}
use Rattle.desk.specs.Desk.{Result, refused, served, desk_after}

module _ (passwords : PasswordRule) (request : Request) (serial clock : ℕ) (s : List ℕ) where
  pub call-unfit : request_ok request ≡ false → refused Refusal.BadArgument s ≡ desk_after passwords (DeskCall.named request serial clock) s
  unfolding desk_after
  call-unfit t = rw (t, and_false (clock_ok clock), and_false (table_ok row_bytes s))

  -- a challenge that is absent or not in range is found so by `served`
  pub call-served : request_ok request ≡ challenge_fits (valued request) (challenge_of request) → {v : Valued} {d : Result} → v ≡ valued request
      → d ≡ served passwords v (challenge_of request) serial clock s → d ≡ desk_after passwords (DeskCall.named request serial clock) s
  unfolding served desk_after
  call-served t {d = d} e p =
      let q : d ≡ served passwords (valued request) (challenge_of request) serial clock s = rw e at p in
      rw (t, ← and_assoc (table_ok row_bytes s) (clock_ok clock) (challenge_fits (valued request) (challenge_of request))) q
