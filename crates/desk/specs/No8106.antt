-- Document 02, request 13: no call is ever answered 8106, "since a step over 600 from T is no candidate", and such a step is never accepted. This page has
-- the statements; `No8106Laws` has the proofs.
use Rattle.std.specs.Prelude.{ℕ, ◌≤◌, ◌≡◌, false, List, eqb, Some}
use Rattle.std.proofs.Math.Option.{some}
use Rattle.window.specs.Window.{time_token, step_at, distance}
use Rattle.window.specs.PasswordAt.{PasswordRule}
use Rattle.row.specs.Row.{row_bytes, row_at}
use Rattle.row.specs.Table.{find_row}
use Rattle.token.specs.Codes.{number_of}
use Rattle.desk.specs.Requests.{Request, DeskCall}
use Rattle.desk.specs.Desk.{desk_after, checked_of}

-- for every call, clock and bytes of the table
abbrev pub No8106 : Type 0
No8106 = (passwords : PasswordRule) (call : DeskCall) (s : List ℕ) → eqb (number_of (desk_after passwords call s).answer) 0x8106 ≡ false

-- an accepted step of a time token, by one password or by two, lies at most 600 from T, which is why d fits its two bytes
abbrev pub AcceptedNear : Type 0
AcceptedNear =
    (passwords : PasswordRule) (request : Request) (serial clock : ℕ) (s : List ℕ) (at a d : ℕ) → find_row row_bytes s serial ≡ Some at
    → checked_of (desk_after passwords (DeskCall.named request serial clock) s).answer ≡ some (record { 0 = a }, record { 0 = d }) → (row_at s at).track.scheme.kind ≡ time_token
    → distance a (step_at clock (row_at s at).track.period) ≤ 600
