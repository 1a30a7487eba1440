-- A double press on the tablet (document 02, Ask 4): what one does, and what lists of calls come to without them. Everything is said of any table, damaged ones
-- included, and of every password rule; `PressesLaws` has the proofs.
use Rattle.token.specs.Answers.{Answer}
use Rattle.std.specs.Prelude.{ℕ, ◌≡◌, Bool, true, false, ◌&&◌, cond, List, [], ◌∷◌, eqb, replicate, Some, None}
use Rattle.words.specs.Bytes.{AreBytes}
use Rattle.window.specs.PasswordAt.{PasswordRule}
use Rattle.row.specs.Row.{row_bytes, row_at}
use Rattle.row.specs.Table.{Place, find_row, store_row}
use Rattle.token.specs.Codes.{number_of}
use Rattle.token.specs.States.{waited}
use Rattle.desk.specs.Requests.{Request, DeskCall}
use Rattle.desk.specs.Desk.{Result, desk_after, run}
use Rattle.desk.specs.Demand1.{press_at}

-- what holds of the row that a call names, if there is one
abbrev pub of_row : Place → (ℕ → Bool) → Bool
of_row (Some at) test = test at
of_row None test = false

-- a press: a login or challenge login answered 8004 whose password is that of the candidate before the first unused step
unfoldable pub is_press : PasswordRule → DeskCall → List ℕ → Bool
is_press passwords (DeskCall.load p key) s = false
is_press passwords (DeskCall.named request serial clock) s =
    eqb (number_of (desk_after passwords (DeskCall.named request serial clock) s).answer) 0x8004 && of_row (find_row row_bytes s serial) (press_at passwords request clock s)

-- ---- one press

-- answered 8004; of the row a wait has run out and nothing else changed, so that the token is ready with the errors that it had
pub record LeavesReady (serial clock : ℕ) (s : List ℕ) (at : ℕ) (x : Result) : Type 0 where
  pub found : find_row row_bytes s serial ≡ Some at
  pub answer : number_of x.answer ≡ 0x8004
  pub table : x.table ≡ store_row s at (waited (row_at s at) clock)
  pub state : (row_at x.table at).state ≡ 2
  pub errors : (row_at x.table at).errors ≡ (waited (row_at s at) clock).errors

abbrev pub PressLeavesReady : Type 0
PressLeavesReady =
    (passwords : PasswordRule) (request : Request) (serial clock : ℕ) (s : List ℕ) → is_press passwords (DeskCall.named request serial clock) s ≡ true
    → (at : ℕ) × LeavesReady serial clock s at (desk_after passwords (DeskCall.named request serial clock) s)

-- ---- a list of calls, each on the table as the last one left it

-- of the answers, those to calls that are no presses
unfoldable pub others : PasswordRule → List DeskCall → List ℕ → List Answer → List Answer
others passwords [] s answers = []
others passwords (call ∷ calls) s [] = []
others passwords (call ∷ calls) s (answer ∷ answers) =
    let rest = others passwords calls (desk_after passwords call s).table answers in cond (is_press passwords call s) rest (answer ∷ rest)

-- in place of a press, a call of the same serial and clock that a ready token refuses: it only lets a wait run out
abbrev pub idle : DeskCall → DeskCall
idle (DeskCall.load p key) = DeskCall.load p key
idle (DeskCall.named request serial clock) = DeskCall.named (Request.activate (replicate 6 0x30) (replicate 6 0x30)) serial clock

unfoldable pub idled : PasswordRule → List DeskCall → List ℕ → List DeskCall
idled passwords [] s = []
idled passwords (call ∷ calls) s = cond (is_press passwords call s) (idle call) call ∷ idled passwords calls (desk_after passwords call s).table

-- with such calls in place of the presses: the same table, and the same other answers
abbrev pub PressesOnlyWait : Type 0
PressesOnlyWait =
    (passwords : PasswordRule) (calls : List DeskCall) (s : List ℕ)
    → ((run passwords (idled passwords calls s) s).table ≡ (run passwords calls s).table)
    × (others passwords calls s (run passwords (idled passwords calls s) s).answers ≡ others passwords calls s (run passwords calls s).answers)

-- the list without its presses
unfoldable pub struck : PasswordRule → List DeskCall → List ℕ → List DeskCall
struck passwords [] s = []
struck passwords (call ∷ calls) s = let rest = struck passwords calls (desk_after passwords call s).table in cond (is_press passwords call s) rest (call ∷ rest)

-- the call names a token that is locked by errors
abbrev pub finds_locked : DeskCall → List ℕ → Bool
finds_locked (DeskCall.load p key) s = false
finds_locked (DeskCall.named request serial clock) s = of_row (find_row row_bytes s serial) (λ at. eqb (row_at s at).state 3)

abbrev pub NoPressWaits : PasswordRule → List DeskCall → List ℕ → Type 0
NoPressWaits passwords [] s = Unit {0}
NoPressWaits passwords (call ∷ calls) s =
    (is_press passwords call s ≡ true → finds_locked call s ≡ false) × NoPressWaits passwords calls (desk_after passwords call s).table

-- the key of a load is of bytes, as a slice's type says of it
abbrev pub KeyIsBytes : DeskCall → Type 0
KeyIsBytes (DeskCall.load p key) = AreBytes key
KeyIsBytes (DeskCall.named request serial clock) = Unit {0}

abbrev pub KeysAreBytes : List DeskCall → Type 0
KeysAreBytes [] = Unit {0}
KeysAreBytes (call ∷ calls) = KeyIsBytes call × KeysAreBytes calls

-- where no press finds its token locked by errors, the presses can be struck: the same table, and the same other answers
abbrev pub PressesStruck : Type 0
PressesStruck =
    (passwords : PasswordRule) (calls : List DeskCall) (s : List ℕ) → AreBytes s → KeysAreBytes calls → NoPressWaits passwords calls s
    → ((run passwords (struck passwords calls s) s).table ≡ (run passwords calls s).table)
    × ((run passwords (struck passwords calls s) s).answers ≡ others passwords calls s (run passwords calls s).answers)
