-- Lines of data that restate what the desk does with a row (document 01, Part 5), and the test that holds them to it: a call, the number that is answered,
-- what the answer carries, and every byte of the row after it.
use Rattle.token.specs.Answers.{Answer}
use Rattle.std.specs.Prelude.{ℕ, ◌+◌, ◌*◌, Bool, true, false, ◌&&◌, List, [], ◌∷◌, ◌++◌, eqb, length, replicate, Err, Ok}
use Rattle.words.specs.Bytes.{be_bytes}
use Rattle.words.specs.Lists.{same_bytes}
use Rattle.otp.specs.Password.{decimals}
use Rattle.window.specs.PasswordAt.{PasswordRule}
use Rattle.token.specs.Codes.{number_of, Signed, values_of}
use Rattle.token.specs.Codes.Signed.{plus, minus}
use Rattle.desk.specs.Requests.{Request, DeskCall}
use Rattle.desk.specs.Desk.{Result, desk_after}
use Rattle.desk.specs.Demand1Bytes.{Change, laid}

-- ---- rows

-- a token by its kind, period, state, errors, first unused step and `locked at`: SM3, six digits, limit 3, serial 9, d 0, wait 60, expiry 5000, last use 500
abbrev pub row_by : ℕ → ℕ → ℕ → ℕ → ℕ → ℕ → List ℕ
row_by kind period state errors next locked =
    (state ∷ kind ∷ 3 ∷ 6 ∷ period ∷ 3 ∷ errors ∷ 16 ∷ [])
    ++ (be_bytes 8 9
    ++ ((replicate 16 7 ++ replicate 16 0)
    ++ (be_bytes 8 next
    ++ (be_bytes 2 600
    ++ (replicate 2 0 ++ (be_bytes 4 60 ++ (be_bytes 8 5000 ++ (be_bytes 8 locked ++ (be_bytes 8 500 ++ replicate 8 0)))))))))

-- a time token whose period is 60
abbrev pub row_with : ℕ → ℕ → ℕ → ℕ → List ℕ
row_with state errors next locked = row_by 0 60 state errors next locked

-- the rows in states 1 to 6, with two errors and first unused step 17, which is T at the clocks 1059 and 1060; the lock by errors was at 1000
abbrev pub six_rows : List (List ℕ)
six_rows = row_with 1 2 17 0 ∷ row_with 2 2 17 0 ∷ row_with 3 2 17 1000 ∷ row_with 4 2 17 0 ∷ row_with 5 2 17 0 ∷ row_with 6 2 17 0 ∷ []

-- ---- a line: a call, and what it answers, carries and changes in each of some rows

pub record Cell : Type 0 where
  pub code : ℕ
  pub values : List Signed
  pub changes : List Change

abbrev pub cell : ℕ → List Signed → List Change → Cell
cell code values changes = record { code = code; values = values; changes = changes }

-- nothing changes
abbrev pub no : ℕ → Cell
no code = cell code [] []

pub record Line : Type 0 where
  pub call : DeskCall
  pub rows : List (List ℕ)
  pub cells : List Cell

-- the password of step s is s, and 1000 more for each byte of the challenge
abbrev pub by_steps : PasswordRule
by_steps scheme key challenge s = decimals scheme.digits (s + 1000 * length challenge)

abbrev pub carried : Answer → List Signed
carried (Ok success) = values_of success.content
carried (Err refusal) = []

abbrev pub same_signed : Signed → Signed → Bool
same_signed (plus a) (plus b) = eqb a b
same_signed (minus a) (minus b) = eqb a b
same_signed (plus a) (minus b) = false
same_signed (minus a) (plus b) = false

abbrev pub same_values : List Signed → List Signed → Bool
same_values [] [] = true
same_values [] (y ∷ b) = false
same_values (x ∷ a) [] = false
same_values (x ∷ a) (y ∷ b) = same_signed x y && same_values a b

abbrev pub cell_holds : Result → List ℕ → Cell → Bool
cell_holds x s c = (eqb (number_of x.answer) c.code && same_values (carried x.answer) c.values) && same_bytes x.table (laid s 0 c.changes)

-- the row is all of the table
abbrev pub cells_hold : PasswordRule → DeskCall → List (List ℕ) → List Cell → Bool
cells_hold passwords call [] [] = true
cells_hold passwords call [] (c ∷ cs) = false
cells_hold passwords call (s ∷ ss) [] = false
cells_hold passwords call (s ∷ ss) (c ∷ cs) = cell_holds (desk_after passwords call s) s c && cells_hold passwords call ss cs

abbrev pub all_hold_by : PasswordRule → List Line → Bool
all_hold_by passwords [] = true
all_hold_by passwords (l ∷ ls) = cells_hold passwords l.call l.rows l.cells && all_hold_by passwords ls

abbrev pub all_hold : List Line → Bool
all_hold lines = all_hold_by by_steps lines

-- a request at a clock reading, and its cells in states 1 to 6
abbrev pub line : Request → ℕ → Cell → Cell → Cell → Cell → Cell → Cell → Line
line request clock a b c d e f = record { call = DeskCall.named request 9 clock; rows = six_rows; cells = a ∷ b ∷ c ∷ d ∷ e ∷ f ∷ [] }
