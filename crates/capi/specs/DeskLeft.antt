-- What the desk's C functions give and leave: the answer's number and values, and the table (document 01, Part 5).
use Rattle.token.specs.Answers.{Answer}
use Rattle.std.specs.Prelude.{ℕ, ◌-◌, ◌^◌, cond, List, [], ◌∷◌, ◌++◌, leb, length, drop, Err, Ok}
use Rattle.words.specs.Codes.{bad_argument}
use Rattle.words.specs.Output.{Left}
use Rattle.window.specs.PasswordAt.{password_at}
use Rattle.token.specs.declared.answers.Content.{Content}
use Rattle.token.specs.Codes.{Signed, number_of, values_of}
use Rattle.desk.specs.declared.Particulars.{Particulars}
use Rattle.desk.specs.Requests.{DeskCall}
use Rattle.desk.specs.Desk.{Result, desk_after}
use Rattle.desk.specs.Reads.{read_after}
use Rattle.message_calls.specs.Serving.{message_reads}
use Rattle.capi.specs.Stored.{left}

abbrev pub particulars_of : ℕ → ℕ → ℕ → ℕ → ℕ → ℕ → ℕ → ℕ → Particulars
particulars_of serial kind algorithm digits period limit wait expiry =
    record {
      serial = serial;
      scheme = record { kind = kind; algorithm = algorithm; digits = digits };
      period = period;
      limit = limit;
      wait = wait;
      expiry = record { 0 = expiry };
    }

-- the code, and the table and the values after the call
pub record DeskLeft : Type 0 where
  pub code : ℕ
  pub table : List ℕ
  pub values : List ℕ

abbrev pub left_with : ℕ → List ℕ → List ℕ → DeskLeft
left_with code s values = record { code = code; table = s; values = values }

-- the most values that a success carries
abbrev pub most_values : ℕ
most_values = 3

-- a signed number in 64 bits, two's complement
abbrev pub word : Signed → ℕ
word (Signed.plus n) = n
word (Signed.minus n) = 2 ^ 64 - n

abbrev pub words : List Signed → List ℕ
words [] = []
words (v ∷ vs) = word v ∷ words vs

-- what a success carries goes to the front of the values
abbrev pub content_left : Content → List ℕ → List ℕ
content_left content values = words (values_of content) ++ drop (length (words (values_of content))) values

abbrev pub answer_left : Answer → List ℕ → List ℕ
answer_left (Ok success) values = content_left success.content values
answer_left (Err refusal) values = values

abbrev pub result_left : Result → List ℕ → DeskLeft
result_left r values = left_with (number_of r.answer) r.table (answer_left r.answer values)

-- fewer than three values are a bad argument
unfoldable pub returned_with : List ℕ → List ℕ → Result → DeskLeft
returned_with s values r = cond (leb most_values (length values)) (result_left r values) (left_with bad_argument s values)

abbrev pub desk_left : DeskCall → List ℕ → List ℕ → DeskLeft
desk_left call s values = returned_with s values (desk_after password_at call s)

-- a message is answered as its call is, or refused
abbrev pub message_left : List ℕ → ℕ → List ℕ → List ℕ → DeskLeft
message_left message clock s values = returned_with s values (read_after password_at (message_reads message clock) s)

-- a call whose success carries nothing has no values
unfoldable pub plain_left : DeskCall → List ℕ → Left
plain_left call s = left (number_of (desk_after password_at call s).answer) (desk_after password_at call s).table
