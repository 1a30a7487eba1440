-- What a line of the program desk_lines means (its format: "Lines for the desk"): the call or the message that is served, and what is printed for it.
use Rattle.token.specs.Answers.{Answer}
use Rattle.std.specs.Prelude.{ℕ, zero, suc, ◌+◌, ◌-◌, ◌/◌, ◌%◌, ◌^◌, Bool, cond, List, [], ◌∷◌, ◌++◌, eqb, leb, ltb, length, get_or, Option, Some, None, Err, Ok}
use Rattle.std.specs.List.{find}
use Rattle.words.specs.Lists.{same_bytes}
use Rattle.text.specs.Text.{hex_digit, comma, decimal_of, hex_of, fields_of}
use Rattle.window.specs.PasswordAt.{PasswordRule}
use Rattle.token.specs.declared.answers.Refusal.{Refusal}
use Rattle.token.specs.Codes.{Signed, number_of, values_of}
use Rattle.desk.specs.declared.Particulars.{Particulars}
use Rattle.desk.specs.Requests.{DeskCall, login_call, challenge_call, activate_call, lock_call, unlock_call, suspend_call, resume_call, sync_call, void_call, query_call}
use Rattle.desk.specs.Reads.{Reads, read_after}
use Rattle.message_calls.specs.Serving.{message_reads}
use Rattle.call_lines.specs.declared.names.Name.{Name}

-- ---- names

-- as the first field of a line has them: load, login, challenge, activate, lock, suspend, void, query, unlock, resume, sync
abbrev pub text_of : Name → List ℕ
text_of Name.Load = 0x6c ∷ 0x6f ∷ 0x61 ∷ 0x64 ∷ []
text_of Name.Login = 0x6c ∷ 0x6f ∷ 0x67 ∷ 0x69 ∷ 0x6e ∷ []
text_of Name.Challenge = 0x63 ∷ 0x68 ∷ 0x61 ∷ 0x6c ∷ 0x6c ∷ 0x65 ∷ 0x6e ∷ 0x67 ∷ 0x65 ∷ []
text_of Name.Activate = 0x61 ∷ 0x63 ∷ 0x74 ∷ 0x69 ∷ 0x76 ∷ 0x61 ∷ 0x74 ∷ 0x65 ∷ []
text_of Name.Lock = 0x6c ∷ 0x6f ∷ 0x63 ∷ 0x6b ∷ []
text_of Name.Suspend = 0x73 ∷ 0x75 ∷ 0x73 ∷ 0x70 ∷ 0x65 ∷ 0x6e ∷ 0x64 ∷ []
text_of Name.Void = 0x76 ∷ 0x6f ∷ 0x69 ∷ 0x64 ∷ []
text_of Name.Query = 0x71 ∷ 0x75 ∷ 0x65 ∷ 0x72 ∷ 0x79 ∷ []
text_of Name.Unlock = 0x75 ∷ 0x6e ∷ 0x6c ∷ 0x6f ∷ 0x63 ∷ 0x6b ∷ []
text_of Name.Resume = 0x72 ∷ 0x65 ∷ 0x73 ∷ 0x75 ∷ 0x6d ∷ 0x65 ∷ []
text_of Name.Sync = 0x73 ∷ 0x79 ∷ 0x6e ∷ 0x63 ∷ []

abbrev pub names : List Name
names =
    Name.Load ∷ Name.Login ∷ Name.Challenge ∷ Name.Activate ∷ Name.Lock ∷ Name.Suspend ∷ Name.Void ∷ Name.Query ∷ Name.Unlock ∷ Name.Resume ∷ Name.Sync ∷ []

unfoldable pub name_of : List ℕ → Option Name
name_of field = find (λ name. same_bytes field (text_of name)) names

-- how many fields a line has, its name among them
abbrev pub count_of : Name → ℕ
count_of Name.Load = 10
count_of Name.Login = 4
count_of Name.Challenge = 5
count_of Name.Activate = 5
count_of Name.Lock = 3
count_of Name.Suspend = 3
count_of Name.Void = 3
count_of Name.Query = 3
count_of Name.Unlock = 4
count_of Name.Resume = 4
count_of Name.Sync = 6

-- ---- fields

-- a field by its number, from 0 on; a password is the bytes as typed
abbrev pub field_of : List (List ℕ) → ℕ → List ℕ
field_of fields i = get_or fields i []

-- what follows of a value that was read, and what stands for it where it was not
abbrev pub given : {A B : Type 0} → Option A → B → (A → B) → B
given None other f = other
given (Some x) other f = f x

abbrev pub below : ℕ → Option ℕ → Option ℕ
below limit None = None
below limit (Some x) = cond (ltb x limit) (Some x) None

-- a number that its field can hold
abbrev pub number_below : ℕ → List ℕ → Option ℕ
number_below limit field = below limit (decimal_of field)

-- ---- calls

-- a line not so made is answered as a bad argument is
abbrev pub not_made : Reads
not_made = Reads.refuses Refusal.BadArgument

-- load,SERIAL,KIND,ALGORITHM,DIGITS,PERIOD,LIMIT,KEY,WAIT,EXPIRY
unfoldable pub particulars_of : List (List ℕ) → ℕ → ℕ → Option Particulars
particulars_of fields serial expiry =
    given (number_below (2 ^ 8) (field_of fields 2)) None
    (λ kind. given (number_below (2 ^ 8) (field_of fields 3)) None
    (λ algorithm. given (number_below (2 ^ 8) (field_of fields 4)) None
    (λ digits. given (number_below (2 ^ 8) (field_of fields 5)) None
    (λ period. given (number_below (2 ^ 8) (field_of fields 6)) None
    (λ limit. given (number_below (2 ^ 32) (field_of fields 8)) None
    (λ wait. Some
    (record {
      serial = serial;
      scheme = record { kind = kind; algorithm = algorithm; digits = digits };
      period = period;
      limit = limit;
      wait = wait;
      expiry = record { 0 = expiry };
    })))))))

unfoldable pub load_line : List (List ℕ) → ℕ → ℕ → Reads
load_line fields serial expiry =
    given (particulars_of fields serial expiry) not_made
    (λ particulars. given (hex_of (field_of fields 7)) not_made (λ key. Reads.serves (DeskCall.load particulars key)))

-- challenge,SERIAL,Q,PASSWORD,NOW
unfoldable pub challenge_line : List (List ℕ) → ℕ → ℕ → Reads
challenge_line fields serial clock =
    given (hex_of (field_of fields 2)) not_made (λ challenge. Reads.serves (challenge_call challenge (field_of fields 3) serial clock))

-- sync,SERIAL,CHOICE,PASSWORD,NEXT,NOW
unfoldable pub sync_line : List (List ℕ) → ℕ → ℕ → Reads
sync_line fields serial clock =
    given (number_below (2 ^ 8) (field_of fields 2)) not_made
    (λ choice. Reads.serves (sync_call choice (field_of fields 3) (field_of fields 4) serial clock))

-- the call of a name, its SERIAL and its time, which is the EXPIRY of a load and the NOW of the others
unfoldable pub call_by : Name → List (List ℕ) → ℕ → ℕ → Reads
call_by Name.Load fields serial expiry = load_line fields serial expiry
call_by Name.Login fields serial clock = Reads.serves (login_call (field_of fields 2) serial clock)
call_by Name.Challenge fields serial clock = challenge_line fields serial clock
call_by Name.Activate fields serial clock = Reads.serves (activate_call (field_of fields 2) (field_of fields 3) serial clock)
call_by Name.Lock fields serial clock = Reads.serves (lock_call serial clock)
call_by Name.Suspend fields serial clock = Reads.serves (suspend_call serial clock)
call_by Name.Void fields serial clock = Reads.serves (void_call serial clock)
call_by Name.Query fields serial clock = Reads.serves (query_call serial clock)
call_by Name.Unlock fields serial clock = Reads.serves (unlock_call (field_of fields 2) serial clock)
call_by Name.Resume fields serial clock = Reads.serves (resume_call (field_of fields 2) serial clock)
call_by Name.Sync fields serial clock = sync_line fields serial clock

-- SERIAL stands behind the name, and a time at the end
unfoldable pub fields_read : Name → List (List ℕ) → Reads
fields_read name fields =
    cond (eqb (length fields) (count_of name))
    (given (number_below (2 ^ 64) (field_of fields 1)) not_made
    (λ serial. given (number_below (2 ^ 64) (field_of fields (count_of name - 1))) not_made
    (λ clock. call_by name fields serial clock)))
    not_made

abbrev pub call_line : List (List ℕ) → Reads
call_line fields = given (name_of (field_of fields 0)) not_made (λ name. fields_read name fields)

-- ---- messages

-- the name of its line: message
abbrev pub message_word : List ℕ
message_word = 0x6d ∷ 0x65 ∷ 0x73 ∷ 0x73 ∷ 0x61 ∷ 0x67 ∷ 0x65 ∷ []

abbrev pub is_message : List (List ℕ) → Bool
is_message fields = same_bytes (field_of fields 0) message_word

-- what the digits of a message are read into
unfoldable pub message_in : List ℕ → ℕ → Reads
message_in digits clock = given (hex_of digits) not_made (λ message. message_reads message clock)

-- message,HEX,NOW
unfoldable pub message_line : List (List ℕ) → Reads
message_line fields =
    cond (eqb (length fields) 3)
    (given (number_below (2 ^ 64) (field_of fields 2)) not_made (λ clock. message_in (field_of fields 1) clock))
    not_made

-- ---- a line

-- what a line is read into; one of more than 4,096 bytes is not so made
unfoldable pub reads_of : List ℕ → Reads
reads_of line =
    cond (leb (length line) 4096)
    (cond (is_message (fields_of line)) (message_line (fields_of line)) (call_line (fields_of line)))
    not_made

-- ---- answers

-- four digits
unfoldable pub code_text : ℕ → List ℕ
code_text code = hex_digit (code / 0x1000) ∷ hex_digit (code / 0x100 % 16) ∷ hex_digit (code / 0x10 % 16) ∷ hex_digit (code % 16) ∷ []

-- the digits of x, of which there are up to n, without leading zeros
unfoldable pub decimal_digits : ℕ → ℕ → List ℕ
decimal_digits zero x = []
decimal_digits (suc n) x = cond (ltb x 10) ((x + 0x30) ∷ []) (decimal_digits n (x / 10) ++ ((x % 10 + 0x30) ∷ []))

-- a number below 2^64 has up to 20 digits
abbrev pub decimal_text : ℕ → List ℕ
decimal_text x = decimal_digits 20 x

abbrev pub signed_text : Signed → List ℕ
signed_text (Signed.plus x) = decimal_text x
signed_text (Signed.minus x) = 0x2d ∷ decimal_text x

-- each value behind a comma
unfoldable pub values_text : List Signed → List ℕ
values_text [] = []
values_text (v ∷ values) = comma ∷ (signed_text v ++ values_text values)

abbrev pub answer_values : Answer → List Signed
answer_values (Ok success) = values_of success.content
answer_values (Err refusal) = []

-- the code, and what a success carries
unfoldable pub answer_text : Answer → List ℕ
answer_text answer = code_text (number_of answer) ++ values_text (answer_values answer)

-- ---- what is printed, and the table after it

-- the text printed for a line, without the line feed, and the table after it
pub record Printing : Type 0 where
  pub text : List ℕ
  pub table : List ℕ

unfoldable pub line_after : PasswordRule → List ℕ → List ℕ → Printing
line_after passwords line s = record { text = answer_text (read_after passwords (reads_of line) s).answer; table = (read_after passwords (reads_of line) s).table }

abbrev pub left : List ℕ → List ℕ → Printing
left text s = record { text = text; table = s }
