-- What the C functions that read and write messages give and leave (document 02, Ask 3).
use Rattle.std.specs.Prelude.{ℕ, ◌-◌, cond, List, [], ◌∷◌, ◌++◌, leb, length, drop, Option, Some, None, Result, Ok, Err}
use Rattle.words.specs.Codes.{done, bad_argument, code_of}
use Rattle.words.specs.Output.{Left}
use Rattle.token.specs.Codes.{number_of}
use Rattle.message.specs.declared.reading.Heading.{Heading}
use Rattle.message.specs.declared.reading.Reading.{Reading}
use Rattle.token.specs.declared.answers.Refusal.{Refusal}
use Rattle.message.specs.declared.items.ItemPlace.{ItemPlace}
use Rattle.message.specs.Reading.{read_of, reading_of, item_of}
use Rattle.message.specs.Writing.{Written, WriteLeft, items_lent, write_lent}
use Rattle.capi.specs.Stored.{left}

-- ---- reading

-- type, caller, call number, service, options and the number of items
abbrev pub reading_fields : Reading → List ℕ
reading_fields r = r.heading.kind ∷ r.heading.caller ∷ r.heading.number ∷ r.heading.service ∷ r.heading.options ∷ r.count ∷ []

abbrev pub fields_read : Result Reading Refusal → List ℕ → Left
fields_read (Ok reading) fields = left done (reading_fields reading ++ drop 6 fields)
fields_read (Err refusal) fields = left (number_of (Err refusal)) fields

-- fewer than six fields are a bad argument, whatever the message is
unfoldable pub read_left : List ℕ → List ℕ → Left
read_left message fields = cond (leb 6 (length fields)) (fields_read (reading_of (read_of message)) fields) (left bad_argument fields)

-- ---- an item

-- identifier, the content's place and length
abbrev pub place_fields : ItemPlace → List ℕ
place_fields p = p.identifier ∷ p.start ∷ (p.end - p.start) ∷ []

-- where the message has no such item, the index is a bad argument
abbrev pub fields_found : Result (Option ItemPlace) Refusal → List ℕ → Left
fields_found (Ok (Some place)) fields = left done (place_fields place ++ drop 3 fields)
fields_found (Ok None) fields = left bad_argument fields
fields_found (Err refusal) fields = left (number_of (Err refusal)) fields

unfoldable pub item_left : List ℕ → ℕ → List ℕ → Left
item_left message index fields = cond (leb 3 (length fields)) (fields_found (item_of message index) fields) (left bad_argument fields)

-- ---- writing

abbrev pub heading_for : ℕ → ℕ → ℕ → ℕ → ℕ → Heading
heading_for kind caller number service options = record { kind = kind; caller = caller; number = number; service = service; options = options }

-- the code, and the output and the place of the length after the call
pub record WroteLeft : Type 0 where
  pub code : ℕ
  pub out : List ℕ
  pub written : List ℕ

abbrev pub wrote_left : ℕ → List ℕ → List ℕ → WroteLeft
wrote_left code out written = record { code = code; out = out; written = written }

-- the length goes to the first element where a message was written
abbrev pub length_left : Written → List ℕ → List ℕ
length_left (Ok n) written = n ∷ drop 1 written
length_left (Err refused) written = written

abbrev pub lent_left : WriteLeft → List ℕ → WroteLeft
lent_left w written = wrote_left (code_of w.written) w.out (length_left w.written written)

-- no place for the length is a bad argument
unfoldable pub write_left : Heading → List ℕ → List ℕ → List ℕ → List ℕ → List ℕ → WroteLeft
write_left h identifiers lengths contents out written =
    cond (leb 1 (length written)) (lent_left (write_lent h (items_lent identifiers lengths contents) out) written) (wrote_left bad_argument out written)
