-- Writing a message, request or reply (document 02, Ask 3): what can be written, as which bytes, and what the writer leaves.
use Rattle.std.specs.Prelude.{ℕ, ◌+◌, ◌^◌, Bool, true, ◌&&◌, cond, List, [], ◌∷◌, eqb, leb, ltb, length, take, drop, Option, Some, None, Result, Ok, Err}
use Rattle.words.specs.Lists.{one_of}
use Rattle.words.specs.Codes.{done, bad_argument}
use Rattle.words.specs.Output.{Left, stored}
use Rattle.message.specs.declared.reading.Heading.{Heading}
use Rattle.words.specs.declared.codes.BadArgument.{BadArgument}
use Rattle.message.specs.Message.{Item, Message, kinds, body_bytes, mac_of, bytes_with}

-- the bytes of a message, with its own MAC where one is marked
unfoldable pub message_bytes : Message → List ℕ
message_bytes m = bytes_with (mac_of m) m

-- ---- what can be written

abbrev pub kind_named : Message → Bool
kind_named m = one_of m.kind kinds

-- each identifier is above all before it: items by rising identifier, each at most once
abbrev pub rising_from : ℕ → List Item → Bool
rising_from low [] = true
rising_from low (i ∷ items) = leb low i.identifier && rising_from (i.identifier + 1) items

abbrev pub rising : Message → Bool
rising m = rising_from 0 m.items

abbrev pub items_hold : List Item → Bool
items_hold [] = true
items_hold (i ∷ items) = (ltb i.identifier (2 ^ 16) && ltb (length i.content) (2 ^ 8)) && items_hold items

-- no value that its field can't hold
unfoldable pub holds : Message → Bool
holds m =
    ltb m.caller (2 ^ 64)
    && (ltb m.number (2 ^ 64)
    && (ltb m.service (2 ^ 16)
    && (ltb m.options (2 ^ 16)
    && (ltb (length m.items) (2 ^ 8)
    && (items_hold m.items
    && ltb (length (body_bytes m)) (2 ^ 16))))))

unfoldable pub writable : Message → Bool
writable m = kind_named m && (rising m && holds m)

-- ---- what the writer leaves

-- the message's length, or 9005 where nothing is written
abbrev pub Written : Type 0
Written = Result ℕ BadArgument

abbrev pub not_written : Written
not_written = Err (record {})

-- that, and the output after the call
pub record WriteLeft : Type 0 where
  pub written : Written
  pub out : List ℕ

abbrev pub wrote : Written → List ℕ → WriteLeft
wrote written out = record { written = written; out = out }

abbrev pub with_length : ℕ → Left → WriteLeft
with_length n l = wrote (cond (eqb l.code done) (Ok n) not_written) l.out

-- the message goes to the front of the output, and the rest stays
unfoldable pub write_answer : Message → List ℕ → WriteLeft
write_answer m out = with_length (length (message_bytes m)) (stored (cond (writable m) done bad_argument) (message_bytes m) out)

-- ---- how items are lent

-- their identifiers, the lengths of their contents, and the contents one behind the other
unfoldable pub items_as_lent : List ℕ → List ℕ → List ℕ → List Item
items_as_lent [] lengths contents = []
items_as_lent (id ∷ identifiers) [] contents = []
items_as_lent (id ∷ identifiers) (n ∷ lengths) contents = record { identifier = id; content = take n contents } ∷ items_as_lent identifiers lengths (drop n contents)

abbrev pub sum : List ℕ → ℕ
sum [] = 0
sum (n ∷ numbers) = n + sum numbers

-- as many lengths as identifiers, and contents as long as they say
unfoldable pub together : List ℕ → List ℕ → List ℕ → Bool
together identifiers lengths contents = eqb (length identifiers) (length lengths) && eqb (sum lengths) (length contents)

-- slices that do not fit together are no items at all
unfoldable pub items_lent : List ℕ → List ℕ → List ℕ → Option (List Item)
items_lent identifiers lengths contents = cond (together identifiers lengths contents) (Some (items_as_lent identifiers lengths contents)) None

abbrev pub message_of : Heading → List Item → Message
message_of h items =
    record { kind = h.kind; caller = h.caller; number = h.number; service = h.service; options = h.options; items = items }

-- where there are no items, there is no message: a bad argument
abbrev pub write_lent : Heading → Option (List Item) → List ℕ → WriteLeft
write_lent h None out = wrote not_written out
write_lent h (Some items) out = write_answer (message_of h items) out
