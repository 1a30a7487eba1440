-- Reading a message, request or reply (document 02, Ask 3): 9001, then 9002. Service, options and items are judged only on serving.
use Rattle.std.specs.Prelude.{ℕ, zero, suc, ◌+◌, cond, List, [], ◌∷◌, length, slice_get, find, Option, Some, None, Result, Ok, Err, option_map, eqb}
use Rattle.words.specs.Bytes.{be_at}
use Rattle.token.specs.declared.answers.Refusal.{Refusal}
use Rattle.message.specs.declared.reading.Heading.{Heading}
use Rattle.message.specs.declared.reading.Reading.{Reading}
use Rattle.message.specs.declared.items.ItemPlace.{ItemPlace}
use Rattle.message.specs.Message.{Message, Item, item_end, count_in, items_start, frame_of, mac_fits}

-- the message that bytes are, or why there is none
abbrev pub MessageRead : Type 0
MessageRead = Result Message Refusal

abbrev pub read_frame : List ℕ → Option Message → MessageRead
read_frame s None = Err Refusal.BadMessage
read_frame s (Some m) = cond (mac_fits s) (Ok m) (Err Refusal.BadMac)

unfoldable pub read_of : List ℕ → MessageRead
read_of s = read_frame s (frame_of s)

-- ---- what the reader gives

-- what a message says beside its items
abbrev pub heading_of : Message → Heading
heading_of m = record { kind = m.kind; caller = m.caller; number = m.number; service = m.service; options = m.options }

-- with the number of its items
abbrev pub reading_of : MessageRead → Result Reading Refusal
reading_of (Ok m) = Ok (record { heading = heading_of m; count = length m.items })
reading_of (Err refusal) = Err refusal

-- of n items from a place on: the identifier, and where the content starts and ends
unfoldable pub places : ℕ → List ℕ → ℕ → List ItemPlace
places zero s at = []
places (suc n) s at = record { identifier = be_at 2 s (at + 1); start = at + 4; end = item_end s at } ∷ places n s (item_end s at)

abbrev pub places_in : List ℕ → List ItemPlace
places_in s = places (count_in s) s (items_start s)

abbrev pub place_in : List ℕ → ℕ → MessageRead → Result (Option ItemPlace) Refusal
place_in s i (Ok m) = Ok (slice_get (places_in s) i)
place_in s i (Err refusal) = Err refusal

-- the item of an index, where the bytes are a message
abbrev pub item_of : List ℕ → ℕ → Result (Option ItemPlace) Refusal
item_of s i = place_in s i (read_of s)

-- ---- items by their identifiers

-- the content of the first that has one
abbrev pub content_in : ℕ → List Item → Option (List ℕ)
content_in id items = option_map (λ (i : Item). i.content) (find (λ (i : Item). eqb i.identifier id) items)
