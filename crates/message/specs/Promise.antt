-- What is promised of messages (document 02, Asks 1 and 3): which bytes are a message, when its MAC fits, and that reading and writing undo each other. This
-- page has the statements; `ReadLaws`, `ReadCodesLaws`, `ItemsGivenLaws` and `RoundTripLaws` have the proofs.
use Rattle.std.specs.Prelude.{ℕ, ◌-◌, ◌^◌, ◌<◌, ◌≡◌, true, false, List, [], ◌∷◌, ◌++◌, map, length, take, drop, slice_get, Option, Some, None, Result, Ok, Err}
use Rattle.words.specs.Lists.{one_of}
use Rattle.words.specs.Exactly.{Exactly}
use Rattle.words.specs.Bytes.{AreBytes}
use Rattle.token.specs.declared.answers.Refusal.{Refusal}
use Rattle.words.specs.Codes.{code_of}
use Rattle.message.specs.declared.items.ItemPlace.{ItemPlace}
use Rattle.message.specs.Message.{Item, Message, kinds, marked, body_bytes, mac_of, bytes_with, type_named, version_named, lengths_add_up, attributes_plain, frame_of, mac_fits}
use Rattle.message.specs.Reading.{read_of, item_of}
use Rattle.message.specs.Writing.{message_bytes, kind_named, rising, holds, writable, write_answer, items_lent}

-- ---- the bytes that are a message

abbrev pub ItemsHold : List Item → Type 0
ItemsHold [] = Unit {0}
ItemsHold (i ∷ items) = ((i.identifier < 2 ^ 16) × (length i.content < 2 ^ 8)) × ItemsHold items

-- a type that is named, values that their fields hold, and four bytes of MAC where they are marked
pub record Fits (mac : List ℕ) (m : Message) : Type 0 where
  pub named : one_of m.kind kinds ≡ true
  pub caller : m.caller < 2 ^ 64
  pub number : m.number < 2 ^ 64
  pub service : m.service < 2 ^ 16
  pub options : m.options < 2 ^ 16
  pub count : length m.items < 2 ^ 8
  pub items : ItemsHold m.items
  pub body : length (body_bytes m) < 2 ^ 16
  pub four : marked m.kind ≡ true → length mac ≡ 4

-- bytes are read as m exactly if they are m's bytes with some MAC: "lengths that add up" needs no reader to be believed
abbrev pub ReadExactly : Type 0
ReadExactly = (s : List ℕ) (m : Message) → AreBytes s → Exactly (frame_of s ≡ Some m) ((mac : List ℕ) × (Fits mac m × (s ≡ bytes_with mac m)))

-- a marked MAC fits exactly if it is that of the message's bytes
abbrev pub MacExactly : Type 0
MacExactly =
    (s : List ℕ) (m : Message) → AreBytes s → frame_of s ≡ Some m → marked m.kind ≡ true → Exactly (mac_fits s ≡ true) (take 4 (drop 21 s) ≡ mac_of m)

-- ---- a message is read, request or reply

-- the reasons for 9001, one by one; service, options and items are none
pub data Unreadable (s : List ℕ) : Type 0 where
  type_not_named : type_named s ≡ false → Unreadable s
  version_not_named : version_named s ≡ false → Unreadable s
  lengths_differ : lengths_add_up s ≡ false → Unreadable s
  attribute_other : attributes_plain s ≡ false → Unreadable s

abbrev pub ReadCodes : Type 0
ReadCodes =
    (s : List ℕ)
    → Exactly (read_of s ≡ Err Refusal.BadMessage) (Unreadable s)
    × (Exactly (read_of s ≡ Err Refusal.BadMac) ((Unreadable s → ⊥) × (mac_fits s ≡ false))
    × ((m : Message) → Exactly (read_of s ≡ Ok m) ((frame_of s ≡ Some m) × (mac_fits s ≡ true))))

-- the item that stands where one is found
abbrev pub item_there : List ℕ → Result (Option ItemPlace) Refusal → Option Item
item_there s (Ok (Some p)) = Some (record { identifier = p.identifier; content = take (p.end - p.start) (drop p.start s) })
item_there s (Ok None) = None
item_there s (Err refusal) = None

-- each item of a message that is read is found by its index, and no other
abbrev pub ItemExactly : Type 0
ItemExactly = (s : List ℕ) (m : Message) (i : ℕ) → read_of s ≡ Ok m → item_there s (item_of s i) ≡ slice_get m.items i

-- ---- reading and writing undo each other

-- what is written comes back equal
abbrev pub WriteRead : Type 0
WriteRead = (m : Message) → writable m ≡ true → read_of (message_bytes m) ≡ Ok m

-- and reading loses nothing, whatever the items' order
abbrev pub ReadWrite : Type 0
ReadWrite = (s : List ℕ) (m : Message) → AreBytes s → read_of s ≡ Ok m → message_bytes m ≡ s

-- two messages are equal exactly when their bytes are
abbrev pub BytesTell : Type 0
BytesTell = (m m' : Message) → writable m ≡ true → writable m' ≡ true → Exactly (m ≡ m') (message_bytes m ≡ message_bytes m')

-- ---- what is not written

-- the reasons for 9005, one by one
pub data Unwritable (m : Message) (out : List ℕ) : Type 0 where
  type_not_named : kind_named m ≡ false → Unwritable m out
  not_rising : rising m ≡ false → Unwritable m out
  cannot_hold : holds m ≡ false → Unwritable m out
  too_short : length out < length (message_bytes m) → Unwritable m out

-- these and nothing else
abbrev pub WriteRefuses : Type 0
WriteRefuses = (m : Message) (out : List ℕ) → Exactly (code_of (write_answer m out).written ≡ 0x9005) (Unwritable m out)

-- ---- how items are lent

abbrev pub contents_of : List Item → List ℕ
contents_of [] = []
contents_of (i ∷ items) = i.content ++ contents_of items

-- all items can be lent, each list in one way
abbrev pub LentExactly : Type 0
LentExactly =
    (identifiers lengths contents : List ℕ) (items : List Item)
    → Exactly (items_lent identifiers lengths contents ≡ Some items)
    ((identifiers ≡ map (λ (i : Item). i.identifier) items) × ((lengths ≡ map (λ (i : Item). length i.content) items) × (contents ≡ contents_of items)))
