-- Messages written and read (document 02, Ask 3), computed: what the theorems leave open is a number that definition and code could share, the end of a range,
-- a code, the order of the refusals.
use Rattle.std.specs.Prelude.{ℕ, zero, suc, ◌+◌, ◌≡◌, refl, List, [], ◌∷◌, ◌++◌, map, replicate, Option, Some, None, Result, Ok, Err}
use Rattle.words.specs.Lists.{same_bytes}
use Rattle.words.specs.Bytes.{be_at, be_bytes}
use Rattle.words.specs.Words.{◌⋘◌}
use Rattle.words.specs.Output.{stored}
use Rattle.sm3.specs.Sm3.{sm3_of, padded, zeros_after, words_at, next_word, expand, round, round_with, rounds, ff, gg, compressed, iterated, digest}
use Rattle.words.specs.Codes.{code_of}
use Rattle.token.specs.declared.answers.Refusal.{Refusal}
use Rattle.message.specs.declared.items.ItemPlace.{ItemPlace}
use Rattle.message.specs.Message.{Item, Message, item_bytes, items_bytes, body_bytes, head_bytes, mac_of, items_at, items_end, all_plain, lengths_add_up, attributes_plain, message_at, frame_fits, frame_of, mac_fits}
use Rattle.message.specs.Reading.{MessageRead, read_of, places, item_of}
use Rattle.message.specs.Writing.{message_bytes, holds, writable, Written, not_written, write_answer, items_as_lent, together, items_lent}

-- ---- what is computed; opened, each opens all that it computes with

unfoldable pub bytes_for : Message → List ℕ
unfolding message_bytes item_bytes items_bytes body_bytes head_bytes mac_of
    sm3_of padded zeros_after words_at next_word expand round round_with rounds ff gg compressed iterated digest be_at be_bytes ◌⋘◌
bytes_for m = message_bytes m

-- into an output of so many bytes
unfoldable pub written_into : ℕ → Message → Written
unfolding write_answer stored writable holds message_bytes item_bytes items_bytes body_bytes head_bytes mac_of
    sm3_of padded zeros_after words_at next_word expand round round_with rounds ff gg compressed iterated digest be_at be_bytes ◌⋘◌
written_into room m = (write_answer m (replicate {A = ℕ} room 0)).written

unfoldable pub read_from : List ℕ → MessageRead
unfolding read_of frame_of frame_fits lengths_add_up attributes_plain message_at items_at items_end all_plain mac_fits be_at same_bytes
    sm3_of padded zeros_after words_at next_word expand round round_with rounds ff gg compressed iterated digest be_bytes ◌⋘◌
read_from s = read_of s

unfoldable pub found_in : List ℕ → ℕ → Result (Option ItemPlace) Refusal
unfolding read_of places frame_of frame_fits lengths_add_up attributes_plain message_at items_at items_end all_plain mac_fits be_at same_bytes
    sm3_of padded zeros_after words_at next_word expand round round_with rounds ff gg compressed iterated digest be_bytes ◌⋘◌
found_in s i = item_of s i

unfoldable pub lent_as : List ℕ → List ℕ → List ℕ → Option (List Item)
unfolding items_lent together items_as_lent
lent_as identifiers lengths contents = items_lent identifiers lengths contents

-- ---- what messages are made of

abbrev pub item : ℕ → List ℕ → Item
item id content = record { identifier = id; content = content }

-- so many items, identifiers rising from one on, contents of so many bytes
abbrev pub alike : ℕ → ℕ → ℕ → List Item
alike zero id bytes = []
alike (suc n) id bytes = item id (replicate {A = ℕ} bytes 0) ∷ alike n (id + 1) bytes

-- caller 0, call number "12345678"
abbrev pub message : ℕ → ℕ → ℕ → List Item → Message
message kind service options items =
    record { kind = kind; caller = 0; number = 0x3132333435363738; service = service; options = options; items = items }

-- a reply with these items
abbrev pub reply_with : List Item → Message
reply_with items = message 0x01 0x0001 0x0001 items

-- a query's reply: last use 1,800,000,000, errors 2, state 2 (Table D.6)
abbrev pub queried : List Item
queried = item 0x0102 (0x00 ∷ 0x00 ∷ 0x00 ∷ 0x00 ∷ 0x6b ∷ 0x49 ∷ 0xd2 ∷ 0x00 ∷ []) ∷ item 0x0104 (0x02 ∷ []) ∷ item 0x0105 (0x02 ∷ []) ∷ []

-- ---- bytes

-- the header up to the body's length: its own length, type, version, caller, call number
abbrev pub head : ℕ → ℕ → List ℕ
head long kind =
    long ∷ kind ∷ 0x01 ∷ 0x00 ∷ 0x00 ∷ 0x00 ∷ 0x00 ∷ 0x00 ∷ 0x00 ∷ 0x00 ∷ 0x00 ∷ 0x31 ∷ 0x32 ∷ 0x33 ∷ 0x34 ∷ 0x35 ∷ 0x36 ∷ 0x37 ∷ 0x38 ∷ []

-- service 0001, result 0001, no items
abbrev pub plain_reply : List ℕ
plain_reply = head 0x15 0x01 ++ (0x00 ∷ 0x05 ∷ 0x00 ∷ 0x01 ∷ 0x00 ∷ 0x01 ∷ 0x00 ∷ [])

-- service and result 010b, three items
abbrev pub query_body : List ℕ
query_body =
    0x01 ∷ 0x0b ∷ 0x01 ∷ 0x0b ∷ 0x03
    ∷ 0x00 ∷ 0x01 ∷ 0x02 ∷ 0x08 ∷ 0x00 ∷ 0x00 ∷ 0x00 ∷ 0x00 ∷ 0x6b ∷ 0x49 ∷ 0xd2 ∷ 0x00
    ∷ 0x00 ∷ 0x01 ∷ 0x04 ∷ 0x01 ∷ 0x02 ∷ 0x00 ∷ 0x01 ∷ 0x05 ∷ 0x01 ∷ 0x02 ∷ []

abbrev pub sealed_reply : List ℕ
sealed_reply = head 0x19 0x81 ++ (0x00 ∷ 0x1b ∷ 0x1f ∷ 0xdf ∷ 0xc3 ∷ 0x88 ∷ query_body)

-- a bit of its MAC is wrong
abbrev pub damaged_reply : List ℕ
damaged_reply = head 0x19 0x81 ++ (0x00 ∷ 0x1b ∷ 0x1f ∷ 0xdf ∷ 0xc3 ∷ 0x89 ∷ query_body)

-- service 9999, options 77; item 3 before item 2, and so twice
abbrev pub any_order : List ℕ
any_order =
    head 0x15 0x00
    ++ (0x00 ∷ 0x12 ∷ 0x99 ∷ 0x99 ∷ 0x00 ∷ 0x77 ∷ 0x03 ∷ 0x00 ∷ 0x00 ∷ 0x03 ∷ 0x01 ∷ 0x41 ∷ 0x00 ∷ 0x00 ∷ 0x02 ∷ 0x00 ∷ 0x00 ∷ 0x00 ∷ 0x02 ∷ 0x00 ∷ [])

abbrev pub any_order_says : Message
any_order_says = message 0x00 0x9999 0x0077 (item 3 (0x41 ∷ []) ∷ item 2 [] ∷ item 2 [] ∷ [])

-- ---- written

pub bytes-table-holds : (bytes_for (reply_with []) ≡ plain_reply) × (bytes_for (message 0x81 0x010b 0x010b queried) ≡ sealed_reply)
unfolding bytes_for
bytes-table-holds = (refl, refl)

-- the code that C gets, and the length
pub record Outcome : Type 0 where
  pub code : ℕ
  pub written : Written

abbrev pub outcome_of : Written → Outcome
outcome_of written = record { code = code_of written; written = written }

pub record Writing : Type 0 where
  pub message : Message
  pub room : ℕ
  pub expected : Outcome

-- with so much room it is written, and has so many bytes
abbrev pub done : Message → ℕ → ℕ → Writing
done m room n = record { message = m; room = room; expected = record { code = 0x0000; written = Ok n } }

abbrev pub refused : Message → ℕ → Writing
refused m room = record { message = m; room = room; expected = record { code = 0x9005; written = not_written } }

abbrev pub writings : List Writing
writings =
    -- room for it, and a byte less
    done (reply_with []) 26 26
    ∷ refused (reply_with []) 25
    ∷ refused (reply_with []) 0
    ∷ done (message 0x80 0x0001 0x0000 []) 30 30
    ∷ refused (message 0x80 0x0001 0x0000 []) 29
    -- types 00 and 81, 02, 82, 40 and 100
    ∷ done (message 0x00 0x0001 0x0000 []) 100 26
    ∷ done (message 0x81 0x0001 0x0000 []) 100 30
    ∷ refused (message 0x02 0x0001 0x0000 []) 100
    ∷ refused (message 0x82 0x0001 0x0000 []) 100
    ∷ refused (message 0x40 0x0001 0x0000 []) 100
    ∷ refused (message 0x100 0x0001 0x0000 []) 100
    -- items 2 and 3, 3 and 2, 2 and 2, 0
    ∷ done (reply_with (item 2 [] ∷ item 3 [] ∷ [])) 100 34
    ∷ refused (reply_with (item 3 [] ∷ item 2 [] ∷ [])) 100
    ∷ refused (reply_with (item 2 [] ∷ item 2 [] ∷ [])) 100
    ∷ done (reply_with (item 0 [] ∷ [])) 100 30
    -- service, options, identifier of 65,535 and 65,536
    ∷ done (message 0x01 0xffff 0xffff (item 0xffff [] ∷ [])) 100 30
    ∷ refused (message 0x01 0x10000 0x0000 []) 100
    ∷ refused (message 0x01 0x0000 0x10000 []) 100
    ∷ refused (reply_with (item 0x10000 [] ∷ [])) 100
    -- a content of 255 and of 256 bytes
    ∷ done (reply_with (alike 1 7 255)) 300 285
    ∷ refused (reply_with (alike 1 7 256)) 300
    -- 255 and 256 items
    ∷ done (reply_with (alike 255 0 0)) 2000 1046
    ∷ refused (reply_with (alike 256 0 0)) 2000
    -- a body of 65,532 bytes and of 65,536, of 65,535 and of 65,536
    ∷ done (reply_with (alike 253 0 255)) 70000 65553
    ∷ refused (reply_with (alike 253 0 255 ++ alike 1 253 0)) 70000
    ∷ done (reply_with (alike 252 0 255 ++ alike 2 252 127)) 70000 65556
    ∷ refused (reply_with (alike 252 0 255 ++ (alike 1 252 127 ++ alike 1 253 128))) 70000
    ∷ []

pub write_table-holds : map (λ (w : Writing). outcome_of (written_into w.room w.message)) writings ≡ map (λ (w : Writing). w.expected) writings
unfolding written_into
write_table-holds = refl

-- ---- read

pub record Reading : Type 0 where
  pub bytes : List ℕ
  pub expected : MessageRead

abbrev pub says : List ℕ → Message → Reading
says bytes m = record { bytes = bytes; expected = Ok m }

abbrev pub is_refused : List ℕ → Refusal → Reading
is_refused bytes refusal = record { bytes = bytes; expected = Err refusal }

abbrev pub readings : List Reading
readings =
    says plain_reply (reply_with [])
    ∷ says sealed_reply (message 0x81 0x010b 0x010b queried)
    -- any service and options, items in any order and repeated
    ∷ says any_order any_order_says
    -- a bit of the MAC of a reply
    ∷ is_refused damaged_reply Refusal.BadMac
    -- no bytes; type 02; a byte behind the body
    ∷ is_refused [] Refusal.BadMessage
    ∷ is_refused (head 0x15 0x02 ++ (0x00 ∷ 0x05 ∷ 0x00 ∷ 0x01 ∷ 0x00 ∷ 0x01 ∷ 0x00 ∷ [])) Refusal.BadMessage
    ∷ is_refused (plain_reply ++ (0x00 ∷ [])) Refusal.BadMessage
    -- an attribute of a reply, before its MAC
    ∷ is_refused (head 0x19 0x81 ++ (0x00 ∷ 0x09 ∷ 0x00 ∷ 0x00 ∷ 0x00 ∷ 0x00 ∷ 0x00 ∷ 0x01 ∷ 0x00 ∷ 0x01 ∷ 0x01 ∷ 0x80 ∷ 0x00 ∷ 0x02 ∷ 0x00 ∷ [])) Refusal.BadMessage
    ∷ []

pub read-table-holds : map (λ (r : Reading). read_from r.bytes) readings ≡ map (λ (r : Reading). r.expected) readings
unfolding read_from
read-table-holds = refl

-- ---- items by their index

abbrev pub found : ℕ → ℕ → ℕ → Result (Option ItemPlace) Refusal
found id start end = Ok (Some (record { identifier = id; start = start; end = end }))

pub item-table-holds : map (λ (i : ℕ). found_in sealed_reply i) (0 ∷ 1 ∷ 2 ∷ 3 ∷ []) ≡ found 0x0102 34 42 ∷ found 0x0104 46 47 ∷ found 0x0105 51 52 ∷ Ok None ∷ []
unfolding found_in
item-table-holds = refl

pub item-refused-holds : found_in damaged_reply 0 ≡ Err Refusal.BadMac
unfolding found_in
item-refused-holds = refl

-- ---- items as they are lent

pub lent-table-holds
    : (lent_as [] [] [] ≡ Some [])
    × ((lent_as (2 ∷ 3 ∷ []) (1 ∷ 2 ∷ []) (7 ∷ 8 ∷ 9 ∷ []) ≡ Some (item 2 (7 ∷ []) ∷ item 3 (8 ∷ 9 ∷ []) ∷ []))
    × ((lent_as (2 ∷ 3 ∷ []) (1 ∷ []) (7 ∷ []) ≡ None)
    × ((lent_as (2 ∷ []) (1 ∷ 0 ∷ []) (7 ∷ []) ≡ None)
    × ((lent_as (2 ∷ []) (1 ∷ []) [] ≡ None) × (lent_as (2 ∷ []) (1 ∷ []) (7 ∷ 8 ∷ []) ≡ None)))))
unfolding lent_as
lent-table-holds = (refl, (refl, (refl, (refl, (refl, refl)))))
