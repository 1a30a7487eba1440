-- What the C functions that read and write messages give and leave, computed: the order of the fields, their number, the codes, and what stays.
use Rattle.std.specs.Prelude.{ℕ, ◌≡◌, refl, List, [], ◌∷◌}
use Rattle.words.specs.Lists.{same_bytes}
use Rattle.words.specs.Bytes.{be_at, be_bytes}
use Rattle.words.specs.Words.{◌⋘◌}
use Rattle.words.specs.Output.{Left, stored}
use Rattle.sm3.specs.Sm3.{sm3_of, padded, zeros_after, words_at, next_word, expand, round, round_with, rounds, ff, gg, compressed, iterated, digest}
use Rattle.message.specs.Message.{item_bytes, items_bytes, body_bytes, head_bytes, mac_of, items_at, items_end, all_plain, lengths_add_up, attributes_plain, message_at, frame_fits, frame_of, mac_fits}
use Rattle.message.specs.Reading.{read_of, places}
use Rattle.message.specs.Writing.{message_bytes, holds, writable, write_answer, items_as_lent, together, items_lent}
use Rattle.message.specs.FormTable.{plain_reply, sealed_reply, damaged_reply}
use Rattle.capi.specs.Stored.{left}
use Rattle.capi.specs.MessageLeft.{read_left, item_left, heading_for, WroteLeft, wrote_left, write_left}

-- ---- what is computed; opened, each opens all that it computes with

unfoldable pub fields_of : List ℕ → List ℕ → Left
unfolding read_left read_of frame_of frame_fits lengths_add_up attributes_plain message_at items_at items_end all_plain mac_fits be_at same_bytes
    sm3_of padded zeros_after words_at next_word expand round round_with rounds ff gg compressed iterated digest be_bytes ◌⋘◌
fields_of message fields = read_left message fields

unfoldable pub item_fields : List ℕ → ℕ → List ℕ → Left
unfolding item_left read_of places frame_of frame_fits lengths_add_up attributes_plain message_at items_at items_end all_plain mac_fits be_at same_bytes
    sm3_of padded zeros_after words_at next_word expand round round_with rounds ff gg compressed iterated digest be_bytes ◌⋘◌
item_fields message index fields = item_left message index fields

-- a reply of service 2, result 3, by caller 4 with call number 5
unfoldable pub replied : List ℕ → List ℕ → List ℕ → List ℕ → List ℕ → WroteLeft
unfolding write_left write_answer stored writable holds message_bytes item_bytes items_bytes body_bytes head_bytes mac_of items_lent together items_as_lent be_at be_bytes
replied identifiers lengths contents out written = write_left (heading_for 0x01 4 5 2 3) identifiers lengths contents out written

-- ---- read

pub fields-left
    : (fields_of sealed_reply (1 ∷ 2 ∷ 3 ∷ 4 ∷ 5 ∷ 6 ∷ 7 ∷ []) ≡ left 0x0000 (0x81 ∷ 0 ∷ 0x3132333435363738 ∷ 0x010b ∷ 0x010b ∷ 3 ∷ 7 ∷ []))
    × ((fields_of plain_reply (1 ∷ 2 ∷ 3 ∷ 4 ∷ 5 ∷ 6 ∷ []) ≡ left 0x0000 (0x01 ∷ 0 ∷ 0x3132333435363738 ∷ 1 ∷ 1 ∷ 0 ∷ []))
    × ((fields_of damaged_reply (1 ∷ 2 ∷ 3 ∷ 4 ∷ 5 ∷ 6 ∷ []) ≡ left 0x9002 (1 ∷ 2 ∷ 3 ∷ 4 ∷ 5 ∷ 6 ∷ []))
    × ((fields_of [] (1 ∷ 2 ∷ 3 ∷ 4 ∷ 5 ∷ 6 ∷ []) ≡ left 0x9001 (1 ∷ 2 ∷ 3 ∷ 4 ∷ 5 ∷ 6 ∷ []))
    × (fields_of [] (1 ∷ 2 ∷ 3 ∷ 4 ∷ 5 ∷ []) ≡ left 0x9005 (1 ∷ 2 ∷ 3 ∷ 4 ∷ 5 ∷ [])))))
unfolding fields_of
fields-left = (refl, (refl, (refl, (refl, refl))))

pub item-fields-left
    : (item_fields sealed_reply 0 (1 ∷ 2 ∷ 3 ∷ 4 ∷ []) ≡ left 0x0000 (0x0102 ∷ 34 ∷ 8 ∷ 4 ∷ []))
    × ((item_fields sealed_reply 3 (1 ∷ 2 ∷ 3 ∷ []) ≡ left 0x9005 (1 ∷ 2 ∷ 3 ∷ []))
    × ((item_fields damaged_reply 0 (1 ∷ 2 ∷ 3 ∷ []) ≡ left 0x9002 (1 ∷ 2 ∷ 3 ∷ [])) × (item_fields damaged_reply 0 (1 ∷ 2 ∷ []) ≡ left 0x9005 (1 ∷ 2 ∷ []))))
unfolding item_fields
item-fields-left = (refl, (refl, (refl, refl)))

-- ---- written

-- 32 bytes and one more
abbrev pub room : List ℕ
room =
    1 ∷ 2 ∷ 3 ∷ 4 ∷ 5 ∷ 6 ∷ 7 ∷ 8 ∷ 9 ∷ 10 ∷ 11 ∷ 12 ∷ 13 ∷ 14 ∷ 15 ∷ 16 ∷ 17 ∷ 18 ∷ 19 ∷ 20 ∷ 21 ∷ 22 ∷ 23 ∷ 24 ∷ 25 ∷ 26 ∷ 27 ∷ 28 ∷ 29 ∷ 30 ∷ 31 ∷ 32 ∷ 77 ∷ []

abbrev pub laid : List ℕ
laid =
    0x15 ∷ 0x01 ∷ 0x01
    ∷ 0 ∷ 0 ∷ 0 ∷ 0 ∷ 0 ∷ 0 ∷ 0 ∷ 4
    ∷ 0 ∷ 0 ∷ 0 ∷ 0 ∷ 0 ∷ 0 ∷ 0 ∷ 5
    ∷ 0 ∷ 11 ∷ 0 ∷ 2 ∷ 0 ∷ 3 ∷ 1 ∷ 0 ∷ 0 ∷ 9 ∷ 2 ∷ 0x41 ∷ 0x42 ∷ 77 ∷ []

pub written-left
    : (replied (9 ∷ []) (2 ∷ []) (0x41 ∷ 0x42 ∷ []) room (8 ∷ 8 ∷ []) ≡ wrote_left 0x0000 laid (32 ∷ 8 ∷ []))
    × ((replied (9 ∷ []) (2 ∷ []) (0x41 ∷ 0x42 ∷ []) room [] ≡ wrote_left 0x9005 room [])
    × (replied (9 ∷ 9 ∷ []) (1 ∷ 1 ∷ []) (0x41 ∷ 0x42 ∷ []) room (8 ∷ []) ≡ wrote_left 0x9005 room (8 ∷ [])))
unfolding replied
written-left = (refl, (refl, refl))
