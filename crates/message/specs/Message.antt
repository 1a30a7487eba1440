-- Messages of GM/T 0021-2012, Annex D, as document 02, Ask 1, reads them: what a message says, its bytes, and the message that bytes are. The bytes and
-- the reading are defined apart; `ReadExactly` of `Promise` joins them.
use Rattle.std.specs.Prelude.{ℕ, zero, suc, ◌+◌, Bool, true, ◌&&◌, ◌||◌, not, cond, List, [], ◌∷◌, ◌++◌, eqb, leb, length, get_or, take, drop, Option, Some, None}
use Rattle.words.specs.Lists.{one_of, same_bytes}
use Rattle.words.specs.Bytes.{be_at, be_bytes}
use Rattle.sm3.specs.Sm3.{sm3_of}

-- ---- what a message says

-- a data item (Table D.4); its attribute is 00 and is not kept
pub record Item : Type 0 where
  pub identifier : ℕ
  pub content : List ℕ

-- header and body (Tables D.1 to D.3); the options of a reply are its result
pub record Message : Type 0 where
  pub kind : ℕ
  pub caller : ℕ
  pub number : ℕ
  pub service : ℕ
  pub options : ℕ
  pub items : List Item

-- ---- types (Table D.1)

-- request and reply, without MAC and with it
abbrev pub kinds : List ℕ
kinds = 0x00 ∷ 0x01 ∷ 0x80 ∷ 0x81 ∷ []

-- the type marks a MAC
abbrev pub marked : ℕ → Bool
marked kind = leb 0x80 kind

abbrev pub is_reply : ℕ → Bool
is_reply kind = one_of kind (0x01 ∷ 0x81 ∷ [])

-- the header's length, with the MAC's four bytes if they are marked
abbrev pub head_length : ℕ → ℕ
head_length kind = cond (marked kind) 25 21

-- ---- the bytes of a message

-- attribute, identifier, length, content (Table D.4); the printed offset 4 of the length is taken as 3
unfoldable pub item_bytes : Item → List ℕ
item_bytes i = 0x00 ∷ (be_bytes 2 i.identifier ++ (length i.content ∷ i.content))

unfoldable pub items_bytes : List Item → List ℕ
items_bytes [] = []
items_bytes (i ∷ items) = item_bytes i ++ items_bytes items

-- service, options or result, item count, items (Tables D.2 and D.3)
unfoldable pub body_bytes : Message → List ℕ
body_bytes m = be_bytes 2 m.service ++ (be_bytes 2 m.options ++ (length m.items ∷ items_bytes m.items))

-- length, type, version, caller, call number, body length (Table D.1 without the MAC)
unfoldable pub head_bytes : Message → List ℕ
head_bytes m =
    head_length m.kind ∷ m.kind ∷ 0x01 ∷ (be_bytes 8 m.caller ++ (be_bytes 8 m.number ++ be_bytes 2 (length (body_bytes m))))

-- the last four bytes of SM3 over header without MAC, then body
unfoldable pub mac_of : Message → List ℕ
mac_of m = drop 28 (sm3_of (head_bytes m ++ body_bytes m))

-- the whole, with four bytes of MAC where they are marked
abbrev pub bytes_with : List ℕ → Message → List ℕ
bytes_with mac m = head_bytes m ++ (cond (marked m.kind) mac [] ++ body_bytes m)

-- ---- reading by places

-- where an item that starts at a place ends
abbrev pub item_end : List ℕ → ℕ → ℕ
item_end s at = at + 4 + get_or s (at + 3) 0

abbrev pub item_at : List ℕ → ℕ → Item
item_at s at = record { identifier = be_at 2 s (at + 1); content = take (get_or s (at + 3) 0) (drop (at + 4) s) }

-- n items from a place on: what they are, where they end, and whether each has attribute 00
unfoldable pub items_at : ℕ → List ℕ → ℕ → List Item
items_at zero s at = []
items_at (suc n) s at = item_at s at ∷ items_at n s (item_end s at)

unfoldable pub items_end : ℕ → List ℕ → ℕ → ℕ
items_end zero s at = at
items_end (suc n) s at = items_end n s (item_end s at)

unfoldable pub all_plain : ℕ → List ℕ → ℕ → Bool
all_plain zero s at = true
all_plain (suc n) s at = eqb (get_or s at 0) 0x00 && all_plain n s (item_end s at)

abbrev pub kind_in : List ℕ → ℕ
kind_in s = get_or s 1 0

-- where the body, its item count and its first item stand
abbrev pub body_start : List ℕ → ℕ
body_start s = head_length (kind_in s)

abbrev pub count_in : List ℕ → ℕ
count_in s = get_or s (body_start s + 4) 0

abbrev pub items_start : List ℕ → ℕ
items_start s = body_start s + 5

abbrev pub type_named : List ℕ → Bool
type_named s = one_of (kind_in s) kinds

abbrev pub version_named : List ℕ → Bool
version_named s = eqb (get_or s 2 0) 0x01

-- the header is as long as its type says, header and body are the message, and the items fill the body
unfoldable pub lengths_add_up : List ℕ → Bool
lengths_add_up s =
    eqb (get_or s 0 0) (body_start s)
    && (eqb (body_start s + be_at 2 s 19) (length s)
    && eqb (items_end (count_in s) s (items_start s)) (length s))

unfoldable pub attributes_plain : List ℕ → Bool
attributes_plain s = all_plain (count_in s) s (items_start s)

-- what the bytes say
unfoldable pub message_at : List ℕ → Message
message_at s =
    record {
      kind = kind_in s;
      caller = be_at 8 s 3;
      number = be_at 8 s 11;
      service = be_at 2 s (body_start s);
      options = be_at 2 s (body_start s + 2);
      items = items_at (count_in s) s (items_start s);
    }

unfoldable pub frame_fits : List ℕ → Bool
frame_fits s = type_named s && (version_named s && (lengths_add_up s && attributes_plain s))

-- the message that the bytes are, whatever their MAC
unfoldable pub frame_of : List ℕ → Option Message
frame_of s = cond (frame_fits s) (Some (message_at s)) None

-- header without MAC, then body
abbrev pub without_mac : List ℕ → List ℕ
without_mac s = take 21 s ++ drop 25 s

-- a marked MAC is the last four bytes of SM3 over these
unfoldable pub mac_fits : List ℕ → Bool
mac_fits s = not (marked (kind_in s)) || same_bytes (take 4 (drop 21 s)) (drop 28 (sm3_of (without_mac s)))
