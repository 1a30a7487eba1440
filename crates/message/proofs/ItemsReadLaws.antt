-- The items of a message: those that are written are read, and the bytes of those that were read are what stands there.
use Rattle.std.specs.Prelude.{ℕ, zero, suc, ◌+◌, ◌^◌, ◌≤◌, ◌<◌, ◌≡◌, refl, true, List, [], ◌∷◌, ◌++◌, eqb, length, get_or, take, drop}
use Rattle.std.proofs.Common.{sym, ◌∙◌, append_assoc, append-nil, arith, eqb-true, length-append, length-drop, take-append-drop, length-take-le, drop-cons, drop-drop}
use Rattle.std.proofs.Math.Seq.{drop-length, take-append_seam, drop-append-add, get_or-append_seam, get_or-append-add}
use Rattle.words.specs.Bytes.{AreBytes, be_at, be_bytes}
use Rattle.words.specs.BytesLaws.{be_at-lt, be_at-be_bytes, length-be_bytes, be_bytes-be_at}
use Rattle.words.specs.BoolLaws.{and_left, and_right}
use Rattle.message.specs.Message.{Item, item_bytes, items_bytes, item_end, item_at, items_at, items_end, all_plain}
use Rattle.message.specs.Promise.{ItemsHold}
use Rattle.message.specs.WalkLaws.{end-behind}

-- ---- what is written is read

pub length-item : (i : Item) → length (item_bytes i) ≡ 4 + length i.content
unfolding item_bytes
length-item i = rw (length-append, length-be_bytes) (omega arith)

item-before : (i : Item) (q : List ℕ) → item_bytes i ++ q ≡ 0 ∷ (be_bytes 2 i.identifier ++ (length i.content ∷ (i.content ++ q)))
unfolding item_bytes
item-before i q = simp append_assoc

-- an item that stands behind p and before q
module _ (p q : List ℕ) (i : Item) where
  abbrev laid : List ℕ
  laid = p ++ (item_bytes i ++ q)

  length-read : get_or laid (length p + 3) 0 ≡ length i.content
  unfolding item_bytes be_bytes
  length-read = get_or-append-add p (item_bytes i ++ q) 3 0

  attribute_read : get_or laid (length p) 0 ≡ 0
  unfolding item_bytes
  attribute_read = get_or-append_seam p 0 _ 0

  content-read : take (get_or laid (length p + 3) 0) (drop (length p + 4) laid) ≡ i.content
  unfolding item_bytes be_bytes
  content-read = rw (length-read, drop-append-add p (item_bytes i ++ q) 4) (take-append_seam i.content q)

  identifier-read : i.identifier < 2 ^ 16 → be_at 2 laid (length p + 1) ≡ i.identifier
  identifier-read id = rw (item-before i q, ← append_assoc p (0 ∷ []))
      (be_at-be_bytes 2 (p ++ (0 ∷ [])) _ (length p + 1) i.identifier (length-append p (0 ∷ [])) id)

  item-read : i.identifier < 2 ^ 16 → item_at laid (length p) ≡ i
  item-read id = rw (identifier-read id, content-read)

  end_read : item_end laid (length p) ≡ length (p ++ item_bytes i)
  end_read = rw (length-read, length-append, length-item i) (omega arith)

-- items are read from a place on, up to the end
pub record ItemsRead (items : List Item) (s : List ℕ) (at : ℕ) : Type 0 where
  pub same : items_at (length items) s at ≡ items
  pub end : items_end (length items) s at ≡ length s
  pub plain : all_plain (length items) s at ≡ true

pub items-read : (items : List Item) (p : List ℕ) → ItemsHold items → ItemsRead items (p ++ items_bytes items) (length p)
unfolding items_bytes items_at items_end all_plain
items-read [] p h = record { same = refl; end = rw (append-nil p); plain = refl }
items-read (i ∷ items) p h =
    let q = items_bytes items in
    let rest : ItemsRead items (p ++ (item_bytes i ++ q)) (item_end (laid p q i) (length p)) = rw (end_read p q i, ← append_assoc p (item_bytes i) q) (items-read items (p ++ item_bytes i) h.1) in
    record {
      same = rw (rest.same, item-read p q i h.0.0);
      end = rest.end;
      plain = rw (attribute_read p q i) rest.plain;
    }

-- ---- what was read stands there

module _ (s : List ℕ) (at : ℕ) where
  -- a byte, bytes and a number before what follows them
  pub byte-stands : at < length s → drop at s ≡ get_or s at 0 ∷ drop (at + 1) s
  byte-stands l = let e : at + 1 ≡ suc at = omega arith in rw e (drop-cons s at 0 l)

  pub bytes-stand : (n : ℕ) → drop at s ≡ take n (drop at s) ++ drop (at + n) s
  bytes-stand n = rw (← drop-drop n at s) (sym (take-append-drop n (drop at s)))

  pub number-stands : (k : ℕ) → AreBytes s → at + k ≤ length s → drop at s ≡ be_bytes k (be_at k s at) ++ drop (at + k) s
  number-stands k h l = bytes-stand k ∙ rw (be_bytes-be_at k s at h l)

-- an item with attribute 00 that ends before the message does
module _ (s : List ℕ) (at : ℕ) (h : AreBytes s) (within : item_end s at ≤ length s) where
  content-length : length (item_at s at).content ≡ get_or s (at + 3) 0
  content-length = length-take-le (get_or s (at + 3) 0) (drop (at + 4) s) (rw length-drop (omega arith))

  item-stands : get_or s at 0 ≡ 0 → item_bytes (item_at s at) ++ drop (item_end s at) s ≡ drop at s
  item-stands plain =
      let a : at + 1 + 2 ≡ at + 3 = omega arith in
      let b : at + 3 + 1 ≡ at + 4 = omega arith in
      let attribute : drop at s ≡ 0 ∷ drop (at + 1) s = byte-stands s at (omega arith) ∙ rw plain in
      let identifier : drop (at + 1) s ≡ be_bytes 2 (be_at 2 s (at + 1)) ++ drop (at + 3) s = number-stands s (at + 1) 2 h (omega arith) ∙ rw a in
      let count : drop (at + 3) s ≡ length (item_at s at).content ∷ drop (at + 4) s = byte-stands s (at + 3) (omega arith) ∙ rw (b, content-length) in
      item-before (item_at s at) (drop (item_end s at) s) ∙ rw (← bytes-stand s (at + 4) (get_or s (at + 3) 0), ← count, ← identifier) (sym attribute)

  item-holds : ((item_at s at).identifier < 2 ^ 16) × (length (item_at s at).content < 2 ^ 8)
  item-holds = (be_at-lt 2 s (at + 1) h, rw content-length (h (at + 3)))

-- the bytes of items that end the message
pub record ItemsStand (n : ℕ) (s : List ℕ) (at : ℕ) : Type 0 where
  pub bytes : items_bytes (items_at n s at) ≡ drop at s
  pub hold : ItemsHold (items_at n s at)

pub items-stand : (n : ℕ) (s : List ℕ) (at : ℕ) → AreBytes s → items_end n s at ≡ length s → all_plain n s at ≡ true → ItemsStand n s at
unfolding items_bytes items_at items_end all_plain
items-stand zero s at h end plain = record { bytes = sym (rw end (drop-length s)); hold = tt }
items-stand (suc n) s at h end plain =
    let rest = items-stand n s (item_end s at) h end (and_right (eqb (get_or s at 0) 0) _ plain) in
    let behind = end-behind n s (item_end s at) in
    let within : item_end s at ≤ length s = omega arith in
    record {
      bytes = rw rest.bytes (item-stands s at h within (eqb-true (get_or s at 0) 0 (and_left _ _ plain)));
      hold = (item-holds s at h within, rest.hold);
    }
