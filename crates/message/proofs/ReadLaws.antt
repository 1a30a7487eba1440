-- Bytes are read as a message exactly if they are its bytes with some MAC; and a marked MAC fits exactly if it is that of the message.
use Rattle.std.specs.Prelude.{ℕ, ◌+◌, ◌≤◌, ◌≡◌, refl, Bool, true, false, cond, get_or, take, drop, Some}
use Rattle.std.proofs.Math.Path.{sym}
use Rattle.std.proofs.Common.{ap, ◌∙◌, arith, take_at, drop_at}
use mathlib.Core.List.{List, [], ◌∷◌, ◌++◌, append_assoc}
use Rattle.std.proofs.Math.ListN.{length, length-append, length-drop}
use Rattle.std.proofs.Math.Seq.{length-take-le}
use Rattle.std.proofs.lemmas.List.{get_or_at}
use Rattle.words.specs.ListsLaws.{same_equal, same_refl}
use Rattle.words.specs.Bytes.{AreBytes, be_at, be_bytes}
use Rattle.words.specs.BytesLaws.{be_at-lt, be_at-be_bytes, length-be_bytes}
use Rattle.message.specs.Message.{Message, marked, head_length, items_bytes, body_bytes, head_bytes, mac_of, bytes_with, kind_in, body_start, count_in, items_start, message_at, frame_of, without_mac, mac_fits}
use Rattle.message.specs.Promise.{Fits, ReadExactly, MacExactly}
use Rattle.message.specs.WalkLaws.{end-behind, length-items_at}
use Rattle.message.specs.FrameFacts.{Facts, facts_fit, some_facts}
use Rattle.message.specs.FrameLaws.{head-long}
use Rattle.message.specs.MacLaws.{length-digest}
use Rattle.message.proofs.ItemsReadLaws.{ItemsRead, ItemsStand, items-read, byte-stands, bytes-stand, number-stands, items-stand}

-- ---- the bytes of a head before what follows it

head-before : (m : Message) (q : List ℕ)
    → head_bytes m ++ q ≡ head_length m.kind ∷ m.kind ∷ 0x01 ∷ (be_bytes 8 m.caller ++ (be_bytes 8 m.number ++ (be_bytes 2 (length (body_bytes m)) ++ q)))
unfolding head_bytes
head-before m q = simp append_assoc

pub length-head : (m : Message) → length (head_bytes m) ≡ 21
unfolding head_bytes
length-head m = simp (length-append, length-be_bytes)

-- ---- what was read stands there

mac_stands : (s : List ℕ) (b : Bool) → cond b (take 4 (drop 21 s)) [] ++ drop (cond b 25 21) s ≡ drop 21 s
mac_stands s true = sym (bytes-stand s 21 4)
mac_stands s false = refl

module _ (s : List ℕ) (h : AreBytes s) where
  head-stands : 21 ≤ length s
      → get_or s 0 0 ∷ get_or s 1 0 ∷ get_or s 2 0 ∷ (be_bytes 8 (be_at 8 s 3) ++ (be_bytes 8 (be_at 8 s 11) ++ (be_bytes 2 (be_at 2 s 19) ++ drop 21 s))) ≡ s
  head-stands l =
      rw (
        ← number-stands s 19 2 h (omega arith),
        ← number-stands s 11 8 h (omega arith),
        ← number-stands s 3 8 h (omega arith),
        ← byte-stands s 2 (omega arith),
        ← byte-stands s 1 (omega arith),
      )
      (sym (byte-stands s 0 (omega arith)))

  body-stands : (start : ℕ) → start + 5 ≤ length s
      → be_bytes 2 (be_at 2 s start) ++ (be_bytes 2 (be_at 2 s (start + 2)) ++ (get_or s (start + 4) 0 ∷ drop (start + 5) s)) ≡ drop start s
  body-stands start l =
      let a : start + 2 + 2 ≡ start + 4 = omega arith in
      let b : start + 4 + 1 ≡ start + 5 = omega arith in
      let count : drop (start + 4) s ≡ get_or s (start + 4) 0 ∷ drop (start + 5) s = byte-stands s (start + 4) (omega arith) ∙ rw b in
      let options : drop (start + 2) s ≡ be_bytes 2 (be_at 2 s (start + 2)) ++ drop (start + 4) s = number-stands s (start + 2) 2 h (omega arith) ∙ rw a in
      rw (← count, ← options) (sym (number-stands s start 2 h (omega arith)))

  module _ (f : Facts s) where
    abbrev mac_in : List ℕ
    mac_in = take 4 (drop 21 s)

    room : body_start s + 5 ≤ length s
    room = let behind = end-behind (count_in s) s (items_start s) in let end = f.end in omega arith

    items-here : ItemsStand (count_in s) s (items_start s)
    items-here = items-stand (count_in s) s (items_start s) h f.end f.plain

    body-here : body_bytes (message_at s) ≡ drop (body_start s) s
    unfolding body_bytes message_at
    body-here = rw (length-items_at (count_in s) s (items_start s), items-here.bytes) (body-stands (body_start s) room)

    body-long : length (body_bytes (message_at s)) ≡ be_at 2 s 19
    body-long = let sum = f.sum in rw (body-here, length-drop) (omega arith)

    whole_here : s ≡ bytes_with mac_in (message_at s)
    unfolding message_at
    whole_here =
        let long = (head-long (kind_in s)).0 in
        let r = room in
        let stands = rw (f.head, f.version) at (head-stands (omega arith)) in
        sym (head-before (message_at s) _ ∙ rw (body-long, body-here, mac_stands s (marked (kind_in s))) stands)

    fits-here : Fits mac_in (message_at s)
    unfolding message_at
    fits-here =
        record {
          named = f.named;
          caller = be_at-lt 8 s 3 h;
          number = be_at-lt 8 s 11 h;
          service = be_at-lt 2 s (body_start s) h;
          options = be_at-lt 2 s (body_start s + 2) h;
          count = rw (length-items_at (count_in s) s (items_start s)) (h (body_start s + 4));
          items = items-here.hold;
          body = rw body-long (be_at-lt 2 s 19 h);
          four = λ t. length-take-le 4 (drop 21 s) (let r : 25 + 5 ≤ length s = rw t at room in rw length-drop (omega arith));
        }

-- ---- what is written is read

pub kind-written : (mac : List ℕ) (m : Message) → kind_in (bytes_with mac m) ≡ m.kind
unfolding head_bytes
kind-written mac m = refl

module _ (mac : List ℕ) (m : Message) (f : Fits mac m) where
  abbrev written : List ℕ
  written = bytes_with mac m

  -- header and MAC; with service and options; and the header's first three bytes
  abbrev front : List ℕ
  front = head_bytes m ++ cond (marked m.kind) mac []

  abbrev to_count : List ℕ
  to_count = front ++ (be_bytes 2 m.service ++ be_bytes 2 m.options)

  abbrev three : List ℕ
  three = head_length m.kind ∷ m.kind ∷ 0x01 ∷ []

  behind-front : written ≡ front ++ body_bytes m
  behind-front = sym (append_assoc (head_bytes m) (cond (marked m.kind) mac []) (body_bytes m))

  length_front : length front ≡ head_length m.kind
  length_front = rw (length-append, length-head m) (with_mac (marked m.kind) f.four)
    where
      with_mac : (b : Bool) → (b ≡ true → length mac ≡ 4) → 21 + length (cond b mac []) ≡ cond b 25 21
      with_mac true four = rw (four refl)
      with_mac false four = refl

  kind-read : kind_in written ≡ m.kind
  kind-read = kind-written mac m

  caller-read : be_at 8 written 3 ≡ m.caller
  caller-read = rw (head-before m) (be_at-be_bytes 8 three _ 3 m.caller refl f.caller)

  number_read : be_at 8 written 11 ≡ m.number
  number_read =
      let l : length (three ++ be_bytes 8 m.caller) ≡ 11 = rw (length-be_bytes 8 m.caller) in
      rw (head-before m, ← append_assoc three) (be_at-be_bytes 8 (three ++ be_bytes 8 m.caller) _ 11 m.number l f.number)

  length-read : be_at 2 written 19 ≡ length (body_bytes m)
  length-read =
      let p = three ++ (be_bytes 8 m.caller ++ be_bytes 8 m.number) in
      let l : length p ≡ 19 = simp (length-append, length-be_bytes) in
      rw (head-before m, ← append_assoc (be_bytes 8 m.caller), ← append_assoc three) (be_at-be_bytes 2 p _ 19 (length (body_bytes m)) l f.body)

  service-read : be_at 2 written (head_length m.kind) ≡ m.service
  unfolding body_bytes
  service-read = rw behind-front (be_at-be_bytes 2 front _ (head_length m.kind) m.service length_front f.service)

  options-read : be_at 2 written (head_length m.kind + 2) ≡ m.options
  unfolding body_bytes
  options-read =
      let l : length (front ++ be_bytes 2 m.service) ≡ head_length m.kind + 2 = length-append front (be_bytes 2 m.service) ∙ rw (length_front, length-be_bytes) in
      rw (behind-front, ← append_assoc front) (be_at-be_bytes 2 (front ++ be_bytes 2 m.service) _ (head_length m.kind + 2) m.options l f.options)

  behind-options : written ≡ to_count ++ (length m.items ∷ items_bytes m.items)
  unfolding body_bytes
  behind-options = behind-front ∙ simp append_assoc

  length-to_count : length to_count ≡ head_length m.kind + 4
  length-to_count = length-append front _ ∙ rw length_front (simp (length-append, length-be_bytes))

  count-read : get_or written (head_length m.kind + 4) 0 ≡ length m.items
  count-read = rw behind-options (get_or_at to_count (length m.items) (items_bytes m.items) 0 (head_length m.kind + 4) length-to_count)

  items-read-here : ItemsRead m.items written (head_length m.kind + 5)
  items-read-here =
      let p = to_count ++ (length m.items ∷ []) in
      let e : written ≡ p ++ items_bytes m.items = behind-options ∙ simp append_assoc in
      let l : length p ≡ head_length m.kind + 5 = length-append to_count (length m.items ∷ []) ∙ rw length-to_count (omega arith) in
      rw (e, ← l) (items-read m.items p f.items)

  length-written : head_length m.kind + length (body_bytes m) ≡ length written
  length-written = sym (ap length behind-front ∙ length-append front (body_bytes m) ∙ rw length_front)

  facts_written : Facts written
  facts_written =
      record {
        named = rw kind-read f.named;
        version = rw (head-before m);
        head = rw (kind-read, head-before m);
        sum = rw (kind-read, length-read) length-written;
        end = rw (kind-read, count-read) items-read-here.end;
        plain = rw (kind-read, count-read) items-read-here.plain;
      }

  message-read : message_at written ≡ m
  unfolding message_at
  message-read = rw (kind-read, caller-read, number_read, service-read, options-read, count-read, items-read-here.same)

pub frame_written : (mac : List ℕ) (m : Message) → Fits mac m → frame_of (bytes_with mac m) ≡ Some m
unfolding frame_of
frame_written mac m f = rw (facts_fit _ (facts_written mac m f), message-read mac m f)

-- ---- exactly

pub read_exactly : ReadExactly
unfolding frame_of
read_exactly s m h = (
  λ e. let r = some_facts s m e in rw (← r.1) (mac_in s h r.0, (fits-here s h r.0, whole_here s h r.0)),
  λ x. rw x.1.1 (frame_written x.0 m x.1.0),
)

pub length_mac : (m : Message) → length (mac_of m) ≡ 4
unfolding mac_of
length_mac m = rw (length-drop, length-digest (head_bytes m ++ body_bytes m))

pub without_mac_lem : (m : Message) (mac : List ℕ) → length mac ≡ 4 → without_mac (head_bytes m ++ (mac ++ body_bytes m)) ≡ head_bytes m ++ body_bytes m
without_mac_lem m mac four =
    let l : length (head_bytes m ++ mac) ≡ 25 = length-append (head_bytes m) mac ∙ rw (length-head m, four) in
    let body : drop 25 (head_bytes m ++ (mac ++ body_bytes m)) ≡ body_bytes m = rw (← append_assoc (head_bytes m) mac) (drop_at (head_bytes m ++ mac) (body_bytes m) 25 l) in
    rw (body, take_at (head_bytes m) (mac ++ body_bytes m) 21 (length-head m))

pub mac_exactly : MacExactly
unfolding mac_fits mac_of
mac_exactly s m h e t =
    let r = (read_exactly s m h).0 e in
    let mac = r.0 in
    let whole : s ≡ head_bytes m ++ (mac ++ body_bytes m) = rw t at r.1.1 in
    let without : without_mac s ≡ head_bytes m ++ body_bytes m = rw whole (without_mac_lem m mac (r.1.0.four t)) in
    let kind : kind_in s ≡ m.kind = rw r.1.1 (kind-read mac m r.1.0) in
    rw (kind, t, without) (
      λ fits. same_equal (take 4 (drop 21 s)) (mac_of m) fits,
      λ same. rw same (same_refl (mac_of m)),
    )
