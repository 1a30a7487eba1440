-- What a message that can be written holds, how long its bytes are, and the three ways of writing it.
use Rattle.std.specs.Prelude.{ℕ, ◌+◌, ◌^◌, ◌≤◌, ◌<◌, ◌≡◌, refl, Bool, true, false, ◌&&◌, cond, List, [], ◌∷◌, ◌++◌, ltb, length, drop, Ok}
use Rattle.std.proofs.Common.{◌∙◌, arith, length-append}
use borrow.Author.Tests.{ltb-true, lt-ltb, le-leb, lt-leb}
use Rattle.words.specs.Output.{stored}
use Rattle.words.specs.BoolLaws.{and_left, and_right, and_both}
use Rattle.message.specs.Message.{Item, Message, marked, head_length, body_bytes, head_bytes, mac_of}
use Rattle.message.specs.Promise.{ItemsHold, Fits}
use Rattle.message.specs.Writing.{message_bytes, kind_named, rising, items_hold, holds, writable, wrote, not_written, write_answer}
use Rattle.message.proofs.ReadLaws.{length-head, length_mac}

-- ---- the tests say what `Fits` says

pub items-hold : (items : List Item) → items_hold items ≡ true → ItemsHold items
items-hold [] t = tt
items-hold (i ∷ items) t =
    let both = and_left (ltb i.identifier (2 ^ 16) && ltb (length i.content) (2 ^ 8)) _ t in
    let id = ltb-true i.identifier (2 ^ 16) (and_left (ltb i.identifier (2 ^ 16)) _ both) in
    let content = ltb-true (length i.content) (2 ^ 8) (and_right (ltb i.identifier (2 ^ 16)) _ both) in
    ((id, content), items-hold items (and_right (ltb i.identifier (2 ^ 16) && ltb (length i.content) (2 ^ 8)) _ t))

pub hold-items : (items : List Item) → ItemsHold items → items_hold items ≡ true
hold-items [] h = refl
hold-items (i ∷ items) h = rw (lt-ltb i.identifier (2 ^ 16) h.0.0, lt-ltb (length i.content) (2 ^ 8) h.0.1) (hold-items items h.1)

holds_fits : (m : Message) → kind_named m ≡ true → holds m ≡ true → Fits (mac_of m) m
unfolding holds
holds_fits m named t =
    let t₁ = and_right (ltb m.caller (2 ^ 64)) _ t in
    let t₂ = and_right (ltb m.number (2 ^ 64)) _ t₁ in
    let t₃ = and_right (ltb m.service (2 ^ 16)) _ t₂ in
    let t₄ = and_right (ltb m.options (2 ^ 16)) _ t₃ in
    let t₅ = and_right (ltb (length m.items) (2 ^ 8)) _ t₄ in
    record {
      named = named;
      caller = ltb-true m.caller (2 ^ 64) (and_left (ltb m.caller (2 ^ 64)) _ t);
      number = ltb-true m.number (2 ^ 64) (and_left (ltb m.number (2 ^ 64)) _ t₁);
      service = ltb-true m.service (2 ^ 16) (and_left (ltb m.service (2 ^ 16)) _ t₂);
      options = ltb-true m.options (2 ^ 16) (and_left (ltb m.options (2 ^ 16)) _ t₃);
      count = ltb-true (length m.items) (2 ^ 8) (and_left (ltb (length m.items) (2 ^ 8)) _ t₄);
      items = items-hold m.items (and_left (items_hold m.items) _ t₅);
      body = ltb-true (length (body_bytes m)) (2 ^ 16) (and_right (items_hold m.items) _ t₅);
      four = λ sealed. length_mac m;
    }

pub fits-holds : (m : Message) (mac : List ℕ) → Fits mac m → holds m ≡ true
unfolding holds
fits-holds m mac f =
    rw (
      lt-ltb m.caller (2 ^ 64) f.caller,
      lt-ltb m.number (2 ^ 64) f.number,
      lt-ltb m.service (2 ^ 16) f.service,
      lt-ltb m.options (2 ^ 16) f.options,
      lt-ltb (length m.items) (2 ^ 8) f.count,
      hold-items m.items f.items,
      lt-ltb (length (body_bytes m)) (2 ^ 16) f.body,
    )

module _ (m : Message) where
  pub writable_rises : writable m ≡ true → rising m ≡ true
  unfolding writable
  writable_rises t = and_left (rising m) _ (and_right (kind_named m) _ t)

  pub writable-fits : writable m ≡ true → Fits (mac_of m) m
  unfolding writable
  writable-fits t = holds_fits m (and_left (kind_named m) _ t) (and_right (rising m) _ (and_right (kind_named m) _ t))

  pub fits-writable : rising m ≡ true → Fits (mac_of m) m → writable m ≡ true
  unfolding writable
  fits-writable rises f = and_both f.named (and_both rises (fits-holds m (mac_of m) f))

-- ---- its length

pub length-message : (m : Message) → length (message_bytes m) ≡ head_length m.kind + length (body_bytes m)
unfolding message_bytes
length-message m = length-append (head_bytes m) _ ∙ rw (length-head m, length-append) (with_mac (marked m.kind))
  where
    with_mac : (b : Bool) → 21 + (length (cond b (mac_of m) []) + length (body_bytes m)) ≡ cond b 25 21 + length (body_bytes m)
    with_mac true = rw (length_mac m) (omega arith)
    with_mac false = omega arith

-- ---- writing it

module _ (m : Message) (out : List ℕ) where
  pub written-whole : writable m ≡ true → length (message_bytes m) ≤ length out
      → write_answer m out ≡ wrote (Ok (length (message_bytes m))) (message_bytes m ++ drop (length (message_bytes m)) out)
  unfolding write_answer stored
  written-whole t l = rw (t, le-leb (length (message_bytes m)) (length out) l)

  pub written-short : writable m ≡ true → length out < length (message_bytes m) → write_answer m out ≡ wrote not_written out
  unfolding write_answer stored
  written-short t l = rw (t, lt-leb (length (message_bytes m)) (length out) l)

  pub written_not : writable m ≡ false → write_answer m out ≡ wrote not_written out
  unfolding write_answer stored
  written_not f = rw f
