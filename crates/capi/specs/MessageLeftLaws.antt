-- What each branch of reading and writing a message through C returns.
use Rattle.std.specs.Prelude.{ℕ, zero, suc, ◌≤◌, ◌<◌, ◌≡◌, refl, List, [], ◌∷◌, ◌++◌, length, set, drop, Option, Some, None, Result, Ok, Err}
use Rattle.std.proofs.Common.{arith}
use borrow.Author.Tests.{le-leb, lt-leb}
use Rattle.words.specs.declared.codes.BadArgument.{BadArgument}
use Rattle.words.specs.Codes.{done, bad_argument}
use Rattle.token.specs.declared.answers.Refusal.{Refusal}
use Rattle.token.specs.Codes.{number_of}
use Rattle.message.specs.declared.reading.Heading.{Heading}
use Rattle.message.specs.declared.reading.Reading.{Reading}
use Rattle.message.specs.declared.items.ItemPlace.{ItemPlace}
use Rattle.message.specs.Reading.{read_of, reading_of, item_of}
use Rattle.message.specs.Writing.{Written, wrote, items_lent, write_lent}
use Rattle.capi.specs.Stored.{left}
use Rattle.capi.specs.MessageLeft.{reading_fields, place_fields, read_left, item_left, wrote_left, write_left}

-- ---- reading

module _ (message fields : List ℕ) where
  pub read_short : length fields < 6 → left bad_argument fields ≡ read_left message fields
  unfolding read_left
  read_short l = rw (lt-leb 6 (length fields) l)

  module _ (room : 6 ≤ length fields) {r : Result Reading Refusal} (read : r ≡ reading_of (read_of message)) where
    pub read-refused : {refusal : Refusal} → r ≡ Err refusal → {code : ℕ} → code ≡ number_of (Err refusal) → left code fields ≡ read_left message fields
    unfolding read_left
    read-refused e n = rw (le-leb 6 (length fields) room, ← read, e, n)

    pub read_done : {reading : Reading} → r ≡ Ok reading → {after : List ℕ} → after ≡ reading_fields reading ++ drop 6 fields → left done after ≡ read_left message fields
    unfolding read_left
    read_done e p = rw (le-leb 6 (length fields) room, ← read, e, p)

-- ---- an item

module _ (message : List ℕ) (index : ℕ) (fields : List ℕ) where
  pub item-short : length fields < 3 → left bad_argument fields ≡ item_left message index fields
  unfolding item_left
  item-short l = rw (lt-leb 3 (length fields) l)

  module _ (room : 3 ≤ length fields) {r : Result (Option ItemPlace) Refusal} (found : r ≡ item_of message index) where
    pub item_refused : {refusal : Refusal} → r ≡ Err refusal → {code : ℕ} → code ≡ number_of (Err refusal) → left code fields ≡ item_left message index fields
    unfolding item_left
    item_refused e n = rw (le-leb 3 (length fields) room, ← found, e, n)

    pub item-none : r ≡ Ok None → left bad_argument fields ≡ item_left message index fields
    unfolding item_left
    item-none e = rw (le-leb 3 (length fields) room, ← found, e)

    pub item-done : {place : ItemPlace} → r ≡ Ok (Some place) → {after : List ℕ} → after ≡ place_fields place ++ drop 3 fields → left done after ≡ item_left message index fields
    unfolding item_left
    item-done e p = rw (le-leb 3 (length fields) room, ← found, e, p)

-- ---- writing

one-put : (a : ℕ) (s : List ℕ) → 1 ≤ length s → set s 0 a ≡ a ∷ drop 1 s
one-put a [] l = absurd (omega arith)
one-put a (s₀ ∷ s) l = refl

module _ (h : Heading) (identifiers lengths contents out written : List ℕ) where
  pub write_short : length written ≡ 0 → wrote_left bad_argument out written ≡ write_left h identifiers lengths contents out written
  unfolding write_left
  write_short e = rw (lt-leb 1 (length written) (omega arith))

  module _ (room : length written ≡ 0 → ⊥) {w : Written} {after : List ℕ} (left_is : wrote w after ≡ write_lent h (items_lent identifiers lengths contents) out) where
    some-room : 1 ≤ length written
    some-room = by (length written) refl
      where
        by : (n : ℕ) → length written ≡ n → 1 ≤ length written
        by zero e = absurd (room e)
        by (suc n) e = omega arith

    pub write_refused : {refused : BadArgument} → w ≡ Err refused → wrote_left bad_argument after written ≡ write_left h identifiers lengths contents out written
    unfolding write_left
    write_refused e = rw (le-leb 1 (length written) some-room, ← left_is, e)

    pub write_done : {n : ℕ} → w ≡ Ok n → wrote_left done after (set written 0 n) ≡ write_left h identifiers lengths contents out written
    unfolding write_left
    write_done {n} e = rw (le-leb 1 (length written) some-room, ← left_is, e, one-put n written some-room)
