-- What the writer's stores leave: each part of the output is filled with its part of the message.
use Rattle.std.specs.Prelude.{ℕ, ◌+◌, ◌*◌, ◌-◌, ◌≤◌, ◌<◌, ◌≡◌, ◌⊎◌, Bool, false, ◌&&◌, not, eqb, ltb}
use Rattle.std.proofs.Math.Path.{refl}
use Rattle.std.proofs.Common.{inl, inr, sym, ap, ◌∙◌, length-append, length-drop}
use Rattle.std.proofs.Math.Bool.{true}
use mathlib.Core.List.{List, [], ◌∷◌, ◌++◌, append_assoc, append-nil}
use native.Mathlib.Omega.{arith}
use borrow.Author.Tests.{eqb-true, ltb-true, not-true}
use Rattle.std.proofs.Math.ListN.{length, set, take, drop, length-set, drop_of_length-le}
use Rattle.std.proofs.Math.Seq.{length-take-le, take_at, drop_at, drop-append-le, take_all}
use Rattle.words.specs.Lists.{one_of}
use Rattle.words.specs.Bytes.{be_bytes, put_be, put}
use Rattle.words.specs.BoolLaws.{and_left, and_right, by-test, impossible}
use Rattle.words.specs.BytesLaws.{length-put_be, put_be-put}
use Rattle.words.specs.PutLaws.{put-length, put_on, put-part, set-put}
use Rattle.sm3.specs.Sm3.{sm3_of}
use Rattle.message.specs.declared.reading.Heading.{Heading}
use Rattle.message.specs.Message.{Item, Message, kinds, marked, head_length, item_bytes, items_bytes, body_bytes, head_bytes, mac_of, without_mac}
use Rattle.message.specs.Writing.{message_bytes, items_as_lent}
use Rattle.message.specs.Lending.{misfit, lent_fit, Tested, lent}
use Rattle.message.proofs.ReadLaws.{length-head, length_mac, without_mac_lem}
use Rattle.message.specs.FrameLaws.{head-long}
use Rattle.message.proofs.ItemsReadLaws.{length-item}
use Rattle.message.proofs.LendingLaws.{fit-both, fit-room, fit_length, fit_count}
use Rattle.message.proofs.WritableLaws.{length-message}

-- every number of a list is below one
abbrev all_below : ℕ → List ℕ → Bool
all_below b [] = true
all_below b (y ∷ ys) = ltb y b && all_below b ys

one_below : (x b : ℕ) (ys : List ℕ) → all_below b ys ≡ true → one_of x ys ≡ true → x < b
one_below x b [] all t = impossible (cc)
one_below x b (y ∷ ys) all t =
    by-test (eqb x y)
    (λ e. rw (eqb-true x y e) (ltb-true y b (and_left (ltb y b) _ all)))
    (λ f. one_below x b ys (and_right (ltb y b) _ all) (rw f at t))

pub kind-small : (k : ℕ) → one_of k kinds ≡ true → k < 256
kind-small k t = one_below k 256 kinds refl t

-- ---- one item

module _ (s : List ℕ) (at id : ℕ) (content : List ℕ) (room : at + 4 + length content ≤ length s) {t : List ℕ} (e : t ≡ put_be 2 (set s at 0) (at + 1) id) where
  pub length_identified : length t ≡ length s
  length_identified = rw (e, length-put_be, length-set)

  -- with the attribute, the identifier and the length
  abbrev lengthened : List ℕ
  lengthened = set t (at + 3) (length content)

  item-front : lengthened ≡ put s at (0 ∷ (be_bytes 2 id ++ (length content ∷ [])))
  unfolding be_bytes
  item-front =
      let first = set-put s at 0 (omega arith) in
      let second : t ≡ put s at (0 ∷ be_bytes 2 id) =
      e ∙ put_be-put 2 (set s at 0) (at + 1) id (rw length-set (omega arith)) ∙ rw first (put_on s at (0 ∷ []) (be_bytes 2 id) (omega arith)) in
      let l = length_identified in
      set-put t (at + 3) (length content) (omega arith) ∙ rw second (put_on s at (0 ∷ be_bytes 2 id) (length content ∷ []) (omega arith))

  pub item_room : at + 4 + length content ≤ length lengthened
  item_room = let l = length_identified in rw length-set (omega arith)

  pub item-laid : {part : List ℕ} → part ≡ content ++ drop (length content) (take (at + 4 + length content - (at + 4)) (drop (at + 4) lengthened))
      → take (at + 4) lengthened ++ (part ++ drop (at + 4 + length content - (at + 4)) (drop (at + 4) lengthened)) ≡ put s at (item_bytes (record { identifier = id; content = content }))
  unfolding item_bytes be_bytes
  item-laid p =
      put-part lengthened (at + 4) content item_room p
      ∙ rw item-front (put_on s at (0 ∷ (be_bytes 2 id ++ (length content ∷ []))) content (omega arith))

  pub item-kept : {part : List ℕ} → part ≡ content ++ drop (length content) (take (at + 4 + length content - (at + 4)) (drop (at + 4) lengthened))
      → length (take (at + 4) lengthened ++ (part ++ drop (at + 4 + length content - (at + 4)) (drop (at + 4) lengthened))) ≡ length s
  item-kept p =
      let i : Item = record { identifier = id; content = content } in
      ap length (item-laid p) ∙ put-length s at (item_bytes i) (rw (length-item i) (omega arith))

-- ---- all items

-- what is laid and what is left are the items' bytes
pub record Laying (all : List Item) (out : List ℕ) (at : ℕ) (ids lens contents : List ℕ) : Type 0 where
  pub fits : (low : ℕ) × (lent_fit low ids lens (length contents) ≡ true)
  pub place : at + (4 * length ids + length contents) ≡ length out
  pub laid : take at out ++ items_bytes (items_as_lent ids lens contents) ≡ items_bytes all

pub laying_start : (ids lens contents out : List ℕ) → lent_fit 0 ids lens (length contents) ≡ true → length out ≡ length (items_bytes (items_as_lent ids lens contents))
    → Laying (items_as_lent ids lens contents) out 0 ids lens contents
laying_start ids lens contents out t l = let size = fit_length ids lens contents t in record { fits = (0, t); place = omega arith; laid = refl }

module _ (all : List Item) (out : List ℕ) (at : ℕ) (contents : List ℕ) where
  pub laying_end : (ids lens : List ℕ) → Laying all out at ids lens contents → (ids ≡ []) ⊎ (lens ≡ []) → out ≡ items_bytes all
  unfolding items_as_lent items_bytes
  laying_end [] [] l e =
      let spent = (fit-both l.fits.0 [] [] (length contents) l.fits.1).sums in
      let place = l.place in
      let whole : take at out ≡ out = take_all at out (omega arith) in
      rw (whole, append-nil out) at l.laid
  laying_end [] (n ∷ lens) l e = let counts = (fit-both l.fits.0 [] (n ∷ lens) (length contents) l.fits.1).counts in absurd (omega arith)
  laying_end (id ∷ ids) [] l e = let counts = (fit-both l.fits.0 (id ∷ ids) [] (length contents) l.fits.1).counts in absurd (omega arith)
  laying_end (id ∷ ids) (n ∷ lens) l (inl e) = impossible (cc)
  laying_end (id ∷ ids) (n ∷ lens) l (inr e) = impossible (cc)

  module _ {id n : ℕ} {left-ids left-lens ids lens : List ℕ} (l₀ : Laying all out at ids lens contents) (here : ids ≡ id ∷ left-ids) (there : lens ≡ n ∷ left-lens) where
    l : Laying all out at (id ∷ left-ids) (n ∷ left-lens) contents
    l = rw (here, there) at l₀

    -- one item more fits
    fits_both : (misfit l.fits.0 id n (length contents) ≡ false) × (lent_fit (id + 1) left-ids left-lens (length contents - n) ≡ true)
    unfolding lent_fit
    fits_both =
        let both = l.fits.1 in
        (not-true (misfit l.fits.0 id n (length contents)) (and_left (not (misfit l.fits.0 id n (length contents))) _ both), and_right (not (misfit l.fits.0 id n (length contents))) _ both)

    pub record NextRoom : Type 0 where
      pub content : n ≤ length contents
      pub small : n ≤ 0xff
      pub place : at + 4 + n ≤ length out

    pub next-room : NextRoom
    next-room =
        let r = fit-room l.fits.0 id n (length contents) fits_both.0 in
        let enough = r.enough in
        let place = l.place in
        record { content = enough; small = r.content; place = omega arith }

    abbrev next : Item
    next = record { identifier = id; content = take n contents }

    length-next : length (item_bytes next) ≡ 4 + n
    length-next = let r = next-room.content in length-item next ∙ rw (length-take-le n contents r)

    pub laying_on : {after : List ℕ} → after ≡ put out at (item_bytes next) → Laying all after (at + 4 + n) left-ids left-lens (drop n contents)
    unfolding items_as_lent items_bytes
    laying_on {after} e =
        let room = next-room.place in
        let place = l.place in
        let enough = next-room.content in
        let b = length-next in
        let ends : at + 4 + n ≡ at + length (item_bytes next) = omega arith in
        let shorter : length (drop n contents) ≡ length contents - n = length-drop n contents in
        let kept : length after ≡ length out = rw (e, put-length out at (item_bytes next) (omega arith)) in
        let front : take (at + 4 + n) after ≡ take at out ++ item_bytes next =
        rw (e, ends, ← append_assoc (take at out)) (take_at (take at out ++ item_bytes next) _ (at + length (item_bytes next)) (rw (length-append, length-take-le at out (omega arith)))) in
        record {
          fits = (id + 1, rw shorter fits_both.1);
          place = omega arith;
          laid = rw (front, append_assoc) l.laid;
        }

-- ---- body and header

nothing_behind : (s : List ℕ) (at : ℕ) → drop (length s - at) (drop at s) ≡ []
nothing_behind s at = let l : length (drop at s) ≤ length s - at = rw length-drop (omega arith) in drop_of_length-le (drop at s) l

-- what is put over all of a list
put_all : (s b : List ℕ) → length s ≡ length b → put s 0 b ≡ b
put_all s b e = let l : length s ≤ 0 + length b = omega arith in rw (drop_of_length-le s l, append-nil b)

pub length_rest : (s : List ℕ) (at : ℕ) → length (take (length s - at) (drop at s)) ≡ length s - at
length_rest s at = length-take-le (length s - at) (drop at s) (rw length-drop (omega arith))

pub length-body : (m : Message) → length (body_bytes m) ≡ 5 + length (items_bytes m.items)
unfolding body_bytes be_bytes
length-body m = omega arith

module _ (m : Message) (s : List ℕ) where
  module _ {s₁ s₂ : List ℕ} (count : ℕ) (e₁ : s₁ ≡ put_be 2 s 0 m.service) (e₂ : s₂ ≡ put_be 2 s₁ 2 m.options) where
    pub counted-long : length (set s₂ 4 count) ≡ length s
    counted-long = rw (length-set, e₂, length-put_be, e₁, length-put_be)

    -- service, options and the number of items
    counted : 5 ≤ length s → set s₂ 4 count ≡ put s 0 (be_bytes 2 m.service ++ (be_bytes 2 m.options ++ (count ∷ [])))
    unfolding be_bytes
    counted room =
        let service = be_bytes 2 m.service in
        let options = be_bytes 2 m.options in
        let p₁ : s₁ ≡ put s 0 service = e₁ ∙ put_be-put 2 s 0 m.service (omega arith) in
        let l₁ : length s₁ ≡ length s = rw (e₁, length-put_be) in
        let p₂ : s₂ ≡ put s 0 (service ++ options) = e₂ ∙ put_be-put 2 s₁ 2 m.options (omega arith) ∙ rw p₁ (put_on s 0 service options (omega arith)) in
        let l₂ : length s₂ ≡ length s = rw (e₂, length-put_be, l₁) in
        set-put s₂ 4 count (omega arith) ∙ rw p₂ (put_on s 0 (service ++ options) (count ∷ []) (omega arith))

    pub body-laid : 5 ≤ length s → length m.items ≡ count → {part : List ℕ} → part ≡ items_bytes m.items
        → take 5 (set s₂ 4 count) ++ (part ++ drop (length (set s₂ 4 count) - 5) (drop 5 (set s₂ 4 count))) ≡ body_bytes m
    unfolding body_bytes be_bytes
    body-laid room e p = rw (nothing_behind (set s₂ 4 count) 5, p, append-nil (items_bytes m.items), counted room, e)

    pub body_kept : 5 ≤ length s → length m.items ≡ count → {part : List ℕ} → part ≡ items_bytes m.items → length s ≡ length (body_bytes m)
        → length (take 5 (set s₂ 4 count) ++ (part ++ drop (length (set s₂ 4 count) - 5) (drop 5 (set s₂ 4 count)))) ≡ length s
    body_kept room e p l = ap length (body-laid room e p) ∙ sym l

  pub head-laid : {k size : ℕ} {s₁ s₂ s₃ : List ℕ} → length s ≡ 21 → k ≡ head_length m.kind
      → s₁ ≡ put_be 8 (set (set (set s 0 k) 1 m.kind) 2 0x01) 3 m.caller → s₂ ≡ put_be 8 s₁ 11 m.number → s₃ ≡ put_be 2 s₂ 19 size
      → size ≡ length (body_bytes m) → s₃ ≡ head_bytes m
  unfolding head_bytes be_bytes
  head-laid {k} {size} {s₁} {s₂} {s₃} l ek e₁ e₂ e₃ long =
      let caller = be_bytes 8 m.caller in
      let number = be_bytes 8 m.number in
      let q₁ : set s 0 k ≡ put s 0 (k ∷ []) = set-put s 0 k (omega arith) in
      let q₂ : set (set s 0 k) 1 m.kind ≡ put s 0 (k ∷ m.kind ∷ []) =
      set-put (set s 0 k) 1 m.kind (rw length-set (omega arith)) ∙ rw q₁ (put_on s 0 (k ∷ []) (m.kind ∷ []) (omega arith)) in
      let q₃ : set (set (set s 0 k) 1 m.kind) 2 0x01 ≡ put s 0 (k ∷ m.kind ∷ 0x01 ∷ []) =
      set-put (set (set s 0 k) 1 m.kind) 2 0x01 (rw (length-set, length-set) (omega arith)) ∙ rw q₂ (put_on s 0 (k ∷ m.kind ∷ []) (0x01 ∷ []) (omega arith)) in
      let l₀ : length (set (set (set s 0 k) 1 m.kind) 2 0x01) ≡ 21 = rw (length-set, length-set, length-set) l in
      let l₁ : length s₁ ≡ 21 = rw (e₁, length-put_be) l₀ in
      let l₂ : length s₂ ≡ 21 = rw (e₂, length-put_be) l₁ in
      let p₁ : s₁ ≡ put s 0 (k ∷ m.kind ∷ 0x01 ∷ caller) =
      e₁ ∙ put_be-put 8 (set (set (set s 0 k) 1 m.kind) 2 0x01) 3 m.caller (omega arith) ∙ rw q₃ (put_on s 0 (k ∷ m.kind ∷ 0x01 ∷ []) caller (omega arith)) in
      let p₂ : s₂ ≡ put s 0 ((k ∷ m.kind ∷ 0x01 ∷ caller) ++ number) =
      e₂ ∙ put_be-put 8 s₁ 11 m.number (omega arith) ∙ rw p₁ (put_on s 0 (k ∷ m.kind ∷ 0x01 ∷ caller) number (omega arith)) in
      let p₃ : s₃ ≡ put s 0 (((k ∷ m.kind ∷ 0x01 ∷ caller) ++ number) ++ be_bytes 2 size) =
      e₃ ∙ put_be-put 2 s₂ 19 size (omega arith) ∙ rw p₂ (put_on s 0 ((k ∷ m.kind ∷ 0x01 ∷ caller) ++ number) (be_bytes 2 size) (omega arith)) in
      p₃ ∙ put_all s (((k ∷ m.kind ∷ 0x01 ∷ caller) ++ number) ++ be_bytes 2 size) l ∙ rw (ek, long)

-- ---- the message

-- what a message that can be written has
module _ {h : Heading} {identifiers lengths contents : List ℕ} (t : Tested h identifiers lengths contents) where
  pub draft-kind : h.kind < 256
  draft-kind = kind-small h.kind (and_left (one_of h.kind kinds) _ t.heading)

  pub draft-size : length (body_bytes (lent h identifiers lengths contents)) ≡ 5 + (4 * length identifiers + length contents)
  draft-size = length-body (lent h identifiers lengths contents) ∙ rw (fit_length identifiers lengths contents t.items)

  pub draft-count : length (lent h identifiers lengths contents).items ≡ length identifiers
  draft-count = fit_count identifiers lengths contents t.items

  -- a part of the output for the body, and one for the items
  pub body-room : {m : Message} → lent h identifiers lengths contents ≡ m → {n : ℕ} → n ≡ length (body_bytes m) → n ≡ 5 + (4 * length identifiers + length contents)
  body-room e size = rw (← e) at size ∙ draft-size

module _ (m : Message) (s : List ℕ) {start : ℕ} (at : start ≡ head_length m.kind) (size : length s ≡ length (message_bytes m)) where
  room : length s ≡ head_length m.kind + length (body_bytes m)
  room = size ∙ length-message m

  pub start-room : start ≤ length s
  start-room = let r = room in omega arith

  pub body-size : length (take (length s - start) (drop start s)) ≡ length (body_bytes m)
  body-size = let r = room in length_rest s start ∙ omega arith

  body-behind : {body : List ℕ} → body ≡ body_bytes m → take start s ++ (body ++ drop (length s - start) (drop start s)) ≡ take (head_length m.kind) s ++ body_bytes m
  body-behind b = rw (nothing_behind s start, b, append-nil (body_bytes m), at)

  pub head-room : {body : List ℕ} → body ≡ body_bytes m → 21 ≤ length (take start s ++ (body ++ drop (length s - start) (drop start s)))
  head-room b =
      let r = room in
      let long = (head-long m.kind).0 in
      let front = length-take-le (head_length m.kind) s (omega arith) in
      rw (body-behind b, length-append, front) (omega arith)

  module _ {body o₁ head o₂ : List ℕ} (b : body ≡ body_bytes m) (e₁ : o₁ ≡ take start s ++ (body ++ drop (length s - start) (drop start s)))
      (p : head ≡ head_bytes m) (e₂ : o₂ ≡ take 0 o₁ ++ (head ++ drop (21 - 0) (drop 0 o₁))) where
    -- body behind what stood before it, then the header over its front
    both : o₂ ≡ head_bytes m ++ drop 21 (take (head_length m.kind) s ++ body_bytes m)
    both = e₂ ∙ rw (p, e₁, body-behind b)

    pub laid-long : length o₂ ≡ length s
    laid-long =
        let r = room in
        let long = (head-long m.kind).0 in
        let front = length-take-le (head_length m.kind) s (omega arith) in
        ap length both ∙ rw (length-append, length-head m, length-drop, length-append, front) (omega arith)

    pub laid-plain : marked m.kind ≡ false → o₂ ≡ message_bytes m
    unfolding message_bytes
    laid-plain f = both ∙ rw (f, drop_at (take 21 s) (body_bytes m) 21 (length-take-le 21 s (let r = rw f at room in omega arith)))

    -- where the MAC goes
    pub seal-room : marked m.kind ≡ true → (25 ≤ length o₂) × (length o₂ ≡ 25 + length (body_bytes m))
    seal-room t =
        let r : length s ≡ 25 + length (body_bytes m) = rw t at room in
        let l = laid-long in
        (omega arith, omega arith)

    pub laid-sealed : marked m.kind ≡ true → {o₃ : List ℕ} → o₃ ≡ put o₂ 21 (drop 28 (sm3_of (without_mac o₂))) → o₃ ≡ message_bytes m
    unfolding message_bytes mac_of
    laid-sealed t e =
        let r : length s ≡ 25 + length (body_bytes m) = rw t at room in
        let gap = drop 21 (take 25 s) in
        let long : length (take 25 s) ≡ 25 = length-take-le 25 s (omega arith) in
        let four : length gap ≡ 4 = rw (length-drop, long) in
        let shape : o₂ ≡ head_bytes m ++ (gap ++ body_bytes m) = both ∙ rw (t, drop-append-le 21 (take 25 s) (body_bytes m) (omega arith)) in
        let without = without_mac_lem m gap four in
        let front = take_at (head_bytes m) (gap ++ body_bytes m) 21 (length-head m) in
        let back : drop 25 (head_bytes m ++ (gap ++ body_bytes m)) ≡ body_bytes m =
        rw (← append_assoc (head_bytes m) gap) (drop_at (head_bytes m ++ gap) (body_bytes m) 25 (length-append (head_bytes m) gap ∙ rw (length-head m, four))) in
        e ∙ rw (shape, without, front, length_mac m, back, t)
