-- What each branch of reading a message and its items returns.
use Rattle.std.specs.Prelude.{ℕ, zero, suc, ◌+◌, ◌-◌, ◌≤◌, ◌≡◌, refl, Bool, true, false, List, [], ◌∷◌, length, get_or, take, drop, eqb, slice_get, find, Option, Some, None, Result, Ok, Err, option_map}
use Rattle.std.proofs.Common.{sym, ap, ◌∙◌, arith}
use Rattle.words.specs.Bytes.{be_at}
use Rattle.words.specs.BoolLaws.{by-test, impossible}
use Rattle.token.specs.declared.answers.Refusal.{Refusal}
use Rattle.message.specs.declared.items.ItemPlace.{ItemPlace}
use Rattle.message.specs.Message.{Item, item_end, items_at, items_end, count_in, items_start, frame_fits, frame_of, message_at, mac_fits}
use Rattle.message.specs.Reading.{MessageRead, read_of, places, places_in, place_in, item_of, content_in}
use Rattle.message.specs.Walking.{framed_as, sealed_as}
use Rattle.message.specs.WalkLaws.{end-behind}
use Rattle.message.specs.FrameLaws.{items-end}

-- ---- bytes that are a message, with a MAC that fits

module _ (s : List ℕ) where
  pub not_framed : framed_as s ≡ None → frame_fits s ≡ false
  unfolding framed_as
  not_framed e =
      by-test (frame_fits s)
      (λ t. let h : ◌≡◌ {A = Option (List ℕ)} (Some s) None = rw t at e in impossible (cc))
      (λ f. f)

  pub is-framed : {f : List ℕ} → framed_as s ≡ Some f → (frame_fits s ≡ true) × (f ≡ s)
  unfolding framed_as
  is-framed {f} e =
      by-test (frame_fits s)
      (λ t. let h : Some s ≡ Some f = rw t at e in (t, cc))
      (λ n. let h : ◌≡◌ {A = Option (List ℕ)} None (Some f) = rw n at e in impossible (cc))

-- what they say
abbrev pub said : Result (List ℕ) Refusal → MessageRead
said (Ok s) = Ok (message_at s)
said (Err refusal) = Err refusal

module _ (s : List ℕ) where
  pub read-said : read_of s ≡ said (sealed_as (framed_as s))
  unfolding read_of frame_of framed_as
  read-said = by-test (frame_fits s) (λ t. rw t (by-test (mac_fits s) (λ mac. rw mac) (λ other. rw other))) (λ f. rw f)

  -- they are the bytes that were given
  pub same-bytes : {f : List ℕ} → sealed_as (framed_as s) ≡ Ok f → f ≡ s
  unfolding framed_as
  same-bytes {f} e =
      by-test (frame_fits s)
      (λ t. by-test (mac_fits s)
      (λ mac. let h : ◌≡◌ {A = Result (List ℕ) Refusal} (Ok s) (Ok f) = rw (t, mac) at e in cc)
      (λ other. let h : ◌≡◌ {A = Result (List ℕ) Refusal} (Err Refusal.BadMac) (Ok f) = rw (t, other) at e in impossible (cc)))
      (λ n. let h : ◌≡◌ {A = Result (List ℕ) Refusal} (Err Refusal.BadMessage) (Ok f) = rw n at e in impossible (cc))

same_map : (r : Option ItemPlace) → r ≡ option_map (λ x. x) r
same_map None = refl
same_map (Some p) = refl

pub item-placed : (s : List ℕ) (i : ℕ) {f : List ℕ} → sealed_as (framed_as s) ≡ Ok f → {r : Option ItemPlace} → option_map (λ x. x) r ≡ slice_get (places_in f) i → Ok r ≡ item_of s i
item-placed s i e {r} there =
    let here : r ≡ slice_get (places_in s) i = same_map r ∙ rw (same-bytes s e) at there in
    rw (read-said s, e, here)

-- ---- the items that are left

pub places_none : (n : ℕ) (s : List ℕ) (at : ℕ) → n ≡ 0 → places n s at ≡ []
unfolding places
places_none n s at e = rw e

pub places_next : (n : ℕ) (s : List ℕ) (at : ℕ) → (n ≡ 0 → ⊥)
    → places n s at ≡ record { identifier = be_at 2 s (at + 1); start = at + 4; end = item_end s at } ∷ places (n - 1) s (item_end s at)
unfolding places
places_next zero s at d = absurd (d refl)
places_next (suc n) s at d = let z : suc n - 1 ≡ n = omega arith in rw z

-- ---- an item by its identifier

module _ (id : ℕ) where
  abbrev pub is_place : ItemPlace → Bool
  is_place p = eqb p.identifier id

  abbrev pub is_item : Item → Bool
  is_item i = eqb i.identifier id

  pub place-absent : (n : ℕ) (s : List ℕ) (at : ℕ) → find is_place (places n s at) ≡ None → find is_item (items_at n s at) ≡ None
  unfolding places items_at
  place-absent zero s at e = refl
  place-absent (suc n) s at e =
      by-test (eqb (be_at 2 s (at + 1)) id)
      (λ t. let h : ◌≡◌ {A = Option ItemPlace} (Some _) None = rw t at e in impossible (cc))
      (λ f. rw f (place-absent n s (item_end s at) (rw f at e)))

  -- where an item's content stands, and what it is
  pub record There (n : ℕ) (s : List ℕ) (at : ℕ) (p : ItemPlace) : Type 0 where
    pub ordered : p.start ≤ p.end
    pub before : p.end ≤ items_end n s at
    pub content : content_in id (items_at n s at) ≡ Some (take (p.end - p.start) (drop p.start s))

  pub place-there : (n : ℕ) (s : List ℕ) (at : ℕ) {p : ItemPlace} → find is_place (places n s at) ≡ Some p → There n s at p
  unfolding places items_at items_end
  place-there zero s at {p} e = impossible (cc)
  place-there (suc n) s at {p} e =
      by-test (eqb (be_at 2 s (at + 1)) id)
      (λ t. let h : Some (record { identifier = be_at 2 s (at + 1); start = at + 4; end = item_end s at }) ≡ Some p = rw t at e in
      let here : record { identifier = be_at 2 s (at + 1); start = at + 4; end = item_end s at } ≡ p = cc in
      let start : at + 4 ≡ p.start = ap (λ (q : ItemPlace). q.start) here in
      let end : item_end s at ≡ p.end = ap (λ (q : ItemPlace). q.end) here in
      let z : p.end - p.start ≡ get_or s (at + 3) 0 = omega arith in
      let w = end-behind n s (item_end s at) in
      record { ordered = omega arith; before = omega arith; content = rw (t, z, ← start) })
      (λ f. let r = place-there n s (item_end s at) {p = p} (rw f at e) in
      record { ordered = r.ordered; before = r.before; content = rw f r.content })

-- of all items
module _ (id : ℕ) (s : List ℕ) where
  pub content-none : find (is_place id) (places_in s) ≡ None → None ≡ content_in id (message_at s).items
  unfolding message_at
  content-none e = rw (place-absent id (count_in s) s (items_start s) e)

  module _ {p : ItemPlace} (e : find (is_place id) (places_in s) ≡ Some p) where
    there : There id (count_in s) s (items_start s) p
    there = place-there id (count_in s) s (items_start s) e

    pub content-room : frame_fits s ≡ true → (p.start ≤ p.end) × (p.end ≤ length s)
    content-room fits = let e = items-end s fits in let b = there.before in (there.ordered, omega arith)

    pub content-there : Some (take (p.end - p.start) (drop p.start s)) ≡ content_in id (message_at s).items
    unfolding message_at
    content-there = sym there.content

-- ---- where an item's content stands

place-ordered : (n i : ℕ) (s : List ℕ) (at : ℕ) {place : ItemPlace} → slice_get (places n s at) i ≡ Some place → place.start ≤ place.end
unfolding places
place-ordered zero i s at e = impossible (cc)
place-ordered (suc n) zero s at {place} e =
    let here : record { identifier = be_at 2 s (at + 1); start = at + 4; end = item_end s at } ≡ place = cc in
    let start : at + 4 ≡ place.start = ap (λ (p : ItemPlace). p.start) here in
    let end : item_end s at ≡ place.end = ap (λ (p : ItemPlace). p.end) here in
    omega arith
place-ordered (suc n) (suc i) s at e = place-ordered n i s (item_end s at) e

pub item-ordered : (s : List ℕ) (i : ℕ) {place : ItemPlace} → item_of s i ≡ Ok (Some place) → place.start ≤ place.end
item-ordered s i {place} e = by (read_of s) e
  where
    by : (r : MessageRead) → place_in s i r ≡ Ok (Some place) → place.start ≤ place.end
    by (Ok m) p = let e : slice_get (places_in s) i ≡ Some place = cc in place-ordered (count_in s) i s (items_start s) e
    by (Err refusal) p = impossible (cc)
