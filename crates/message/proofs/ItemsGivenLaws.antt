-- Items found by their index are those of the message, and items are lent in one way.
use Rattle.std.specs.Prelude.{ℕ, zero, suc, ◌+◌, ◌-◌, ◌≡◌, refl, List, [], ◌∷◌, ◌++◌, map, eqb, length, get_or, take, drop, slice_get, Some, Ok}
use Rattle.std.proofs.Common.{sym, ap, ◌∙◌, arith, eq-eqb, eqb-true, length-append, length-drop, take-append-drop, length-take-le}
use Rattle.std.proofs.Math.Seq.{take-append_seam, drop-append_seam}
use Rattle.words.specs.BoolLaws.{and_left, and_right, and_both, by-test, impossible}
use Rattle.message.specs.Message.{Item, Message, item_end, items_at, count_in, items_start, message_at}
use Rattle.message.specs.Reading.{MessageRead, places, place_in}
use Rattle.message.specs.Writing.{items_as_lent, sum, together, items_lent}
use Rattle.message.specs.Promise.{item_there, ItemExactly, contents_of, LentExactly}
use Rattle.message.specs.FrameFacts.{some_facts}
use Rattle.message.proofs.ReadCodesLaws.{read_codes}

-- ---- items by their index

place-item : (n i : ℕ) (s : List ℕ) (at : ℕ) → item_there s (Ok (slice_get (places n s at) i)) ≡ slice_get (items_at n s at) i
unfolding places items_at
place-item zero i s at = refl
place-item (suc n) zero s at = let z : item_end s at - (at + 4) ≡ get_or s (at + 3) 0 = omega arith in rw z
place-item (suc n) (suc i) s at = place-item n i s (item_end s at)

pub item_exactly : ItemExactly
unfolding message_at
item_exactly s m i e =
    let whole = (((read_codes s).1.1 m).0 e).0 in
    let same : message_at s ≡ m = (some_facts s m whole).1 in
    ap (λ (r : MessageRead). item_there s (place_in s i r)) e ∙ place-item (count_in s) i s (items_start s) ∙ ap (λ (m : Message). slice_get m.items i) same

-- ---- items as they are lent

abbrev ids : List Item → List ℕ
ids items = map (λ (i : Item). i.identifier) items

abbrev lens : List Item → List ℕ
lens items = map (λ (i : Item). length i.content) items

pub record Parts (identifiers lengths contents : List ℕ) (items : List Item) : Type 0 where
  pub identifier : identifiers ≡ ids items
  pub length : lengths ≡ lens items
  pub content : contents ≡ contents_of items

lent_parts : (identifiers lengths contents : List ℕ) → length identifiers ≡ length lengths → sum lengths ≡ length contents
    → Parts identifiers lengths contents (items_as_lent identifiers lengths contents)
unfolding items_as_lent
lent_parts [] [] [] e s = record { identifier = refl; length = refl; content = refl }
lent_parts [] [] (b ∷ contents) e s = absurd (omega arith)
lent_parts [] (n ∷ lengths) contents e s = absurd (omega arith)
lent_parts (id ∷ identifiers) [] contents e s = absurd (omega arith)
lent_parts (id ∷ identifiers) (n ∷ lengths) contents e s =
    let long : length (take n contents) ≡ n = length-take-le n contents (omega arith) in
    let rest = lent_parts identifiers lengths (drop n contents) (omega arith) (rw length-drop (omega arith)) in
    record {
      identifier = ap (λ (l : List ℕ). id ∷ l) rest.identifier;
      length = rw long (ap (λ (l : List ℕ). n ∷ l) rest.length);
      content = sym (ap (λ (l : List ℕ). take n contents ++ l) (sym rest.content) ∙ take-append-drop n contents);
    }

parts_counts : (items : List Item) → length (ids items) ≡ length (lens items)
parts_counts [] = refl
parts_counts (i ∷ items) = ap suc (parts_counts items)

parts_sums : (items : List Item) → sum (lens items) ≡ length (contents_of items)
parts_sums [] = refl
parts_sums (i ∷ items) = rw (length-append, ← parts_sums items)

parts_lent : (items : List Item) → items_as_lent (ids items) (lens items) (contents_of items) ≡ items
unfolding items_as_lent
parts_lent [] = refl
parts_lent (i ∷ items) = rw (take-append_seam i.content (contents_of items), drop-append_seam i.content (contents_of items), parts_lent items)

pub lent_exactly : LentExactly
unfolding items_lent together
lent_exactly identifiers lengths contents items = (
  λ e. by-test (together identifiers lengths contents)
      (λ t. let counts = eqb-true (length identifiers) (length lengths) (and_left (eqb (length identifiers) (length lengths)) _ t) in
      let sums = eqb-true (sum lengths) (length contents) (and_right (eqb (length identifiers) (length lengths)) _ t) in
      let found : Some (items_as_lent identifiers lengths contents) ≡ Some items = rw t at e in
      let same : items_as_lent identifiers lengths contents ≡ items = cc in
      let parts : Parts identifiers lengths contents items = rw same at (lent_parts identifiers lengths contents counts sums) in
      (parts.identifier, (parts.length, parts.content)))
      (λ f. let none : _ ≡ Some items = rw f at e in impossible (cc)),
  λ x. rw (x.0, x.1.0, x.1.1, and_both (eq-eqb (length (ids items)) (length (lens items)) (parts_counts items)) (eq-eqb (sum (lens items)) (length (contents_of items)) (parts_sums items)), parts_lent items),
)
