-- What each branch of the test of a message's frame returns.
use Rattle.std.specs.Prelude.{ℕ, ◌+◌, ◌≤◌, ◌<◌, ◌≡◌, Bool, false, not, cond, ◌&&◌, List, leb, length, get_or}
use Rattle.std.proofs.Math.Path.{sym}
use Rattle.std.proofs.Common.{◌∙◌, arith}
use Rattle.std.proofs.Math.Bool.{true}
use borrow.Author.Tests.{le-leb, leb-true, eq-eqb, eqb-true, not-true, not-false}
use Rattle.std.proofs.Math.Dec.{eqb}
use Rattle.words.specs.Bytes.{AreBytes, be_at}
use Rattle.words.specs.BytesLaws.{be_at-lt}
use Rattle.words.specs.BoolLaws.{by-test, and_left, and_right, clash}
use Rattle.message.specs.Message.{marked, head_length, items_end, kind_in, body_start, count_in, items_start, type_named, frame_fits, message_at}
use Rattle.message.specs.Walking.{longest, items_fill}
use Rattle.message.specs.WalkLaws.{end-behind, length-items_at}
use Rattle.message.specs.FrameFacts.{Facts, fitting_facts, facts_fit}

-- ---- bytes that are a message

pub head-long : (kind : ℕ) → (21 ≤ head_length kind) × (head_length kind ≤ 25)
head-long kind = by (marked kind)
  where
    by : (b : Bool) → (21 ≤ cond b 25 21) × (cond b 25 21 ≤ 25)
    by true = (omega arith, omega arith)
    by false = (omega arith, omega arith)

module _ (s : List ℕ) (t : frame_fits s ≡ true) where
  pub items-end : items_end (count_in s) s (items_start s) ≡ length s
  items-end = (fitting_facts s t).end

  pub fits-long : (items_start s ≤ length s) × (26 ≤ length s)
  fits-long =
      let e = items-end in
      let h = end-behind (count_in s) s (items_start s) in
      let l = (head-long (kind_in s)).0 in
      (omega arith, omega arith)

  pub fits-short : AreBytes s → length s ≤ longest
  fits-short h =
      let e = (fitting_facts s t).sum in
      let b = be_at-lt 2 s 19 h in
      let l = (head-long (kind_in s)).1 in
      omega arith

  items-filled : items_fill (count_in s) s (items_start s) ≡ true
  unfolding items_fill
  items-filled = rw (eq-eqb (items_end (count_in s) s (items_start s)) (length s) items-end) (fitting_facts s t).plain

-- ---- what the body's start and the number of items are

module _ (s : List ℕ) (t : frame_fits s ≡ true) where
  pub body-room : body_start s + 5 ≤ length s
  body-room = (fits-long s t).0

  pub count-here : count_in s ≡ length (message_at s).items
  unfolding message_at
  count-here = sym (length-items_at (count_in s) s (items_start s))

-- ---- what is returned

module _ (s : List ℕ) where
  frame_unfit : (frame_fits s ≡ true → ⊥) → false ≡ frame_fits s
  frame_unfit d = by-test (frame_fits s) (λ t. absurd (d t)) (λ f. sym f)

  pub frame_short : length s < 21 → false ≡ frame_fits s
  frame_short l = frame_unfit (λ t. let h = fits-long s t in omega arith)

  module _ {body size : ℕ} {named : Bool} (bodied : body ≡ body_start s) (sized : size ≡ be_at 2 s 19) (names : named ≡ type_named s) where
    abbrev head_tests : Bool
    head_tests = (((named && eqb (get_or s 2 0) 1) && eqb (get_or s 0 0) body) && eqb (body + size) (length s)) && leb 5 size

    pub head-unfit : not head_tests ≡ true → false ≡ frame_fits s
    head-unfit n =
        frame_unfit
        (λ t. let f = fitting_facts s t in
        let whole = f.sum in
        let long = (fits-long s t).0 in
        let z : head_tests ≡ true =
        rw (names, f.named, eq-eqb (get_or s 2 0) 1 f.version, bodied, eq-eqb (get_or s 0 0) (body_start s) f.head, sized, eq-eqb (body_start s + be_at 2 s 19) (length s) f.sum)
        (le-leb 5 (be_at 2 s 19) (omega arith)) in
        clash z (not-true head_tests n))

    module _ (t : not head_tests ≡ false) where
      abbrev right : head_tests ≡ true
      right = not-false head_tests t

      pub head-room : (body + 5 ≤ length s) × (body + size ≡ length s)
      head-room =
          let all : head_tests ≡ true = right in
          let whole : eqb (body + size) (length s) ≡ true = search (and_left, and_right) depth 12 in
          let long : leb 5 size ≡ true = search (and_left, and_right) depth 12 in
          let e = eqb-true (body + size) (length s) whole in
          let l = leb-true 5 size long in
          (omega arith, e)

      filled_facts : items_fill (count_in s) s (items_start s) ≡ true → Facts s
      unfolding items_fill
      filled_facts fill =
          let all : head_tests ≡ true = right in
          let named-right : named ≡ true = search (and_left, and_right) depth 12 in
          let version : eqb (get_or s 2 0) 1 ≡ true = search (and_left, and_right) depth 12 in
          let head : eqb (get_or s 0 0) body ≡ true = search (and_left, and_right) depth 12 in
          let whole = head-room.1 in
          record {
            named = sym names ∙ named-right;
            version = eqb-true (get_or s 2 0) 1 version;
            head = eqb-true (get_or s 0 0) body head ∙ bodied;
            sum = rw (bodied, sized) at whole;
            end = eqb-true (items_end (count_in s) s (items_start s)) (length s) (and_left _ _ fill);
            plain = and_right (eqb (items_end (count_in s) s (items_start s)) (length s)) _ fill;
          }

      pub items-fit : {fill : Bool} → fill ≡ items_fill (get_or s (body + 4) 0) s (body + 5) → fill ≡ frame_fits s
      items-fit {fill} filled =
          let here : fill ≡ items_fill (count_in s) s (items_start s) = rw bodied at filled in
          by-test fill
          (λ f. f ∙ sym (facts_fit s (filled_facts (sym here ∙ f))))
          (λ f. f ∙ frame_unfit (λ t. clash (here ∙ items-filled s t) f))
