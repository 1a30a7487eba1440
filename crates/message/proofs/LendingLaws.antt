-- The tests on items as they are lent: one by one they come to what can be written.
use Rattle.std.specs.Prelude.{ℕ, suc, ◌+◌, ◌*◌, ◌-◌, ◌^◌, ◌≤◌, ◌≡◌, ◌⊎◌, refl, Bool, true, false, ◌&&◌, ◌||◌, not, List, [], ◌∷◌, eqb, leb, ltb, length, take, drop}
use Rattle.std.proofs.Common.{inl, inr, sym, ap, arith, leb-true, leb-false, ltb-false, eqb-true, lt-ltb, le-ltb, length-append, length-drop, length-take-le}
use Rattle.std.proofs.lemmas.Bool.{not-true}
use Rattle.words.specs.BoolLaws.{and_left, and_right, and_false, and_assoc, or_left, or_right, by-test, impossible}
use Rattle.words.specs.Lists.{one_of}
use Rattle.message.specs.declared.reading.Heading.{Heading}
use Rattle.message.specs.Message.{kinds, items_bytes}
use Rattle.message.specs.Writing.{rising_from, items_hold, items_as_lent, sum}
use Rattle.message.specs.Lending.{heading_fits, misfit, lent_fit}
use Rattle.message.proofs.ItemsReadLaws.{length-item}

pub heading_tests : (h : Heading) {named : Bool} → named ≡ one_of h.kind kinds → (named && leb h.service 0xffff) && leb h.options 0xffff ≡ heading_fits h
heading_tests h e = rw e (and_assoc (one_of h.kind kinds) (leb h.service 0xffff) (leb h.options 0xffff))

-- ---- the loop over the items

-- what an item that fits holds
pub record Room (low id n left : ℕ) : Type 0 where
  pub identifier : id ≤ 0xffff
  pub content : n ≤ 0xff
  pub enough : n ≤ left

pub fit-room : (low id n left : ℕ) → misfit low id n left ≡ false → Room low id n left
fit-room low id n left f =
    let values = or_left ((ltb id low || ltb 0xffff id) || ltb 0xff n) _ f in
    record {
      identifier = ltb-false 0xffff id (or_right (ltb id low) _ (or_left (ltb id low || ltb 0xffff id) _ values));
      content = ltb-false 0xff n (or_right (ltb id low || ltb 0xffff id) _ values);
      enough = ltb-false left n (or_right ((ltb id low || ltb 0xffff id) || ltb 0xff n) _ f);
    }

-- the items that are left fit if all do
pub record Fitting (identifiers lengths : List ℕ) (contents low left : ℕ) (ids lens : List ℕ) : Type 0 where
  pub counts : length ids ≡ length lens
  pub same : lent_fit low ids lens left ≡ lent_fit 0 identifiers lengths contents

module _ (identifiers lengths : List ℕ) (contents low left : ℕ) where
  pub fit-end : (ids lens : List ℕ) → Fitting identifiers lengths contents low left ids lens → (ids ≡ []) ⊎ (lens ≡ []) → eqb left 0 ≡ lent_fit 0 identifiers lengths contents
  unfolding lent_fit
  fit-end [] [] f e = f.same
  fit-end [] (n ∷ lens) f e = let counts = f.counts in absurd (omega arith)
  fit-end (id ∷ ids) [] f e = let counts = f.counts in absurd (omega arith)
  fit-end (id ∷ ids) (n ∷ lens) f (inl e) = impossible (cc)
  fit-end (id ∷ ids) (n ∷ lens) f (inr e) = impossible (cc)

  module _ {id n : ℕ} {ids lens left-ids left-lens : List ℕ} (f : Fitting identifiers lengths contents low left ids lens) (here : ids ≡ id ∷ left-ids) (there : lens ≡ n ∷ left-lens) where
    fit-here : not (misfit low id n left) && lent_fit (id + 1) left-ids left-lens (left - n) ≡ lent_fit 0 identifiers lengths contents
    unfolding lent_fit
    fit-here = rw (here, there) at f.same

    pub fit_not : misfit low id n left ≡ true → false ≡ lent_fit 0 identifiers lengths contents
    fit_not t = rw t at fit-here

    pub fit_next : misfit low id n left ≡ false → Fitting identifiers lengths contents (id + 1) (left - n) left-ids left-lens
    fit_next m =
        let counts : suc (length left-ids) ≡ suc (length left-lens) = rw (here, there) at f.counts in
        record { counts = omega arith; same = rw m at fit-here }

-- ---- what fits is lent together

pub record Fit (identifiers lengths : List ℕ) (left : ℕ) : Type 0 where
  pub counts : length identifiers ≡ length lengths
  pub sums : sum lengths ≡ left

pub fit-both : (low : ℕ) (identifiers lengths : List ℕ) (left : ℕ) → lent_fit low identifiers lengths left ≡ true → Fit identifiers lengths left
unfolding lent_fit
fit-both low [] [] left t = record { counts = refl; sums = sym (eqb-true left 0 t) }
fit-both low [] (n ∷ lengths) left t = impossible (cc)
fit-both low (id ∷ identifiers) [] left t = impossible (cc)
fit-both low (id ∷ identifiers) (n ∷ lengths) left t =
    let fits = not-true (misfit low id n left) (and_left (not (misfit low id n left)) _ t) in
    let room = (fit-room low id n left fits).enough in
    let rest = fit-both (id + 1) identifiers lengths (left - n) (and_right (not (misfit low id n left)) _ t) in
    let sums = rest.sums in
    record { counts = ap suc rest.counts; sums = omega arith }

pub fit-counts : (identifiers lengths : List ℕ) (left : ℕ) → (length identifiers ≡ length lengths → ⊥) → lent_fit 0 identifiers lengths left ≡ false
fit-counts identifiers lengths left d =
    by-test (lent_fit 0 identifiers lengths left) (λ t. absurd (d (fit-both 0 identifiers lengths left t).counts)) (λ f. f)

-- ---- and the tests are those of what can be written

not_ltb : (a b : ℕ) → ltb a b ≡ not (leb b a)
not_ltb a b = by-test (leb b a) (λ t. rw (t, le-ltb a b (leb-true b a t))) (λ f. rw (f, lt-ltb a b (leb-false b a f)))

-- as `leb` with the number before
ltb_up : (a b : ℕ) → leb a b ≡ ltb a (b + 1)
ltb_up a b = by-test (leb a b) (λ t. let l = leb-true a b t in rw (t, lt-ltb a (b + 1) (omega arith))) (λ f. let l = leb-false a b f in rw (f, le-ltb a (b + 1) (omega arith)))

tests_join : (a b c r h : Bool) → not (((not a || not b) || not c) || false) && (r && h) ≡ (a && r) && ((b && c) && h)
tests_join true true true r h = refl
tests_join true true false r h = sym (and_false r)
tests_join true false c r h = sym (and_false r)
tests_join false b c r h = refl

pub fit_is : (low : ℕ) (identifiers lengths contents : List ℕ) → length identifiers ≡ length lengths → sum lengths ≡ length contents
    → lent_fit low identifiers lengths (length contents) ≡ rising_from low (items_as_lent identifiers lengths contents) && items_hold (items_as_lent identifiers lengths contents)
unfolding lent_fit items_as_lent
fit_is low [] [] contents e s = rw (← s)
fit_is low [] (n ∷ lengths) contents e s = absurd (omega arith)
fit_is low (id ∷ identifiers) [] contents e s = absurd (omega arith)
fit_is low (id ∷ identifiers) (n ∷ lengths) contents e s =
    let long : length (take n contents) ≡ n = length-take-le n contents (omega arith) in
    let rest = fit_is (id + 1) identifiers lengths (drop n contents) (omega arith) (rw length-drop (omega arith)) in
    rw (long, ← length-drop n contents, rest, le-ltb (length contents) n (omega arith), not_ltb id low, not_ltb 0xffff id, not_ltb 0xff n, ltb_up id 0xffff, ltb_up n 0xff)
    (tests_join (leb low id) (ltb id (2 ^ 16)) (ltb n (2 ^ 8)) (rising_from (id + 1) (items_as_lent identifiers lengths (drop n contents))) (items_hold (items_as_lent identifiers lengths (drop n contents))))

-- ---- their number and their bytes

pub count-lent : (identifiers lengths contents : List ℕ) → length identifiers ≡ length lengths → length (items_as_lent identifiers lengths contents) ≡ length identifiers
unfolding items_as_lent
count-lent [] lengths contents e = refl
count-lent (id ∷ identifiers) [] contents e = absurd (omega arith)
count-lent (id ∷ identifiers) (n ∷ lengths) contents e = ap suc (count-lent identifiers lengths (drop n contents) (omega arith))

pub length-lent : (identifiers lengths contents : List ℕ) → length identifiers ≡ length lengths → sum lengths ≡ length contents
    → length (items_bytes (items_as_lent identifiers lengths contents)) ≡ 4 * length identifiers + length contents
unfolding items_as_lent items_bytes
length-lent [] [] contents e s = omega arith
length-lent [] (n ∷ lengths) contents e s = absurd (omega arith)
length-lent (id ∷ identifiers) [] contents e s = absurd (omega arith)
length-lent (id ∷ identifiers) (n ∷ lengths) contents e s =
    let long : length (take n contents) ≡ n = length-take-le n contents (omega arith) in
    let rest = length-lent identifiers lengths (drop n contents) (omega arith) (rw length-drop (omega arith)) in
    let short : length (drop n contents) ≡ length contents - n = length-drop n contents in
    rw (length-append, length-item, long, rest) (omega arith)

pub fit_length : (identifiers lengths contents : List ℕ) → lent_fit 0 identifiers lengths (length contents) ≡ true
    → length (items_bytes (items_as_lent identifiers lengths contents)) ≡ 4 * length identifiers + length contents
fit_length identifiers lengths contents t = let f = fit-both 0 identifiers lengths (length contents) t in length-lent identifiers lengths contents f.counts f.sums

pub fit_count : (identifiers lengths contents : List ℕ) → lent_fit 0 identifiers lengths (length contents) ≡ true → length (items_as_lent identifiers lengths contents) ≡ length identifiers
fit_count identifiers lengths contents t = count-lent identifiers lengths contents (fit-both 0 identifiers lengths (length contents) t).counts
