-- Where a sweep stands on its way: i places were looked at, and the cuts of `made` candidates were made.
use Rattle.std.specs.Prelude.{ℕ, ◌+◌, ◌-◌, ◌^◌, ◌≤◌, ◌<◌, min, max, ◌≡◌, refl, Bool, true, false, cond, ◌&&◌, ◌||◌, leb, ltb}
use Rattle.std.proofs.Common.{◌∙◌, arith, leb-true, leb-false, ltb-false}
use Rattle.std.proofs.lemmas.Bool.{lt-leb}
use Rattle.words.specs.BoolLaws.{or_left, or_right, by-test, either, clash}
use Rattle.window.specs.declared.goal.Goal.{Goal}
use Rattle.window.specs.declared.met.Met.{Met}
use Rattle.window.specs.Goal.{seeks_pair, ahead_by}
use Rattle.window.specs.Sweep.{sure_cuts, met_by}

-- the steps from first up to, not including, end
abbrev pub within : ℕ → ℕ → ℕ → Bool
within first end s = leb first s && ltb s end

-- of a pair no cuts are made but those that every sweep makes and those of the next two steps, and of the next one only where this place hits
pub record Paired (hit : ℕ → Bool) (first end next ahead : ℕ) (m : Met) (made i : ℕ) : Type 0 where
  pub reached : made ≤ max (i + ahead + 2) (min (end - first) (next - first + 2))
  pub certain : hit (first + i) ≡ true → made ≤ max (i + ahead + 1) (min (end - first) (next - first + 2))
  -- a fresh hit is the last place that was looked at
  pub once : m.fresh ≤ 1
  pub ends : 0 < m.fresh → made ≡ m.at + ahead + 1

pub record Stand (pair : Bool) (hit : ℕ → Bool) (first end next ahead : ℕ) (m : Met) (made i : ℕ) : Type 0 where
  pub stands : ahead ≡ cond pair 1 0
  pub few : end - first ≤ 51
  pub small : first ≤ 2 ^ 41
  pub looked : i ≤ end - first
  pub most : made ≤ end - first
  pub least : min (end - first) (i + ahead) ≤ made
  pub counts : m.fresh ≤ i
  pub near : m.at ≤ i
  -- for one password every cut was made at once
  pub all : pair ≡ false → made ≡ end - first
  pub paired : pair ≡ true → Paired hit first end next ahead m made i

pub stand-begun : (goal : Goal) (hit : ℕ → Bool) (first end next : ℕ) {ahead sure : ℕ} → ahead ≡ ahead_by goal → end - first ≤ 51 → first ≤ 2 ^ 41
    → sure ≡ sure_cuts goal (end - first) (next - first) → Stand (seeks_pair goal) hit first end next ahead (record { used = false; again = false; fresh = 0; at = 0 }) sure 0
stand-begun goal hit first end next {ahead} {sure} a f s e =
    record {
      stands = a;
      few = f;
      small = s;
      looked = omega arith;
      most = by-test (seeks_pair goal) (λ p. omega (arith, rw p at e)) (λ p. omega (arith, rw p at e));
      least = by-test (seeks_pair goal) (λ p. omega (arith, rw p at e, rw p at a)) (λ p. omega (arith, rw p at e));
      counts = omega arith;
      near = omega arith;
      all = λ p. rw p at e;
      paired = λ p.
          let sure = rw p at e in
          record { reached = omega arith; certain = λ t. omega arith; once = omega arith; ends = λ z. absurd (omega arith) };
    }

-- where there are candidates, some cuts are made at once
pub sure_some : (goal : Goal) (used : ℕ) {all sure : ℕ} → sure ≡ sure_cuts goal all used → 0 < all → 0 < sure
sure_some goal used e l = rw e (either (λ (n : ℕ). 0 < n) (seeks_pair goal) (omega arith) l)

module _ {pair : Bool} {hit : ℕ → Bool} {first end next ahead : ℕ} {m : Met} {made i : ℕ} (st : Stand pair hit first end next ahead m made i) where
  -- ---- the sweep has not ended

  -- before the range's last place, no pair having hit
  pub goes-on : i < end - first - ahead → pair && ltb 0 m.fresh ≡ false → leb end (first + i + ahead) || (pair && ltb 0 m.fresh) ≡ false
  goes-on l u = rw (lt-leb end (first + i + ahead) (omega arith)) u

  module _ (still : leb end (first + i + ahead) || (pair && ltb 0 m.fresh) ≡ false) where
    pub still_inside : first + i + ahead < end
    still_inside = leb-false end (first + i + ahead) (or_left _ _ still)

    unmet : pair ≡ true → m.fresh ≤ 0
    unmet p = ltb-false 0 m.fresh (rw p at (or_right (leb end (first + i + ahead)) _ still))

    pub some-candidate : 0 < end - first
    some-candidate = omega (arith, still_inside)

    -- cuts are made

    module _ (short : made ≤ i + ahead) where
      pub for_pair : pair ≡ true
      for_pair = by-test pair (λ p. p) (λ p. absurd (omega (arith, still_inside, st.all p)))

      pub one-ahead : ahead ≡ 1
      one-ahead = st.stands ∙ rw for_pair

      pub some_left : first + made < end
      some_left = omega (arith, still_inside)

      -- the place that was reached has its cut
      pub here-made : i < made
      here-made = omega (arith, still_inside, one-ahead, st.least)

      module _ {more : ℕ} (some : 1 ≤ more) (two : more ≤ 2) (left : more ≤ end - (first + made)) (certain : hit (first + i) ≡ true → more ≡ 1) where
        pub stand-made : Stand pair hit first end next ahead m (made + more) i
        stand-made =
            record {
              stands = st.stands;
              few = st.few;
              small = st.small;
              looked = st.looked;
              most = omega (arith, some_left);
              least = omega (arith, st.least);
              counts = st.counts;
              near = st.near;
              all = λ p. clash for_pair p;
              paired = λ p.
                  record {
                    reached = omega arith;
                    certain = λ t. omega (arith, certain t);
                    once = (st.paired p).once;
                    ends = λ z. absurd (omega (arith, unmet p));
                  };
            }

    -- a place is looked at

    module _ (h last : Bool) (eh : hit (first + i) ≡ h) (l : i + ahead < made) where
      abbrev met : Bool → Bool → Met
      met h fresh = met_by m h fresh last i

      counts-met : (h fresh : Bool) → (met h fresh).fresh ≤ m.fresh + 1
      counts-met false fresh = omega arith
      counts-met true false = omega arith
      counts-met true true = omega arith

      pub near-met : (h fresh : Bool) → (met h fresh).at ≤ i + 1
      near-met false fresh = omega (arith, st.near)
      near-met true false = omega (arith, st.near)
      near-met true true = omega arith

      ends-met : pair ≡ true → (h fresh : Bool) → hit (first + i) ≡ h → leb next (first + i) ≡ fresh → 0 < (met h fresh).fresh → made ≡ (met h fresh).at + ahead + 1
      ends-met p false fresh t u z = absurd (omega (arith, unmet p))
      ends-met p true false t u z = absurd (omega (arith, unmet p))
      ends-met p true true t u z =
          let one : ahead ≡ 1 = st.stands ∙ rw p in
          omega (arith, one, (st.paired p).certain t, leb-true next (first + i) u)

      pub stand-met : Stand pair hit first end next ahead (met h (leb next (first + i))) made (i + 1)
      stand-met =
          record {
            stands = st.stands;
            few = st.few;
            small = st.small;
            looked = omega (arith, still_inside);
            most = st.most;
            least = omega arith;
            counts = omega (arith, counts-met h (leb next (first + i)), st.counts);
            near = near-met h (leb next (first + i));
            all = st.all;
            paired = λ p.
                record {
                  reached = omega (arith, (st.paired p).reached);
                  certain = λ t. omega (arith, (st.paired p).reached);
                  once = omega (arith, counts-met h (leb next (first + i)), unmet p);
                  ends = ends-met p h (leb next (first + i)) eh refl;
                };
          }
