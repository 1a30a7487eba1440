-- The sweep up the candidates finds what the check's definition says, and computes exactly the candidates that it should.
use Rattle.std.specs.Prelude.{ℕ, zero, suc, ◌+◌, ◌-◌, ◌^◌, ◌≤◌, ◌<◌, min, ◌≡◌, refl, Bool, true, false, cond, ◌&&◌, ◌||◌, List, ◌++◌, eqb, leb, ltb, length, get_or, take, drop}
use Rattle.std.proofs.Common.{sym, ap, ap₂, ◌∙◌, append_assoc, add-zero, arith, leb-true, leb-false, ltb-true, ltb-false, le-leb, lt-ltb, le-ltb, take_at, get_or-take, length-take-le, length-drop}
use Rattle.std.proofs.lemmas.Bool.{lt-leb}
use Rattle.words.specs.BoolLaws.{by-test, either-by, and_right, and_false, or_true, clash}
use Rattle.otp.specs.declared.lists.Maker.{Maker}
use Rattle.otp.specs.StepCuts.{cuts_from}
use Rattle.otp.specs.StepCutsLaws.{length-cuts_from, cuts_from-at, cuts_from-append}
use Rattle.otp.specs.CutLists.{step_cut}
use Rattle.window.specs.declared.Size.{Size}
use Rattle.window.specs.declared.Track.{Track}
use Rattle.window.specs.declared.Outcome.{Outcome}
use Rattle.window.specs.declared.Outcome.TheVariants.{Accepted, Several, Again, Used, Wrong}
use Rattle.window.specs.declared.goal.Goal.{Goal}
use Rattle.window.specs.declared.met.Met.{Met}
use Rattle.window.specs.declared.Swept.{Swept}
use Rattle.window.specs.Window.{candidate, beyond}
use Rattle.window.specs.Range.{first_step, end_step}
use Rattle.window.specs.WindowLaws.{candidates_are-range, end_below}
use Rattle.window.specs.Check.{how_many, fresh_hit, checked, settled}
use Rattle.window.proofs.CheckLaws.{misses_leave, same-past, checked_miss, checked-none, checked-used, checked-fresh, accepted-stays, checked-agree}
use Rattle.window.specs.Goal.{seeks_pair, ahead_by, hits, more_sure, maker_of, cut_at}
use Rattle.window.specs.GoalLaws.{more_left, more_hit}
use Rattle.window.proofs.ManyLaws.{many-next, many_miss, many-none, many-agree}
use Rattle.window.proofs.StandLaws.{within, Stand, still_inside, some_left, here-made, one-ahead, stand-made, stand-met}
use Rattle.window.specs.Sweep.{swept_to, computed_to, acceptances, goal_hit, goal_found, goal_fresh, goal_outcome, swept_by, met_by, unaccepted, met_once, met_outcome}

-- ---- what was met, a place higher: of several fresh hits nothing is said

module _ (hit : ℕ → Bool) (next first i : ℕ) (m : Met) (found : m.fresh ≤ 1 → checked hit next (first + i) ≡ met_once first 0 m) where
  met-used : hit (first + i) ≡ true → first + i < next → m.fresh ≤ 1
      → checked hit next (first + i + 1) ≡ met_once first 0 (record { used = true; again = m.again || eqb (first + i + 1) next; fresh = m.fresh; at = m.at })
  met-used t l few =
      by-test (ltb 0 m.fresh)
      (λ f. rw f (accepted-stays hit next (first + m.at + 0) (first + i) 1 (rw f at (found few))))
      (λ f. rw f (checked-used hit next (first + i) m.again m.used (rw f at (found few)) t l))

  met-fresh : hit (first + i) ≡ true → next ≤ first + i → m.fresh + 1 ≤ 1
      → checked hit next (first + i + 1) ≡ met_once first 0 (record { used = m.used; again = m.again; fresh = m.fresh + 1; at = i })
  met-fresh t l few =
      let p = lt-ltb 0 (m.fresh + 1) (omega arith) in
      rw (p, add-zero (first + i)) (checked-fresh hit next (first + i) m.again m.used (rw (le-ltb 0 m.fresh (omega arith)) at (found (omega arith))) t l)

  abbrev met : Bool → Bool → Met
  met h fresh = met_by m h fresh (eqb (first + i + 1) next) i

  met_next : (h fresh : Bool) → hit (first + i) ≡ h → leb next (first + i) ≡ fresh → (met h fresh).fresh ≤ 1 → checked hit next (first + (i + 1)) ≡ met_once first 0 (met h fresh)
  met_next h fresh eh ef few = let e : first + (i + 1) ≡ first + i + 1 = omega arith in rw e (by_hit h fresh eh ef few)
    where
      by_hit : (h fresh : Bool) → hit (first + i) ≡ h → leb next (first + i) ≡ fresh → (met h fresh).fresh ≤ 1 → checked hit next (first + i + 1) ≡ met_once first 0 (met h fresh)
      by_hit false fresh eh ef few = checked_miss hit next (first + i) eh ∙ found few
      by_hit true false eh ef few = met-used eh (leb-false next (first + i) ef) few
      by_hit true true eh ef few = met-fresh eh (leb-true next (first + i) ef) few

-- ---- the candidates

many_in_range : (test : ℕ → Bool) (first end : ℕ) → ((s : ℕ) → test s ≡ leb first s && ltb s end) → (n : ℕ) → how_many test n ≡ min n end - first
unfolding how_many
many_in_range test first end h zero = omega arith
many_in_range test first end h (suc n) =
    rw (many_in_range test first end h n, h n)
    (by-test (leb first n)
    (λ t. let a = leb-true first n t in by-test (ltb n end)
    (λ u. let b = ltb-true n end u in rw (t, u) (omega arith))
    (λ u. let b = ltb-false n end u in rw (t, u) (omega arith)))
    (λ t. let a = leb-false first n t in rw t (omega arith)))

-- how many candidates lie below a step
pub candidates_below : (k : Track) (clock : ℕ) (size : Size) (n : ℕ) → how_many (candidate k clock size) n ≡ min n (end_step k clock size) - first_step k clock size
candidates_below k clock size = many_in_range (candidate k clock size) (first_step k clock size) (end_step k clock size) (candidates_are-range k clock size)

-- a single check goes past all of them
pub single-swept : (end : ℕ) (o : Outcome) → swept_to false end o ≡ end
single-swept end (Accepted a) = refl
single-swept end Several = refl
single-swept end Again = refl
single-swept end Used = refl
single-swept end Wrong = refl

-- ---- the sweep has ended: but for a pair that hit, every place was looked at

all-looked : (pair : Bool) (first end ahead i : ℕ) (m : Met) → (pair ≡ true → m.fresh ≤ 0) → leb end (first + i + ahead) || (pair && ltb 0 m.fresh) ≡ true → end ≤ first + i + ahead
all-looked pair first end ahead i m u t = leb-true end (first + i + ahead) (by-test (leb end (first + i + ahead)) (λ e. e) (λ e. clash (rw e at t) none))
  where
    none : pair && ltb 0 m.fresh ≡ false
    none = by-test pair (λ p. rw (p, le-ltb 0 m.fresh (u p))) (λ p. rw p)

-- ---- the hits of a range

module _ (first end next : ℕ) (goal : Goal) (cut_of : ℕ → ℕ) where
  abbrev pub range_hit : ℕ → Bool
  range_hit = goal_hit (within first end) goal cut_of

  abbrev fresh : ℕ → Bool
  fresh = fresh_hit range_hit next

  -- what was met is what the check says of the steps below
  pub record Told (m : Met) (i : ℕ) : Type 0 where
    pub found : m.fresh ≤ 1 → checked range_hit next (first + i) ≡ met_once first 0 m
    pub counted : how_many fresh (first + i) ≡ m.fresh

  hit_above : (s : ℕ) → end ≤ s + ahead_by goal → range_hit s ≡ false
  hit_above s l = rw (le-ltb (s + ahead_by goal) end l, and_false (leb first (s + ahead_by goal)), and_false (within first end s))

  hit_below : (s : ℕ) → s < first → range_hit s ≡ false
  hit_below s l = rw (lt-leb first s l)

  pub told-begun : Told (record { used = false; again = false; fresh = 0; at = 0 }) 0
  told-begun =
      let e : first + 0 ≡ 0 + first = omega arith in
      record {
        found = λ few. rw e (misses_leave (checked range_hit next) range_hit (checked_miss range_hit next) 0 first (λ r l m. hit_below r (omega arith)) ∙ checked-none range_hit next);
        counted = rw (add-zero first) (many-none fresh first (λ r l. rw (hit_below r l) (and_false (leb next r))));
      }

  counted_next : (m : Met) (i : ℕ) (h late last : Bool) → how_many fresh (first + i) ≡ m.fresh → range_hit (first + i) ≡ h → leb next (first + i) ≡ late
      → how_many fresh (first + (i + 1)) ≡ (met_by m h late last i).fresh
  counted_next m i h late last e eh el =
      let a : first + (i + 1) ≡ first + i + 1 = omega arith in
      rw (a, many-next fresh (first + i), eh, el, e) (by_hit h late)
    where
      by_hit : (h late : Bool) → m.fresh + cond (late && h) 1 0 ≡ (met_by m h late last i).fresh
      by_hit true true = refl
      by_hit true false = add-zero m.fresh
      by_hit false true = add-zero m.fresh
      by_hit false false = add-zero m.fresh

  -- whether place i hits
  pub place_hit : (i : ℕ) {ahead x y : ℕ} {h : Bool} → ahead ≡ ahead_by goal → first + i + ahead < end → x ≡ cut_of (first + i) → y ≡ cut_of (first + (i + ahead)) → h ≡ hits goal x y
      → range_hit (first + i) ≡ h
  place_hit i {ahead} {x} {y} {h} ea l ex ey eh =
      let a : first + (i + ahead) ≡ first + i + ahead_by goal = rw (← ea) (omega arith) in
      let e : hits goal (cut_of (first + i)) (cut_of (first + i + ahead_by goal)) ≡ h = sym (eh ∙ ap₂ (hits goal) ex (ey ∙ ap cut_of a)) in
      let l' : first + i + ahead_by goal < end = rw (← ea) l in
      rw (le-leb first (first + i) (omega arith), lt-ltb (first + i) end (omega arith), le-leb first (first + i + ahead_by goal) (omega arith), lt-ltb (first + i + ahead_by goal) end l') e

  -- with the cuts that are certain to be reached
  pub more_stand : {ahead made i x more : ℕ} {m : Met} (st : Stand (seeks_pair goal) range_hit first end next ahead m made i)
      (still : leb end (first + i + ahead) || (seeks_pair goal && ltb 0 m.fresh) ≡ false) (short : made ≤ i + ahead) → x ≡ cut_of (first + i)
      → (more ≡ more_sure goal x (end - (first + made))) × ((1 ≤ more) × (more ≤ 2)) → Stand (seeks_pair goal) range_hit first end next ahead m (made + more) i
  more_stand {made = made} {i = i} {x = x} st still short ex e =
      let left = end - (first + made) in
      stand-made st still short e.1.0 e.1.1 (more_left goal x left e.0 (omega (arith, some_left st still short)))
      (λ t. more_hit goal x left e.0 (cut_of (first + i + ahead_by goal)) (rw ex (and_right (within first end (first + i) && within first end (first + i + ahead_by goal)) _ t)))

  pub told-next : (m : Met) (i : ℕ) {h : Bool} → range_hit (first + i) ≡ h → Told m i → Told (met_by m h (leb next (first + i)) (eqb (first + i + 1) next) i) (i + 1)
  told-next m i {h} eh told =
      record { found = met_next range_hit next first i m told.found h _ eh refl; counted = counted_next m i h _ _ told.counted eh refl }

  module _ {ahead n made i : ℕ} {m : Met} (ea : ahead ≡ ahead_by goal) (below : end ≤ n) (st : Stand (seeks_pair goal) range_hit first end next ahead m made i) (told : Told m i)
      (ended : leb end (first + i + ahead) || (seeks_pair goal && ltb 0 m.fresh) ≡ true) where
    none_above : end ≤ first + i + ahead → (r : ℕ) → min (first + i) n ≤ r → range_hit r ≡ false
    none_above l r p = hit_above r (rw (← ea) (omega arith))

    whole-at : end ≤ first + i + ahead → m.fresh ≤ 1 → checked range_hit next n ≡ met_once first 0 m
    whole-at l few = same-past (checked range_hit next) range_hit (checked_miss range_hit next) (first + i) n (none_above l) ∙ told.found few

    -- the steps that were not looked at change nothing
    whole-found : m.fresh ≤ 1 → checked range_hit next n ≡ met_once first 0 m
    whole-found few =
        by-test (ltb 0 m.fresh)
        (λ u. by-test (seeks_pair goal)
        (λ p.
        let e : n ≡ first + i + (n - (first + i)) = omega (arith, st.looked, st.most, (st.paired p).ends (ltb-true 0 m.fresh u)) in
        rw u (ap (checked range_hit next) e ∙ accepted-stays range_hit next (first + m.at + 0) (first + i) (n - (first + i)) (rw u at (told.found few))))
        (λ p. whole-at (all-looked (seeks_pair goal) first end ahead i m (λ t. clash t p) ended) few))
        (λ u. whole-at (all-looked (seeks_pair goal) first end ahead i m (λ t. ltb-false 0 m.fresh u) ended) few)

    whole-counted : seeks_pair goal ≡ false → how_many fresh n ≡ m.fresh
    whole-counted p =
        let l = all-looked (seeks_pair goal) first end ahead i m (λ t. clash t p) ended in
        same-past (how_many fresh) fresh (many_miss fresh) (first + i) n (λ r q. rw (none_above l r q) (and_false (leb next r))) ∙ told.counted

    made-are : min (swept_to (seeks_pair goal) n (met_outcome first ahead m)) end - first ≡ made
    made-are = by-test (seeks_pair goal) (λ p. rw p (for_pair p)) (λ p. rw (p, single-swept n (met_outcome first ahead m)) (omega (arith, st.all p)))
      where
        past-unaccepted : (a u : Bool) → swept_to true n (unaccepted a u) ≡ n
        past-unaccepted true u = refl
        past-unaccepted false true = refl
        past-unaccepted false false = refl

        for_pair : seeks_pair goal ≡ true → min (swept_to true n (met_outcome first ahead m)) end - first ≡ made
        for_pair p =
            rw (lt-leb 2 m.fresh (omega (arith, (st.paired p).once)))
            (by-test (ltb 0 m.fresh)
            (λ u. rw u (omega (arith, st.most, (st.paired p).ends (ltb-true 0 m.fresh u))))
            (λ u.
            let l = all-looked (seeks_pair goal) first end ahead i m (λ t. ltb-false 0 m.fresh u) ended in
            rw (u, past-unaccepted m.again m.used) (omega (arith, st.most, st.least))))

settled-met : (first ahead : ℕ) (m : Met) → settled ahead (met_once first 0 m) ≡ met_once first ahead m
settled-met first ahead m = by-test (ltb 0 m.fresh) (λ u. rw (u, add-zero (first + m.at))) (λ u. rw u (plain m.again m.used))
  where
    plain : (a u : Bool) → settled ahead (unaccepted a u) ≡ unaccepted a u
    plain true u = refl
    plain false true = refl
    plain false false = refl

-- one fresh hit at most is what is accepted
once-met : (first ahead : ℕ) (m : Met) → m.fresh ≤ 1 → acceptances (met_once first ahead m) ≡ m.fresh
once-met first ahead m few =
    by-test (ltb 0 m.fresh)
    (λ u. let one : m.fresh ≡ 1 = omega (arith, ltb-true 0 m.fresh u) in rw (u, one))
    (λ u. let none : m.fresh ≡ 0 = omega (arith, ltb-false 0 m.fresh u) in rw (u, none) (none-accepted m.again m.used))
  where
    none-accepted : (a u : Bool) → acceptances (unaccepted a u) ≡ 0
    none-accepted true u = refl
    none-accepted false true = refl
    none-accepted false false = refl

-- ---- the end of the sweep

module _ (k : Track) (clock : ℕ) (size : Size) (goal : Goal) (cut_of : ℕ → ℕ) {first end ahead made i : ℕ} {m : Met} (ef : first ≡ first_step k clock size) (ee : end ≡ end_step k clock size)
    (ea : ahead ≡ ahead_by goal) (st : Stand (seeks_pair goal) (range_hit first end k.next.0 goal cut_of) first end k.next.0 ahead m made i) (told : Told first end k.next.0 goal cut_of m i)
    (ended : leb end (first + i + ahead) || (seeks_pair goal && ltb 0 m.fresh) ≡ true) where
  below : end ≤ beyond k clock
  below = rw ee (end_below k clock size)

  hits-agree : (s : ℕ) → goal_hit (candidate k clock size) goal cut_of s ≡ goal_hit (within first end) goal cut_of s
  hits-agree s = rw (candidates_are-range k clock size s, candidates_are-range k clock size (s + ahead_by goal), ef, ee)

  found-met : m.fresh ≤ 1 → goal_found k clock size goal cut_of ≡ met_once first ahead m
  found-met few =
      rw (← ea, checked-agree _ _ k.next.0 (beyond k clock) hits-agree, whole-found first end k.next.0 goal cut_of ea below st told ended few) (settled-met first ahead m)

  -- what the loop has counted is what the check reports
  fresh-met : goal_fresh k clock size goal cut_of ≡ m.fresh
  fresh-met =
      either-by (λ (x : ℕ). x ≡ m.fresh) (seeks_pair goal)
      (λ p. rw (found-met (st.paired p).once) (once-met first ahead m (st.paired p).once))
      (λ p.
      many-agree (fresh_hit (goal_hit (candidate k clock size) goal cut_of) k.next.0) (fresh_hit (goal_hit (within first end) goal cut_of) k.next.0) (λ s. rw (hits-agree s)) (beyond k clock)
      ∙ whole-counted first end k.next.0 goal cut_of ea below st told ended p)

  outcome-met : goal_outcome k clock size goal cut_of ≡ met_outcome first ahead m
  outcome-met = rw fresh-met (by-test (leb 2 m.fresh) (λ t. rw t) (λ t. rw (t, found-met (omega (arith, leb-false 2 m.fresh t)))))

  swept : {o : Outcome} → o ≡ met_outcome first ahead m → ◌≡◌ {A = Swept} (record { outcome = o; computed = made; fresh = m.fresh }) (swept_by k clock size goal cut_of)
  unfolding swept_by
  swept eo =
      let e : computed_to (seeks_pair goal) k clock size (met_outcome first ahead m) ≡ made =
      candidates_below k clock size (swept_to (seeks_pair goal) (beyond k clock) (met_outcome first ahead m)) ∙ rw (← ef, ← ee) (made-are first end k.next.0 goal cut_of ea below st told ended) in
      rw (outcome-met, fresh-met, e, eo)

-- ---- the loop's invariant

pub record Sweeping (goal : Goal) (cut_of : ℕ → ℕ) (ahead first end next : ℕ) (cuts : List ℕ) (made : ℕ) (m : Met) (i : ℕ) : Type 0 where
  pub stand : Stand (seeks_pair goal) (range_hit first end next goal cut_of) first end next ahead m made i
  pub told : Told first end next goal cut_of m i
  pub room : length cuts ≡ 51
  pub are : take made cuts ≡ cuts_from cut_of made first

-- and its end, with the cuts of the token's steps
pub swept-made : (k : Track) (clock : ℕ) (size : Size) (goal : Goal) (key challenge : List ℕ) {maker : Maker} {first end ahead made i : ℕ} {cuts : List ℕ} {m : Met} {o : Outcome}
    → first ≡ first_step k clock size → end ≡ end_step k clock size → ahead ≡ ahead_by goal → maker ≡ maker_of k.scheme
    → Sweeping goal (step_cut maker.algorithm key challenge maker.timed) ahead first end k.next.0 cuts made m i
    → leb end (first + i + ahead) || (seeks_pair goal && ltb 0 m.fresh) ≡ true → o ≡ met_outcome first ahead m
    → ◌≡◌ {A = Swept} (record { outcome = o; computed = made; fresh = m.fresh }) (swept_by k clock size goal (cut_at k.scheme key challenge))
swept-made k clock size goal key challenge {maker} {first} ef ee ea em inv ended eo =
    let by : step_cut maker.algorithm key challenge maker.timed ≡ cut_at k.scheme key challenge = rw em in
    rw (← by) (swept k clock size goal (step_cut maker.algorithm key challenge maker.timed) ef ee ea inv.stand inv.told ended eo)

-- no step of a window comes near 2^63
pub more_fits : {pair : Bool} {hit : ℕ → Bool} {first end next ahead : ℕ} {m : Met} {made i : ℕ} → Stand pair hit first end next ahead m made i
    → (n : ℕ) {more : ℕ} → more ≤ 2 → n ≡ made + more - made → first + made + n < 2 ^ 63
more_fits {made = made} st n l e = omega (arith, st.small, st.most, st.few)

-- the list of cuts, with the first ones put, and with some more
module _ (cut_of : ℕ → ℕ) (first : ℕ) where
  pub first-put : (sure : ℕ) (rest : List ℕ) {n : ℕ} {part : List ℕ} → n ≡ sure → part ≡ cuts_from cut_of n first → take sure (part ++ rest) ≡ cuts_from cut_of sure first
  first-put sure rest {n} {part} en e = rw (← en) (take_at part rest n (ap length e ∙ length-cuts_from cut_of n first) ∙ e)

  pub more_put : (made more : ℕ) (cuts rest : List ℕ) {n : ℕ} {part : List ℕ} → take made cuts ≡ cuts_from cut_of made first → n ≡ made + more - made → part ≡ cuts_from cut_of n (first + made)
      → take (made + more) (take made cuts ++ (part ++ rest)) ≡ cuts_from cut_of (made + more) first
  more_put made more cuts rest {n} {part} e en p =
      let as_many : n ≡ more = omega arith in
      let whole : take made cuts ++ part ≡ cuts_from cut_of (made + more) first = rw (e, p, as_many) (sym (cuts_from-append cut_of made more first)) in
      let long : length (take made cuts ++ part) ≡ made + more = ap length whole ∙ length-cuts_from cut_of (made + more) first in
      ap (take (made + more)) (sym (append_assoc (take made cuts) part rest)) ∙ take_at (take made cuts ++ part) rest (made + more) long ∙ whole

  pub cut-read : (made : ℕ) (cuts : List ℕ) (i : ℕ) → take made cuts ≡ cuts_from cut_of made first → i < made → get_or cuts i 0 ≡ cut_of (first + i)
  cut-read made cuts i e l = sym (get_or-take made cuts i 0 l) ∙ ap (λ (x : List ℕ). get_or x i 0) e ∙ cuts_from-at cut_of made first i l

-- ---- one turn of the loop

module _ {goal : Goal} {cut_of : ℕ → ℕ} {ahead first end next made i : ℕ} {cuts : List ℕ} {m : Met} (inv : Sweeping goal cut_of ahead first end next cuts made m i)
    (still : leb end (first + i + ahead) || (seeks_pair goal && ltb 0 m.fresh) ≡ false) where
  -- the cuts that place i needs are made
  pub record Reached (wider : List ℕ) (all : ℕ) : Type 0 where
    pub sweeping : Sweeping goal cut_of ahead first end next wider all m i
    pub enough : i + ahead < all

  pub enough-made : {wider : List ℕ} {all : ℕ} → i + ahead < made → wider ≡ cuts → all ≡ made → Reached wider all
  enough-made l ew ea = rw (ew, ea) (record { sweeping = inv; enough = l })

  pub more-made : (rest : List ℕ) {more all : ℕ} {part wider : List ℕ} → made ≤ i + ahead
      → (more ≡ more_sure goal (get_or cuts i 0) (end - (first + made))) × ((1 ≤ more) × (more ≤ 2))
      → part ≡ cuts_from cut_of (length (take (made + more - made) (drop made cuts))) (first + made)
      → wider ≡ take made cuts ++ (part ++ rest) → length wider ≡ length cuts → all ≡ made + more → Reached wider all
  more-made rest {more} short em ep ew el ea =
      let here = here-made inv.stand still short in
      let stand = more_stand first end next goal cut_of inv.stand still short (cut-read cut_of first made cuts i inv.are here) em in
      let as_many = length-take-le (made + more - made) (drop made cuts) (rw (length-drop, inv.room) (omega (arith, stand.most, stand.few))) in
      rw ea (record {
        sweeping = record { stand = stand; told = inv.told; room = el ∙ inv.room; are = rw ew (more_put cut_of first made more cuts rest inv.are as_many ep) };
        enough = omega (arith, here, one-ahead inv.stand still short, em.1.0);
      })

  -- place i is looked at
  pub looked-at : {wider : List ℕ} {all : ℕ} → Reached wider all → {h : Bool} {after : Met} → h ≡ hits goal (get_or wider i 0) (get_or wider (i + ahead) 0)
      → after ≡ met_by m h (leb next (first + i)) (eqb (first + i + 1) next) i → Sweeping goal cut_of ahead first end next wider all after (i + 1)
  looked-at {wider} {all} r {h} eh em =
      let now = r.sweeping in
      let x = cut-read cut_of first all wider i now.are (omega (arith, r.enough)) in
      let y = cut-read cut_of first all wider (i + ahead) now.are r.enough in
      let hit = place_hit first end next goal cut_of i now.stand.stands (still_inside now.stand still) x y eh in
      record {
        stand = rw em (stand-met now.stand still h _ hit r.enough);
        told = rw em (told-next first end next goal cut_of m i hit now.told);
        room = now.room;
        are = now.are;
      }

-- what was met lies no higher
pub met-below : (m after : Met) (hit fresh last : Bool) (i : ℕ) → after ≡ met_by m hit fresh last i → m.at ≤ i → after.at ≤ i
met-below m after hit fresh last i e l = rw e (by_hit hit fresh)
  where
    by_hit : (hit fresh : Bool) → (met_by m hit fresh last i).at ≤ i
    by_hit false fresh = l
    by_hit true false = l
    by_hit true true = omega arith

-- the places are at an end
pub all-placed : (first end ahead i : ℕ) (hit : Bool) → end - first - ahead ≤ i → leb end (first + i + ahead) || hit ≡ true
all-placed first end ahead i hit l = rw (le-leb end (first + i + ahead) (omega arith))

-- or a pair hit
pub pair-met : (goal : Goal) (m : Met) (looked : Bool) → seeks_pair goal ≡ true → 0 < m.fresh → looked || (seeks_pair goal && ltb 0 m.fresh) ≡ true
pair-met goal m looked p l = rw (p, lt-ltb 0 m.fresh l) (or_true looked)
