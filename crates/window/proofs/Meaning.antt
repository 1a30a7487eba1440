-- What the checks of a token mean, in words a reader knows: accepted, several, again, used and wrong, each exactly when it should be.
use Rattle.std.specs.Prelude.{ℕ, ◌+◌, ◌-◌, ◌≤◌, ◌<◌, ◌≡◌, refl, Bool, false, ◌&&◌, ◌⊎◌, leb, ltb}
use Rattle.std.proofs.Common.{sym, ap, ◌∙◌, inl, inr, ⊎_elim, add-zero, le_trans, arith}
use Rattle.std.proofs.Math.Bool.{true}
use Rattle.std.proofs.Math.Option.{Option, none, some}
use borrow.Author.Tests.{eq-eqb, eqb-true, leb-true, leb-false, lt-ltb, le-leb, ltb-true}
use Rattle.std.proofs.Math.Dec.{eqb}
use Rattle.words.specs.BoolLaws.{and_left, and_right, by-test, either-by, and_both, clash, impossible}
use Rattle.window.specs.declared.Size.{Size}
use Rattle.window.specs.declared.Step.{Step}
use Rattle.window.specs.declared.Track.{Track}
use Rattle.window.specs.declared.Outcome.{Outcome}
use Rattle.window.specs.declared.Outcome.TheVariants.{Accepted, Several, Again, Used, Wrong}
use Rattle.window.specs.Window.{time_token, step_at, distance, time_width, farthest, time_candidate, candidate, beyond}
use Rattle.window.specs.Range.{first_step, end_step}
use Rattle.window.specs.WindowLaws.{candidates_are-range, end_below}
use Rattle.window.specs.Check.{smallest, how_many, fresh_hit, used_hit, last_hit, judged, checked, only_one, single_hit, pair_hit, settled}
use Rattle.window.proofs.CheckLaws.{NoneBelow, Found, found, missing, smallest-found, order, settled-none}
use Rattle.window.proofs.ManyLaws.{many-one, one-many, many_two, two_many}
use Rattle.window.specs.TokenCheck.{fresh_matches, single_check, pair_check}

-- no number passes the test
abbrev pub Never : (ℕ → Bool) → Type 0
Never test = (r : ℕ) → test r ≡ false

-- s passes the test, and no smaller number does
pub record First (test : ℕ → Bool) (s : ℕ) : Type 0 where
  pub passes : test s ≡ true
  pub before : (r : ℕ) → r < s → test r ≡ false

first-unique : (test : ℕ → Bool) {r s : ℕ} → First test r → First test s → r ≡ s
first-unique test {r} {s} p q =
    ⊎_elim (λ (l : r < s). clash p.passes (q.before r l))
    (λ (l : s ≤ r). ⊎_elim (λ (m : s < r). clash q.passes (p.before s m)) (λ (m : r ≤ s). omega arith) (order s r))
    (order r s)

-- s passes the test, and no other number does
pub record Only (test : ℕ → Bool) (s : ℕ) : Type 0 where
  pub passes : test s ≡ true
  pub alone : (r : ℕ) → test r ≡ true → r ≡ s

-- two numbers pass the test
abbrev pub Two : (ℕ → Bool) → Type 0
Two test = (r : ℕ) × ((s : ℕ) × ((r < s) × ((test r ≡ true) × (test s ≡ true))))

-- what an outcome says of the hits, exactly: the hit that is chosen is accepted, or the step ahead of it; several, if that is a reason to accept none;
-- if none is fresh, again, if the step before the first unused one is a hit, and used, if it is none and another one is; wrong, if there is no hit
pub record Means (Chosen : ℕ → Type 0) (Many : Type 0) (hit : ℕ → Bool) (ahead next : ℕ) (o : Outcome) : Type 0 where
  pub accepted : ((a : Step) → o ≡ Accepted a → (s : ℕ) × ((a.0 ≡ s + ahead) × Chosen s)) × ((s : ℕ) → Chosen s → o ≡ Accepted (record { 0 = s + ahead }))
  pub several : (o ≡ Several → Many) × (Many → o ≡ Several)
  pub again : (o ≡ Again → Never (fresh_hit hit next) × ((s : ℕ) × (last_hit hit next s ≡ true)))
      × (Never (fresh_hit hit next) → (s : ℕ) → last_hit hit next s ≡ true → o ≡ Again)
  pub used : (o ≡ Used → Never (fresh_hit hit next) × (Never (last_hit hit next) × ((s : ℕ) × (used_hit hit next s ≡ true))))
      × (Never (fresh_hit hit next) → Never (last_hit hit next) → (s : ℕ) → used_hit hit next s ≡ true → o ≡ Used)
  pub wrong : (o ≡ Wrong → Never hit) × (Never hit → o ≡ Wrong)

-- of a pair the smallest fresh hit is chosen, of one password the only one
abbrev pub MeansFirst : (ℕ → Bool) → ℕ → ℕ → Outcome → Type 0
MeansFirst hit ahead next = Means (First (fresh_hit hit next)) ⊥ hit ahead next

abbrev pub MeansOnly : (ℕ → Bool) → ℕ → ℕ → Outcome → Type 0
MeansOnly hit ahead next = Means (Only (fresh_hit hit next)) (Two (fresh_hit hit next)) hit ahead next

-- ---- over any hits below a bound

-- the step of an accepting outcome
abbrev at : Outcome → ℕ
at (Accepted s) = s.0
at Several = 0
at Again = 0
at Used = 0
at Wrong = 0

module _ (hit : ℕ → Bool) (ahead next n : ℕ) (bounded : (r : ℕ) → hit r ≡ true → r < n) where
  fresh-bounded : (r : ℕ) → fresh_hit hit next r ≡ true → r < n
  fresh-bounded r t = bounded r (and_right (leb next r) _ t)

  -- fresh hits, or those of the step before the first unused one: none below the bound is none at all
  none_at_all : (test : ℕ → Bool) → NoneBelow (λ r. test r && hit r) n → Never (λ r. test r && hit r)
  none_at_all test h r = by-test (test r && hit r) (λ t. clash t (h r (bounded r (and_right (test r) _ t)))) (λ t. t)

  none_hit : NoneBelow (fresh_hit hit next) n → NoneBelow (used_hit hit next) n → Never hit
  none_hit f u r =
      by-test (hit r)
      (λ t. ⊎_elim
      (λ (l : r < next). clash (and_both (lt-ltb r next l) t) (u r (bounded r t)))
      (λ (l : next ≤ r). clash (and_both (le-leb next r l) t) (f r (bounded r t))) (order r next))
      (λ t. t)

  -- a choice among fresh hits, or a reason to make none
  record Choice (Chosen : ℕ → Type 0) (Many : Type 0) : Type 0 where
    hits : (s : ℕ) → Chosen s → fresh_hit hit next s ≡ true
    unique : (r s : ℕ) → Chosen r → Chosen s → r ≡ s
    many : Many → (s : ℕ) × (fresh_hit hit next s ≡ true)
    apart : (s : ℕ) → Chosen s → Many → ⊥

  first-choice : Choice (First (fresh_hit hit next)) ⊥
  first-choice = record { hits = λ s f. f.passes; unique = λ r s f g. first-unique (fresh_hit hit next) f g; many = λ m. absurd m; apart = λ s f m. m }

  only_choice : Choice (Only (fresh_hit hit next)) (Two (fresh_hit hit next))
  only_choice =
      record {
        hits = λ s f. f.passes;
        unique = λ r s f g. g.alone r f.passes;
        many = λ m. (m.0, m.1.1.1.0);
        apart = λ s f m. omega (arith, f.alone m.0 m.1.1.1.0, f.alone m.1.0 m.1.1.1.1, m.1.1.0);
      }

  module _ {Chosen : ℕ → Type 0} {Many : Type 0} (choice : Choice Chosen Many) where
    accepted_means : (s : ℕ) → Chosen s → Means Chosen Many hit ahead next (Accepted (record { 0 = s + ahead }))
    accepted_means s f =
        let t = choice.hits s f in
        record {
          accepted = (λ a e. (s, (sym (ap at e), f)), λ r g. let e = choice.unique s r f g in rw e);
          several = (λ e. impossible (cc), λ m. absurd (choice.apart s f m));
          again = (λ e. impossible (cc), λ h r u. clash t (h s));
          used = (λ e. impossible (cc), λ h i r u. clash t (h s));
          wrong = (λ e. impossible (cc), λ h. clash (and_right (leb next s) _ t) (h s));
        }

    several_means : Many → Means Chosen Many hit ahead next Several
    several_means m =
        let s = choice.many m in
        record {
          accepted = (λ a e. impossible (cc), λ r g. absurd (choice.apart r g m));
          several = (λ e. m, λ i. refl);
          again = (λ e. impossible (cc), λ h r u. clash s.1 (h s.0));
          used = (λ e. impossible (cc), λ h i r u. clash s.1 (h s.0));
          wrong = (λ e. impossible (cc), λ h. clash (and_right (leb next s.0) _ s.1) (h s.0));
        }

    again_means : (s : ℕ) → Never (fresh_hit hit next) → last_hit hit next s ≡ true → Means Chosen Many hit ahead next Again
    again_means s h u =
        record {
          accepted = (λ a e. impossible (cc), λ r g. clash (choice.hits r g) (h r));
          several = (λ e. impossible (cc), λ m. let r = choice.many m in clash r.1 (h r.0));
          again = (λ e. (h, (s, u)), λ i r v. refl);
          used = (λ e. impossible (cc), λ i j r v. clash u (j s));
          wrong = (λ e. impossible (cc), λ i. clash (and_right (eqb (s + 1) next) _ u) (i s));
        }

    used_means : (s : ℕ) → Never (fresh_hit hit next) → Never (last_hit hit next) → used_hit hit next s ≡ true → Means Chosen Many hit ahead next Used
    used_means s h l u =
        record {
          accepted = (λ a e. impossible (cc), λ r g. clash (choice.hits r g) (h r));
          several = (λ e. impossible (cc), λ m. let r = choice.many m in clash r.1 (h r.0));
          again = (λ e. impossible (cc), λ i r v. clash v (l r));
          used = (λ e. (h, (l, (s, u))), λ i j r v. refl);
          wrong = (λ e. impossible (cc), λ i. clash (and_right (ltb s next) _ u) (i s));
        }

    wrong_means : Never hit → Means Chosen Many hit ahead next Wrong
    wrong_means h =
        record {
          accepted = (λ a e. impossible (cc), λ r g. clash (and_right (leb next r) _ (choice.hits r g)) (h r));
          several = (λ e. impossible (cc), λ m. let r = choice.many m in clash (and_right (leb next r.0) _ r.1) (h r.0));
          again = (λ e. impossible (cc), λ i r u. clash (and_right (eqb (r + 1) next) _ u) (h r));
          used = (λ e. impossible (cc), λ i j r u. clash (and_right (ltb r next) _ u) (h r));
          wrong = (λ e. h, λ i. refl);
        }

    -- what the check finds, where the smallest fresh hit is the chosen one
    found_means : ((s : ℕ) → First (fresh_hit hit next) s → Chosen s) → Means Chosen Many hit ahead next (settled ahead (checked hit next n))
    unfolding checked
    found_means choose =
        by-found (smallest (fresh_hit hit next) n) (smallest-found (fresh_hit hit next) n)
        (smallest (last_hit hit next) n) (smallest-found (last_hit hit next) n)
        (smallest (used_hit hit next) n) (smallest-found (used_hit hit next) n)
      where
        by-found : (o : Option ℕ) → Found (fresh_hit hit next) n o → (p : Option ℕ) → Found (last_hit hit next) n p → (u : Option ℕ) → Found (used_hit hit next) n u
            → Means Chosen Many hit ahead next (settled ahead (judged o p u))
        by-found (some s) (found l) p g u f = accepted_means s (choose s (record { passes = l.passes; before = l.before }))
        by-found none (missing h) (some s) (found l) u f = again_means s (none_at_all (leb next) h) l.passes
        by-found none (missing h) none (missing g) (some s) (found l) = used_means s (none_at_all (leb next) h) (none_at_all (λ r. eqb (r + 1) next) g) l.passes
        by-found none (missing h) none (missing g) none (missing i) = wrong_means (none_hit h i)

  pub check_means : MeansFirst hit ahead next (settled ahead (checked hit next n))
  check_means = found_means first-choice (λ s f. f)

  -- ---- one password: how many fresh steps hit

  abbrev fresh : ℕ
  fresh = how_many (fresh_hit hit next) n

  fresh_two : 2 ≤ fresh → Two (fresh_hit hit next)
  fresh_two l = let r = many_two (fresh_hit hit next) n l in (r.0, (r.1.0, (r.1.1.0, r.1.1.1.1)))

  fresh_only : fresh < 2 → (s : ℕ) → fresh_hit hit next s ≡ true → Only (fresh_hit hit next) s
  fresh_only few s t =
      record {
        passes = t;
        alone = λ r u.
            ⊎_elim (λ (l : r < s). absurd (omega (arith, two_many (fresh_hit hit next) n l (fresh-bounded s t) u t)))
            (λ (l : s ≤ r). ⊎_elim (λ (m : s < r). absurd (omega (arith, two_many (fresh_hit hit next) n m (fresh-bounded r u) t u))) (λ (m : r ≤ s). omega arith) (order s r))
            (order r s);
      }

  pub only_means : MeansOnly hit ahead next (only_one fresh (settled ahead (checked hit next n)))
  only_means =
      either-by (MeansOnly hit ahead next) _
      (λ t. several_means only_choice (fresh_two (leb-true 2 fresh t)))
      (λ t. found_means only_choice (λ s f. fresh_only (leb-false 2 fresh t) s f.passes))

  -- accepted exactly with one, several exactly with more
  module _ (o : Outcome) (means : MeansOnly hit ahead next o) where
    pub one-accepted : ((a : Step) → o ≡ Accepted a → fresh ≡ 1) × (fresh ≡ 1 → (a : Step) × (o ≡ Accepted a))
    one-accepted = (
      λ a e.
          let s = means.accepted.0 a e in
          let t = s.1.1.passes in
          let l = one-many (fresh_hit hit next) n (fresh-bounded s.0 t) t in
          by-test (leb 2 fresh)
          (λ u. absurd (only_choice.apart s.0 s.1.1 (fresh_two (leb-true 2 fresh u))))
          (λ u. omega (arith, leb-false 2 fresh u)),
      λ e. let r = many-one (fresh_hit hit next) n (omega arith) in (_, means.accepted.1 r.0 (fresh_only (omega arith) r.0 r.1.1)),
    )

    pub more_several : (o ≡ Several → 2 ≤ fresh) × (2 ≤ fresh → o ≡ Several)
    more_several = (
      λ e. let r = means.several.0 e in two_many (fresh_hit hit next) n r.1.1.0 (fresh-bounded r.1.0 r.1.1.1.1) r.1.1.1.0 r.1.1.1.1,
      λ l. means.several.1 (fresh_two l),
    )

-- ---- used, presented again or not

module _ {Chosen : ℕ → Type 0} {Many : Type 0} {hit : ℕ → Bool} {ahead next : ℕ} {o : Outcome} (means : Means Chosen Many hit ahead next o) where
  pub found-used : ((o ≡ Again) ⊎ (o ≡ Used) → Never (fresh_hit hit next) × ((s : ℕ) × (used_hit hit next s ≡ true)))
      × (Never (fresh_hit hit next) → (s : ℕ) → used_hit hit next s ≡ true → (o ≡ Again) ⊎ (o ≡ Used))
  found-used = (
    λ e.
        ⊎_elim
        (λ (a : o ≡ Again). let m = means.again.0 a in (m.0, (m.1.0, and_both (lt-ltb m.1.0 next (omega (arith, eqb-true (m.1.0 + 1) next (and_left _ _ m.1.1)))) (and_right (eqb (m.1.0 + 1) next) _ m.1.1))))
        (λ (u : o ≡ Used). let m = means.used.0 u in (m.0, m.1.1))
        e,
    λ h s u.
        by-test (last_hit hit next (next - 1))
        (λ t. inl (means.again.1 h (next - 1) t))
        (λ f. inr (means.used.1 h (λ r. by-test (last_hit hit next r) (λ t. let e : r ≡ next - 1 = omega (arith, eqb-true (r + 1) next (and_left _ _ t)) in clash t (rw e f)) (λ g. g)) s u)),
  )

-- ---- a token's candidates

module _ (k : Track) (clock : ℕ) (size : Size) where
  pub candidate-bounded : (s : ℕ) → candidate k clock size s ≡ true → s < beyond k clock
  candidate-bounded s t =
      let r : leb (first_step k clock size) s && ltb s (end_step k clock size) ≡ true = sym (candidates_are-range k clock size s) ∙ t in
      le_trans (ltb-true s (end_step k clock size) (and_right (leb (first_step k clock size) s) _ r)) (end_below k clock size)

  -- no candidate of a time token lies more than 600 from T
  pub candidate-near : (s : ℕ) → candidate k clock size s ≡ true → k.scheme.kind ≡ time_token → distance s (step_at clock k.period) ≤ farthest
  unfolding candidate time_candidate
  candidate-near s t e =
      let c : time_candidate (step_at clock k.period) k.offset.0 (time_width size) s ≡ true = rw (eq-eqb k.scheme.kind time_token e) at t in
      leb-true (distance s (step_at clock k.period)) farthest
      (and_right (leb (distance (s + farthest) (step_at clock k.period + k.offset.0)) (time_width size)) _ c)

  module _ (matches : ℕ → Bool) where
    pub single_means : MeansOnly (single_hit (candidate k clock size) matches) 0 k.next.0 (single_check k clock size matches)
    unfolding single_check fresh_matches
    single_means =
        rw (← settled-none (checked (single_hit (candidate k clock size) matches) k.next.0 (beyond k clock)))
        (only_means (single_hit (candidate k clock size) matches) 0 k.next.0 (beyond k clock) (λ s t. candidate-bounded s (and_left _ _ t)))

    pub single_accepts_candidate : {a : Step} → single_check k clock size matches ≡ Accepted a → candidate k clock size a.0 ≡ true
    single_accepts_candidate {a} e =
        let hit = single_means.accepted.0 a e in
        let s = hit.0 in
        let fresh = and_right (leb k.next.0 s) _ hit.1.1.passes in
        rw (hit.1.0, add-zero s) (and_left _ _ fresh)

    -- `next` - 1 is a candidate that matches: of a used password that tells whether it is presented again
    abbrev last_matches : Bool
    last_matches = ltb 0 k.next.0 && (candidate k clock size (k.next.0 - 1) && matches (k.next.0 - 1))

    pub single-again : single_check k clock size matches ≡ Again → last_matches ≡ true
    single-again e =
        let hit = (single_means.again.0 e).1 in
        let last = eqb-true (hit.0 + 1) k.next.0 (and_left _ _ hit.1) in
        let same : k.next.0 - 1 ≡ hit.0 = omega (arith, last) in
        and_both (lt-ltb 0 k.next.0 (omega (arith, last))) (rw same (and_right (eqb (hit.0 + 1) k.next.0) _ hit.1))

    pub single-used : single_check k clock size matches ≡ Used → last_matches ≡ false
    single-used e =
        let none = (single_means.used.0 e).1.0 (k.next.0 - 1) in
        by-test (ltb 0 k.next.0)
        (λ t. let last : k.next.0 - 1 + 1 ≡ k.next.0 = omega (arith, ltb-true 0 k.next.0 t) in rw t (rw (eq-eqb (k.next.0 - 1 + 1) k.next.0 last) at none))
        (λ t. rw t)

  module _ (first second : ℕ → Bool) where
    both_candidates : (s : ℕ) → pair_hit (candidate k clock size) first second s ≡ true → (candidate k clock size s ≡ true) × (candidate k clock size (s + 1) ≡ true)
    both_candidates s t =
        let both = and_left _ _ t in
        (and_left _ _ both, and_right (candidate k clock size s) _ both)

    -- the accepted step of a pair is the one after the smallest fresh step at which the pair matches
    pub pair_means : MeansFirst (pair_hit (candidate k clock size) first second) 1 k.next.0 (pair_check k clock size first second)
    unfolding pair_check
    pair_means =
        check_means (pair_hit (candidate k clock size) first second) 1 k.next.0 (beyond k clock) (λ s t. candidate-bounded s (both_candidates s t).0)

    pub pair_accepts_candidate : {a : Step} → pair_check k clock size first second ≡ Accepted a → candidate k clock size a.0 ≡ true
    pair_accepts_candidate {a} e =
        let hit = pair_means.accepted.0 a e in
        let s = hit.0 in
        let fresh = and_right (leb k.next.0 s) _ hit.1.1.passes in
        rw hit.1.0 (both_candidates s fresh).1
