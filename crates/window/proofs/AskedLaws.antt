-- What is asked of a token's window, by the sweep for its numbers.
use Rattle.std.specs.Prelude.{ℕ, ◌+◌, ◌≤◌, ◌≡◌, refl, Bool, not, ◌&&◌}
use Rattle.std.proofs.Common.{add-zero, ◌∙◌}
use Rattle.std.proofs.Math.Path.{sym, ap, ap₂}
use Rattle.std.proofs.Math.Bool.{true, false}
use mathlib.Core.List.{List, []}
use borrow.Author.Tests.{eqb-true, eqb-false, not-true, not-false}
use Rattle.std.proofs.Math.Dec.{eqb, leb}
use Rattle.words.specs.BoolLaws.{and_left, and_right, by-test, and_false}
use Rattle.otp.specs.declared.typed.Password.{Password}
use Rattle.otp.specs.Typed.{digits_of}
use Rattle.window.specs.declared.Size.{Size}
use Rattle.window.specs.declared.Step.{Step}
use Rattle.window.specs.declared.Track.{Track}
use Rattle.window.specs.declared.Swept.{Swept}
use Rattle.window.specs.declared.Outcome.{Outcome}
use Rattle.window.specs.declared.Outcome.TheVariants.{Accepted, Several, Again, Used, Wrong}
use Rattle.window.specs.declared.goal.Goal.{Goal}
use Rattle.window.specs.declared.asked.Asked.{Asked}
use Rattle.window.specs.Window.{candidate, beyond}
use Rattle.window.specs.Check.{only_one, single_hit, pair_hit, settled}
use Rattle.window.specs.Goal.{seeks_pair, single_goal, pair_goal, cut_at}
use Rattle.window.specs.GoalLaws.{single-hits, pair-hits}
use Rattle.window.specs.PasswordAt.{PasswordRule, password_at, has_by}
use Rattle.window.specs.PasswordAtLaws.{other-count}
use Rattle.window.proofs.ManyLaws.{many-none, many-agree}
use Rattle.window.proofs.Meaning.{single_accepts_candidate, single_means, pair_accepts_candidate, pair_means}
use Rattle.window.specs.TokenCheck.{fresh_matches, single_check, pair_check}
use Rattle.window.specs.Asked.{one_asked, two_asked, outcome_of, window_size}
use Rattle.window.specs.Sweep.{is_pair, counts_right, computed_of, acceptances, fresh_of, goal_hit, goal_found, goal_fresh, goal_outcome, swept_by}
use Rattle.window.proofs.CheckLaws.{checked-agree, settled-none}

-- what is accepted is a candidate
pub asked_accepts_candidate : (passwords : PasswordRule) (k : Track) (clock : ℕ) (key challenge : List ℕ) (asked : Asked) {a : Step}
    → outcome_of passwords k clock key challenge asked ≡ Accepted a → candidate k clock (window_size asked) a.0 ≡ true
asked_accepts_candidate passwords k clock key challenge (Asked.One size p) e = single_accepts_candidate k clock size _ e
asked_accepts_candidate passwords k clock key challenge (Asked.Challenged size p) e = single_accepts_candidate k clock size _ e
asked_accepts_candidate passwords k clock key challenge (Asked.Two size p q) e = pair_accepts_candidate k clock size _ _ e

module _ (k : Track) (clock : ℕ) (key : List ℕ) (size : Size) where
  -- ---- a count of digits not the token's is wrong

  module _ (challenge : List ℕ) (p : Password) (t : eqb p.digits k.scheme.digits ≡ false) where
    one_missed : (s : ℕ) → single_hit (candidate k clock size) (has_by password_at k.scheme key challenge (digits_of p)) s ≡ false
    one_missed s = rw (other-count k.scheme key challenge p s (eqb-false p.digits k.scheme.digits t)) (and_false (candidate k clock size s))

    one-miscounted : Wrong ≡ one_asked password_at k clock key size challenge p
    one-miscounted = sym ((single_means k clock size (has_by password_at k.scheme key challenge (digits_of p))).wrong.1 one_missed)

    none-fresh : 0 ≡ fresh_matches k clock size (has_by password_at k.scheme key challenge (digits_of p))
    unfolding fresh_matches
    none-fresh = sym (many-none _ (beyond k clock) (λ s l. rw (one_missed s) (and_false (leb k.next.0 s))))

  two_miscounted : (p q : Password) → eqb p.digits k.scheme.digits && eqb q.digits k.scheme.digits ≡ false → Wrong ≡ two_asked password_at k clock key size p q
  two_miscounted p q t =
      sym ((pair_means k clock size (has_by password_at k.scheme key [] (digits_of p)) (has_by password_at k.scheme key [] (digits_of q))).wrong.1
      (λ s. by-test (eqb p.digits k.scheme.digits)
      (λ u. rw (other-count k.scheme key [] q (s + 1) (eqb-false q.digits k.scheme.digits (rw u at t)), and_false, and_false))
      (λ u. rw (other-count k.scheme key [] p s (eqb-false p.digits k.scheme.digits u)) (and_false (candidate k clock size s && candidate k clock size (s + 1))))))

  -- ---- the sweep finds what is asked

  and_twice : (a b : Bool) → (a && a) && b ≡ a && b
  and_twice true b = refl
  and_twice false b = refl

  module _ (challenge : List ℕ) (p : Password) (t : eqb p.digits k.scheme.digits ≡ true) where
    abbrev has : ℕ → Bool
    has = has_by password_at k.scheme key challenge (digits_of p)

    one-hits : (s : ℕ) → goal_hit (candidate k clock size) (single_goal p) (cut_at k.scheme key challenge) s ≡ single_hit (candidate k clock size) has s
    unfolding single_goal
    one-hits s =
        rw (add-zero s, single-hits k.scheme key challenge p (cut_at k.scheme key challenge s) s (eqb-true p.digits k.scheme.digits t))
        (and_twice (candidate k clock size s) (has s))

    one-fresh : goal_fresh k clock size (single_goal p) (cut_at k.scheme key challenge) ≡ fresh_matches k clock size has
    unfolding fresh_matches single_goal
    one-fresh = many-agree _ _ (λ s. ap (λ (b : Bool). leb k.next.0 s && b) (one-hits s)) (beyond k clock)

    one-swept : goal_outcome k clock size (single_goal p) (cut_at k.scheme key challenge) ≡ one_asked password_at k clock key size challenge p
    unfolding single_check single_goal
    one-swept = ap₂ only_one one-fresh (settled-none _ ∙ checked-agree _ _ k.next.0 (beyond k clock) one-hits)

  module _ (p q : Password) (t : eqb p.digits k.scheme.digits && eqb q.digits k.scheme.digits ≡ true) where
    two_found : goal_found k clock size (pair_goal p q) (cut_at k.scheme key []) ≡ two_asked password_at k clock key size p q
    unfolding pair_check pair_goal
    two_found =
        let first = has_by password_at k.scheme key [] (digits_of p) in
        let second = has_by password_at k.scheme key [] (digits_of q) in
        ap (settled 1) (checked-agree (goal_hit (candidate k clock size) (pair_goal p q) (cut_at k.scheme key [])) (pair_hit (candidate k clock size) first second) k.next.0 (beyond k clock)
        (λ s. rw (pair-hits k.scheme key [] p q s (eqb-true p.digits k.scheme.digits (and_left _ _ t)) (eqb-true q.digits k.scheme.digits (and_right (eqb p.digits k.scheme.digits) _ t)))))

    two_fresh : goal_fresh k clock size (pair_goal p q) (cut_at k.scheme key []) ≡ acceptances (two_asked password_at k clock key size p q)
    unfolding pair_goal
    two_fresh = ap acceptances two_found

    two_swept : goal_outcome k clock size (pair_goal p q) (cut_at k.scheme key []) ≡ two_asked password_at k clock key size p q
    two_swept = ap₂ only_one two_fresh two_found ∙ one_at_most (two_asked password_at k clock key size p q)
      where
        one_at_most : (o : Outcome) → only_one (acceptances o) o ≡ o
        one_at_most (Accepted a) = refl
        one_at_most Several = refl
        one_at_most Again = refl
        one_at_most Used = refl
        one_at_most Wrong = refl

-- ---- the ways through `check`

abbrev pub first_password : Asked → Password
first_password (Asked.One size p) = p
first_password (Asked.Challenged size p) = p
first_password (Asked.Two size p q) = p

-- what a check gives
pub record Given (k : Track) (clock : ℕ) (key challenge : List ℕ) (asked : Asked) (r : Swept) : Type 0 where
  pub found : r.outcome ≡ outcome_of password_at k clock key challenge asked
  pub counted : r.computed ≡ computed_of password_at k clock key challenge asked
  pub matched : r.fresh ≡ fresh_of password_at k clock key challenge asked

module _ (k : Track) (clock : ℕ) (key challenge : List ℕ) (asked : Asked) {b : Bool} (eb : b ≡ counts_right k.scheme.digits asked) where
  pub check_miscounted : not b ≡ true → Given k clock key challenge asked (record { outcome = Wrong; computed = 0; fresh = 0 })
  unfolding computed_of
  check_miscounted t =
      let u : counts_right k.scheme.digits asked ≡ false = sym eb ∙ not-true b t in
      record { found = wrong asked u; counted = rw u; matched = unmatched asked u }
    where
      wrong : (asked : Asked) → counts_right k.scheme.digits asked ≡ false → Wrong ≡ outcome_of password_at k clock key challenge asked
      wrong (Asked.One size p) u = one-miscounted k clock key size [] p u
      wrong (Asked.Challenged size p) u = one-miscounted k clock key size challenge p u
      wrong (Asked.Two size p q) u = two_miscounted k clock key size p q u

      unmatched : (asked : Asked) → counts_right k.scheme.digits asked ≡ false → 0 ≡ fresh_of password_at k clock key challenge asked
      unmatched (Asked.One size p) u = none-fresh k clock key size [] p u
      unmatched (Asked.Challenged size p) u = none-fresh k clock key size challenge p u
      unmatched (Asked.Two size p q) u = ap acceptances (two_miscounted k clock key size p q u)

  module _ (t : not b ≡ false) where
    right : counts_right k.scheme.digits asked ≡ true
    right = sym eb ∙ not-false b t

    -- the first password has at most ten digits, as the token has
    pub counted : k.scheme.digits ≤ 10 → (first_password asked).digits ≤ 10
    counted l = by_kind asked right
      where
        same : (p : Password) → eqb p.digits k.scheme.digits ≡ true → p.digits ≤ 10
        same p u = rw (eqb-true p.digits k.scheme.digits u) l

        by_kind : (a : Asked) → counts_right k.scheme.digits a ≡ true → (first_password a).digits ≤ 10
        by_kind (Asked.One size p) u = same p u
        by_kind (Asked.Challenged size p) u = same p u
        by_kind (Asked.Two size p q) u = same p (and_left _ _ u)

    given : (cut_of : ℕ → ℕ) (g : Goal) {r : Swept} → seeks_pair g ≡ is_pair asked → goal_outcome k clock (window_size asked) g cut_of ≡ outcome_of password_at k clock key challenge asked
        → goal_fresh k clock (window_size asked) g cut_of ≡ fresh_of password_at k clock key challenge asked → r ≡ swept_by k clock (window_size asked) g cut_of → Given k clock key challenge asked r
    unfolding computed_of swept_by
    given cut_of g ep e f er =
        record {
          found = ap (λ (x : Swept). x.outcome) er ∙ e;
          counted = ap (λ (x : Swept). x.computed) er ∙ rw (right, ← ep, ← e);
          matched = ap (λ (x : Swept). x.fresh) er ∙ f;
        }

    module _ {size : Size} {p : Password} {g : Goal} {r : Swept} where
      pub check_one : asked ≡ Asked.One size p → g ≡ single_goal p → r ≡ swept_by k clock size g (cut_at k.scheme key []) → Given k clock key challenge asked r
      unfolding single_goal
      check_one e eg er =
          let u : eqb p.digits k.scheme.digits ≡ true = rw e at right in
          given (cut_at k.scheme key []) g (rw (eg, e)) (rw (eg, e) (one-swept k clock key size [] p u)) (rw (eg, e) (one-fresh k clock key size [] p u)) (rw e er)

      pub check_challenged : asked ≡ Asked.Challenged size p → g ≡ single_goal p → r ≡ swept_by k clock size g (cut_at k.scheme key challenge) → Given k clock key challenge asked r
      unfolding single_goal
      check_challenged e eg er =
          let u : eqb p.digits k.scheme.digits ≡ true = rw e at right in
          given (cut_at k.scheme key challenge) g (rw (eg, e)) (rw (eg, e) (one-swept k clock key size challenge p u)) (rw (eg, e) (one-fresh k clock key size challenge p u)) (rw e er)

      pub check_two : {q : Password} → asked ≡ Asked.Two size p q → g ≡ pair_goal p q → r ≡ swept_by k clock size g (cut_at k.scheme key []) → Given k clock key challenge asked r
      unfolding pair_goal
      check_two {q} e eg er =
          let u : eqb p.digits k.scheme.digits && eqb q.digits k.scheme.digits ≡ true = rw e at right in
          given (cut_at k.scheme key []) g (rw (eg, e)) (rw (eg, e) (two_swept k clock key size p q u)) (rw (eg, e) (two_fresh k clock key size p q u)) (rw e er)
