-- How many passwords a check computes, and how many fresh steps match (document 02, Asks 2 and 5), each exactly.
use Rattle.std.specs.Prelude.{ℕ, ◌+◌, ◌≤◌, ◌<◌, ◌≡◌, refl, Bool, false, List, [], leb}
use Rattle.std.proofs.Math.Bool.{true}
use Rattle.std.proofs.Common.{arith}
use Rattle.words.specs.BoolLaws.{and_left, and_right, by-test, impossible}
use Rattle.otp.specs.Typed.{digits_of}
use Rattle.window.specs.declared.Size.{Size}
use Rattle.window.specs.declared.Step.{Step}
use Rattle.window.specs.declared.Track.{Track}
use Rattle.window.specs.declared.Outcome.{Outcome}
use Rattle.window.specs.declared.Outcome.TheVariants.{Accepted, Several, Again, Used, Wrong}
use Rattle.window.specs.declared.asked.Asked.{Asked}
use Rattle.window.specs.Window.{candidate, beyond}
use Rattle.window.specs.WindowLaws.{end_below}
use Rattle.window.specs.Check.{how_many, fresh_hit, single_hit, pair_hit}
use Rattle.window.proofs.CheckLaws.{same-past}
use Rattle.window.proofs.ManyLaws.{many_miss}
use Rattle.window.specs.TokenCheck.{fresh_matches, single_check, pair_check}
use Rattle.window.specs.PasswordAt.{PasswordRule, has_by}
use Rattle.window.specs.Asked.{outcome_of, window_size}
use Rattle.window.specs.Sweep.{swept_to, is_pair, counts_right, computed_of, acceptances, fresh_of}
use Rattle.window.proofs.SweepLaws.{candidates_below, single-swept}
use Rattle.window.proofs.Meaning.{one-accepted, more_several, candidate-bounded, single_means, pair_means}

-- how many passwords a check computes: all candidates, but of an accepted pair those up to the accepted step; none for another count of digits

pub record CountedExactly (test : ℕ → Bool) (end : ℕ) (pair right : Bool) (o : Outcome) (computed : ℕ) : Type 0 where
  pub single : right ≡ true → pair ≡ false → (n : ℕ) → end ≤ n → computed ≡ how_many test n
  pub accepted : right ≡ true → pair ≡ true → (a : Step) → o ≡ Accepted a → computed ≡ how_many test (a.0 + 1)
  pub otherwise : right ≡ true → ((a : Step) → o ≡ Accepted a → ⊥) → (n : ℕ) → end ≤ n → computed ≡ how_many test n
  pub miscounted : right ≡ false → computed ≡ 0
  pub most : computed ≤ how_many test end

-- how many fresh steps match: all that do, of one password; accepted is one, and no more

pub record FreshCounted (hit : ℕ → Bool) (next end : ℕ) (pair : Bool) (o : Outcome) (fresh : ℕ) : Type 0 where
  pub single : pair ≡ false → (n : ℕ) → end ≤ n → fresh ≡ how_many (fresh_hit hit next) n
  pub accepted : ((a : Step) → o ≡ Accepted a → fresh ≡ 1) × (fresh ≡ 1 → (a : Step) × (o ≡ Accepted a))
  pub several : (o ≡ Several → 2 ≤ fresh) × (2 ≤ fresh → o ≡ Several)

module _ (passwords : PasswordRule) (k : Track) (clock : ℕ) (key challenge : List ℕ) where
  module _ (asked : Asked) where
    many-past : (n : ℕ) → beyond k clock ≤ n → how_many (candidate k clock (window_size asked)) (beyond k clock) ≡ how_many (candidate k clock (window_size asked)) n
    many-past n l =
        let w = end_below k clock (window_size asked) in
        rw (candidates_below k clock (window_size asked) n, candidates_below k clock (window_size asked) (beyond k clock)) (omega arith)

    many-most : (n : ℕ) → how_many (candidate k clock (window_size asked)) n ≤ how_many (candidate k clock (window_size asked)) (beyond k clock)
    many-most n =
        let w = end_below k clock (window_size asked) in
        rw (candidates_below k clock (window_size asked) n, candidates_below k clock (window_size asked) (beyond k clock)) (omega arith)

    all-swept : (pair : Bool) (o : Outcome) → ((a : Step) → o ≡ Accepted a → ⊥) → swept_to pair (beyond k clock) o ≡ beyond k clock
    all-swept pair (Accepted a) h = absurd (h a refl)
    all-swept pair Several h = refl
    all-swept pair Again h = refl
    all-swept pair Used h = refl
    all-swept pair Wrong h = refl

    pub counted_exactly : CountedExactly (candidate k clock (window_size asked)) (beyond k clock) (is_pair asked) (counts_right k.scheme.digits asked)
        (outcome_of passwords k clock key challenge asked) (computed_of passwords k clock key challenge asked)
    unfolding computed_of
    counted_exactly =
        let outcome = outcome_of passwords k clock key challenge asked in
        record {
          single = λ c p n l. rw (c, p, single-swept (beyond k clock) outcome) (many-past n l);
          accepted = λ c p a e. rw (c, p, e);
          otherwise = λ c h n l. rw (c, all-swept (is_pair asked) outcome h) (many-past n l);
          miscounted = λ c. rw c;
          most = by-test (counts_right k.scheme.digits asked)
              (λ c. rw c (many-most (swept_to (is_pair asked) (beyond k clock) outcome)))
              (λ c. rw c (omega arith));
        }

  -- a step matches what is asked
  abbrev pub asked_hit : Asked → ℕ → Bool
  asked_hit (Asked.One size p) = single_hit (candidate k clock size) (has_by passwords k.scheme key [] (digits_of p))
  asked_hit (Asked.Challenged size p) = single_hit (candidate k clock size) (has_by passwords k.scheme key challenge (digits_of p))
  asked_hit (Asked.Two size p q) =
      pair_hit (candidate k clock size) (has_by passwords k.scheme key [] (digits_of p)) (has_by passwords k.scheme key [] (digits_of q))

  one-counted : (size : Size) (matches : ℕ → Bool)
      → FreshCounted (single_hit (candidate k clock size) matches) k.next.0 (beyond k clock) false (single_check k clock size matches) (fresh_matches k clock size matches)
  unfolding fresh_matches
  one-counted size matches =
      let hit = single_hit (candidate k clock size) matches in
      let bounded : (s : ℕ) → hit s ≡ true → s < beyond k clock = λ s t. candidate-bounded k clock size s (and_left _ _ t) in
      record {
        single = λ p n l.
            same-past (how_many (fresh_hit hit k.next.0)) (fresh_hit hit k.next.0) (many_miss (fresh_hit hit k.next.0)) n (beyond k clock)
            (λ r m. by-test (fresh_hit hit k.next.0 r) (λ t. absurd (omega (arith, bounded r (and_right (leb k.next.0 r) _ t)))) (λ t. t));
        accepted = one-accepted hit 0 k.next.0 (beyond k clock) bounded _ (single_means k clock size matches);
        several = more_several hit 0 k.next.0 (beyond k clock) bounded _ (single_means k clock size matches);
      }

  two_counted : (size : Size) (first second : ℕ → Bool)
      → FreshCounted (pair_hit (candidate k clock size) first second) k.next.0 (beyond k clock) true (pair_check k clock size first second) (acceptances (pair_check k clock size first second))
  two_counted size first second = by-outcome (pair_check k clock size first second) (pair_means k clock size first second).several.0
    where
      unmatched : {o : Outcome} → (o ≡ Several → ⊥) → ((a : Step) → o ≡ Accepted a → ⊥) → FreshCounted (pair_hit (candidate k clock size) first second) k.next.0 (beyond k clock) true o 0
      unmatched h n = record { single = λ p. impossible (cc); accepted = (λ a e. absurd (n a e), λ e. absurd (omega arith)); several = (λ e. absurd (h e), λ l. absurd (omega arith)) }

      by-outcome : (o : Outcome) → (o ≡ Several → ⊥) → FreshCounted (pair_hit (candidate k clock size) first second) k.next.0 (beyond k clock) true o (acceptances o)
      by-outcome (Accepted a) h = record { single = λ p. impossible (cc); accepted = (λ b e. refl, λ e. (a, refl)); several = (λ e. impossible (cc), λ l. absurd (omega arith)) }
      by-outcome Several h = absurd (h refl)
      by-outcome Again h = unmatched h (λ a e. impossible (cc))
      by-outcome Used h = unmatched h (λ a e. impossible (cc))
      by-outcome Wrong h = unmatched h (λ a e. impossible (cc))

  pub fresh-counted : (asked : Asked) → FreshCounted (asked_hit asked) k.next.0 (beyond k clock) (is_pair asked)
      (outcome_of passwords k clock key challenge asked) (fresh_of passwords k clock key challenge asked)
  fresh-counted (Asked.One size p) = one-counted size _
  fresh-counted (Asked.Challenged size p) = one-counted size _
  fresh-counted (Asked.Two size p q) = two_counted size _ _
