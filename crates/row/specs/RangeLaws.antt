-- What the tests of a row's numbers give (document 01, Part 4).
use Rattle.std.specs.Prelude.{ℕ, zero, suc, ◌+◌, ◌*◌, ◌^◌, ◌≤◌, ◌<◌, ◌≡◌, refl, ◌⊎◌, Bool, ◌&&◌, ◌||◌, cond, List, [], ◌∷◌, leb, ltb, get_or}
use Rattle.std.proofs.Math.Logic.{inl, inr}
use Rattle.std.proofs.Math.Bool.{true}
use Rattle.std.proofs.Common.{arith, eqb-true, leb-true, eq-eqb}
use Rattle.std.proofs.Math.Dec.{eqb}
use Rattle.words.specs.BoolLaws.{by-test, and_left, and_right}
use Rattle.window.specs.declared.Track.{Track}
use Rattle.window.specs.Window.{time_token, farthest, Sound}
use Rattle.row.specs.declared.Row.{Row}
use Rattle.row.specs.Row.{key_bytes, is_time, period_ok, next_ok, offset_ok, track_ok, all_of, number_tests, numbers_ok}

-- a test of a list whose tests all pass
pub test-passes : (tests : List Bool) (i : ℕ) → all_of tests ≡ true → get_or tests i true ≡ true
test-passes [] i t = refl
test-passes (b ∷ tests) zero t = and_left _ _ t
test-passes (b ∷ tests) (suc i) t = test-passes tests i (and_right b _ t)

within : (low x high : ℕ) → leb low x && leb x high ≡ true → (low ≤ x) × (x ≤ high)
within low x high t = (leb-true low x (and_left _ _ t), leb-true x high (and_right (leb low x) _ t))

module _ (k : Track) where
  period-above : period_ok k ≡ true → k.scheme.kind ≡ time_token → 0 < k.period
  period-above t e = (within 1 k.period 60 (rw (eq-eqb k.scheme.kind time_token e) at t)).0

  next-below : next_ok k ≡ true → k.next.0 ≤ 2 ^ 40 + farthest
  next-below t =
      let l = leb-true k.next.0 (cond (is_time k) (2 ^ 40 + farthest) (2 ^ 32)) t in
      by-test (is_time k) (λ p. rw p at l) (λ p. let m : k.next.0 ≤ 2 ^ 32 = rw p at l in omega arith)

  offset-below : offset_ok k ≡ true → k.offset.0 ≤ 2 * farthest
  offset-below t =
      by-test (is_time k) (λ p. leb-true k.offset.0 (2 * farthest) (rw p at t))
      (λ p. let e = eqb-true k.offset.0 farthest (rw p at t) in omega arith)

  ranges_sound : period_ok k ≡ true → next_ok k ≡ true → offset_ok k ≡ true → (clock : ℕ) → clock < 2 ^ 40 → Sound k clock
  ranges_sound p n o clock h = record { divided = period-above p; timely = h; counted = next-below n; within = offset-below o }

  -- what a check asks of a token
  pub track-sound : track_ok k ≡ true → (clock : ℕ) → clock < 2 ^ 40 → Sound k clock
  unfolding track_ok
  track-sound ok =
      let p : period_ok k ≡ true = search (and_left, and_right) depth 6 in
      let n : next_ok k ≡ true = search (and_left, and_right) depth 6 in
      let o : offset_ok k ≡ true = search (and_left, and_right) depth 6 in
      ranges_sound p n o

module _ (highest : ℕ) (r : Row) (ok : numbers_ok highest r ≡ true) where
  passed : (i : ℕ) → get_or (number_tests highest r) i true ≡ true
  unfolding numbers_ok
  passed i = test-passes (number_tests highest r) i ok

  pub known_algorithm : (r.track.scheme.algorithm ≡ 3) ⊎ (r.track.scheme.algorithm ≡ 4)
  unfolding number_tests
  known_algorithm = either r.track.scheme.algorithm (passed 2)
    where
      either : (a : ℕ) → eqb a 3 || eqb a 4 ≡ true → (a ≡ 3) ⊎ (a ≡ 4)
      either a t = by-test (eqb a 3) (λ p. inl (eqb-true a 3 p)) (λ p. inr (eqb-true a 4 (rw p at t)))

  pub digits_in_range : (6 ≤ r.track.scheme.digits) × (r.track.scheme.digits ≤ 10)
  unfolding number_tests
  digits_in_range = within 6 r.track.scheme.digits 10 (passed 3)

  pub length_in_range : (16 ≤ r.key_length) × (r.key_length ≤ key_bytes)
  unfolding number_tests
  length_in_range = within 16 r.key_length key_bytes (passed 6)

  -- `locked at` is 0 unless the state is 3
  pub unlocked_elsewhere : eqb r.state 3 || eqb r.locked_at.0 0 ≡ true
  unfolding number_tests
  unlocked_elsewhere = and_right (ltb r.locked_at.0 (2 ^ 40)) _ (passed 11)

  -- what a check asks of the row's track
  pub row-sound : (clock : ℕ) → clock < 2 ^ 40 → Sound r.track clock
  unfolding number_tests
  row-sound clock h = ranges_sound r.track (passed 4) (passed 7) (passed 8) clock h
