-- How many numbers pass a test: none, one, several.
use Prim.Native.Nat.{ℕ, zero, suc, ◌+◌, ◌-◌, ◌≤◌, ◌<◌}
use Rattle.std.specs.Prelude.{◌≡◌, refl, Bool, true, false, cond}
use Rattle.std.proofs.Math.Path.{ap}
use Rattle.std.proofs.Common.{◌∙◌, add-zero, le_refl, le_trans}
use Rattle.std.proofs.Math.Nat.{le-suc}
use Rattle.std.proofs.Math.Numerals.{add-one}
use native.Mathlib.Omega.{arith}
use Rattle.words.specs.BoolLaws.{by-test}
use Rattle.window.specs.Check.{how_many}
use Rattle.window.proofs.CheckLaws.{NoneBelow, misses_leave}

module _ (test : ℕ → Bool) where
  pub many-next : (n : ℕ) → how_many test (n + 1) ≡ how_many test n + cond (test n) 1 0
  unfolding how_many
  many-next n = rw add-one

  -- a number that does not pass adds nothing
  pub many_miss : (n : ℕ) → test n ≡ false → how_many test (n + 1) ≡ how_many test n
  many_miss n e = many-next n ∙ rw e (add-zero (how_many test n))

  pub many-none : (n : ℕ) → NoneBelow test n → how_many test n ≡ 0
  unfolding how_many
  many-none n h = let e : n ≡ 0 + n = omega arith in ap (how_many test) e ∙ misses_leave (how_many test) test many_miss 0 n (λ r l m. h r (omega arith))

  pub many_grows : (s n : ℕ) → how_many test s ≤ how_many test (s + n)
  many_grows s zero = rw (add-zero s) (le_refl (how_many test s))
  many_grows s (suc n) =
      let e : s + suc n ≡ s + n + 1 = omega arith in
      rw (e, many-next (s + n)) (omega (arith, many_grows s n))

  -- at least one
  pub many-one : (n : ℕ) → 0 < how_many test n → (r : ℕ) × ((r < n) × (test r ≡ true))
  unfolding how_many
  many-one zero l = absurd (omega arith)
  many-one (suc n) l =
      by-test (test n) (λ t. (n, (le_refl (suc n), t)))
      (λ t. let r = many-one n (omega (arith, rw (t, add-zero) at l)) in (r.0, (le_trans r.1.0 (le-suc n), r.1.1)))

  pub one-many : (n : ℕ) {r : ℕ} → r < n → test r ≡ true → 0 < how_many test n
  one-many n {r} l t =
      let one = rw t at (many-next r) in
      let a : n ≡ r + 1 + (n - (r + 1)) = omega arith in
      let b : how_many test (r + 1) ≤ how_many test n = rw a (many_grows (r + 1) (n - (r + 1))) in
      omega (arith, one, b)

  -- two or more: a first and a second
  pub many_two : (n : ℕ) → 2 ≤ how_many test n → (r : ℕ) × ((s : ℕ) × ((r < s) × ((s < n) × ((test r ≡ true) × (test s ≡ true)))))
  unfolding how_many
  many_two zero l = absurd (omega arith)
  many_two (suc n) l =
      by-test (test n)
      (λ t. let r = many-one n (omega (arith, rw t at l)) in (r.0, (n, (r.1.0, (le_refl (suc n), (r.1.1, t))))))
      (λ t. let r = many_two n (omega (arith, rw (t, add-zero) at l)) in (r.0, (r.1.0, (r.1.1.0, (le_trans r.1.1.1.0 (le-suc n), r.1.1.1.1)))))

  pub two_many : (n : ℕ) {r s : ℕ} → r < s → s < n → test r ≡ true → test s ≡ true → 2 ≤ how_many test n
  two_many n {r} {s} l m t u =
      let two = rw u at (many-next s) in
      let a : n ≡ s + 1 + (n - (s + 1)) = omega arith in
      let b : how_many test (s + 1) ≤ how_many test n = rw a (many_grows (s + 1) (n - (s + 1))) in
      omega (arith, one-many s l t, two, b)

pub many-agree : (test other : ℕ → Bool) → ((s : ℕ) → test s ≡ other s) → (n : ℕ) → how_many test n ≡ how_many other n
unfolding how_many
many-agree test other h zero = refl
many-agree test other h (suc n) = rw (many-agree test other h n, h n)
