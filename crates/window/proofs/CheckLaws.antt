-- The smallest number that passes a test, and the check step by step upward.
use Prim.Native.Nat.{ℕ, zero, suc, ◌+◌, ◌-◌, ◌≤◌, ◌<◌, min, zero-le}
use Rattle.std.specs.Prelude.{◌≡◌, Bool, cond, ◌&&◌, ◌||◌, ◌⊎◌, eqb, leb, ltb}
use Rattle.std.proofs.Math.Path.{refl, ap}
use Rattle.std.proofs.Common.{sym, ◌∙◌, inl, inr, ⊎_elim, add-zero, not-suc-le-zero, le_refl, le_trans}
use Rattle.std.proofs.Math.Bool.{true, false}
use Rattle.std.proofs.Math.Option.{Option, none, some}
use Rattle.std.proofs.Math.Nat.{le-suc}
use native.Mathlib.Omega.{arith}
use borrow.Author.Tests.{le-leb, lt-leb, lt-ltb, le-ltb}
use Rattle.words.specs.BoolLaws.{and_true, and_false, impossible}
use Rattle.window.specs.declared.Outcome.{Outcome}
use Rattle.window.specs.declared.Outcome.TheVariants.{Accepted, Several, Again, Used, Wrong}
use Rattle.window.specs.Check.{or_else, smallest, fresh_hit, used_hit, last_hit, judged, checked, settled}
use Rattle.window.specs.Sweep.{unaccepted}

-- no number below n passes the test
abbrev pub NoneBelow : (ℕ → Bool) → ℕ → Type 0
NoneBelow test n = (r : ℕ) → r < n → test r ≡ false

-- s is the smallest number below n that passes
pub record Least (test : ℕ → Bool) (n s : ℕ) : Type 0 where
  pub within : s < n
  pub passes : test s ≡ true
  pub before : NoneBelow test s

below_suc : (test : ℕ → Bool) (n : ℕ) → NoneBelow test n → test n ≡ false → NoneBelow test (suc n)
below_suc test n h e r l = ⊎_elim (λ (m : r < n). h r m) (λ (m : r ≡ n). rw m e) (cases r n l)
  where
    cases : (r n : ℕ) → r < suc n → (r < n) ⊎ (r ≡ n)
    cases zero zero l = inr refl
    cases zero (suc n) l = inl (omega arith)
    cases (suc r) zero l = absurd (omega arith)
    cases (suc r) (suc n) l = ⊎_elim (λ (m : r < n). inl (omega arith)) (λ (m : r ≡ n). inr (ap suc m)) (cases r n (omega arith))

-- what `smallest` finds
pub data Found (test : ℕ → Bool) (n : ℕ) : Option ℕ → Type 0 where
  found : {s : ℕ} → Least test n s → Found test n (some s)
  missing : NoneBelow test n → Found test n none

pub smallest-found : (test : ℕ → Bool) (n : ℕ) → Found test n (smallest test n)
unfolding smallest
smallest-found test zero = missing (λ r l. absurd (not-suc-le-zero l))
smallest-found test (suc n) = next (smallest test n) (smallest-found test n) (test n) refl
  where
    next : (o : Option ℕ) → Found test n o → (b : Bool) → test n ≡ b → Found test (suc n) (or_else o (cond b (some n) none))
    next (some s) (found l) b e = found (record { within = le_trans l.within (le-suc n); passes = l.passes; before = l.before })
    next none (missing h) true e = found {s = n} (record { within = le_refl (suc n); passes = e; before = h })
    next none (missing h) false e = missing (below_suc test n h e)

pub order : (r s : ℕ) → (r < s) ⊎ (s ≤ r)
order r zero = inr zero-le
order zero (suc s) = inl (omega arith)
order (suc r) (suc s) = ⊎_elim (λ (l : r < s). inl (omega arith)) (λ (l : s ≤ r). inr (omega arith)) (order r s)

-- ---- what a number that does not pass leaves as it was

module _ {A : Type 0} (f : ℕ → A) (test : ℕ → Bool) (stays : (n : ℕ) → test n ≡ false → f (n + 1) ≡ f n) where
  -- many leave it too
  pub misses_leave : (s n : ℕ) → ((r : ℕ) → s ≤ r → r < s + n → test r ≡ false) → f (s + n) ≡ f s
  misses_leave s zero h = rw (add-zero s)
  misses_leave s (suc n) h =
      let e : s + suc n ≡ s + n + 1 = omega arith in
      rw e (stays (s + n) (h (s + n) (omega arith) (omega arith)) ∙ misses_leave s n (λ r l m. h r l (omega arith)))

  -- where none passes from one of two numbers on, it does not matter at which of them one ends
  pub same-past : (s n : ℕ) → ((r : ℕ) → min s n ≤ r → test r ≡ false) → f n ≡ f s
  same-past s n h =
      ⊎_elim
      (λ (l : s < n). let e : n ≡ s + (n - s) = omega arith in ap f e ∙ misses_leave s (n - s) (λ r a b. h r (omega arith)))
      (λ (l : n ≤ s). let e : s ≡ n + (s - n) = omega arith in sym (ap f e ∙ misses_leave n (s - n) (λ r a b. h r (omega arith))))
      (order s n)

-- ---- the check, a step higher

module _ (hit : ℕ → Bool) (next : ℕ) where
  -- the smallest below the next number that passes the test
  abbrev up_to : (ℕ → Bool) → ℕ → Option ℕ
  up_to test s = or_else (smallest test s) (cond (test s) (some s) none)

  checked-suc : (s : ℕ) → checked hit next (s + 1) ≡ judged (up_to (fresh_hit hit next) s) (up_to (last_hit hit next) s) (up_to (used_hit hit next) s)
  unfolding checked smallest
  checked-suc s = let e : s + 1 ≡ suc s = omega arith in ap (checked hit next) e

  -- a step that is no hit changes nothing
  pub checked_miss : (s : ℕ) → hit s ≡ false → checked hit next (s + 1) ≡ checked hit next s
  unfolding checked
  checked_miss s e =
      checked-suc s
      ∙ rw (e, and_false (leb next s), and_false (eqb (s + 1) next), and_false (ltb s next), or_none (smallest (fresh_hit hit next) s), or_none (smallest (last_hit hit next) s), or_none (smallest (used_hit hit next) s))
    where
      or_none : (o : Option ℕ) → or_else o none ≡ o
      or_none none = refl
      or_none (some x) = refl

  pub checked-none : checked hit next 0 ≡ Wrong
  unfolding checked smallest
  checked-none = refl

  -- a hit on a used step, and on a fresh one, where nothing was accepted before
  module _ (s : ℕ) (a u : Bool) (e : checked hit next s ≡ unaccepted a u) (t : hit s ≡ true) where
    none-fresh : (f l o : Option ℕ) (a u : Bool) → judged f l o ≡ unaccepted a u → f ≡ none
    none-fresh none l o a u e = refl
    none-fresh (some x) l o true u e = impossible (cc)
    none-fresh (some x) l o false true e = impossible (cc)
    none-fresh (some x) l o false false e = impossible (cc)

    no-fresh : smallest (fresh_hit hit next) s ≡ none
    unfolding checked
    no-fresh = none-fresh (smallest (fresh_hit hit next) s) (smallest (last_hit hit next) s) (smallest (used_hit hit next) s) a u e

    pub checked-used : s < next → checked hit next (s + 1) ≡ unaccepted (a || eqb (s + 1) next) true
    unfolding checked
    checked-used l =
        checked-suc s
        ∙ rw (t, lt-leb next s l, lt-ltb s next l, and_true (eqb (s + 1) next), no-fresh)
        (told (smallest (last_hit hit next) s) (smallest (used_hit hit next) s) a u (eqb (s + 1) next) (rw no-fresh at e))
      where
        told : (f o : Option ℕ) (a u last : Bool) → judged none f o ≡ unaccepted a u → judged none (or_else f (cond last (some s) none)) (or_else o (some s)) ≡ unaccepted (a || last) true
        told (some x) o true u last e = refl
        told (some x) o false true last e = impossible (cc)
        told (some x) o false false last e = impossible (cc)
        told none none true u last e = impossible (cc)
        told none (some x) true u last e = impossible (cc)
        told none none false u true e = refl
        told none none false u false e = refl
        told none (some x) false u true e = refl
        told none (some x) false u false e = refl

    pub checked-fresh : next ≤ s → checked hit next (s + 1) ≡ Accepted (record { 0 = s })
    unfolding checked
    checked-fresh l = checked-suc s ∙ rw (t, le-leb next s l, le-ltb s next l, no-fresh)

  -- what was accepted stays
  pub accepted-stays : (s n k : ℕ) → checked hit next n ≡ Accepted (record { 0 = s }) → checked hit next (n + k) ≡ Accepted (record { 0 = s })
  unfolding checked
  accepted-stays s n zero e = rw (add-zero n) e
  accepted-stays s n (suc k) e =
      let q : n + suc k ≡ n + k + 1 = omega arith in
      rw q (checked-suc (n + k) ∙ told (smallest (fresh_hit hit next) (n + k)) (smallest (last_hit hit next) (n + k)) (smallest (used_hit hit next) (n + k)) _ _ _ (accepted-stays s n k e))
    where
      told : (f l o x y z : Option ℕ) → judged f l o ≡ Accepted (record { 0 = s }) → judged (or_else f x) (or_else l y) (or_else o z) ≡ Accepted (record { 0 = s })
      told (some v) l o x y z e = e
      told none (some v) o x y z e = impossible (cc)
      told none none none x y z e = impossible (cc)
      told none none (some v) x y z e = impossible (cc)

-- tests that agree find the same
smallest-agree : (test other : ℕ → Bool) → ((s : ℕ) → test s ≡ other s) → (n : ℕ) → smallest test n ≡ smallest other n
unfolding smallest
smallest-agree test other h zero = refl
smallest-agree test other h (suc n) = rw (smallest-agree test other h n, h n)

pub checked-agree : (hit other : ℕ → Bool) (next n : ℕ) → ((s : ℕ) → hit s ≡ other s) → checked hit next n ≡ checked other next n
unfolding checked
checked-agree hit other next n h =
    rw (
      smallest-agree (fresh_hit hit next) (fresh_hit other next) (λ s. ap (λ (b : Bool). leb next s && b) (h s)) n,
      smallest-agree (last_hit hit next) (last_hit other next) (λ s. ap (λ (b : Bool). eqb (s + 1) next && b) (h s)) n,
      smallest-agree (used_hit hit next) (used_hit other next) (λ s. ap (λ (b : Bool). ltb s next && b) (h s)) n,
    )

-- what is accepted at the hit itself
pub settled-none : (o : Outcome) → settled 0 o ≡ o
settled-none (Accepted s) = rw (add-zero s.0)
settled-none Several = refl
settled-none Again = refl
settled-none Used = refl
settled-none Wrong = refl
