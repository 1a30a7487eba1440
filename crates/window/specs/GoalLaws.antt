-- A goal's cuts are those of the steps that have its passwords.
use Rattle.std.specs.Prelude.{ℕ, ◌+◌, ◌%◌, ◌^◌, ◌≤◌, ◌<◌, ◌≡◌, Bool, ◌&&◌, ◌||◌, List, ltb}
use Rattle.std.proofs.Math.Path.{refl, sym}
use Rattle.std.proofs.Common.{ap, ◌∙◌, zero-lt-suc, arith, eq-eqb, ne_eqb, ltb-false}
use Rattle.std.proofs.Math.Bool.{true, false}
use Rattle.std.proofs.Math.Nat.{one-le-pow}
use Rattle.std.proofs.Math.Dec.{eqb}
use Rattle.words.specs.BoolLaws.{and_right, and_true, or_left, or_true, either-by}
use Rattle.otp.specs.declared.typed.Password.{Password}
use Rattle.otp.specs.Password.{shown, password_of}
use Rattle.otp.specs.Typed.{digits_of}
use Rattle.otp.specs.NumbersLaws.{same_digits}
use Rattle.otp.specs.CutLists.{step_cut}
use Rattle.window.specs.declared.Scheme.{Scheme}
use Rattle.window.specs.declared.goal.Goal.{Goal}
use Rattle.window.specs.PasswordAt.{password_at, has_by}
use Rattle.window.specs.Goal.{single_goal, pair_goal, begins, hits, more_sure, cut_at}

-- ---- the goals

pub ten_above : (n : ℕ) {m : ℕ} → m ≡ 10 ^ n → 0 < m
ten_above n e = rw e (one-le-pow n 10 (zero-lt-suc 9))

pub single-modulus : (p : Password) {g : Goal} → g ≡ single_goal p → 0 < g.modulus
unfolding single_goal
single-modulus p e = ten_above p.digits (ap (λ (g : Goal). g.modulus) e)

pub pair-modulus : (p q : Password) {g : Goal} → g ≡ pair_goal p q → 0 < g.modulus
unfolding pair_goal
pair-modulus p q e = ten_above p.digits (ap (λ (g : Goal). g.modulus) e)

-- ---- two cuts

module _ (goal : Goal) (x y : ℕ) where
  pub hits-other : (y % goal.modulus ≡ goal.last → ⊥) → false ≡ hits goal x y
  unfolding hits
  hits-other n = rw (ne_eqb (y % goal.modulus) goal.last n)

  pub hits-last : y % goal.modulus ≡ goal.last → begins goal x ≡ hits goal x y
  unfolding hits
  hits-last e = rw (eq-eqb (y % goal.modulus) goal.last e)

-- ---- the steps that a pair reaches for certain

module _ (goal : Goal) (x left : ℕ) {n : ℕ} (e : n ≡ more_sure goal x left) where
  pub more_left : 0 < left → n ≤ left
  more_left l =
      rw e (either-by (λ (k : ℕ). k ≤ left) (ltb left 2 || begins goal x) (λ t. omega arith)
      (λ t. ltb-false left 2 (or_left _ _ t)))

  -- at a step that hits no more than the next
  pub more_hit : (y : ℕ) → hits goal x y ≡ true → n ≡ 1
  unfolding hits
  more_hit y t = let b : begins goal x ≡ true = and_right (eqb (y % goal.modulus) goal.last) _ t in rw (e, b, or_true (ltb left 2))

-- ---- cuts and passwords

module _ (scheme : Scheme) (key challenge : List ℕ) where
  -- a step has a password exactly if its cut leaves the password's number
  has-number : (p : Password) (n s : ℕ) → p.digits ≡ n → scheme.digits ≡ n
      → has_by password_at scheme key challenge (digits_of p) s ≡ eqb (cut_at scheme key challenge s % 10 ^ n) (p.number % 10 ^ n)
  unfolding password_at password_of shown step_cut digits_of
  has-number p n s ep es = rw (ep, es) (same_digits n (cut_at scheme key challenge s) p.number)

  pub single-hits : (p : Password) (x s : ℕ) → p.digits ≡ scheme.digits
      → hits (single_goal p) x (cut_at scheme key challenge s) ≡ has_by password_at scheme key challenge (digits_of p) s
  unfolding hits single_goal
  single-hits p x s e = and_true _ ∙ sym (has-number p p.digits s refl (sym e))

  pub pair-hits : (p q : Password) (s : ℕ) → p.digits ≡ scheme.digits → q.digits ≡ scheme.digits
      → hits (pair_goal p q) (cut_at scheme key challenge s) (cut_at scheme key challenge (s + 1))
      ≡ has_by password_at scheme key challenge (digits_of p) s && has_by password_at scheme key challenge (digits_of q) (s + 1)
  unfolding hits pair_goal
  pair-hits p q s ep eq =
      let first = has-number p p.digits s refl (sym ep) in
      let second = has-number q p.digits (s + 1) (eq ∙ sym ep) (sym ep) in
      rw (first, second) (and_swap (eqb (cut_at scheme key challenge (s + 1) % 10 ^ p.digits) (q.number % 10 ^ p.digits)) (eqb (cut_at scheme key challenge s % 10 ^ p.digits) (p.number % 10 ^ p.digits)))
    where
      and_swap : (a b : Bool) → a && b ≡ b && a
      and_swap true b = sym (and_true b)
      and_swap false true = refl
      and_swap false false = refl
