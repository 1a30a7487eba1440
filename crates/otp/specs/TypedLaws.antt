-- What was typed is a password's digits, or no password.
use Rattle.std.specs.Prelude.{◌≡◌, ℕ, ◌≤◌, Bool, true, false, not, List, length, Option, Some, None, Result, Ok, Err, ok_or}
use Rattle.std.proofs.Math.Path.{sym}
use Rattle.std.proofs.Common.{◌∙◌, zero-add}
use borrow.Author.Tests.{not-true, not-false, leb-true}
use Rattle.words.specs.Lists.{all_within}
use Rattle.words.specs.BoolLaws.{and_right, and_false, by-test, impossible}
use Rattle.otp.specs.declared.typed.Password.{Password}
use Rattle.otp.specs.Password.{decimals}
use Rattle.otp.specs.Numbers.{number_from}
use Rattle.otp.specs.NumbersLaws.{decimals-number}
use Rattle.otp.specs.Typed.{count_ok, password_ok, as_password, typed_of, digits_of}

module _ (s : List ℕ) where
  -- a password's digits are those that were typed
  pub digits-back : password_ok s ≡ true → digits_of (as_password s) ≡ s
  unfolding password_ok digits_of decimals
  digits-back t = rw (zero-add (length s)) at (decimals-number 0 0 s (and_right (count_ok (length s)) _ t))

  module _ {x : Option Password} (read : x ≡ typed_of s) where
    pub typed-is : {p : Password} → x ≡ Some p → (password_ok s ≡ true) × (p ≡ as_password s)
    unfolding typed_of
    typed-is {p} e =
        by-test (password_ok s)
        (λ t. let y : Some (as_password s) ≡ Some p = sym (read ∙ rw t) ∙ e in (t, cc))
        (λ t. let y : None ≡ Some p = sym (read ∙ rw t) ∙ e in impossible (cc))

    pub typed-bad : x ≡ None → password_ok s ≡ false
    unfolding typed_of
    typed-bad e =
        by-test (password_ok s)
        (λ t. let y : Some (as_password s) ≡ None = sym (read ∙ rw t) ∙ e in impossible (cc))
        (λ t. t)

  -- ---- what `password_of` returns

  pub typed-miscounted : not (count_ok (length s)) ≡ true → None ≡ typed_of s
  unfolding typed_of password_ok
  typed-miscounted t = rw (not-true (count_ok (length s)) t)

  pub typed-counted : not (count_ok (length s)) ≡ false → length s ≤ 10
  typed-counted t = let ok : count_ok (length s) ≡ true = not-false _ t in leb-true (length s) 10 (search (and_right))

  module _ {b : Bool} (w : b ≡ all_within 0x30 0x39 s) where
    pub typed-other : not b ≡ true → None ≡ typed_of s
    unfolding typed_of password_ok
    typed-other t = rw (← w, not-true b t, and_false (count_ok (length s)))

    pub typed-digits : {x : ℕ} → not (count_ok (length s)) ≡ false → not b ≡ false → x ≡ number_from 0 s
        → Some (record { digits = length s; number = x }) ≡ typed_of s
    unfolding typed_of password_ok
    typed-digits t u e = rw (not-false (count_ok (length s)) t, ← w, not-false b u, e)

  -- what was typed, or a refusal in its place
  module _ {E : Type 0} (e : E) {x : Option Password} {y : Result Password E} (read : x ≡ typed_of s) (given : y ≡ ok_or x e) where
    pub typed-given : {p : Password} → y ≡ Ok p → (password_ok s ≡ true) × (p ≡ as_password s)
    unfolding typed_of
    typed-given {p} is =
        by-test (password_ok s)
        (λ t. let z : Ok (as_password s) ≡ Ok p = sym (given ∙ rw (read, t)) ∙ is in (t, cc))
        (λ t. let z : Err e ≡ Ok p = sym (given ∙ rw (read, t)) ∙ is in impossible (cc))

    pub typed-refused : {f : E} → y ≡ Err f → (password_ok s ≡ false) × (f ≡ e)
    unfolding typed_of
    typed-refused {f} is =
        by-test (password_ok s)
        (λ t. let z : Ok (as_password s) ≡ Err f = sym (given ∙ rw (read, t)) ∙ is in impossible (cc))
        (λ t. let z : Err e ≡ Err f = sym (given ∙ rw (read, t)) ∙ is in (t, cc))
