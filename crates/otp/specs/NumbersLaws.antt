-- Digits are the same exactly if their numbers are.
use Rattle.std.specs.Prelude.{◌≡◌, ℕ, zero, suc, ◌+◌, ◌-◌, ◌*◌, ◌/◌, ◌%◌, ◌^◌, ◌<◌, ◌≤◌, true, ◌&&◌, List, [], ◌∷◌, ◌++◌, length, drop, ◌==◌, nat_le, slice_index, refl}
use Rattle.std.proofs.Common.{sym, ap, ◌∙◌, append_assoc, append-nil, add-zero, pow-suc, zero-lt-suc, add-one, arith, eqb-true, leb-true, drop_of_length-le, drop-cons}
use Rattle.std.proofs.Math.Nat.{mod-one, mod-mod, one-le-pow, pow-le-pow_right}
use Rattle.std.proofs.lemmas.Bool.{eqb-false}
use Rattle.std.proofs.Math.Arith.{mod-mul}
use Rattle.words.specs.Lists.{same_bytes, all_within}
use Rattle.words.specs.ListsLaws.{same_equal, same_refl}
use Rattle.words.specs.BoolLaws.{by-test, and_left, and_right}
use Rattle.otp.specs.Password.{decimals}
use Rattle.otp.specs.PasswordLaws.{decimals-mod}
use Rattle.otp.specs.Numbers.{number_from}

-- ---- from a number to its digits and back

number_append : (x : ℕ) (s : List ℕ) (b : ℕ) → number_from x (s ++ (b ∷ [])) ≡ number_from x s * 10 + (b - 48)
unfolding number_from
number_append x [] b = refl
number_append x (c ∷ s) b = number_append (x * 10 + (c - 48)) s b

number-decimals : (n y : ℕ) → number_from 0 (decimals n y) ≡ y % 10 ^ n
unfolding number_from decimals
number-decimals zero y = sym (mod-one y)
number-decimals (suc n) y =
    let d : 48 + y % 10 - 48 ≡ y % 10 = omega arith in
    number_append 0 (decimals n (y / 10)) (48 + y % 10)
    ∙ rw (number-decimals n (y / 10), d, pow-suc) (sym (mod-mul y (one-le-pow n 10 (zero-lt-suc 9)) (zero-lt-suc 9)))

pub decimals-number : (k x : ℕ) (s : List ℕ) → all_within 48 57 s ≡ true → decimals (k + length s) (number_from x s) ≡ decimals k x ++ s
unfolding number_from decimals all_within
decimals-number k x [] t = rw (add-zero k) (sym (append-nil (decimals k x)))
decimals-number k x (b ∷ s) t =
    let w = and_left (nat_le 48 b && nat_le b 57) (all_within 48 57 s) t in
    let low = leb-true 48 b (and_left _ _ w) in
    let high = leb-true b 57 (and_right (nat_le 48 b) _ w) in
    let q : (x * 10 + (b - 48)) / 10 ≡ x = omega (arith, low, high) in
    let r : 48 + (x * 10 + (b - 48)) % 10 ≡ b = omega (arith, low, high) in
    let e : k + suc (length s) ≡ suc k + length s = omega arith in
    rw e (decimals-number (suc k) (x * 10 + (b - 48)) s (and_right (nat_le 48 b && nat_le b 57) _ t)
    ∙ rw (q, r) (append_assoc (decimals k x) (b ∷ []) s))

-- ---- the law: digits are the same exactly if the numbers that they show are

pub same_digits : (n x y : ℕ) → same_bytes (decimals n y) (decimals n (x % 10 ^ n)) ≡ (x % 10 ^ n == y % 10 ^ n)
same_digits n x y =
    let back : decimals n y ≡ decimals n (x % 10 ^ n) → y % 10 ^ n ≡ x % 10 ^ n =
    (λ e. sym (number-decimals n y) ∙ ap (number_from 0) e ∙ number-decimals n (x % 10 ^ n) ∙ mod-mod x (10 ^ n)) in
    by-test (x % 10 ^ n == y % 10 ^ n)
    (λ q. rw (q, eqb-true (x % 10 ^ n) (y % 10 ^ n) q, decimals-mod n y) (same_refl (decimals n y)))
    (λ q. by-test (same_bytes (decimals n y) (decimals n (x % 10 ^ n)))
    (λ p. absurd (eqb-false (x % 10 ^ n) (y % 10 ^ n) q (sym (back (same_equal (decimals n y) (decimals n (x % 10 ^ n)) p)))))
    (λ p. rw (p, q)))

-- ---- the loop that reads a number

pub number_more : (s : List ℕ) (i x : ℕ) {d : ℕ} → i < length s → d ≡ slice_index s i - 48 → number_from x (drop i s) ≡ number_from (x * 10 + d) (drop (i + 1) s)
unfolding number_from
number_more s i x h e = rw (add-one, e, drop-cons s i 0)

pub number-end : (s : List ℕ) (i x : ℕ) → length s ≤ i → number_from x (drop i s) ≡ x
unfolding number_from
number-end s i x h = rw (drop_of_length-le s h)

-- a byte less 48 is at most 207, and ten of them fit 64 bits
pub number_grows : (i x : ℕ) {d : ℕ} → x + 23 ≤ 23 * 10 ^ i → d ≤ 207 → x * 10 + d + 23 ≤ 23 * 10 ^ (i + 1)
number_grows i x h l = rw (add-one, pow-suc) (omega (arith, h, l))

pub number_fits : (i x : ℕ) → i < 10 → x + 23 ≤ 23 * 10 ^ i → x * 10 + 207 < 2 ^ 64
number_fits i x h l = let m : i ≤ 10 = omega (arith, h) in let p : 10 ^ i ≤ 10 ^ 10 = pow-le-pow_right (zero-lt-suc 9) m in omega (arith, l, p)
