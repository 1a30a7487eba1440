-- Bytes under bit operations, and the zeros below a number's lowest set bit.
use Rattle.std.specs.Prelude.{ℕ, zero, suc, ◌+◌, ◌*◌, ◌/◌, ◌%◌, ◌^◌, ◌<◌, ◌≡◌, eqb, ltb}
use Rattle.std.proofs.Common.{sym, ap, ◌∙◌, zero-add, suc-add, mul-one, pow-suc, arith, eqb-true, ltb-true, ltb-false}
use Rattle.std.proofs.lemmas.Bool.{eqb-false}
use Rattle.std.specs.Int.Bits.{bit_and, bit_xor, and_zero_l, and_zero_r, shifted_even, shifted_half}
use Rattle.std.proofs.lemmas.Nat.{and_shr}
use Rattle.std.proofs.lemmas.Nat.Bits.{and_high}
use Rattle.std.specs.Int.Count.{count_trailing_zeros}
use Rattle.words.specs.BoolLaws.{by-test}
use Rattle.words.specs.WordsLaws.{xor_cancel}

pub xor_zero : (a b : ℕ) → bit_xor a b ≡ 0 → a ≡ b
xor_zero a b e = sym (xor_cancel a b) ∙ ap (λ (x : ℕ). bit_xor x b) e

-- two bytes whose sum is a byte have not both the highest bit
pub highest_bit-apart : (a b : ℕ) → a + b < 256 → bit_and (bit_and a b) 128 ≡ 0
highest_bit-apart a b h =
    and_high (bit_and a b) 1 7
    ∙ rw (and_shr a b 7)
    (by-test (ltb a 128)
    (λ t. let z : a / 128 ≡ 0 = omega (arith, ltb-true a 128 t) in rw (z, and_zero_l (b / 128)))
    (λ f. let z : b / 128 ≡ 0 = omega (arith, ltb-false a 128 f) in rw (z, and_zero_r (a / 128))))

-- ---- the zeros below the lowest set bit

-- a shift brings as many more
pub trailing_shifted : (j k n : ℕ) → count_trailing_zeros (j + k) (n * 2 ^ j) ≡ j + count_trailing_zeros k n
unfolding count_trailing_zeros
trailing_shifted zero k n = rw (zero-add k, mul-one n, zero-add)
trailing_shifted (suc j) k n = rw (suc-add j k, shifted_even n j, shifted_half n j, trailing_shifted j k n) (omega arith)

-- an odd number has none
pub trailing_odd : (k n : ℕ) → n % 2 ≡ 1 → count_trailing_zeros (suc k) n ≡ 0
unfolding count_trailing_zeros
trailing_odd k n e = rw e

-- a number of k bits other than 0 has fewer than k
pub trailing_lt : (k n : ℕ) → 0 < n → n < 2 ^ k → count_trailing_zeros k n < k
unfolding count_trailing_zeros
trailing_lt zero n p l = absurd (omega arith)
trailing_lt (suc k) n p l =
    let q = pow-suc 2 k in
    by-test (eqb (n % 2) 0)
    (λ t. let e = eqb-true (n % 2) 0 t in rw e (omega (arith, trailing_lt k (n / 2) (omega arith) (omega arith))))
    (λ f. let e : n % 2 ≡ 1 = omega (arith, eqb-false (n % 2) 0 f) in rw e (omega arith))
