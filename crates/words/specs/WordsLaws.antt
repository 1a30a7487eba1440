-- Laws of 32-bit words: rotation, and what lib.Bits lacks of exclusive or.
use Rattle.std.specs.Prelude.{ℕ, zero, suc, ◌+◌, ◌*◌, ◌-◌, ◌/◌, ◌%◌, ◌^◌, ◌≤◌, ◌<◌, ◌≡◌, refl, ◌⊎◌}
use Rattle.std.proofs.Common.{sym, ap₂, ◌∙◌, subst, inl, inr, ⊎_elim, mod-lt, mul-div_cancel, add-zero, add_comm, zero-lt-suc, sub-add_cancel, div-add-mod', pow-suc, arith, pow_pos, shr_lt}
use Rattle.std.proofs.Math.Path.{ap}
use Rattle.std.proofs.Math.Nat.{mul-mod_left}
use Rattle.std.proofs.Math.Arith.{lt-one, digits_lt, digits_mod, mod-mul, bin_ind}
use Rattle.std.specs.Int.Bits.{bit_and, bit_or, bit_xor, differ, xor_step, xor_self, xor_zero_r}
use Rattle.std.proofs.lemmas.Nat.{and_shr, and_mod, or_shr, or_mod, xor_mod, or_shifted, xor_shr, xor_block}
use Rattle.std.proofs.Math.Pow.{pow-add, shr-shr, split, high, low, mod-pow-add, field, mod-mod-pow}
use Rattle.std.specs.Int.{w32, rotate_left}
use Rattle.words.specs.Words.{◌⊕◌, ◌⋘◌}

-- the bits that a shift to the left keeps
shl-keeps : (x n : ℕ) → n ≤ 32 → x * 2 ^ n % 2 ^ 32 ≡ x % 2 ^ (32 - n) * 2 ^ n
shl-keeps x n h =
    let e : 2 ^ 32 ≡ 2 ^ (32 - n) * 2 ^ n = ap (λ (m : ℕ). 2 ^ m) (sym (sub-add_cancel h)) ∙ pow-add 2 (32 - n) n in
    rw (e, mod-mul (x * 2 ^ n) (pow_pos (32 - n)) (pow_pos n), mul-div_cancel x (pow_pos n), mul-mod_left x (2 ^ n), add-zero)

module _ (x n : ℕ) (word : x < 2 ^ 32) (within : n ≤ 32) where
  shr_below : x / 2 ^ (32 - n) < 2 ^ n
  shr_below = let e : 32 ≡ n + (32 - n) = omega arith in shr_lt n (32 - n) (subst (λ (m : ℕ). x < 2 ^ m) e word)

  -- two shifts joined by `or` are the rotation
  pub or_rotates : bit_or (x * 2 ^ n % 2 ^ 32) (x / 2 ^ (32 - n)) ≡ x ⋘ n
  unfolding ◌⋘◌
  or_rotates = rw (shl-keeps x n within) (or_shifted (x % 2 ^ (32 - n)) n (x / 2 ^ (32 - n)) shr_below)

  -- and so is the library's rotation, by any number of bits below 32
  pub rotate-is : 0 < n → n < 32 → rotate_left w32 x n ≡ x ⋘ n
  rotate-is a b =
      let e : n % 32 ≡ n = omega arith in
      let f : (32 - n) % 32 ≡ 32 - n = omega arith in
      rw (e, f) or_rotates

  pub rotated_lt : x ⋘ n < 2 ^ 32
  unfolding ◌⋘◌
  rotated_lt =
      rw (shl-keeps x n within)
      (subst (λ (m : ℕ). x % 2 ^ (32 - n) * 2 ^ n + x / 2 ^ (32 - n) < m)
      (sym (pow-add 2 (32 - n) n) ∙ ap (λ (m : ℕ). 2 ^ m) (sub-add_cancel within))
      (digits_lt (mod-lt x (pow_pos (32 - n))) shr_below))

-- x of k + n bits rotated left by k: the n low bits go above the k high ones
turned : ℕ → ℕ → ℕ → ℕ
turned x k n = x % 2 ^ n * 2 ^ k + x / 2 ^ n

rotated_is : (x n : ℕ) → n ≤ 32 → x ⋘ n ≡ turned x n (32 - n)
unfolding ◌⋘◌ turned
rotated_is x n within = rw (shl-keeps x n within)

-- a rotation by all 32 bits
pub rotated_whole : (x : ℕ) → x ⋘ 32 ≡ x
unfolding ◌⋘◌
rotated_whole x = omega arith

-- a rotation goes through an exclusive or
pub rotated_xor : (x y n : ℕ) → x < 2 ^ 32 → y < 2 ^ 32 → n ≤ 32 → (x ⊕ y) ⋘ n ≡ (x ⋘ n) ⊕ (y ⋘ n)
unfolding turned
rotated_xor x y n h k within =
    let m = 32 - n in
    rw (rotated_is (x ⊕ y) n within, rotated_is x n within, rotated_is y n within, xor_mod x y m, xor_shr x y m)
    (sym (xor_block n (x % 2 ^ m) (y % 2 ^ m) (x / 2 ^ m) (y / 2 ^ m) (shr_below x n h within) (shr_below y n k within)))

-- a rotation by a and then by b, with c bits to spare
module _ (x a b c : ℕ) (fits : x < 2 ^ (a + (b + c))) where
  turned_high : turned x a (b + c) / 2 ^ a ≡ x % 2 ^ (b + c)
  unfolding turned
  turned_high = high (x % 2 ^ (b + c)) a (shr_lt a (b + c) fits)

  turned-low : turned x a (b + c) % 2 ^ a ≡ x / 2 ^ (b + c)
  unfolding turned
  turned-low = low (x % 2 ^ (b + c)) a (shr_lt a (b + c) fits)

  turned-twice : turned (turned x a (b + c)) b (c + a) ≡ turned x (a + b) c
  unfolding turned
  turned-twice =
      let y = turned x a (b + c) in
      let top : y / 2 ^ (c + a) ≡ x / 2 ^ c % 2 ^ b = rw (add_comm c a, ← shr-shr y a c, turned_high) (field x b c) in
      let rest : y % 2 ^ (c + a) ≡ x % 2 ^ c * 2 ^ a + x / 2 ^ (b + c) = mod-pow-add y c a ∙ rw (turned_high, turned-low, mod-mod-pow x b c) in
      let whole : x / 2 ^ (b + c) * 2 ^ b + x / 2 ^ c % 2 ^ b ≡ x / 2 ^ c = rw (add_comm b c, ← shr-shr x c b) (split (x / 2 ^ c) b) in
      rw (top, rest, pow-add 2 a b) (omega arith)

-- two rotations are one by the sum of their counts
pub rotations_add : (x a b : ℕ) → x < 2 ^ 32 → a + b ≤ 32 → x ⋘ a ⋘ b ≡ x ⋘ (a + b)
rotations_add x a b word within =
    let c = 32 - (a + b) in
    let i : 32 - a ≡ b + c = omega arith in
    let j : 32 - b ≡ c + a = omega arith in
    let e : 32 ≡ a + (b + c) = omega arith in
    rw (rotated_is (x ⋘ a) b (omega arith), rotated_is x a (omega arith), rotated_is x (a + b) within, i, j)
    (turned-twice x a b c (subst (λ (m : ℕ). x < 2 ^ m) e word))

-- a word and itself rotated, both rotated
pub rotated_pair : (x m n : ℕ) → x < 2 ^ 32 → m + n ≤ 32 → (x ⊕ (x ⋘ m)) ⋘ n ≡ (x ⋘ n) ⊕ (x ⋘ (m + n))
rotated_pair x m n word within =
    rotated_xor x (x ⋘ m) n word (rotated_lt x m word (omega arith)) (omega arith) ∙ ap (λ (y : ℕ). (x ⋘ n) ⊕ y) (rotations_add x m n word within)

-- ---- exclusive or

bit : (n : ℕ) → (n % 2 ≡ 0) ⊎ (n % 2 ≡ 1)
bit n = cases (n % 2) (mod-lt n (zero-lt-suc 1))
  where
    cases : (b : ℕ) → b < 2 → (b ≡ 0) ⊎ (b ≡ 1)
    cases zero h = inl refl
    cases (suc b) h = inr (omega arith)

-- what holds of the bits 0 and 1 holds of the last bit of every number
by_bit : (P : ℕ → Type 0) → P 0 → P 1 → (n : ℕ) → P (n % 2)
by_bit P p q n = ⊎_elim (λ e. subst P (sym e) p) (λ e. subst P (sym e) q) (bit n)

differ_assoc : (a b c : ℕ) → differ (differ (a % 2) (b % 2)) (c % 2) ≡ differ (a % 2) (differ (b % 2) (c % 2))
differ_assoc a b c =
    by_bit (λ x. differ (differ x (b % 2)) (c % 2) ≡ differ x (differ (b % 2) (c % 2)))
    refl
    (by_bit (λ y. differ (differ 1 y) (c % 2) ≡ differ 1 (differ y (c % 2)))
    refl
    (by_bit (λ z. differ 0 z ≡ differ 1 (differ 1 z)) refl refl c)
    b)
    a

last_bit : (a b : ℕ) → bit_xor a b % 2 ≡ differ (a % 2) (b % 2)
last_bit a b =
    rw (xor_step a b)
    (digits_mod (bit_xor (a / 2) (b / 2))
    (by_bit (λ x. differ x (b % 2) < 2) (mod-lt b (zero-lt-suc 1)) (by_bit (λ y. differ 1 y < 2) (omega arith) (omega arith) b) a))

half : (a b : ℕ) → bit_xor a b / 2 ≡ bit_xor (a / 2) (b / 2)
half a b = xor_shr a b 1

pub xor_assoc : (a b c : ℕ) → bit_xor (bit_xor a b) c ≡ bit_xor a (bit_xor b c)
xor_assoc a =
    bin_ind (λ (n : ℕ). (b c : ℕ) → bit_xor (bit_xor n b) c ≡ bit_xor n (bit_xor b c))
    (λ b c. refl)
    (λ n ih b c.
    xor_step (bit_xor n b) c
    ∙ ap₂ (λ (x y : ℕ). bit_xor x (c / 2) * 2 + differ y (c % 2)) (half n b) (last_bit n b)
    ∙ ap₂ (λ (x y : ℕ). x * 2 + y) (ih (b / 2) (c / 2)) (differ_assoc n b c)
    ∙ sym (ap₂ (λ (x y : ℕ). bit_xor (n / 2) x * 2 + differ (n % 2) y) (half b c) (last_bit b c))
    ∙ sym (xor_step n (bit_xor b c)))
    a

-- the same word twice leaves nothing
pub xor_cancel : (a b : ℕ) → bit_xor (bit_xor a b) b ≡ a
xor_cancel a b = xor_assoc a b b ∙ ap (bit_xor a) (xor_self b) ∙ xor_zero_r a

-- ---- choosing bits

-- numbers with equal halves and equal last bits are equal
by_halves : (m n : ℕ) → m / 2 ≡ n / 2 → m % 2 ≡ n % 2 → m ≡ n
by_halves m n p q = sym (div-add-mod' m 2) ∙ ap₂ (λ (h l : ℕ). h * 2 + l) p q ∙ div-add-mod' n 2

merged : ℕ → ℕ → ℕ → ℕ
merged x y z = bit_xor (bit_and (bit_xor y z) x) z

-- n is what complements x
chosen : ℕ → ℕ → ℕ → ℕ → ℕ
chosen x n y z = bit_or (bit_and x y) (bit_and n z)

merged-half : (x y z : ℕ) → merged x y z / 2 ≡ merged (x / 2) (y / 2) (z / 2)
unfolding merged
merged-half x y z = xor_shr (bit_and (bit_xor y z) x) z 1 ∙ rw (and_shr (bit_xor y z) x 1, xor_shr y z 1)

merged-last : (x y z : ℕ) → merged x y z % 2 ≡ merged (x % 2) (y % 2) (z % 2)
unfolding merged
merged-last x y z = xor_mod (bit_and (bit_xor y z) x) z 1 ∙ rw (and_mod (bit_xor y z) x 1, xor_mod y z 1)

chosen-half : (x n y z : ℕ) → chosen x n y z / 2 ≡ chosen (x / 2) (n / 2) (y / 2) (z / 2)
unfolding chosen
chosen-half x n y z = or_shr (bit_and x y) (bit_and n z) 1 ∙ rw (and_shr x y 1, and_shr n z 1)

chosen_last : (x n y z : ℕ) → chosen x n y z % 2 ≡ chosen (x % 2) (n % 2) (y % 2) (z % 2)
unfolding chosen
chosen_last x n y z = or_mod (bit_and x y) (bit_and n z) 1 ∙ rw (and_mod x y 1, and_mod n z 1)

same_bit : (x y z : ℕ) → merged (x % 2) (y % 2) (z % 2) ≡ chosen (x % 2) (1 - x % 2) (y % 2) (z % 2)
unfolding merged chosen
same_bit x y z =
    by_bit (λ a. merged a (y % 2) (z % 2) ≡ chosen a (1 - a) (y % 2) (z % 2))
    (by_bit (λ b. merged 0 b (z % 2) ≡ chosen 0 1 b (z % 2))
    (by_bit (λ c. merged 0 0 c ≡ chosen 0 1 0 c) refl refl z)
    (by_bit (λ c. merged 0 1 c ≡ chosen 0 1 1 c) refl refl z)
    y)
    (by_bit (λ b. merged 1 b (z % 2) ≡ chosen 1 0 b (z % 2))
    (by_bit (λ c. merged 1 0 c ≡ chosen 1 0 0 c) refl refl z)
    (by_bit (λ c. merged 1 1 c ≡ chosen 1 0 1 c) refl refl z)
    y)
    x

merged-chosen : (k x y z : ℕ) → x < 2 ^ k → y < 2 ^ k → z < 2 ^ k → merged x y z ≡ chosen x (2 ^ k - 1 - x) y z
unfolding merged chosen
merged-chosen zero x y z a b c = rw (lt-one a, lt-one b, lt-one c)
merged-chosen (suc k) x y z a b c =
    let p = pow-suc 2 k in
    let n : (2 ^ suc k - 1 - x) / 2 ≡ 2 ^ k - 1 - x / 2 = omega arith in
    let m : (2 ^ suc k - 1 - x) % 2 ≡ 1 - x % 2 = omega arith in
    by_halves (merged x y z) (chosen x (2 ^ suc k - 1 - x) y z)
    (merged-half x y z
    ∙ merged-chosen k (x / 2) (y / 2) (z / 2) (omega arith) (omega arith) (omega arith)
    ∙ rw (chosen-half x (2 ^ suc k - 1 - x) y z, n))
    (merged-last x y z ∙ same_bit x y z ∙ rw (chosen_last x (2 ^ suc k - 1 - x) y z, m))

-- the bits of y where x has ones, and of z elsewhere, by exclusive or
pub choice-by_xor : (x y z : ℕ) → x < 2 ^ 32 → y < 2 ^ 32 → z < 2 ^ 32
    → bit_xor (bit_and (bit_xor y z) x) z ≡ bit_or (bit_and x y) (bit_and (2 ^ 32 - 1 - x) z)
unfolding merged chosen
choice-by_xor = merged-chosen 32
