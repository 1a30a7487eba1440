-- A number of eight bytes in a row of 32-bit words: it may begin at any byte of a word, and then reaches over three words.
use Rattle.std.specs.Prelude.{◌≡◌, ℕ, zero, suc, ◌+◌, ◌-◌, ◌*◌, ◌/◌, ◌%◌, ◌^◌, ◌<◌, ◌≤◌, ◌⊎◌, List, [], ◌++◌, length, replicate, ◌==◌, ◌≢◌, nat_lt, slice_index, slice_set, refl}
use Rattle.std.proofs.Common.{sym, ap, ◌∙◌, append-nil, inl, inr, zero-add, add-zero, zero-mul, zero-lt-suc, lt_of_lt_of_le, arith, eqb-true, ltb-true, ltb-false, length-set, length-append, shr_lt, get_or-set_same, get_or-set_other}
use Rattle.std.proofs.Math.Nat.{pow-le-pow_right}
use Rattle.std.proofs.lemmas.Bool.{eqb-false}
use Rattle.std.proofs.lemmas.List.{length-replicate}
use Rattle.std.proofs.Math.ListN.{get_or-append, get_or-eq_default}
use Rattle.words.specs.Bytes.{AreBytes, be_at, be_bytes}
use Rattle.words.specs.BytesLaws.{be_at-lt, be_at-split, be_at-be_bytes, length-be_bytes}
use Rattle.words.specs.BoolLaws.{by-test}
use Rattle.words.specs.SumLaws.{zero_get, bytes_zeros, be_at_zeros}
use Rattle.words.specs.SwapLaws.{bytes-append, bytes-be_bytes}
use Rattle.otp.specs.StepWords.{span_word, spanned}

pub high_fits : (n bits : ℕ) → n < 2 ^ 64 → n / 2 ^ (32 + bits) < 2 ^ 32
high_fits n bits h = let wider : 64 ≤ 32 + (32 + bits) = omega arith in shr_lt 32 (32 + bits) (lt_of_lt_of_le h (pow-le-pow_right (zero-lt-suc 1) wider))

module _ (n bits i : ℕ) where
  pub span_first : i ≡ 0 → n / 2 ^ (32 + bits) ≡ span_word n bits i
  unfolding span_word
  span_first e = rw e

  pub span_second : i ≡ 1 → n / 2 ^ bits % 2 ^ 32 ≡ span_word n bits i
  unfolding span_word
  span_second e = rw e

-- 64 bits hold what the lowest 32 need
pub span_third : (n bits i : ℕ) → (i ≢ 0) → (i ≢ 1) → n * 2 ^ (32 - bits) % 2 ^ 64 % 2 ^ 32 ≡ span_word n bits i
unfolding span_word
span_third n bits zero a b = absurd (a refl)
span_third n bits (suc zero) a b = absurd (b refl)
span_third n bits (suc (suc i)) a b = low (n * 2 ^ (32 - bits))
  where
    low : (x : ℕ) → x % 2 ^ 64 % 2 ^ 32 ≡ x % 2 ^ 32
    low x = omega arith

-- the bytes of n from byte at on, behind zeros
abbrev pub placed : ℕ → ℕ → List ℕ
placed at n = replicate at 0 ++ be_bytes 8 n

-- three words that are n's eight bytes behind r zeros
three-words : (r n a b c : ℕ) → r < 4 → a < 2 ^ 32 → b < 2 ^ 32 → c < 2 ^ 32 → a * 2 ^ 64 + (b * 2 ^ 32 + c) ≡ n * 256 ^ (4 - r)
    → (a ≡ span_word n (8 * r) 0) × ((b ≡ span_word n (8 * r) 1) × (c ≡ span_word n (8 * r) 2))
unfolding span_word
three-words zero n a b c h p q s e = (omega arith, (omega arith, omega arith))
three-words (suc zero) n a b c h p q s e = (omega arith, (omega arith, omega arith))
three-words (suc (suc zero)) n a b c h p q s e = (omega arith, (omega arith, omega arith))
three-words (suc (suc (suc zero))) n a b c h p q s e = (omega arith, (omega arith, omega arith))
three-words (suc (suc (suc (suc r)))) n a b c h p q s e = absurd (omega arith)

module _ (at n : ℕ) where
  placed-bytes : AreBytes (placed at n)
  placed-bytes = bytes-append (replicate at 0) (be_bytes 8 n) (bytes_zeros at) (bytes-be_bytes 8 n)

  placed-before : (i : ℕ) → i < at → slice_index (placed at n) i ≡ 0
  placed-before i h = get_or-append (replicate at 0) (be_bytes 8 n) 0 i (rw (length-replicate at) h) ∙ zero_get at i

  placed-length : length (placed at n) ≡ at + 8
  placed-length = rw (length-append, length-replicate at, length-be_bytes 8 n)

  placed-behind : (i : ℕ) → at + 8 ≤ i → slice_index (placed at n) i ≡ 0
  placed-behind i h = get_or-eq_default (placed at n) 0 (rw placed-length h)

-- what is none of three consecutive ones lies before or behind them
outside : (i j : ℕ) → (i ≢ j) → (i ≢ j + 1) → (i ≢ j + 2) → (i < j) ⊎ (j + 2 < i)
outside i j a b c = by-test (nat_lt i j) (λ t. inl (ltb-true i j t)) (λ t. let h : j ≤ i = ltb-false i j t in inr (omega arith))

-- the three words hold n, and the others nothing
module _ (at n : ℕ) (h : n < 2 ^ 64) where
  abbrev word_at : ℕ → ℕ
  word_at i = be_at 4 (placed at n) (4 * i)

  word_lt : (i : ℕ) → word_at i < 2 ^ 32
  word_lt i = be_at-lt 4 (placed at n) (4 * i) (placed-bytes at n)

  twelve_bytes : be_at 12 (placed at n) (4 * (at / 4)) ≡ n * 256 ^ (4 - at % 4)
  twelve_bytes =
      let s = placed at n in
      let r = at % 4 in
      let p = 4 * (at / 4) in
      let size : 12 ≡ r + (8 + (4 - r)) = omega arith in
      let begin : p + r ≡ at = omega arith in
      let before : be_at r s p ≡ 0 = be_at_zeros r s p (λ i l. placed-before at n (p + i) (omega arith)) in
      let here : be_at 8 s at ≡ n = rw (append-nil (be_bytes 8 n)) at (be_at-be_bytes 8 (replicate at 0) [] at n (length-replicate at 0) h) in
      let behind : be_at (4 - r) s (at + 8) ≡ 0 = be_at_zeros (4 - r) s (at + 8) (λ i l. placed-behind at n (at + 8 + i) (omega arith)) in
      ap (λ (k : ℕ). be_at k s p) size ∙ be_at-split r (8 + (4 - r)) s p
      ∙ rw (before, begin, be_at-split 8 (4 - r) s at, here, behind, zero-mul, zero-add, add-zero)

  three_parts : be_at 12 (placed at n) (4 * (at / 4)) ≡ word_at (at / 4) * 2 ^ 64 + (word_at (at / 4 + 1) * 2 ^ 32 + word_at (at / 4 + 2))
  three_parts =
      let s = placed at n in
      let p = 4 * (at / 4) in
      let second : p + 4 ≡ 4 * (at / 4 + 1) = omega arith in
      let third : 4 * (at / 4 + 1) + 4 ≡ 4 * (at / 4 + 2) = omega arith in
      be_at-split 4 8 s p ∙ rw (second, be_at-split 4 4 s (4 * (at / 4 + 1)), third)

  span_words : (word_at (at / 4) ≡ span_word n (8 * (at % 4)) 0) × ((word_at (at / 4 + 1) ≡ span_word n (8 * (at % 4)) 1) × (word_at (at / 4 + 2) ≡ span_word n (8 * (at % 4)) 2))
  span_words =
      three-words (at % 4) n (word_at (at / 4)) (word_at (at / 4 + 1)) (word_at (at / 4 + 2)) (omega arith)
      (word_lt (at / 4)) (word_lt (at / 4 + 1)) (word_lt (at / 4 + 2)) (sym three_parts ∙ twelve_bytes)

  no_word : (i : ℕ) → (i < at / 4) ⊎ (at / 4 + 2 < i) → word_at i ≡ 0
  no_word i (inl l) = be_at_zeros 4 (placed at n) (4 * i) (λ k m. placed-before at n (4 * i + k) (omega arith))
  no_word i (inr l) = be_at_zeros 4 (placed at n) (4 * i) (λ k m. placed-behind at n (4 * i + k) (omega arith))

  -- laid into words of zeros, it is read word by word
  pub span_get : (w : List ℕ) (i : ℕ) → at ≤ 32 → length w ≡ 68 → ((k : ℕ) → slice_index w k ≡ 0) → slice_index (spanned at n w) i ≡ be_at 4 (placed at n) (4 * i)
  span_get w i room l zeros =
      let j = at / 4 in
      let bits = 8 * (at % 4) in
      let w₁ = slice_set w j (span_word n bits 0) in
      let w₂ = slice_set w₁ (j + 1) (span_word n bits 1) in
      let l₁ : length w₁ ≡ 68 = rw length-set l in
      let l₂ : length w₂ ≡ 68 = rw length-set l₁ in
      let three = span_words in
      by-test (i == j + 2)
      (λ t. rw (eqb-true i (j + 2) t) (get_or-set_same w₂ (j + 2) (span_word n bits 2) 0 (omega arith) ∙ sym three.1.1))
      (λ t. let third = eqb-false i (j + 2) t in
      get_or-set_other w₂ (j + 2) i (span_word n bits 2) 0 third
      ∙ by-test (i == j + 1)
      (λ u. rw (eqb-true i (j + 1) u) (get_or-set_same w₁ (j + 1) (span_word n bits 1) 0 (omega arith) ∙ sym three.1.0))
      (λ u. let second = eqb-false i (j + 1) u in
      get_or-set_other w₁ (j + 1) i (span_word n bits 1) 0 second
      ∙ by-test (i == j)
      (λ v. rw (eqb-true i j v) (get_or-set_same w j (span_word n bits 0) 0 (omega arith) ∙ sym three.0))
      (λ v. let first = eqb-false i j v in
      get_or-set_other w j i (span_word n bits 0) 0 first ∙ zeros i ∙ sym (no_word i (outside i j first second third)))))
