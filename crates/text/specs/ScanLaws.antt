-- A search by numbers of eight bytes: the byte that is looked for becomes a zero byte, and the lowest of the marks tells the first zero.
use Rattle.std.specs.Prelude.{◌≡◌, ℕ, zero, suc, ◌+◌, ◌-◌, ◌*◌, ◌/◌, ◌%◌, ◌^◌, ◌<◌, ◌≤◌, cond, List, length, ◌==◌, ◌≢◌, bit_and, bit_xor, slice_index, slice_index_or, refl}
use Rattle.std.proofs.Common.{sym, ap₂, ◌∙◌, add-one, add-zero, zero-lt-suc, eq-eqb, ne_eqb, eqb-true}
use Rattle.std.proofs.Math.Path.{ap}
use Rattle.std.proofs.Math.Nat.{pow-suc, one-le-pow}
use native.Mathlib.Omega.{arith}
use Rattle.std.proofs.lemmas.Bool.{eqb-false}
use Rattle.std.proofs.Math.Arith.{mod-mul}
use Rattle.std.specs.Int.Bits.{and_block, and_lt, xor_self}
use Rattle.std.proofs.lemmas.Nat.{xor_block, xor_lt}
use Rattle.std.specs.Int.Count.{count_trailing_zeros, trailing_of_zero}
use Rattle.std.proofs.Math.Seq.{slice_empty, slice-cons}
use Rattle.words.specs.Search.{index_of, index_after, slice}
use Rattle.words.specs.Bytes.{AreBytes, le_at}
use Rattle.words.specs.ByteBitsLaws.{xor_zero, highest_bit-apart, trailing_shifted, trailing_odd, trailing_lt}
use Rattle.words.specs.BoolLaws.{by-test}
use Rattle.words.specs.SwapLaws.{le_at-front}
use Rattle.text.specs.Steps.{each_byte, first_zero}

-- ---- the marks of the zero bytes

-- highest bits of bytes of x; d is x less 1 in each byte
marks : ℕ → ℕ → ℕ → ℕ
marks k x d = bit_and (bit_and d (256 ^ k - 1 - x)) (each_byte k 128)

module _ (k x d : ℕ) (fits : x < 256 ^ suc k) (less : (d + each_byte (suc k) 1) % 256 ^ suc k ≡ x) where
  -- the lowest byte and the rest apart
  marks-split : marks (suc k) x d ≡ marks k (x / 256) (d / 256) * 256 + bit_and (bit_and (d % 256) (255 - x % 256)) 128
  unfolding marks each_byte
  marks-split =
      let p = pow-suc 256 k in
      let e : d ≡ d / 256 * 256 + d % 256 = omega arith in
      let n : 256 ^ suc k - 1 - x ≡ (256 ^ k - 1 - x / 256) * 256 + (255 - x % 256) = omega arith in
      let low : d % 256 < 256 = omega arith in
      let high : 255 - x % 256 < 256 = omega arith in
      ap (λ (y : ℕ). bit_and y (each_byte (suc k) 128))
      (ap₂ bit_and e n ∙ and_block 8 (d / 256) (256 ^ k - 1 - x / 256) (d % 256) (255 - x % 256) low high)
      ∙ and_block 8 (bit_and (d / 256) (256 ^ k - 1 - x / 256)) (each_byte k 128) (bit_and (d % 256) (255 - x % 256)) 128 (and_lt 8 (d % 256) (255 - x % 256) low high) (omega arith)

  -- the same of the subtraction
  less_split : ((d / 256 + each_byte k 1 + (d % 256 + 1) / 256) % 256 ^ k ≡ x / 256) × ((d + 1) % 256 ≡ x % 256)
  unfolding each_byte
  less_split =
      let n = d + each_byte (suc k) 1 in
      let m : n % (256 ^ k * 256) ≡ n / 256 % 256 ^ k * 256 + n % 256 = mod-mul n (one-le-pow k 256 (zero-lt-suc 255)) (zero-lt-suc 255) in
      let l : n % (256 ^ k * 256) ≡ x = rw (pow-suc 256 k) at less in
      let e : n / 256 ≡ d / 256 + each_byte k 1 + (d % 256 + 1) / 256 = omega arith in
      let q : n / 256 % 256 ^ k ≡ x / 256 = omega arith in
      (rw e at q, omega arith)

  -- a lowest byte that is zero is marked
  marked-here : x % 256 ≡ 0 → count_trailing_zeros (suc k * 8) (marks (suc k) x d) / 8 ≡ 0
  marked-here z =
      let a = marks k (x / 256) (d / 256) in
      let e : d % 256 ≡ 255 = omega (arith, less_split.1) in
      let f : 255 - x % 256 ≡ 255 = omega arith in
      let low : marks (suc k) x d ≡ a * 256 + 128 = marks-split ∙ ap (λ (y : ℕ). a * 256 + y) (ap₂ (λ (y n : ℕ). bit_and (bit_and y n) 128) e f) in
      let m : marks (suc k) x d ≡ (a * 2 + 1) * 2 ^ 7 = omega arith in
      let j : suc k * 8 ≡ 7 + suc (k * 8) = omega arith in
      let odd : (a * 2 + 1) % 2 ≡ 1 = omega arith in
      rw (m, j, trailing_shifted 7 (suc (k * 8)) (a * 2 + 1), trailing_odd (k * 8) (a * 2 + 1) odd)

  -- another is not, and does not change the marks of the rest
  marked-above : 0 < x % 256 → count_trailing_zeros (suc k * 8) (marks (suc k) x d) / 8 ≡ suc (count_trailing_zeros (k * 8) (marks k (x / 256) (d / 256)) / 8)
  marked-above h =
      let a = marks k (x / 256) (d / 256) in
      let e : d % 256 + (255 - x % 256) < 256 = omega (arith, less_split.1) in
      let m : marks (suc k) x d ≡ a * 2 ^ 8 = marks-split ∙ ap (λ (y : ℕ). a * 256 + y) (highest_bit-apart (d % 256) (255 - x % 256) e) ∙ add-zero (a * 256) in
      let j : suc k * 8 ≡ 8 + k * 8 = omega arith in
      rw (m, j, trailing_shifted 8 (k * 8) a) (omega arith)

  rest_less : 0 < x % 256 → (d / 256 + each_byte k 1) % 256 ^ k ≡ x / 256
  rest_less h =
      let e : (d % 256 + 1) / 256 ≡ 0 = omega (arith, less_split.1) in
      rw (e, add-zero) at less_split.0

-- the lowest mark stands in the first zero byte
marks-first : (k x d : ℕ) → x < 256 ^ k → (d + each_byte k 1) % 256 ^ k ≡ x → count_trailing_zeros (k * 8) (marks k x d) / 8 ≡ first_zero k x
unfolding first_zero count_trailing_zeros
marks-first zero x d fits less = refl
marks-first (suc k) x d fits less =
    by-test (x % 256 == 0)
    (λ t. rw t (marked-here k x d fits less (eqb-true (x % 256) 0 t)))
    (λ f. let h : 0 < x % 256 = omega (arith, eqb-false (x % 256) 0 f) in
    let p = pow-suc 256 k in
    rw f (marked-above k x d fits less h ∙ ap suc (marks-first k (x / 256) (d / 256) (omega arith) (rest_less k x d fits less h))))

-- ---- a byte that is looked for

zero-split : (k a c : ℕ) → c < 256 → first_zero (suc k) (a * 256 + c) ≡ cond (c == 0) 0 (suc (first_zero k a))
unfolding first_zero
zero-split k a c h =
    let p : (a * 256 + c) % 256 ≡ c = omega arith in
    let q : (a * 256 + c) / 256 ≡ a = omega arith in
    rw (p, q)

-- where a byte of s is b, exclusive or with b leaves zero
zero_index : (k : ℕ) (s : List ℕ) (at b : ℕ) → AreBytes s → b < 256 → at + k ≤ length s
    → first_zero k (bit_xor (le_at k s at) (each_byte k b)) ≡ index_of b (slice at (at + k) s)
unfolding first_zero each_byte index_of index_after slice
zero_index zero s at b h l within = rw (add-zero at, slice_empty at s)
zero_index (suc k) s at b h l within =
    let c = slice_index_or s at 0 in
    let rest = bit_xor (le_at k s (suc at)) (each_byte k b) in
    let front : le_at (suc k) s at ≡ le_at k s (suc at) * 256 + c = omega (arith, le_at-front k s at) in
    let x : bit_xor (le_at (suc k) s at) (each_byte (suc k) b) ≡ rest * 256 + bit_xor c b =
    ap (λ (y : ℕ). bit_xor y (each_byte (suc k) b)) front ∙ xor_block 8 (le_at k s (suc at)) (each_byte k b) c b (h at) l in
    let n : suc at + k ≡ at + suc k = omega arith in
    let ih : first_zero k rest ≡ index_of b (slice (suc at) (at + suc k) s) = rw n at (zero_index k s (suc at) b h l (omega arith)) in
    ap (first_zero (suc k)) x
    ∙ zero-split k rest (bit_xor c b) (xor_lt 8 c b (h at) l)
    ∙ rw (slice-cons at (at + suc k) s 0 (omega arith) within)
    (by-test (c == b)
    (λ t. rw (t, eq-eqb (bit_xor c b) 0 (ap (λ (y : ℕ). bit_xor y b) (eqb-true c b t) ∙ xor_self b)))
    (λ f. rw (f, ne_eqb (bit_xor c b) 0 (λ e. eqb-false c b f (xor_zero c b e))) (ap suc ih)))

-- a b among the k bytes from at on is the first up to `to`
run-found : (k : ℕ) (s : List ℕ) (at to b : ℕ) → at + k ≤ to → to ≤ length s → index_of b (slice at (at + k) s) < k
    → index_of b (slice at to s) ≡ index_of b (slice at (at + k) s)
unfolding index_of index_after slice
run-found zero s at to b h l e = absurd (omega arith)
run-found (suc k) s at to b h l e =
    let n : suc at + k ≡ at + suc k = omega arith in
    let here = slice-cons at to s 0 (omega arith) l in
    let run = slice-cons at (at + suc k) s 0 (omega arith) (omega arith) in
    by-test (slice_index s at == b)
    (λ t. rw (here, run, t))
    (λ f. let m = rw (run, f) at e in rw (here, run, f) (ap suc (rw n at (run-found k s (suc at) to b (omega arith) l (rw n (omega arith))))))

-- and where they have none it stands behind them
run-passed : (k : ℕ) (s : List ℕ) (at to b : ℕ) → at + k ≤ to → to ≤ length s → k ≤ index_of b (slice at (at + k) s)
    → index_of b (slice at to s) ≡ k + index_of b (slice (at + k) to s)
unfolding index_of index_after slice
run-passed zero s at to b h l e = rw (add-zero at) (omega arith)
run-passed (suc k) s at to b h l e =
    let n : suc at + k ≡ at + suc k = omega arith in
    let here = slice-cons at to s 0 (omega arith) l in
    let run = slice-cons at (at + suc k) s 0 (omega arith) (omega arith) in
    by-test (slice_index s at == b)
    (λ t. let m = rw (run, t) at e in absurd (omega arith))
    (λ f. let m = rw (run, f) at e in
    let ih = rw n at (run-passed k s (suc at) to b (omega arith) l (rw n (omega arith))) in
    rw (here, f) (omega arith))

-- ---- what the functions return

pub eight_marked : (x d : ℕ) → x < 2 ^ 64 → (d + 0x0101_0101_0101_0101) % 2 ^ 64 ≡ x
    → count_trailing_zeros 64 (bit_and (bit_and d (2 ^ 64 - 1 - x)) 0x8080_8080_8080_8080) / 8 ≡ first_zero 8 x
unfolding marks each_byte
eight_marked = marks-first 8

pub eight_index : (s : List ℕ) (at b : ℕ) {word place : ℕ} → AreBytes s → b < 256 → at + 8 ≤ length s → word ≡ le_at 8 s at
    → place ≡ first_zero 8 (bit_xor word (b * 0x0101_0101_0101_0101)) → place ≡ index_of b (slice at (at + 8) s)
unfolding each_byte
eight_index s at b h l within e first =
    let n : b * 0x0101_0101_0101_0101 ≡ each_byte 8 b = omega arith in
    first ∙ ap₂ (λ (x y : ℕ). first_zero 8 (bit_xor x y)) e n ∙ zero_index 8 s at b h l within

module _ (s : List ℕ) (at to b m : ℕ) (within : at + 8 ≤ to) (inside : to ≤ length s) (marked : count_trailing_zeros 64 m / 8 ≡ index_of b (slice at (at + 8) s)) where
  pub some-marked : (m ≢ 0) → m < 2 ^ 64 → index_of b (slice at to s) ≡ count_trailing_zeros 64 m / 8
  some-marked n l =
      let t = trailing_lt 64 m (omega arith) l in
      run-found 8 s at to b within inside (omega arith) ∙ sym marked

  pub none-marked : m ≡ 0 → at + index_of b (slice at to s) ≡ at + 8 + index_of b (slice (at + 8) to s)
  none-marked z =
      let t : count_trailing_zeros 64 m ≡ 64 = ap (count_trailing_zeros 64) z ∙ trailing_of_zero 64 in
      let e = run-passed 8 s at to b within inside (omega arith) in
      omega arith

-- ---- one byte at a time

module _ (s : List ℕ) (at to b : ℕ) where
  pub here_found : at < to → to ≤ length s → slice_index s at ≡ b → at + index_of b (slice at to s) ≡ at
  unfolding index_of index_after slice
  here_found h l e = rw (slice-cons at to s 0 h l, eq-eqb (slice_index s at) b e) (add-zero at)

  pub here_passed : at < to → to ≤ length s → (slice_index s at ≢ b) → at + index_of b (slice at to s) ≡ at + 1 + index_of b (slice (at + 1) to s)
  unfolding index_of index_after slice
  here_passed h l e = rw (slice-cons at to s 0 h l, ne_eqb (slice_index s at) b e, add-one at) (omega arith)

  pub none_left : to ≤ at → at ≤ to → at + index_of b (slice at to s) ≡ to
  unfolding index_of slice
  none_left h l = let e : at ≡ to = omega arith in rw (e, slice_empty to s) (add-zero to)
