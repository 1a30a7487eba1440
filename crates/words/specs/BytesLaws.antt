-- Laws of numbers in bytes, each for every width.
use Rattle.std.specs.Prelude.{ℕ, zero, suc, ◌+◌, ◌-◌, ◌*◌, ◌/◌, ◌%◌, ◌^◌, ◌≤◌, ◌<◌, ◌≡◌, refl, ◌⊎◌, List, [], ◌∷◌, ◌++◌, length, get_or, set, take, drop, replicate}
use Rattle.std.proofs.Common.{sym, ap, ap₂, ◌∙◌, inl, inr, append_assoc, append-nil, add-suc, add-zero, zero-add, suc-add, add_assoc, pow-suc, lt_of_lt_of_le, le_trans, zero-lt-suc, not-suc-le-zero, mul_assoc, mul_comm, div-one, mod-lt, mod-eq_of_lt, add-one, arith, length-set, length-append, length-drop, get_or-take, get_or-drop, take-append-drop, length-take-le, drop-set-lt, get_or-set_same, get_or-set_other, drop-cons, take_at, drop_at, drop-drop}
use Rattle.std.proofs.Math.Nat.{mod-one, one-le-pow, pow-le-pow_right, le-suc, div-div-eq-div-mul}
use Rattle.std.proofs.Math.Arith.{digits_lt, mod-mul}
use Rattle.std.proofs.lemmas.List.{length-replicate, take-set-le, set-get_or}
use Rattle.words.specs.Bytes.{AreBytes, be_at, be_bytes, put, put_be}

pub be_at-lt : (k : ℕ) (s : List ℕ) (at : ℕ) → AreBytes s → be_at k s at < 256 ^ k
unfolding be_at
be_at-lt zero s at h = zero-lt-suc 0
be_at-lt (suc k) s at h = rw pow-suc (digits_lt (be_at-lt k s at h) (h (at + k)))

-- the k bytes from at on, as a part of their own
module _ (s : List ℕ) (at k : ℕ) where
  pub part-length : at + k ≤ length s → length (take (at + k - at) (drop at s)) ≡ k
  part-length h =
      let e : at + k - at ≡ k = omega arith in
      let m : k ≤ length (drop at s) = rw length-drop (omega arith) in
      rw e (length-take-le k (drop at s) m)

  pub part_byte : (i : ℕ) → i < k → get_or (take (at + k - at) (drop at s)) i 0 ≡ get_or s (at + i) 0
  part_byte i h = let e : at + k - at ≡ k = omega arith in rw (e, get_or-take) (get_or-drop at s i 0)

-- one more byte
pub byte_more : (i : ℕ) {x b : ℕ} → x < 256 ^ i → b < 256 → x * 256 + b < 256 ^ (i + 1)
byte_more i h l = rw (add-one, pow-suc) (digits_lt h l)

-- eight bytes fit 64 bits
pub eight_fit : (i : ℕ) {x : ℕ} → i ≤ 8 → x < 256 ^ i → x < 2 ^ 64
eight_fit i h l = lt_of_lt_of_le l (pow-le-pow_right (zero-lt-suc 255) h)

-- the number depends on its k bytes alone
pub be_at-agree : (k : ℕ) (s t : List ℕ) (at by : ℕ) → ((i : ℕ) → i < k → get_or s (at + i) 0 ≡ get_or t (by + i) 0) → be_at k s at ≡ be_at k t by
unfolding be_at
be_at-agree zero s t at by h = refl
be_at-agree (suc k) s t at by h = ap₂ (λ (x y : ℕ). x * 256 + y) (be_at-agree k s t at by (λ i l. h i (le_trans l (le-suc k)))) (h k (omega arith))

pub length-be_bytes : (k x : ℕ) → length (be_bytes k x) ≡ k
unfolding be_bytes
length-be_bytes zero x = refl
length-be_bytes (suc k) x = length-append (be_bytes k (x / 256)) (x % 256 ∷ []) ∙ rw (length-be_bytes k (x / 256)) (add-one k)

pub length-put_be : (k : ℕ) (s : List ℕ) (at x : ℕ) → length (put_be k s at x) ≡ length s
unfolding put_be
length-put_be zero s at x = refl
length-put_be (suc k) s at x = length-put_be k (set s (at + k) (x % 256)) at (x / 256) ∙ length-set s (at + k) (x % 256)

-- the last byte is stored first
pub put_be-last : (k : ℕ) (s : List ℕ) (at x : ℕ) → 0 < k → put_be k s at x ≡ put_be (k - 1) (set s (at + (k - 1)) (x % 256)) at (x / 256)
unfolding put_be
put_be-last zero s at x h = absurd (not-suc-le-zero h)
put_be-last (suc k) s at x h = let e : suc k - 1 ≡ k = omega arith in rw e

pub put_be-none : (k : ℕ) (s : List ℕ) (at x : ℕ) → k ≤ 0 → put_be k s at x ≡ s
unfolding put_be
put_be-none k s at x h = let e : k ≡ 0 = omega arith in rw e

-- a store replaces k bytes and keeps the rest
pub put_be-is : (k : ℕ) (s : List ℕ) (at x : ℕ) → at + k ≤ length s → put_be k s at x ≡ take at s ++ (be_bytes k x ++ drop (at + k) s)
unfolding put_be be_bytes
put_be-is zero s at x h = rw add-zero (sym (take-append-drop at s))
put_be-is (suc k) s at x h =
    let l : at + k < length s = omega arith in
    put_be-is k (set s (at + k) (x % 256)) at (x / 256) (rw length-set (omega arith))
    ∙ ap₂ (λ (p q : List ℕ). p ++ (be_bytes k (x / 256) ++ q)) (take-set-le at s (at + k) (x % 256) (omega arith)) (after s (at + k) (x % 256) l)
    ∙ rw (add-suc, append_assoc (be_bytes k (x / 256)) (x % 256 ∷ []) (drop (suc (at + k)) s))
  where
    after : (s : List ℕ) (j v : ℕ) → j < length s → drop j (set s j v) ≡ v ∷ drop (suc j) s
    after s j v l =
        drop-cons (set s j v) j 0 (rw length-set l)
        ∙ ap₂ (λ (y : ℕ) (q : List ℕ). y ∷ q) (get_or-set_same s j v 0 l) (drop-set-lt (suc j) s j v (omega arith))

pub put_be-put : (k : ℕ) (s : List ℕ) (at x : ℕ) → at + k ≤ length s → put_be k s at x ≡ put s at (be_bytes k x)
put_be-put k s at x h = put_be-is k s at x h ∙ rw (length-be_bytes k x)

-- a store where k bytes stand between two lists
pub put_be_seam : (k : ℕ) (p q t : List ℕ) (at x : ℕ) → length p ≡ at → length q ≡ k → put_be k (p ++ (q ++ t)) at x ≡ p ++ (be_bytes k x ++ t)
put_be_seam k p q t at x l m =
    put_be-is k (p ++ (q ++ t)) at x (rw (length-append, length-append, l, m) (omega arith))
    ∙ ap₂ (λ (a b : List ℕ). a ++ (be_bytes k x ++ b)) (take_at p (q ++ t) at l) (rw (← drop-drop k at, drop_at p (q ++ t) at l) (drop_at q t k m))

-- a store behind a list
pub set-behind : (p s : List ℕ) (n v : ℕ) {at : ℕ} → length p ≡ at → set (p ++ s) (at + n) v ≡ p ++ set s n v
set-behind [] s n v e = rw (← e, zero-add n)
set-behind (y ∷ p) s n v e = rw (← e, suc-add) (ap (λ (t : List ℕ). y ∷ t) (set-behind p s n v refl))

pub put_be-behind : (k : ℕ) (p s : List ℕ) (n x : ℕ) {at : ℕ} → length p ≡ at → put_be k (p ++ s) (at + n) x ≡ p ++ put_be k s n x
unfolding put_be
put_be-behind zero p s n x e = refl
put_be-behind (suc k) p s n x {at} e = rw (add_assoc at n k, set-behind p s (n + k) (x % 256) e) (put_be-behind k p (set s (n + k) (x % 256)) n (x / 256) e)

-- a store elsewhere leaves an element
pub get_or-put_be : (k : ℕ) (s : List ℕ) (at x i : ℕ) → (i < at) ⊎ (at + k ≤ i) → get_or (put_be k s at x) i 0 ≡ get_or s i 0
unfolding put_be
get_or-put_be zero s at x i apart = refl
get_or-put_be (suc k) s at x i (inl l) =
    get_or-put_be k (set s (at + k) (x % 256)) at (x / 256) i (inl l) ∙ get_or-set_other s (at + k) i (x % 256) 0 (λ e. omega arith)
get_or-put_be (suc k) s at x i (inr l) =
    get_or-put_be k (set s (at + k) (x % 256)) at (x / 256) i (inr (omega arith)) ∙ get_or-set_other s (at + k) i (x % 256) 0 (λ e. omega arith)

-- what was stored is read back, without what k bytes do not hold
pub be_at-put_be : (k : ℕ) (s : List ℕ) (at x : ℕ) → at + k ≤ length s → be_at k (put_be k s at x) at ≡ x % 256 ^ k
unfolding be_at put_be
be_at-put_be zero s at x h = sym (mod-one x)
be_at-put_be (suc k) s at x h =
    ap₂ (λ (q r : ℕ). q * 256 + r)
    (be_at-put_be k (set s (at + k) (x % 256)) at (x / 256) (rw length-set (omega arith)))
    (get_or-put_be k (set s (at + k) (x % 256)) at (x / 256) (at + k) (inr (omega arith)) ∙ get_or-set_same s (at + k) (x % 256) 0 (omega arith))
    ∙ rw pow-suc (sym (mod-mul x (one-le-pow k 256 (zero-lt-suc 255)) (zero-lt-suc 255)))

-- the bytes of a number are read as that number
pub be_at-be_bytes : (k : ℕ) (p q : List ℕ) (at x : ℕ) → length p ≡ at → x < 256 ^ k → be_at k (p ++ (be_bytes k x ++ q)) at ≡ x
be_at-be_bytes k p q at x l h =
    rw (← put_be_seam k p (replicate k 0) q at x l (length-replicate k 0))
    (be_at-put_be k (p ++ (replicate k 0 ++ q)) at x (rw (length-append, length-append, length-replicate, l) (omega arith)) ∙ mod-eq_of_lt h)

-- storing the number that is there changes nothing
pub put_be-be_at : (k : ℕ) (s : List ℕ) (at : ℕ) → AreBytes s → put_be k s at (be_at k s at) ≡ s
unfolding be_at put_be
put_be-be_at zero s at h = refl
put_be-be_at (suc k) s at h =
    let b = h (at + k) in
    let q : (be_at k s at * 256 + get_or s (at + k) 0) / 256 ≡ be_at k s at = omega arith in
    let r : (be_at k s at * 256 + get_or s (at + k) 0) % 256 ≡ get_or s (at + k) 0 = omega arith in
    rw (r, q, set-get_or s (at + k) 0) (put_be-be_at k s at h)

-- the bytes of the number that is read
pub be_bytes-be_at : (k : ℕ) (s : List ℕ) (at : ℕ) → AreBytes s → at + k ≤ length s → be_bytes k (be_at k s at) ≡ take k (drop at s)
be_bytes-be_at k s at h l =
    let b = be_bytes k (be_at k s at) in
    let whole : s ≡ take at s ++ (b ++ drop (at + k) s) = sym (put_be-be_at k s at h) ∙ put_be-is k s at (be_at k s at) l in
    let back : drop at (take at s ++ (b ++ drop (at + k) s)) ≡ b ++ drop (at + k) s = drop_at (take at s) (b ++ drop (at + k) s) at (length-take-le at s (omega arith)) in
    sym (ap (λ (t : List ℕ). take k (drop at t)) whole ∙ ap (take k) back ∙ take_at b (drop (at + k) s) k (length-be_bytes k (be_at k s at)))

-- ---- a number in two parts

pub be_at-split : (j k : ℕ) (s : List ℕ) (at : ℕ) → be_at (j + k) s at ≡ be_at j s at * 256 ^ k + be_at k s (at + j)
unfolding be_at
be_at-split j zero s at = let e : be_at j s at * 1 + 0 ≡ be_at j s at = omega arith in rw (add-zero j) (sym e)
be_at-split j (suc k) s at =
    let ih = be_at-split j k s at in
    let p : be_at j s at * (256 ^ k * 256) ≡ be_at j s at * 256 ^ k * 256 = sym (mul_assoc (be_at j s at) (256 ^ k) 256) in
    let q : at + (j + k) ≡ at + j + k = omega arith in
    rw (add-suc, ih, pow-suc, p, q) (omega arith)

pub be_bytes-split : (j k x : ℕ) → be_bytes (j + k) x ≡ be_bytes j (x / 256 ^ k) ++ be_bytes k x
unfolding be_bytes
be_bytes-split j zero x = rw (add-zero j, div-one x) (sym (append-nil (be_bytes j x)))
be_bytes-split j (suc k) x =
    let e : x / 256 / 256 ^ k ≡ x / (256 ^ k * 256) = div-div-eq-div-mul x 256 (256 ^ k) ∙ rw (mul_comm 256 (256 ^ k)) in
    rw (add-suc, be_bytes-split j k (x / 256), pow-suc, e) (append_assoc (be_bytes j (x / (256 ^ k * 256))) (be_bytes k (x / 256)) (x % 256 ∷ []))

-- k bytes hold a number without what lies above them
pub be_bytes-mod : (k x : ℕ) → be_bytes k (x % 256 ^ k) ≡ be_bytes k x
unfolding be_bytes
be_bytes-mod zero x = refl
be_bytes-mod (suc k) x =
    let m = mod-mul x (one-le-pow k 256 (zero-lt-suc 255)) (zero-lt-suc 255) in
    let h : x % (256 ^ k * 256) / 256 ≡ x / 256 % 256 ^ k = omega (arith, mod-lt x (zero-lt-suc 255)) in
    let l : x % (256 ^ k * 256) % 256 ≡ x % 256 = omega (arith, mod-lt x (zero-lt-suc 255)) in
    rw (pow-suc, h, l, be_bytes-mod k (x / 256))

-- a word is read back from its four bytes
pub word_back : (x : ℕ) → x < 2 ^ 32 → be_at 4 (be_bytes 4 x) 0 ≡ x
unfolding be_at be_bytes
word_back x h = omega arith
