-- Laws of numbers with the lowest byte first, and of bytes in the other order.
use Rattle.std.specs.Prelude.{ℕ, zero, suc, ◌+◌, ◌-◌, ◌*◌, ◌/◌, ◌%◌, ◌^◌, ◌≤◌, ◌<◌, ◌≡◌, refl, Bool, true, false, ◌&&◌, ◌||◌, List, [], ◌∷◌, ◌++◌, eqb, ltb, length, get_or, take, drop}
use Rattle.std.proofs.Common.{sym, ap, ap₂, ◌∙◌, append-nil, add-zero, zero-add, pow-suc, mul_assoc, mod-lt, zero-lt-suc, mul-one, add-one, arith, ltb-false, eqb-true, eq-eqb, ne_eqb, length-drop, take-append-drop, drop-cons, take-add, drop-drop}
use Rattle.std.proofs.Math.Nat.{div-div-eq-div-mul}
use Rattle.std.proofs.lemmas.Bool.{eqb-false}
use Rattle.std.proofs.Math.Seq.{take-length}
use Rattle.std.specs.Int.{w64, from_le_bytes}
use Rattle.std.specs.Int.{swap_bytes as int_swap}
use Rattle.words.specs.Bytes.{AreBytes, be_at, le_at, swap_bytes, be_bytes}
use Rattle.words.specs.BytesLaws.{be_at-split, be_at-be_bytes}
use Rattle.words.specs.Lists.{all_zero}
use Rattle.words.specs.BoolLaws.{and_assoc, by-test, impossible}

-- the first byte apart
pub le_at-front : (k : ℕ) (s : List ℕ) (at : ℕ) → le_at (suc k) s at ≡ get_or s at 0 + 256 * le_at k s (suc at)
unfolding le_at
le_at-front zero s at = rw (add-zero at) (omega arith)
le_at-front (suc k) s at =
    let g = get_or s (at + suc k) 0 in
    let e : suc at + k ≡ at + suc k = omega arith in
    let p : g * (256 ^ k * 256) ≡ g * 256 ^ k * 256 = sym (mul_assoc g (256 ^ k) 256) in
    rw (le_at-front k s at, pow-suc, p, e) (omega arith)

-- eight bytes, as the library's `from_le_bytes` reads them
pub le-eight : (s : List ℕ) (at : ℕ) → from_le_bytes w64 (get_or s at 0 ∷ get_or s (at + 1) 0 ∷ get_or s (at + 2) 0 ∷ get_or s (at + 3) 0 ∷ get_or s (at + 4) 0 ∷ get_or s (at + 5) 0 ∷ get_or s (at + 6) 0 ∷ get_or s (at + 7) 0 ∷ []) ≡ le_at 8 s at
unfolding le_at
le-eight s at = rw add-zero (omega arith)

-- ---- the bytes in the other order

-- eight bytes, as the library swaps them
pub swap-eight : (x : ℕ) → int_swap w64 x ≡ swap_bytes 8 x
unfolding swap_bytes
swap-eight x =
    let e₂ : x / 256 / 256 ≡ x / 2 ^ 16 = div-div-eq-div-mul x 256 256 in
    let e₃ : x / 256 / 256 / 256 ≡ x / 2 ^ 24 = ap (λ (y : ℕ). y / 256) e₂ ∙ div-div-eq-div-mul x (2 ^ 16) 256 in
    let e₄ : x / 256 / 256 / 256 / 256 ≡ x / 2 ^ 32 = ap (λ (y : ℕ). y / 256) e₃ ∙ div-div-eq-div-mul x (2 ^ 24) 256 in
    let e₅ : x / 256 / 256 / 256 / 256 / 256 ≡ x / 2 ^ 40 = ap (λ (y : ℕ). y / 256) e₄ ∙ div-div-eq-div-mul x (2 ^ 32) 256 in
    let e₆ : x / 256 / 256 / 256 / 256 / 256 / 256 ≡ x / 2 ^ 48 = ap (λ (y : ℕ). y / 256) e₅ ∙ div-div-eq-div-mul x (2 ^ 40) 256 in
    let e₇ : x / 256 / 256 / 256 / 256 / 256 / 256 / 256 ≡ x / 2 ^ 56 = ap (λ (y : ℕ). y / 256) e₆ ∙ div-div-eq-div-mul x (2 ^ 48) 256 in
    rw (e₇, e₆, e₅, e₄, e₃, e₂, mul-one, add-zero) (omega arith)

-- what was read lowest byte first
pub swap_le : (k : ℕ) (s : List ℕ) (at : ℕ) → AreBytes s → swap_bytes k (le_at k s at) ≡ be_at k s at
unfolding swap_bytes be_at
swap_le zero s at h = refl
swap_le (suc k) s at h =
    let b = h at in
    let front = le_at-front k s at in
    let r : le_at (suc k) s at % 256 ≡ get_or s at 0 = omega arith in
    let q : le_at (suc k) s at / 256 ≡ le_at k s (suc at) = omega arith in
    let e : 1 + k ≡ suc k = omega arith in
    let n : at + 1 ≡ suc at = add-one at in
    let split : be_at (suc k) s at ≡ (0 * 256 + get_or s (at + 0) 0) * 256 ^ k + be_at k s (at + 1) = rw e at (be_at-split 1 k s at) in
    rw (r, q, swap_le k s (suc at) h) (sym (rw (n, add-zero at, zero-add) at split))

-- what was read highest byte first
pub swap_be : (k : ℕ) (s : List ℕ) (at : ℕ) → AreBytes s → swap_bytes k (be_at k s at) ≡ le_at k s at
unfolding swap_bytes be_at le_at
swap_be zero s at h = refl
swap_be (suc k) s at h =
    let b = h (at + k) in
    let r : (be_at k s at * 256 + get_or s (at + k) 0) % 256 ≡ get_or s (at + k) 0 = omega arith in
    let q : (be_at k s at * 256 + get_or s (at + k) 0) / 256 ≡ be_at k s at = omega arith in
    rw (r, q, swap_be k s at h) (omega arith)

pub bytes-append : (a b : List ℕ) → AreBytes a → AreBytes b → AreBytes (a ++ b)
bytes-append [] b p q i = q i
bytes-append (x ∷ a) b p q zero = p zero
bytes-append (x ∷ a) b p q (suc i) = bytes-append a b (λ j. p (suc j)) q i

one_byte : (x : ℕ) → AreBytes (x % 256 ∷ [])
one_byte x zero = mod-lt x (zero-lt-suc 255)
one_byte x (suc i) = zero-lt-suc 255

pub bytes-be_bytes : (k x : ℕ) → AreBytes (be_bytes k x)
unfolding be_bytes
bytes-be_bytes zero x = λ i. zero-lt-suc 255
bytes-be_bytes (suc k) x = bytes-append (be_bytes k (x / 256)) (x % 256 ∷ []) (bytes-be_bytes k (x / 256)) (one_byte x)

pub swap_swap : (k x : ℕ) → x < 256 ^ k → swap_bytes k (swap_bytes k x) ≡ x
swap_swap k x h =
    let s = be_bytes k x in
    let whole : be_at k s 0 ≡ x = rw (append-nil s) at (be_at-be_bytes k [] [] 0 x refl h) in
    let once : swap_bytes k x ≡ le_at k s 0 = ap (swap_bytes k) (sym whole) ∙ swap_be k s 0 (bytes-be_bytes k x) in
    ap (swap_bytes k) once ∙ swap_le k s 0 (bytes-be_bytes k x) ∙ whole

eqb_same : (a b c d : ℕ) → (a ≡ b → c ≡ d) → (c ≡ d → a ≡ b) → eqb a b ≡ eqb c d
eqb_same a b c d p q =
    by-test (eqb a b)
    (λ t. t ∙ sym (eq-eqb c d (p (eqb-true a b t))))
    (λ t. t ∙ sym (ne_eqb c d (λ e. eqb-false a b t (q e))))

-- a number may be looked for by its bytes in the other order
pub swapped_same : (k : ℕ) (s : List ℕ) (at x : ℕ) → AreBytes s → x < 256 ^ k → eqb (be_at k s at) x ≡ eqb (le_at k s at) (swap_bytes k x)
swapped_same k s at x h l =
    eqb_same (be_at k s at) x (le_at k s at) (swap_bytes k x)
    (λ e. sym (swap_be k s at h) ∙ ap (swap_bytes k) e)
    (λ e. sym (swap_le k s at h) ∙ ap (swap_bytes k) e ∙ swap_swap k x l)

-- ---- zeros

eqb-sum : (a b : ℕ) → eqb (a + 256 * b) 0 ≡ eqb a 0 && eqb b 0
eqb-sum a b =
    by-test (eqb a 0)
    (λ t. let e = eqb-true a 0 t in rw t (eqb_same (a + 256 * b) 0 b 0 (λ p. omega arith) (λ p. omega arith)))
    (λ t. rw t (ne_eqb (a + 256 * b) 0 (λ p. eqb-false a 0 t (omega arith))))

-- a number is zero where its bytes are
pub zero_number : (k : ℕ) (s : List ℕ) (at : ℕ) → at + k ≤ length s → eqb (le_at k s at) 0 ≡ all_zero (take k (drop at s))
unfolding le_at all_zero
zero_number zero s at h = refl
zero_number (suc k) s at h =
    let l : at < length s = omega arith in
    rw (le_at-front k s at, drop-cons s at 0, eqb-sum, zero_number k s (suc at) (omega arith))

zero-append : (a b : List ℕ) → all_zero (a ++ b) ≡ all_zero a && all_zero b
unfolding all_zero
zero-append [] b = refl
zero-append (x ∷ a) b = rw (zero-append a b) (sym (and_assoc (eqb x 0) (all_zero a) (all_zero b)))

and_overlap : (a b c : Bool) → (a && b) && (b && c) ≡ (a && b) && c
and_overlap true true c = refl
and_overlap true false c = refl
and_overlap false b c = refl

pub neither_end : (n : ℕ) → ltb n 8 || ltb 16 n ≡ false → (8 ≤ n) × (n ≤ 16)
neither_end n t =
    by-test (ltb n 8)
    (λ p. let f : true ≡ false = rw p at t in impossible (cc))
    (λ p. (ltb-false n 8 p, ltb-false 16 n (rw p at t)))

-- eight to sixteen bytes are the first eight and the last eight
pub zero-ends : (s : List ℕ) → 8 ≤ length s → length s ≤ 16 → eqb (le_at 8 s 0) 0 && eqb (le_at 8 s (length s - 8)) 0 ≡ all_zero s
zero-ends s low high =
    let n = length s in
    let m = 16 - n in
    let front = take (n - 8) s in
    let middle = take m (drop (n - 8) s) in
    let back = drop 8 s in
    let e : n - 8 + m ≡ 8 = omega arith in
    let f : m + (n - 8) ≡ 8 = omega arith in
    let first : take 8 s ≡ front ++ middle = rw e at (take-add (n - 8) m s) in
    let behind : drop m (drop (n - 8) s) ≡ back = drop-drop m (n - 8) s ∙ rw (e) in
    let last : drop (n - 8) s ≡ middle ++ back = sym (rw behind at (take-append-drop m (drop (n - 8) s))) in
    let l : length (drop (n - 8) s) ≡ 8 = rw length-drop (omega arith) in
    let rest : take 8 (drop (n - 8) s) ≡ drop (n - 8) s = rw l at (take-length (drop (n - 8) s)) in
    let whole : s ≡ (front ++ middle) ++ back = sym (rw first at (take-append-drop 8 s)) in
    let p : eqb (le_at 8 s 0) 0 ≡ all_zero front && all_zero middle = zero_number 8 s 0 (omega arith) ∙ ap all_zero first ∙ zero-append front middle in
    let q : eqb (le_at 8 s (n - 8)) 0 ≡ all_zero middle && all_zero back = zero_number 8 s (n - 8) (omega arith) ∙ ap all_zero (rest ∙ last) ∙ zero-append middle back in
    ap₂ ◌&&◌ p q
    ∙ and_overlap (all_zero front) (all_zero middle) (all_zero back)
    ∙ sym (ap all_zero whole ∙ zero-append (front ++ middle) back ∙ ap (λ (z : Bool). z && all_zero back) (zero-append front middle))
