-- What a line program needs of decimal numbers, hexadecimal bytes and fields.
use Rattle.std.specs.Prelude.{◌≡◌, ℕ, suc, ◌+◌, ◌-◌, ◌*◌, ◌/◌, ◌%◌, ◌^◌, ◌<◌, ◌≤◌, Bool, true, false, cond, ◌&&◌, List, [], ◌∷◌, ◌++◌, map, length, take, drop, ◌==◌, ◌≢◌, nat_eq, nat_le, nat_lt, Option, Some, None}
use Rattle.std.proofs.Math.Path.{refl}
use Rattle.std.proofs.Common.{sym, ap, ◌∙◌, mul_assoc, mul-le-mul_right, le-add_right, le_trans, zero-lt-suc, add-one, arith, lt-ltb, le-ltb, le-leb, leb-true, ltb-true, ltb-false, eqb-true, length-append}
use Rattle.std.proofs.Math.Nat.{pow-succ', pow-le-pow_right}
use Rattle.std.proofs.lemmas.Bool.{eqb-false}
use Rattle.std.proofs.Math.Dec.{leb-suc-suc}
use Rattle.std.proofs.Math.Seq.{take-append_seam}
use Rattle.words.specs.BoolLaws.{by-test, and_left, and_right, impossible}
use Rattle.words.specs.Search.{index_of, index_after}
use Rattle.text.specs.Text.{digit_value, digits_from, decimal_of, bounded, number_in, byte_then, hex_of, decoded, decoded_of, HexLeft, hex_left, put_front, hex_into, comma, longer, fields_of, behind_commas, joined, sum_lengths}
use Rattle.text.specs.Steps.{all_hex, pairs_of}

none-some : {A B : Type 0} {a : A} → ◌≡◌ {A = Option A} None (Some a) → B
none-some e = impossible (cc)

-- ---- digits

pub from-range : (lo b : ℕ) (t : Bool) → nat_le lo b && t ≡ true → lo ≤ b
from-range lo b t e = leb-true lo b (and_left _ _ e)

-- only the digit zero has the value zero
digit_positive : (b : ℕ) → (b ≢ 0x30) → 0 < digit_value b
unfolding digit_value
digit_positive b n =
    by-test (nat_le 0x30 b && nat_le b 0x39)
    (λ t. let l = from-range 0x30 b (nat_le b 0x39) t in rw t (above b n l))
    (λ f. by-test (nat_le 0x41 b && nat_le b 0x46)
    (λ t. let l = from-range 0x41 b (nat_le b 0x46) t in rw (f, t) (omega arith))
    (λ g. by-test (nat_le 0x61 b && nat_le b 0x66)
    (λ t. let l = from-range 0x61 b (nat_le b 0x66) t in rw (f, g, t) (omega arith))
    (λ h. rw (f, g, h) (omega arith))))
  where
    above : (b : ℕ) → (b ≢ 0x30) → 0x30 ≤ b → 0 < b - 0x30
    above b n l = by-test (b == 0x30) (λ t. absurd (n (eqb-true b 0x30 t))) (λ f. omega (arith, eqb-false b 0x30 f))

-- the decimal digits stand together
pub decimal_range : (b : ℕ) → nat_le 0x30 b && nat_le b 0x39 ≡ nat_lt (digit_value b) 10
unfolding digit_value
decimal_range b =
    by-test (nat_le 0x30 b && nat_le b 0x39)
    (λ t. let l = leb-true b 0x39 (and_right (nat_le 0x30 b) _ t) in rw (t, lt-ltb (b - 0x30) 10 (omega arith)))
    (λ f. by-test (nat_le 0x41 b && nat_le b 0x46)
    (λ t. let l = from-range 0x41 b (nat_le b 0x46) t in rw (f, t, le-ltb (b - 0x37) 10 (omega arith)))
    (λ g. by-test (nat_le 0x61 b && nat_le b 0x66)
    (λ t. let l = from-range 0x61 b (nat_le b 0x66) t in rw (f, g, t, le-ltb (b - 0x57) 10 (omega arith)))
    (λ h. rw (f, g, h))))

-- a decimal digit's value, and where it stands
pub decimal_value : (b : ℕ) → nat_lt (digit_value b) 10 ≡ true → (digit_value b ≡ b - 0x30) × ((0x30 ≤ b) × (b ≤ 0x39))
unfolding digit_value
decimal_value b e =
    let t = decimal_range b ∙ e in
    (rw t, (from-range 0x30 b (nat_le b 0x39) t, leb-true b 0x39 (and_right (nat_le 0x30 b) _ t)))

-- ---- decimal numbers

-- each digit more makes a number at least ten times as large
pub digits_grow : (v : ℕ) (s : List ℕ) {w : ℕ} → digits_from v s ≡ Some w → v * 10 ^ length s ≤ w
unfolding digits_from
digits_grow v [] {w} e = let h : v ≡ w = cc in omega arith
digits_grow v (b ∷ s) e =
    by-test (nat_lt (digit_value b) 10)
    (λ t. rw (pow-succ', ← mul_assoc)
    (le_trans (mul-le-mul_right (10 ^ length s) (le-add_right (v * 10) (digit_value b))) (digits_grow (v * 10 + digit_value b) s (rw t at e))))
    (λ f. none-some (rw f at e))

-- no leading zeros: a number below 10 ^ k has at most k digits
pub decimal_length : (s : List ℕ) (k : ℕ) {v : ℕ} → decimal_of s ≡ Some v → 0 < k → v < 10 ^ k → length s ≤ k
unfolding decimal_of digits_from
decimal_length [] k e p l = omega arith
decimal_length (b ∷ []) k e p l = omega arith
decimal_length (b ∷ c ∷ s) k {v} e p l =
    by-test (b == 0x30)
    (λ t. none-some (rw (t, lt-ltb 0 (suc (length s)) (zero-lt-suc (length s))) at e))
    (λ f. by-test (nat_lt (digit_value b) 10)
    (λ t. let z : 0 * 10 + digit_value b ≡ digit_value b = omega arith in
    let g = rw z at (digits_grow (0 * 10 + digit_value b) (c ∷ s) (rw (f, t) at e)) in
    let d = digit_positive b (eqb-false b 0x30 f) in
    let h = le_trans (mul-le-mul_right (10 ^ length (c ∷ s)) d) g in
    by-test (nat_lt (length (c ∷ s)) k)
    (λ m. omega (arith, ltb-true (length (c ∷ s)) k m))
    (λ m. let q = pow-le-pow_right {n = 10} (zero-lt-suc 9) (ltb-false (length (c ∷ s)) k m) in absurd (omega arith)))
    (λ u. none-some (rw (f, u) at e)))

bounded-value : (o : Option ℕ) {v : ℕ} → bounded o ≡ Some v → (o ≡ Some v) × (v < 2 ^ 64)
unfolding bounded
bounded-value None e = impossible (cc)
bounded-value (Some w) {v} e =
    by-test (nat_lt w (2 ^ 64))
    (λ t. let h : Some w ≡ Some v = rw t at e in
    let same : w ≡ v = cc in
    let l = ltb-true w (2 ^ 64) t in
    (ap Some same, omega arith))
    (λ f. let h : None ≡ Some v = rw f at e in impossible (cc))

-- what `decimal` answers is the number
pub number-value : (s : List ℕ) {v : ℕ} → number_in s ≡ Some v → (decimal_of s ≡ Some v) × (v < 2 ^ 64)
number-value s e = bounded-value (decimal_of s) e

-- ---- hexadecimal bytes

pair_tests : (e p q a : Bool) {x y : ℕ} (s : List ℕ) → (p && q ≡ true → x ≡ y)
    → cond (p && q) (byte_then x (cond (e && a) (Some s) None)) None ≡ cond (e && (p && (q && a))) (Some (y ∷ s)) None
unfolding byte_then
pair_tests true true true true s same = rw (same refl)
pair_tests true true true false s same = refl
pair_tests true true false a s same = refl
pair_tests true false q a s same = refl
pair_tests false true true a s same = refl
pair_tests false true false a s same = refl
pair_tests false false q a s same = refl

-- an even count of digits is the bytes of its pairs, and anything else is wrong
pub hex_is : (s : List ℕ) → hex_of s ≡ cond (length s % 2 == 0 && all_hex (map digit_value s)) (Some (pairs_of (map digit_value s))) None
unfolding hex_of all_hex pairs_of
hex_is [] = refl
hex_is (h ∷ []) = refl
hex_is (h ∷ l ∷ s) =
    let e : suc (suc (length s)) % 2 ≡ length s % 2 = omega arith in
    rw (e, hex_is s)
    (pair_tests (length s % 2 == 0) (nat_lt (digit_value h) 16) (nat_lt (digit_value l) 16) (all_hex (map digit_value s)) (pairs_of (map digit_value s))
    (λ t. let high = ltb-true (digit_value h) 16 (and_left _ _ t) in
    let low = ltb-true (digit_value l) 16 (and_right (nat_lt (digit_value h) 16) _ t) in
    omega arith))

pub length_pairs : (s : List ℕ) → length (pairs_of (map digit_value s)) ≡ length s / 2
unfolding pairs_of
length_pairs [] = refl
length_pairs (h ∷ []) = refl
length_pairs (h ∷ l ∷ s) = let e = length_pairs s in omega arith

module _ (s : List ℕ) {b : List ℕ} (e : hex_of s ≡ Some b) where
  hex_tests : nat_eq (length s % 2) 0 && all_hex (map digit_value s) ≡ true
  hex_tests = by-test (length s % 2 == 0 && all_hex (map digit_value s)) (λ t. t) (λ f. none-some (rw (hex_is, f) at e))

  -- two digits to a byte
  pub hex_length : length s ≡ 2 * length b
  hex_length =
      let even = eqb-true (length s % 2) 0 (and_left _ _ hex_tests) in
      let h : Some (pairs_of (map digit_value s)) ≡ Some b = rw (hex_is, hex_tests) at e in
      let p : pairs_of (map digit_value s) ≡ b = cc in
      let l : length b ≡ length s / 2 = rw (← p) (length_pairs s) in
      omega arith

decoded-front : (o : Option (List ℕ)) {b : List ℕ} → decoded o ≡ Some b → (o ≡ Some b) × (length b ≤ 32)
unfolding decoded
decoded-front None e = impossible (cc)
decoded-front (Some k) {b} e =
    by-test (nat_le (length k) 32)
    (λ t. let h : Some k ≡ Some b = rw t at e in
    let same : k ≡ b = cc in
    (h, rw (← same) (leb-true (length k) 32 t)))
    (λ f. let h : None ≡ Some b = rw f at e in impossible (cc))

-- what `hex` decoded are the bytes
pub hex_decoded : (s : List ℕ) {b : List ℕ} → decoded_of s ≡ Some b → (hex_of s ≡ Some b) × (length b ≤ 32)
hex_decoded s e = decoded-front (hex_of s) e

answered : {a b : HexLeft} → a ≡ b → a.read ≡ b.read
answered e = ap (λ (l : HexLeft). l.read) e

put_front_lem : (o : Option (List ℕ)) (out after : List ℕ) (n : ℕ) → hex_left (Some n) after ≡ put_front o out
    → (o ≡ Some (take n after)) × (n ≤ length after)
unfolding put_front
put_front_lem None out after n e = let h = answered e in impossible (cc)
put_front_lem (Some b) out after n e =
    by-test (nat_le (length b) (length out))
    (λ t. let h : hex_left (Some n) after ≡ hex_left (Some (length b)) (b ++ drop (length b) out) = rw t at e in
    let read = answered h in
    let count : n ≡ length b = cc in
    rw (count, ap (λ (l : HexLeft). l.out) h, take-append_seam b (drop (length b) out), length-append)
    (refl, le-add_right (length b) (length (drop (length b) out))))
    (λ f. let h : Some n ≡ None = answered (rw f at e) in impossible (cc))

put-bad : (o : Option (List ℕ)) (out after : List ℕ) → hex_left None after ≡ put_front o out → ((b : List ℕ) → o ≡ Some b → length b ≤ length out) → o ≡ None
unfolding put_front
put-bad None out after e fits = refl
put-bad (Some b) out after e fits =
    let h : None ≡ Some (length b) = answered (rw (le-leb (length b) (length out) (fits b refl)) at e) in impossible (cc)

module _ (s out : List ℕ) {r : Option ℕ} {after : List ℕ} (read : hex_left r after ≡ hex_into s out) where
  -- what `hex_into` put stands at the front of the output
  pub into_bytes : {n : ℕ} → r ≡ Some n → (hex_of s ≡ Some (take n after)) × (n ≤ length after)
  into_bytes {n} e = put_front_lem (hex_of s) out after n (rw (← e) read)

  -- what it refuses is wrong, where the output has room
  pub into_bad : length s ≤ 2 * length out + 1 → r ≡ None → hex_of s ≡ None
  into_bad l e = put-bad (hex_of s) out after (rw (← e) read) (λ b h. omega (arith, hex_length s h))

-- ---- fields

-- the first field is what stands before the first comma
pub fields-first : (s : List ℕ)
    → fields_of s ≡ take (index_of comma s) s ∷ cond (nat_lt (index_of comma s) (length s)) (fields_of (drop (index_of comma s + 1) s)) []
unfolding fields_of longer index_of index_after
fields-first [] = refl
fields-first (b ∷ s) =
    by-test (b == comma)
    (λ t. rw (t, lt-ltb 0 (suc (length s)) (zero-lt-suc (length s))))
    (λ f. rw (f, fields-first s, leb-suc-suc (suc (index_of comma s)) (length s), add-one (suc (index_of comma s)), add-one (index_of comma s)))

-- the empty line has a field too
pub fields_positive : (line : List ℕ) → 0 < length (fields_of line)
fields_positive line = rw (fields-first line) (omega arith)

-- the fields with the commas between them are the line
pub fields-joined : (line : List ℕ) → joined (fields_of line) ≡ line
unfolding fields_of longer joined behind_commas
fields-joined [] = refl
fields-joined (b ∷ s) =
    let ih = rw (fields-first s) at (fields-joined s) in
    by-test (b == comma)
    (λ t. rw (t, fields-first s, ih) (ap (λ (x : ℕ). x ∷ s) (sym (eqb-true b comma t))))
    (λ f. rw (f, fields-first s, ih))

length-behind : (fs : List (List ℕ)) → length (behind_commas fs) ≡ sum_lengths fs + length fs
unfolding behind_commas sum_lengths
length-behind [] = refl
length-behind (f ∷ fs) = let e = length-behind fs in rw (length-append f (behind_commas fs)) (omega arith)

length-joined : (f : List ℕ) (fs : List (List ℕ)) → length (joined (f ∷ fs)) ≡ sum_lengths (f ∷ fs) + (length (f ∷ fs) - 1)
unfolding joined sum_lengths
length-joined f fs = let e = length-behind fs in rw (length-append f (behind_commas fs)) (omega arith)

-- a line is as long as its fields and the commas between them
pub length_fields : (line : List ℕ) → length line ≡ sum_lengths (fields_of line) + (length (fields_of line) - 1)
length_fields line =
    ap length (sym (fields-joined line))
    ∙ rw (fields-first line) (length-joined (take (index_of comma line) line) (cond (nat_lt (index_of comma line) (length line)) (fields_of (drop (index_of comma line + 1) line)) []))
