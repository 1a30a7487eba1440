-- What the functions on hexadecimal bytes return, over what the functions that they call ensure.
use Rattle.std.specs.Prelude.{◌≡◌, ℕ, zero, suc, ◌+◌, ◌-◌, ◌*◌, ◌/◌, ◌%◌, ◌<◌, ◌≤◌, Bool, true, false, cond, not, ◌&&◌, List, [], ◌∷◌, ◌++◌, map, length, take, drop, replicate, ◌==◌, ◌≢◌, nat_le, nat_lt, slice_index, slice_set, Some, None, refl}
use Rattle.std.proofs.Common.{sym, ◌∙◌, append-nil, add-one, drop_of_length-le, length-set, length-drop, take-append-drop, drop-cons, drop-drop, drop-set-lt, take-suc-set, take_all}
use native.Mathlib.Omega.{arith}
use borrow.Author.Tests.{eq-eqb, ne_eqb, le-leb, lt-leb, leb-true, not-true, not-false}
use Rattle.std.proofs.lemmas.List.{length-map}
use Rattle.std.proofs.Math.Seq.{append_snoc, take-append_seam, drop-append_seam}
use Rattle.words.specs.ListsLaws.{drop-replicate}
use Rattle.words.specs.BoolLaws.{and_left, and_right, and_true, and_false, and_assoc, by-test}
use Rattle.text.specs.Text.{digit_value, decoded, decoded_of, hex_left, put_front, hex_into}
use Rattle.text.specs.Steps.{all_hex, pairs_of}
use Rattle.text.specs.TextLaws.{hex_is, length_pairs}

pub digits-padded : (s : List ℕ) {digits : List ℕ} → digits ≡ s ++ drop (length s) (replicate 64 0x30)
    → digits ≡ s ++ replicate (64 - length s) 0x30
digits-padded s e = e ∙ rw (drop-replicate (length s) 64 0x30)

-- one more digit is valued
pub values_more : (digits values : List ℕ) (i : ℕ) {d : ℕ} → i < length digits → i < length values → d ≡ digit_value (slice_index digits i)
    → take (i + 1) (slice_set values i d) ++ map digit_value (drop (i + 1) digits) ≡ take i values ++ map digit_value (drop i digits)
values_more digits values i l m e =
    rw (add-one i, take-suc-set values i, drop-cons digits i 0 l, e) (append_snoc (take i values) (digit_value (slice_index digits i)) (map digit_value (drop (suc i) digits)))

pub values-end : (digits values : List ℕ) (i : ℕ) → length digits ≤ i → length values ≤ i → take i values ++ map digit_value (drop i digits) ≡ values
values-end digits values i l m = rw (drop_of_length-le digits l, append-nil (take i values)) (take_all i values m)

-- one more value is held to be a digit's
pub all_more : (values : List ℕ) (i : ℕ) (right : Bool) → i < length values
    → right && all_hex (drop i values) ≡ (right && nat_lt (slice_index values i) 16) && all_hex (drop (i + 1) values)
unfolding all_hex
all_more values i right l = rw (add-one, and_assoc, drop-cons values i 0 l)

pub all_end : (values : List ℕ) (i : ℕ) (right : Bool) → length values ≤ i → right && all_hex (drop i values) ≡ right
unfolding all_hex
all_end values i right l = rw (drop_of_length-le values l) (and_true right)

-- one more byte is stored
pub pairs_more : (values bytes : List ℕ) (i : ℕ) → 2 * i + 1 < length values → i < length bytes
    → take (i + 1) (slice_set bytes i (slice_index values (2 * i) % 16 * 16 + slice_index values (2 * i + 1) % 16)) ++ pairs_of (drop (2 * (i + 1)) values)
    ≡ take i bytes ++ pairs_of (drop (2 * i) values)
unfolding pairs_of
pairs_more values bytes i l m =
    let e : 2 * suc i ≡ suc (suc (2 * i)) = omega arith in
    let f : 2 * i + 1 ≡ suc (2 * i) = omega arith in
    let first : 2 * i < length values = omega arith in
    let second : suc (2 * i) < length values = omega arith in
    rw (f, add-one i, e, take-suc-set bytes i, drop-cons values (2 * i) 0, drop-cons values (suc (2 * i)) 0)
    (append_snoc (take i bytes) (slice_index values (2 * i) % 16 * 16 + slice_index values (suc (2 * i)) % 16) (pairs_of (drop (suc (suc (2 * i))) values)))

pub pairs_end : (values bytes : List ℕ) (i : ℕ) → length values ≤ 2 * i → length bytes ≤ i → take i bytes ++ pairs_of (drop (2 * i) values) ≡ bytes
unfolding pairs_of
pairs_end values bytes i l m = rw (drop_of_length-le values l, append-nil (take i bytes)) (take_all i bytes m)

-- zeros behind the digits are right, and the bytes have zeros behind them
padded-all : (s : List ℕ) (k : ℕ) → all_hex (map digit_value (s ++ replicate k 0x30)) ≡ all_hex (map digit_value s)
unfolding all_hex digit_value
padded-all [] zero = refl
padded-all [] (suc k) = padded-all [] k
padded-all (b ∷ s) k = rw (padded-all s k)

padded_pairs : (s : List ℕ) (k : ℕ) → length s % 2 ≡ 0 → pairs_of (map digit_value (s ++ replicate (2 * k) 0x30)) ≡ pairs_of (map digit_value s) ++ replicate k 0
unfolding pairs_of digit_value
padded_pairs [] zero e = refl
padded_pairs [] (suc k) e = let m : 2 * suc k ≡ suc (suc (2 * k)) = omega arith in rw (m, padded_pairs [] k e)
padded_pairs (h ∷ []) k e = absurd (omega arith)
padded_pairs (h ∷ l ∷ s) k e = rw (padded_pairs s k (omega arith))

module _ (s : List ℕ) where
  pub hex_odd : (length s % 2 ≢ 0) → None ≡ decoded_of s
  unfolding decoded
  hex_odd n = rw (hex_is s, ne_eqb (length s % 2) 0 n)

  module _ (even : length s % 2 ≡ 0) where
    pub hex_long : 64 < length s → None ≡ decoded_of s
    unfolding decoded
    hex_long l =
        by-test (all_hex (map digit_value s))
        (λ t. let m : 32 < length s / 2 = omega arith in rw (hex_is s, eq-eqb (length s % 2) 0 even, t, length_pairs s, lt-leb (length s / 2) 32 m))
        (λ f. rw (hex_is s, eq-eqb (length s % 2) 0 even, f))

    module _ (short : length s ≤ 64) {digits values : List ℕ} {right : Bool} (pad : digits ≡ s ++ replicate (64 - length s) 0x30)
        (valued : values ≡ map digit_value digits) (tested : right ≡ all_hex values) where
      tested-digits : right ≡ all_hex (map digit_value s)
      tested-digits = tested ∙ rw (valued, pad) (padded-all s (64 - length s))

      pub hex_wrong : not right ≡ true → None ≡ decoded_of s
      unfolding decoded
      hex_wrong t = rw (hex_is s, eq-eqb (length s % 2) 0 even, ← tested-digits, not-true right t)

      module _ {bytes : List ℕ} (true-digits : not right ≡ false) (paired : bytes ≡ pairs_of values) where
        -- the bytes, and zeros behind them
        padded-bytes : bytes ≡ pairs_of (map digit_value s) ++ replicate (32 - length s / 2) 0
        padded-bytes =
            let m : 64 - length s ≡ 2 * (32 - length s / 2) = omega arith in
            rw (paired, valued, pad, m) (padded_pairs s (32 - length s / 2) even)

        pub hex-zeros : drop (length s / 2) bytes ≡ replicate (32 - length s / 2) 0
        hex-zeros = rw (padded-bytes, ← length_pairs s) (drop-append_seam (pairs_of (map digit_value s)) _)

        pub hex_done : Some (take (length s / 2) bytes) ≡ decoded_of s
        unfolding decoded
        hex_done =
            let h : length s / 2 ≤ 32 = omega arith in
            let front : take (length s / 2) bytes ≡ pairs_of (map digit_value s) = rw (padded-bytes, ← length_pairs s) (take-append_seam (pairs_of (map digit_value s)) _) in
            rw (front, hex_is s, eq-eqb (length s % 2) 0 even, ← tested-digits, not-false right true-digits, length_pairs s, le-leb (length s / 2) 32 h)

-- ---- any count of bytes

value-at : (s : List ℕ) (i : ℕ) → i < length s → slice_index (map digit_value s) i ≡ digit_value (slice_index s i)
value-at [] i l = absurd (omega arith)
value-at (b ∷ s) zero l = refl
value-at (b ∷ s) (suc i) l = value-at s i (omega arith)

-- one more digit is held to be one
pub all-digits_more : (s : List ℕ) (i : ℕ) (right : Bool) {d : ℕ} → i < length s → d ≡ digit_value (slice_index s i)
    → right && all_hex (drop i (map digit_value s)) ≡ (right && nat_lt d 16) && all_hex (drop (i + 1) (map digit_value s))
all-digits_more s i right l e =
    let m : i < length (map digit_value s) = rw length-map l in
    rw (e, ← value-at s i l) (all_more (map digit_value s) i right m)

pub all-digits-end : (s : List ℕ) (i : ℕ) (right : Bool) → length s ≤ i → right && all_hex (drop i (map digit_value s)) ≡ right
all-digits-end s i right l = all_end (map digit_value s) i right (rw length-map l)

pairs_none : (values : List ℕ) → length values ≤ 1 → pairs_of values ≡ []
unfolding pairs_of
pairs_none [] l = refl
pairs_none (h ∷ []) l = refl
pairs_none (h ∷ k ∷ values) l = absurd (omega arith)

-- what the loop of `put_pairs` keeps: the bytes up to i are put, and those behind them are as they were
pub record Putting (s out₀ out : List ℕ) (i : ℕ) : Type 0 where
  pub within : i ≤ length s / 2
  pub size : length out ≡ length out₀
  pub front : take i out ++ pairs_of (drop (2 * i) (map digit_value s)) ≡ pairs_of (map digit_value s)
  pub rest : drop i out ≡ drop i out₀

module _ (s out₀ : List ℕ) (room : length s / 2 ≤ length out₀) where
  pub putting_none : Putting s out₀ out₀ 0
  putting_none = record { within = omega arith; size = refl; front = refl; rest = refl }

  module _ (out : List ℕ) (i : ℕ) (putting : Putting s out₀ out i) where
    pub putting_more : {high low : ℕ} → i < length s / 2 → high ≡ digit_value (slice_index s (2 * i)) → low ≡ digit_value (slice_index s (2 * i + 1))
        → Putting s out₀ (slice_set out i (high % 16 * 16 + low % 16)) (i + 1)
    putting_more l h m =
        let size = putting.size in
        let first : 2 * i < length s = omega arith in
        let second : 2 * i + 1 < length s = omega arith in
        let valued : 2 * i + 1 < length (map digit_value s) = rw length-map second in
        let fits : i < length out = omega arith in
        record {
          within = omega arith;
          size = rw length-set size;
          front =
              rw (h, m, ← value-at s (2 * i) first, ← value-at s (2 * i + 1) second)
              (pairs_more (map digit_value s) out i valued fits ∙ putting.front);
          rest = rw (drop-set-lt (i + 1) out i _ (omega arith), ← drop-drop 1 i out, putting.rest, drop-drop 1 i out₀);
        }

    pub putting_end : length s / 2 ≤ i → out ≡ pairs_of (map digit_value s) ++ drop (length s / 2) out₀
    putting_end l =
        let w = putting.within in
        let e : i ≡ length s / 2 = omega arith in
        let one : length (drop (2 * i) (map digit_value s)) ≤ 1 = rw (length-drop, length-map) (omega arith) in
        rw (← putting.front, pairs_none (drop (2 * i) (map digit_value s)) one, append-nil (take i out), ← e, ← putting.rest) (sym (take-append-drop i out))

put_tests : (even right : Bool) (bytes out : List ℕ)
    → put_front (cond (even && right) (Some bytes) None) out
    ≡ cond ((even && nat_le (length bytes) (length out)) && right) (hex_left (Some (length bytes)) (bytes ++ drop (length bytes) out)) (hex_left None out)
unfolding put_front
put_tests true true bytes out = rw (and_true (nat_le (length bytes) (length out)))
put_tests true false bytes out = rw (and_false (nat_le (length bytes) (length out)))
put_tests false right bytes out = refl

module _ (s out : List ℕ) {right : Bool} (tested : right ≡ all_hex (map digit_value s)) where
  abbrev fits : Bool
  fits = (length s % 2 == 0 && nat_le (length s / 2) (length out)) && right

  into_is : hex_into s out
      ≡ cond fits (hex_left (Some (length s / 2)) (pairs_of (map digit_value s) ++ drop (length s / 2) out)) (hex_left None out)
  into_is =
      rw (hex_is s, ← tested) (rw (length_pairs s) at (put_tests (length s % 2 == 0) right (pairs_of (map digit_value s)) out))

  pub into_wrong : not fits ≡ true → hex_left None out ≡ hex_into s out
  into_wrong t = rw (into_is, not-true fits t)

  pub into_room : not fits ≡ false → length s / 2 ≤ length out
  into_room t = leb-true (length s / 2) (length out) (and_right (length s % 2 == 0) _ (and_left _ right (not-false fits t)))

  pub into_done : {after : List ℕ} → not fits ≡ false → after ≡ pairs_of (map digit_value s) ++ drop (length s / 2) out
      → hex_left (Some (length s / 2)) after ≡ hex_into s out
  into_done t e = rw (into_is, not-false fits t, e)
