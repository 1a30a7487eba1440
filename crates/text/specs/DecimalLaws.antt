-- What the functions on decimal numbers return, over what the functions that they call ensure.
use Rattle.std.specs.Prelude.{◌≡◌, ℕ, suc, ◌+◌, ◌-◌, ◌*◌, ◌%◌, ◌^◌, ◌<◌, ◌≤◌, Bool, true, false, cond, ◌&&◌, List, [], ◌∷◌, length, drop, ◌≢◌, nat_lt, slice_index, slice_index_or, Option, Some, None, refl}
use Rattle.std.proofs.Common.{sym, ap, ◌∙◌, zero-lt-suc, le_trans, le-mul_of_pos_right, pow-suc, add-one}
use Rattle.std.proofs.Math.Nat.{one-le-pow, pow-le-pow_right}
use native.Mathlib.Omega.{arith}
use borrow.Author.Tests.{ne_eqb, lt-ltb, le-ltb}
use Rattle.std.proofs.Math.ListN.{drop_of_length-le}
use Rattle.std.proofs.Math.Seq.{drop-cons}
use Rattle.text.specs.Text.{digit_value, digits_from, decimal_of, bounded, number_in}
use Rattle.text.specs.TextLaws.{decimal_value, digits_grow}

-- what the loop of `digits` keeps: the digits up to i give the value, and what is left gives the whole
pub record Read (s : List ℕ) (value i : ℕ) : Type 0 where
  pub within : i ≤ length s
  pub fits : value < 2 ^ 64
  pub rest : digits_from value (drop i s) ≡ digits_from 0 s

-- more digits never bring a number back below 2^64
large_stays : (v : ℕ) (s : List ℕ) → 2 ^ 64 ≤ v → (o : Option ℕ) → digits_from v s ≡ o → None ≡ bounded o
unfolding bounded
large_stays v s h None e = refl
large_stays v s h (Some w) e =
    let l = le_trans (le-mul_of_pos_right v (one-le-pow (length s) 10 (zero-lt-suc 9))) (digits_grow v s e) in
    rw (le-ltb w (2 ^ 64) (omega arith))

module _ (s : List ℕ) (i v : ℕ) (within : i < length s) where
  pub digits-wrong : nat_lt (digit_value (slice_index s i)) 10 ≡ false → None ≡ bounded (digits_from v (drop i s))
  unfolding digits_from bounded
  digits-wrong f = rw (drop-cons s i 0 within, f)

  module _ (digit : nat_lt (digit_value (slice_index s i)) 10 ≡ true) where
    pub digit_read : (digit_value (slice_index s i) ≡ slice_index s i - 0x30) × ((0x30 ≤ slice_index s i) × (slice_index s i ≤ 0x39))
    digit_read = decimal_value (slice_index s i) digit

    digits_more : digits_from (v * 10 + (slice_index s i - 0x30)) (drop (i + 1) s) ≡ digits_from v (drop i s)
    unfolding digits_from
    digits_more = rw (add-one, drop-cons s i 0 within, digit, digit_read.0)

    pub digits_large : 2 ^ 64 ≤ v * 10 + (slice_index s i - 0x30) → None ≡ bounded (digits_from v (drop i s))
    digits_large l = rw (← digits_more) (large_stays (v * 10 + (slice_index s i - 0x30)) (drop (i + 1) s) l _ refl)

    pub read_more : Read s v i → v * 10 + (slice_index s i - 0x30) < 2 ^ 64 → Read s (v * 10 + (slice_index s i - 0x30)) (i + 1)
    read_more r l = record { within = omega arith; fits = l; rest = digits_more ∙ r.rest }

pub digits-end : (s : List ℕ) (i v : ℕ) → length s ≤ i → v < 2 ^ 64 → Some v ≡ bounded (digits_from v (drop i s))
unfolding digits_from bounded
digits-end s i v h l = rw (drop_of_length-le s h, lt-ltb v (2 ^ 64) l)

-- what the loop of `few_digits` keeps: where all digits up to i are right they give the value, and what is left gives the whole;
-- right or wrong, each counts at most 15
pub record ReadAll (s : List ℕ) (value i : ℕ) (right : Bool) : Type 0 where
  pub within : i ≤ length s
  pub small : 3 * value + 5 ≤ 5 * 10 ^ i
  pub rest : cond right (digits_from value (drop i s)) None ≡ digits_from 0 s

both_right : (a b : Bool) (o : Option ℕ) → cond (a && b) o None ≡ cond a (cond b o None) None
both_right true b o = refl
both_right false b o = refl

pub read_none : (s : List ℕ) → ReadAll s 0 0 true
read_none s = record { within = omega arith; small = omega arith; rest = refl }

module _ (s : List ℕ) {value i : ℕ} {right : Bool} (short : length s ≤ 19) (kept : ReadAll s value i right) where
  all_small : value < 2 ^ 64
  all_small = let p = pow-le-pow_right {n = 10} (zero-lt-suc 9) {i = i} {j = 19} (omega arith) in omega arith

  module _ (within : i < length s) where
    -- one digit more, right or wrong, leaves the number below 2^64
    pub all_room : value * 10 + slice_index s i % 16 < 2 ^ 64
    all_room = let p = pow-le-pow_right {n = 10} (zero-lt-suc 9) {i = i} {j = 18} (omega arith) in omega arith

    all_rest : (ok : Bool) → ok ≡ nat_lt (digit_value (slice_index s i)) 10
        → cond ok (digits_from (value * 10 + slice_index s i % 16) (drop (i + 1) s)) None ≡ digits_from value (drop i s)
    unfolding digits_from
    all_rest true e =
        let d = decimal_value (slice_index s i) (sym e) in
        let half : slice_index_or s i 0 % 16 ≡ digit_value (slice_index s i) = omega arith in
        rw (add-one, drop-cons s i 0 within, ← e, half)
    all_rest false e = rw (drop-cons s i 0 within, ← e)

    pub read-all_more : {ok : Bool} → ok ≡ nat_lt (digit_value (slice_index s i)) 10 → ReadAll s (value * 10 + slice_index s i % 16) (i + 1) (right && ok)
    read-all_more {ok} e =
        let p = pow-suc 10 i in
        record {
          within = omega arith;
          small = rw (add-one i) (omega arith);
          rest = both_right right ok _ ∙ ap (λ o. cond right o None) (all_rest ok e) ∙ kept.rest;
        }

  module _ (over : length s ≤ i) where
    pub all_right : right ≡ true → Some value ≡ bounded (digits_from 0 s)
    unfolding digits_from bounded
    all_right t = rw (← kept.rest, t, drop_of_length-le s over, lt-ltb value (2 ^ 64) all_small)

    pub some-wrong : right ≡ false → None ≡ bounded (digits_from 0 s)
    unfolding bounded
    some-wrong f = rw (← kept.rest, f)

pub decimal_empty : (s : List ℕ) → length s ≡ 0 → None ≡ number_in s
unfolding decimal_of bounded
decimal_empty [] h = refl
decimal_empty (b ∷ s) h = absurd (omega arith)

pub decimal_digits_lem : (s : List ℕ) {r : Option ℕ} → (length s ≢ 0) → (slice_index s 0 ≢ 0x30) → r ≡ bounded (digits_from 0 s) → r ≡ number_in s
unfolding decimal_of
decimal_digits_lem [] n z e = absurd (n refl)
decimal_digits_lem (b ∷ s) n z e = rw (ne_eqb b 0x30 z) e

pub decimal_zero : (s : List ℕ) → slice_index s 0 ≡ 0x30 → length s ≡ 1 → Some 0 ≡ number_in s
unfolding decimal_of digits_from digit_value bounded
decimal_zero [] z l = absurd (omega arith)
decimal_zero (b ∷ []) z l = rw z
decimal_zero (b ∷ c ∷ s) z l = absurd (omega arith)

pub decimal_leading : (s : List ℕ) → slice_index s 0 ≡ 0x30 → (length s ≢ 1) → None ≡ number_in s
unfolding decimal_of bounded
decimal_leading [] z l = refl
decimal_leading (b ∷ []) z l = absurd (l refl)
decimal_leading (b ∷ c ∷ s) z l = rw (z, lt-ltb 0 (suc (length s)) (zero-lt-suc (length s)))
