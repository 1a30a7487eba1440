-- Laws of the arguments' tests and of the cut, in the form in which the code needs them.
use Rattle.std.specs.Prelude.{◌≡◌, ℕ, zero, suc, ◌+◌, ◌-◌, ◌*◌, ◌/◌, ◌%◌, ◌^◌, ◌<◌, ◌≤◌, Bool, true, false, ◌&&◌, ◌||◌, leb, List, [], ◌∷◌, ◌++◌, length, drop, ◌==◌, ◌≢◌, nat_eq, nat_le, slice_set}
use Rattle.std.proofs.Math.Path.{refl}
use Rattle.std.proofs.Common.{◌∙◌, append_assoc, mod-lt, pow-suc, zero-lt-suc, not-suc-le-zero, add-one, arith, length-append, length-set, drop-cons, drop-set-lt, get_or-set_same}
use Rattle.std.proofs.Math.Nat.{one-le-pow}
use borrow.Author.Tests.{eq-eqb, ne_eqb, eqb-true, leb-true}
use Rattle.std.proofs.Math.Arith.{mod-mul}
use Rattle.words.specs.Lists.{all_within}
use Rattle.words.specs.Codes.{done, bad_argument}
use Rattle.words.specs.OutputLaws.{stored-refusal, stored_short, stored-whole}
use Rattle.words.specs.BoolLaws.{and_left, and_right, impossible}
use Rattle.sm3.specs.Sm3.{sm3_of}
use Rattle.otp.specs.Password.{challenge_ok, arguments_ok, id_of, filled, keyed, chained, cut, decimals, shown, password_of, password_answer, algorithm_sm3, algorithm_sm4, Factor}

-- the last of the digits left is stored
pub decimals-last : (out : List ℕ) (left rest : ℕ) → 0 < left → left ≤ length out
    → decimals left rest ++ drop left out ≡ decimals (left - 1) (rest / 10) ++ drop (left - 1) (slice_set out (left - 1) (48 + rest % 10))
unfolding decimals
decimals-last out zero rest h l = absurd (not-suc-le-zero h)
decimals-last out (suc n) rest h l =
    let e : suc n - 1 ≡ n = omega arith in
    let m : n < length (slice_set out n (48 + rest % 10)) = rw length-set l in
    rw
    (e, drop-cons (slice_set out n (48 + rest % 10)) n 0, get_or-set_same out n (48 + rest % 10) 0 l, drop-set-lt (suc n) out n (48 + rest % 10) (omega arith))
    (append_assoc (decimals n (rest / 10)) ((48 + rest % 10) ∷ []) (drop (suc n) out))

pub decimals-none : (out : List ℕ) (left rest : ℕ) → left ≤ 0 → decimals left rest ++ drop left out ≡ out
unfolding decimals
decimals-none out left rest h = let e : left ≡ 0 = omega arith in rw e

-- ---- the digits

pub length-decimals : (n x : ℕ) → length (decimals n x) ≡ n
unfolding decimals
length-decimals zero x = refl
length-decimals (suc n) x = length-append (decimals n (x / 10)) ((48 + x % 10) ∷ []) ∙ rw (length-decimals n (x / 10)) (add-one n)

-- n digits show a number without what lies above them
pub decimals-mod : (n x : ℕ) → decimals n (x % 10 ^ n) ≡ decimals n x
unfolding decimals
decimals-mod zero x = refl
decimals-mod (suc n) x =
    let m = mod-mul x (one-le-pow n 10 (zero-lt-suc 9)) (zero-lt-suc 9) in
    let h : x % (10 ^ n * 10) / 10 ≡ x / 10 % 10 ^ n = omega (arith, mod-lt x (zero-lt-suc 9)) in
    let l : x % (10 ^ n * 10) % 10 ≡ x % 10 = omega (arith, mod-lt x (zero-lt-suc 9)) in
    rw (pow-suc, h, l, decimals-mod n (x / 10))

-- the digits of the cut are the password
pub password-shown : (algorithm : ℕ) (key : List ℕ) (time count : Factor) (challenge : List ℕ) (n : ℕ) {x : ℕ} (rest : List ℕ)
    → x ≡ cut (keyed algorithm key (filled (id_of time count challenge)))
    → decimals n x ++ rest ≡ password_of algorithm key time count challenge n ++ rest
unfolding password_of shown
password-shown algorithm key time count challenge n rest e =
    rw (e, decimals-mod n (cut (keyed algorithm key (filled (id_of time count challenge)))))

pub length-password : (algorithm : ℕ) (key : List ℕ) (time count : Factor) (challenge : List ℕ) (n : ℕ)
    → length (password_of algorithm key time count challenge n) ≡ n
unfolding password_of shown
length-password algorithm key time count challenge n =
    length-decimals n (cut (keyed algorithm key (filled (id_of time count challenge))) % 10 ^ n)

-- ---- the two ways

module _ (algorithm : ℕ) (key id : List ℕ) where
  pub keyed_hashed : algorithm ≡ algorithm_sm3 → cut (sm3_of (key ++ id)) ≡ cut (keyed algorithm key id)
  unfolding keyed
  keyed_hashed e = rw (eq-eqb algorithm algorithm_sm3 e)

  pub keyed-chained : (algorithm ≢ algorithm_sm3) → cut (chained key id) ≡ cut (keyed algorithm key id)
  unfolding keyed
  keyed-chained h = rw (ne_eqb algorithm algorithm_sm3 h)

-- ---- what arguments in range tell

module _ (algorithm : ℕ) (key : List ℕ) (time count : Factor) (challenge : List ℕ) (n : ℕ)
    (ok : arguments_ok algorithm key time count challenge n ≡ true) where
  pub known_algorithm : (algorithm ≢ algorithm_sm3) → algorithm ≡ algorithm_sm4
  unfolding arguments_ok
  known_algorithm h =
      let one : nat_eq algorithm algorithm_sm3 || (algorithm == algorithm_sm4) ≡ true = search (and_left, and_right) depth 12 in
      eqb-true algorithm algorithm_sm4 (other (algorithm == algorithm_sm3) (algorithm == algorithm_sm4) (ne_eqb algorithm algorithm_sm3 h) one)
    where
      other : (a b : Bool) → a ≡ false → a || b ≡ true → b ≡ true
      other true b e t = cc
      other false b e t = t

  pub key-long : 16 ≤ length key
  unfolding arguments_ok
  key-long = let t : leb 16 (length key) ≡ true = search (and_left, and_right) depth 12 in leb-true 16 (length key) t

  pub key-short : length key ≤ 32
  unfolding arguments_ok
  key-short = let t : leb (length key) 32 ≡ true = search (and_left, and_right) depth 12 in leb-true (length key) 32 t

  pub digits_low : 6 ≤ n
  unfolding arguments_ok
  digits_low = let t : leb 6 n ≡ true = search (and_left, and_right) depth 12 in leb-true 6 n t

  pub digits_high : n ≤ 10
  unfolding arguments_ok
  digits_high = let t : leb n 10 ≡ true = search (and_left, and_right) depth 12 in leb-true n 10 t

  pub challenge-short : length challenge ≤ 32
  unfolding arguments_ok challenge_ok
  challenge-short =
      let t : challenge_ok challenge ≡ true = search (and_left, and_right) depth 12 in
      either (length challenge == 0) (nat_le 4 (length challenge)) (nat_le (length challenge) 32) (all_within 0x21 0x7e challenge) t
      (λ e. let l = eqb-true (length challenge) 0 e in omega arith)
      (λ e. leb-true (length challenge) 32 e)
    where
      either : {X : Type 0} (a b c d : Bool) → a || ((b && c) && d) ≡ true → (a ≡ true → X) → (c ≡ true → X) → X
      either true b c d t p q = p refl
      either false true true d t p q = q refl
      either false true false d t p q = impossible (cc)
      either false false c d t p q = impossible (cc)

-- ---- the answer's three ways

module _ (algorithm : ℕ) (key : List ℕ) (time count : Factor) (challenge : List ℕ) (n : ℕ) (out : List ℕ) where
  pub answer-refused : arguments_ok algorithm key time count challenge n ≡ false
      → (bad_argument ≡ (password_answer algorithm key time count challenge n out).code) × (out ≡ (password_answer algorithm key time count challenge n out).out)
  unfolding password_answer
  answer-refused e = rw e (stored-refusal bad_argument (password_of algorithm key time count challenge n) out (λ z. omega arith))

  pub answer-short : arguments_ok algorithm key time count challenge n ≡ true → length out < n
      → (bad_argument ≡ (password_answer algorithm key time count challenge n out).code) × (out ≡ (password_answer algorithm key time count challenge n out).out)
  unfolding password_answer
  answer-short e h =
      rw e (stored_short done (password_of algorithm key time count challenge n) out refl (rw (length-password algorithm key time count challenge n) h))

  pub answer-stored : {after : List ℕ} → arguments_ok algorithm key time count challenge n ≡ true → n ≤ length out
      → after ≡ password_of algorithm key time count challenge n ++ drop n out
      → (done ≡ (password_answer algorithm key time count challenge n out).code) × (after ≡ (password_answer algorithm key time count challenge n out).out)
  unfolding password_answer
  answer-stored e h p =
      let l = length-password algorithm key time count challenge n in
      rw e (stored-whole done (password_of algorithm key time count challenge n) out refl (rw l h) (rw l p))
