-- Laws of a line's answer.
use Rattle.std.specs.Prelude.{ℕ, suc, ◌+◌, ◌-◌, ◌*◌, ◌^◌, ◌≤◌, ◌<◌, ◌≡◌, true, false, ◌&&◌, ◌||◌, List, [], ◌∷◌, ◌++◌, eqb, leb, ltb, get_or, take, drop}
use Rattle.std.proofs.Common.{zero-le, ◌∙◌, add-zero, lt_of_lt_of_le, arith, lt-ltb, le-ltb, ltb-true, ltb-false, leb-false, ne_eqb, eqb-true, lit<, lit≤}
use Rattle.std.proofs.Math.Path.{refl, sym, ap}
use Rattle.std.specs.Prelude.{Option, Some, None}
use Rattle.std.proofs.lemmas.Bool.{lt-leb, eqb-false}
use Rattle.std.proofs.Math.ListN.{length, replicate}
use Rattle.std.proofs.Math.Seq.{take-append_seam, drop-append_seam}
use Rattle.words.specs.ListsLaws.{drop_zeros}
use Rattle.words.specs.BoolLaws.{by-test, and_false, impossible}
use Rattle.otp.specs.Password.{Factor, arguments_ok, password_of, password_answer}
use Rattle.otp.specs.PasswordLaws.{key-short, challenge-short, known_algorithm, digits_low, digits_high, length-password, answer-refused, answer-stored}
use Rattle.words.specs.Codes.{done}
use Rattle.text.specs.Text.{digit_value, digits_from, decoded, decoded_of, decimal_of, bounded, number_in, hex_of, fields_of, sum_lengths}
use Rattle.text.specs.TextLaws.{decimal_range, decimal_value, number-value, hex_decoded, decimal_length, hex_length, length_fields, fields_positive}
use Rattle.password_lines.specs.Fields.{byte_of}
use Rattle.password_lines.specs.Line.{refusal, given, below, factor_field, password_text, fields_answer, field_of, line_answer}

-- what holds of the refusal, and of what follows each value read, holds of the answer
given_holds : {A : Type 0} (Q : List ℕ → Type 0) → Q refusal → (o : Option A) (f : A → List ℕ) → ((x : A) → o ≡ Some x → Q (f x)) → Q (given o f)
given_holds Q q None f h = q
given_holds Q q (Some x) f h = h x refl

-- a number that has not 64 bits is none, or 2^64 or more
not_bounded : (Q : Option ℕ → Type 0) → Q None → ((v : ℕ) → 2 ^ 64 ≤ v → Q (Some v)) → (o : Option ℕ) → bounded o ≡ None → Q o
unfolding bounded
not_bounded Q q h None e = q
not_bounded Q q h (Some v) e =
    by-test (ltb v (2 ^ 64))
    (λ t. let z : Some v ≡ None = rw t at e in impossible (cc))
    (λ t. h v (ltb-false v (2 ^ 64) t))

-- ---- factors

-- a field that is not empty is a number below the limit
factor_given : (limit : ℕ) (s : List ℕ) → (length s ≡ 0 → ⊥) → factor_field limit s ≡ below limit (decimal_of s)
unfolding factor_field
factor_given limit [] h = absurd (h refl)
factor_given limit (b ∷ s) h = refl

pub factor_absent : (limit : ℕ) (s : List ℕ) → length s ≡ 0 → Some None ≡ factor_field limit s
unfolding factor_field
factor_absent limit [] e = refl
factor_absent limit (b ∷ s) e = absurd (omega arith)

module _ (most : ℕ) (fits : most < 2 ^ 64) (s : List ℕ) (given-field : length s ≡ 0 → ⊥) where
  no_number : (o : Option ℕ) → bounded o ≡ None → None ≡ below (most + 1) o
  no_number = not_bounded (λ o. None ≡ below (most + 1) o) refl (λ v l. rw (le-ltb v (most + 1) (omega arith)))

  pub factor_bad : number_in s ≡ None → None ≡ factor_field (most + 1) s
  factor_bad e = rw (factor_given (most + 1) s given-field) (no_number (decimal_of s) e)

  pub factor_within : {x : ℕ} → number_in s ≡ Some x → x ≤ most → Some (Some x) ≡ factor_field (most + 1) s
  factor_within {x} e l = rw (factor_given (most + 1) s given-field, (number-value s e).0, lt-ltb x (most + 1) (omega arith))

  pub factor_above : {x : ℕ} → number_in s ≡ Some x → most < x → None ≡ factor_field (most + 1) s
  factor_above {x} e l = rw (factor_given (most + 1) s given-field, (number-value s e).0, le-ltb x (most + 1) (omega arith))

-- ---- small numbers

pub small_digit : (b : ℕ) → leb 0x30 b && leb b 0x39 ≡ true → Some (b - 0x30) ≡ byte_of (decimal_of (b ∷ []))
unfolding decimal_of digits_from
small_digit b t =
    let d : ltb (digit_value b) 10 ≡ true = sym (decimal_range b) ∙ t in
    let v = decimal_value b d in
    let e : 0 * 10 + digit_value b ≡ b - 0x30 = (let w = v.0 in omega arith) in
    let m = v.1.1 in
    rw (and_false (eqb b 0x30), d, e, lt-ltb (b - 0x30) 256 (omega arith))

pub small-no_digit : (b : ℕ) → leb 0x30 b && leb b 0x39 ≡ false → None ≡ byte_of (decimal_of (b ∷ []))
unfolding decimal_of digits_from
small-no_digit b t = let d : ltb (digit_value b) 10 ≡ false = sym (decimal_range b) ∙ t in rw (and_false (eqb b 0x30), d)

pub alone-byte : (s : List ℕ) {x : ℕ} {r : Option ℕ} → length s ≡ 1 → x ≡ get_or s 0 0 → r ≡ byte_of (decimal_of (x ∷ [])) → r ≡ byte_of (decimal_of s)
alone-byte [] l e p = absurd (omega arith)
alone-byte (b ∷ []) l e p = rw e at p
alone-byte (b ∷ c ∷ s) l e p = absurd (omega arith)

pub small-bad : (s : List ℕ) → number_in s ≡ None → None ≡ byte_of (decimal_of s)
small-bad s e = not_bounded (λ o. None ≡ byte_of o) refl (λ v l. rw (le-ltb v 256 (omega arith))) (decimal_of s) e

pub small-within : (s : List ℕ) {x : ℕ} → number_in s ≡ Some x → x < 256 → Some x ≡ byte_of (decimal_of s)
small-within s {x} e l = rw ((number-value s e).0, lt-ltb x 256 l)

pub small-above : (s : List ℕ) {x : ℕ} → number_in s ≡ Some x → 256 ≤ x → None ≡ byte_of (decimal_of s)
small-above s {x} e l = rw ((number-value s e).0, le-ltb x 256 l)

byte-some : (o : Option ℕ) {x : ℕ} → byte_of o ≡ Some x → o ≡ Some x
byte-some None e = impossible (cc)
byte-some (Some v) {x} e =
    by-test (ltb v 256)
    (λ t. rw t at e)
    (λ f. let z : None ≡ Some x = rw f at e in impossible (cc))

-- what no byte holds is no number, or 256 or more
no_byte : (Q : Option ℕ → Type 0) → Q None → ((v : ℕ) → 256 ≤ v → Q (Some v)) → (o : Option ℕ) → byte_of o ≡ None → Q o
no_byte Q q h None e = q
no_byte Q q h (Some v) e =
    by-test (ltb v 256)
    (λ t. let z : Some v ≡ None = rw t at e in impossible (cc))
    (λ t. h v (ltb-false v 256 t))

-- ---- the password

module _ (algorithm : ℕ) (key : List ℕ) (time count : Factor) (challenge : List ℕ) (n : ℕ) where
  text-given : arguments_ok algorithm key time count challenge n ≡ true
      → password_text algorithm key time count challenge n ≡ password_of algorithm key time count challenge n
  unfolding password_text
  text-given t = rw t

  text-bad : arguments_ok algorithm key time count challenge n ≡ false → password_text algorithm key time count challenge n ≡ refusal
  unfolding password_text
  text-bad t = rw t

  pub text-refused : (out : List ℕ) → length out ≡ 10 → false ≡ eqb (password_answer algorithm key time count challenge n out).code done
      → refusal ≡ password_text algorithm key time count challenge n
  text-refused out l e =
      by-test (arguments_ok algorithm key time count challenge n)
      (λ t.
      let d = digits_high algorithm key time count challenge n t in
      let code = (answer-stored algorithm key time count challenge n out t (omega arith) refl).0 in
      let z : false ≡ true = e ∙ rw (← code) refl in impossible (cc))
      (λ t. rw (text-bad t))

  module _ {out after : List ℕ} (fresh : out ≡ replicate 10 0) (left : after ≡ (password_answer algorithm key time count challenge n out).out)
      (well : true ≡ eqb (password_answer algorithm key time count challenge n out).code done) where
    well-given : arguments_ok algorithm key time count challenge n ≡ true
    well-given =
        by-test (arguments_ok algorithm key time count challenge n)
        (λ t. t)
        (λ t.
        let code = (answer-refused algorithm key time count challenge n out t).0 in
        let z : true ≡ false = well ∙ rw (← code) refl in impossible (cc))

    pub text-short : n ≤ 10
    text-short = digits_high algorithm key time count challenge n well-given

    -- the password, and zeros behind it
    after-is : after ≡ password_of algorithm key time count challenge n ++ replicate (10 - n) 0
    after-is =
        let high = text-short in
        let room : n ≤ length out = rw fresh (omega arith) in
        left ∙ sym (answer-stored algorithm key time count challenge n out well-given room refl).1 ∙ rw (fresh, drop_zeros n 10)

    pub text-zeros : drop n after ≡ replicate (10 - n) 0
    text-zeros =
        let l = length-password algorithm key time count challenge n in
        rw after-is (rw l at (drop-append_seam (password_of algorithm key time count challenge n) (replicate (10 - n) 0)))

    pub text-printed : take n after ≡ password_text algorithm key time count challenge n
    text-printed =
        let l = length-password algorithm key time count challenge n in
        rw (text-given well-given, after-is) (rw l at (take-append_seam (password_of algorithm key time count challenge n) (replicate (10 - n) 0)))

  bad-digits : leb 6 n && leb n 10 ≡ false → password_text algorithm key time count challenge n ≡ refusal
  unfolding arguments_ok password_text
  bad-digits e = rw (e, and_false)

  bad-algorithm : eqb algorithm 3 || eqb algorithm 4 ≡ false → password_text algorithm key time count challenge n ≡ refusal
  unfolding arguments_ok password_text
  bad-algorithm e = rw e

  long-key : 32 < length key → password_text algorithm key time count challenge n ≡ refusal
  long-key h =
      by-test (arguments_ok algorithm key time count challenge n)
      (λ t. let l = key-short algorithm key time count challenge n t in absurd (omega arith))
      (λ t. text-bad t)

-- ---- the fields

-- digits that are not right, or too many for a key, give the refusal
hex_bad : (o : Option (List ℕ)) (f : List ℕ → List ℕ) → ((k : List ℕ) → 32 < length k → f k ≡ refusal) → decoded o ≡ None → given o f ≡ refusal
unfolding decoded
hex_bad None f h e = refl
hex_bad (Some k) f h e =
    by-test (leb (length k) 32)
    (λ t. let z : Some k ≡ None = rw t at e in impossible (cc))
    (λ t. h k (leb-false (length k) 32 t))

module _ (key time count challenge algorithm digits : List ℕ) where
  pub answer-bad-key : decoded_of key ≡ None → refusal ≡ fields_answer key time count challenge algorithm digits
  unfolding fields_answer
  answer-bad-key e =
      sym
      (hex_bad (hex_of key) _
      (λ k m.
      given_holds (λ s. s ≡ refusal) refl (factor_field (2 ^ 64) time) _
      (λ t p. given_holds (λ s. s ≡ refusal) refl (factor_field (2 ^ 32) count) _
      (λ c q. given_holds (λ s. s ≡ refusal) refl (decimal_of algorithm) _
      (λ a i. given_holds (λ s. s ≡ refusal) refl (decimal_of digits) _
      (λ n j. long-key a k t c challenge n m)))))
      e)

  module _ {k : List ℕ} (keyed : decoded_of key ≡ Some k) where
    pub answer-bad-time : factor_field (2 ^ 64) time ≡ None → refusal ≡ fields_answer key time count challenge algorithm digits
    unfolding fields_answer
    answer-bad-time e = rw ((hex_decoded key keyed).0, e)

    module _ {t : Factor} (timed : factor_field (2 ^ 64) time ≡ Some t) where
      pub answer-bad-count : factor_field (2 ^ 32) count ≡ None → refusal ≡ fields_answer key time count challenge algorithm digits
      unfolding fields_answer
      answer-bad-count e = rw ((hex_decoded key keyed).0, timed, e)

      module _ {c : Factor} (counted : factor_field (2 ^ 32) count ≡ Some c) where
        pub answer-bad-algorithm : byte_of (decimal_of algorithm) ≡ None → refusal ≡ fields_answer key time count challenge algorithm digits
        unfolding fields_answer
        answer-bad-algorithm e =
            rw ((hex_decoded key keyed).0, timed, counted)
            (no_byte (λ o. refusal ≡ given o (λ a. given (decimal_of digits) (λ n. password_text a k t c challenge n))) refl
            (λ v l. sym (given_holds (λ s. s ≡ refusal) refl (decimal_of digits) _
            (λ n j. bad-algorithm v k t c challenge n (rw (ne_eqb v 3 (λ e. omega arith), ne_eqb v 4 (λ e. omega arith))))))
            (decimal_of algorithm) e)

        module _ {a : ℕ} (named : byte_of (decimal_of algorithm) ≡ Some a) where
          pub answer-bad-digits : byte_of (decimal_of digits) ≡ None → refusal ≡ fields_answer key time count challenge algorithm digits
          unfolding fields_answer
          answer-bad-digits e =
              rw ((hex_decoded key keyed).0, timed, counted, byte-some (decimal_of algorithm) named)
              (no_byte (λ o. refusal ≡ given o (λ n. password_text a k t c challenge n)) refl
              (λ v l. sym (bad-digits a k t c challenge v (rw (lt-leb v 10 (omega arith)) (and_false (leb 6 v)))))
              (decimal_of digits) e)

          pub answer-read : {d : ℕ} → byte_of (decimal_of digits) ≡ Some d
              → password_text a k t c challenge d ≡ fields_answer key time count challenge algorithm digits
          unfolding fields_answer
          answer-read e =
              rw ((hex_decoded key keyed).0, timed, counted, byte-some (decimal_of algorithm) named, byte-some (decimal_of digits) e)

-- ---- the line

pub line-six : (line : List ℕ) {key time count challenge algorithm digits : List ℕ} → fields_of line ≡ key ∷ time ∷ count ∷ challenge ∷ algorithm ∷ digits ∷ []
    → fields_answer key time count challenge algorithm digits ≡ line_answer line
unfolding line_answer
line-six line p = rw p

-- a field in front of the others
pub field-then : {all rest fs : List (List ℕ)} {f : List ℕ} → all ≡ f ∷ rest → rest ≡ fs → all ≡ f ∷ fs
field-then {f = f} p q = p ∙ ap (λ (fs : List (List ℕ)). f ∷ fs) q

pub line_other : (line : List ℕ) {fields : List (List ℕ)} → fields_of line ≡ fields → eqb (length fields) 6 ≡ false → refusal ≡ line_answer line
unfolding line_answer
line_other line p e = rw (p, e)

-- behind the sixth field another one always stands
pub line_more : (line rest : List ℕ) {a b c d e f : List ℕ} → fields_of line ≡ a ∷ b ∷ c ∷ d ∷ e ∷ f ∷ fields_of rest → refusal ≡ line_answer line
line_more line rest p =
    let more = fields_positive rest in
    line_other line p (ne_eqb (suc (suc (suc (suc (suc (suc (length (fields_of rest)))))))) 6 (λ e. omega arith))

-- ---- lengths

-- a line of six fields that are read, with arguments in range
fields-hold : (Q : List ℕ → Type 0) → Q refusal → (key time count challenge algorithm digits : List ℕ)
    → ((k : List ℕ) (t c : Factor) (a n : ℕ) → hex_of key ≡ Some k → factor_field (2 ^ 64) time ≡ Some t → factor_field (2 ^ 32) count ≡ Some c
    → decimal_of algorithm ≡ Some a → decimal_of digits ≡ Some n → arguments_ok a k t c challenge n ≡ true → Q (password_of a k t c challenge n))
    → Q (fields_answer key time count challenge algorithm digits)
unfolding fields_answer
fields-hold Q q key time count challenge algorithm digits h =
    given_holds Q q (hex_of key) _
    (λ k e. given_holds Q q (factor_field (2 ^ 64) time) _
    (λ t f. given_holds Q q (factor_field (2 ^ 32) count) _
    (λ c g. given_holds Q q (decimal_of algorithm) _
    (λ a i. given_holds Q q (decimal_of digits) _
    (λ n j.
    by-test (arguments_ok a k t c challenge n)
    (λ ok. rw (text-given a k t c challenge n ok) (h k t c a n e f g i j ok))
    (λ no. rw (text-bad a k t c challenge n no) q))))))

-- an answer has four to ten bytes
pub answer-length : (line : List ℕ) → (4 ≤ length (line_answer line)) × (length (line_answer line) ≤ 10)
unfolding line_answer
answer-length line =
    by-test (eqb (length (fields_of line)) 6)
    (λ t. rw t
    (fields-hold (λ s. (4 ≤ length s) × (length s ≤ 10)) (omega arith)
    (field_of line 0) (field_of line 1) (field_of line 2) (field_of line 3) (field_of line 4) (field_of line 5)
    (λ k t c a n e f g i j ok.
    let low = digits_low a k t c (field_of line 3) n ok in
    let high = digits_high a k t c (field_of line 3) n ok in
    rw (length-password a k t c (field_of line 3) n) (omega arith))))
    (λ t. rw t (omega arith))

factor_length : (limit : ℕ) (s : List ℕ) (d : ℕ) {f : Factor} → 0 < d → limit ≤ 10 ^ d → factor_field limit s ≡ Some f → length s ≤ d
unfolding factor_field
factor_length limit [] d p h e = zero-le
factor_length limit (b ∷ s) d {f} p h e = number (decimal_of (b ∷ s)) refl e
  where
    number : (o : Option ℕ) → decimal_of (b ∷ s) ≡ o → below limit o ≡ Some f → length (b ∷ s) ≤ d
    number None q e = impossible (cc)
    number (Some v) q e =
        by-test (ltb v limit)
        (λ t. decimal_length (b ∷ s) d q p (lt_of_lt_of_le (ltb-true v limit t) h))
        (λ t. let y : ◌≡◌ {A = ℕ} 0 1 = (let z = rw t at e in cc) in absurd (omega arith))

-- the lengths of six fields
six_lengths : (fs : List (List ℕ)) → length fs ≡ 6
    → sum_lengths fs ≡ length (get_or fs 0 []) + (length (get_or fs 1 []) + (length (get_or fs 2 []) + (length (get_or fs 3 []) + (length (get_or fs 4 []) + length (get_or fs 5 [])))))
unfolding sum_lengths
six_lengths [] l = absurd (omega arith)
six_lengths (a ∷ []) l = absurd (omega arith)
six_lengths (a ∷ b ∷ []) l = absurd (omega arith)
six_lengths (a ∷ b ∷ c ∷ []) l = absurd (omega arith)
six_lengths (a ∷ b ∷ c ∷ d ∷ []) l = absurd (omega arith)
six_lengths (a ∷ b ∷ c ∷ d ∷ e ∷ []) l = absurd (omega arith)
six_lengths (a ∷ b ∷ c ∷ d ∷ e ∷ f ∷ []) l = rw add-zero
six_lengths (a ∷ b ∷ c ∷ d ∷ e ∷ f ∷ g ∷ fs) l = absurd (omega arith)

algorithm-small : (a : ℕ) (k : List ℕ) (t c : Factor) (q : List ℕ) (n : ℕ) → arguments_ok a k t c q n ≡ true → a < 10 ^ 1
algorithm-small a k t c q n ok =
    by-test (eqb a 3)
    (λ e. let x = eqb-true a 3 e in omega arith)
    (λ e. let x = known_algorithm a k t c q n ok (eqb-false a 3 e) in omega arith)

module _ (line : List ℕ) (long : 256 < length line) (six : length (fields_of line) ≡ 6) where
  too_long : {k : List ℕ} {t c : Factor} {a n : ℕ} → hex_of (field_of line 0) ≡ Some k → factor_field (2 ^ 64) (field_of line 1) ≡ Some t
      → factor_field (2 ^ 32) (field_of line 2) ≡ Some c → decimal_of (field_of line 4) ≡ Some a → decimal_of (field_of line 5) ≡ Some n
      → arguments_ok a k t c (field_of line 3) n ≡ true → ⊥
  too_long {k} {t} {c} {a} {n} e f g i j ok =
      let fs = fields_of line in
      let total = length_fields line in
      let sum = six_lengths fs six in
      let key = hex_length (field_of line 0) e in
      let short = key-short a k t c (field_of line 3) n ok in
      let time = factor_length (2 ^ 64) (field_of line 1) 20 (lit< tt) (lit≤ tt) f in
      let count = factor_length (2 ^ 32) (field_of line 2) 10 (lit< tt) (lit≤ tt) g in
      let challenge = challenge-short a k t c (field_of line 3) n ok in
      let algorithm = decimal_length (field_of line 4) 1 i (lit< tt) (algorithm-small a k t c (field_of line 3) n ok) in
      let high = digits_high a k t c (field_of line 3) n ok in
      let digits = decimal_length (field_of line 5) 2 j (lit< tt) (omega arith) in
      omega arith

-- a line of over 256 bytes, more than a reader keeps, is refused: the fields of one that is not have room in 134
pub long-line : (line : List ℕ) → 256 < length line → line_answer line ≡ refusal
unfolding line_answer
long-line line h =
    by-test (eqb (length (fields_of line)) 6)
    (λ six. rw six
    (fields-hold (λ s. s ≡ refusal) refl
    (field_of line 0) (field_of line 1) (field_of line 2) (field_of line 3) (field_of line 4) (field_of line 5)
    (λ k t c a n e f g i j ok. absurd (too_long line h (eqb-true (length (fields_of line)) 6 six) e f g i j ok))))
    (λ no. rw no)
