-- The text of an answer: what is printed of a number is read again as that number, and no answer has more than 40 bytes.
use Rattle.token.specs.Answers.{Answer}
use Rattle.std.specs.Prelude.{ℕ, zero, suc, ◌+◌, ◌-◌, ◌*◌, ◌/◌, ◌%◌, ◌^◌, ◌≤◌, ◌<◌, ◌≡◌, refl, List, [], ◌∷◌, ◌++◌, eqb, leb, ltb, length, get_or, Some, None, Err, Ok}
use Rattle.std.proofs.Common.{sym, ◌∙◌, pow-suc, div-lt_iff_lt-mul, lt_of_lt_of_le, zero-lt-suc, arith, eqb-true, lt-ltb, le-leb, ltb-true, ltb-false, leb-false, lit≤, length-append}
use Rattle.std.proofs.lemmas.Bool.{eqb-false}
use Rattle.std.proofs.Math.ListN.{get_or-append}
use Rattle.words.specs.BoolLaws.{by-test}
use Rattle.text.specs.Text.{comma, digit_value, digits_from, decimal_of, bounded, number_in}
use Rattle.text.specs.DecimalLaws.{decimal_digits_lem}
use Rattle.window.specs.declared.Offset.{Offset}
use Rattle.window.specs.Window.{farthest}
use Rattle.token.specs.declared.answers.Content.{Content}
use Rattle.token.specs.Codes.{signed_of, values_of}
use Rattle.call_lines.specs.Line.{given, code_text, decimal_digits, decimal_text, signed_text, values_text, answer_text}
use Rattle.call_lines.specs.PrintingLaws.{decimal_few}

-- ---- a printed number is read again

digit_value_lem : (d : ℕ) → d < 10 → digit_value (d + 0x30) ≡ d
unfolding digit_value
digit_value_lem d l = let z : d + 0x30 - 0x30 ≡ d = omega arith in rw (le-leb 0x30 (d + 0x30) (omega arith), le-leb (d + 0x30) 0x39 (omega arith), z)

digit_read : (v d : ℕ) → d < 10 → digits_from v ((d + 0x30) ∷ []) ≡ Some (v * 10 + d)
unfolding digits_from
digit_read v d l = rw (digit_value_lem d l, lt-ltb d 10 l)

digits-behind : (v : ℕ) (s t : List ℕ) → digits_from v (s ++ t) ≡ given (digits_from v s) None (λ w. digits_from w t)
unfolding digits_from
digits-behind v [] t = refl
digits-behind v (b ∷ s) t =
    by-test (ltb (digit_value b) 10)
    (λ y. rw y (digits-behind (v * 10 + digit_value b) s t))
    (λ n. rw n)

digits-read : (n x : ℕ) → x < 10 ^ n → digits_from 0 (decimal_digits n x) ≡ Some x
unfolding decimal_digits digits_from
digits-read zero x l = let e : x ≡ 0 = omega arith in rw e
digits-read (suc n) x l =
    let ih = digits-read n (x / 10) ((div-lt_iff_lt-mul (zero-lt-suc 9)).1 (rw (pow-suc 10 n) at l)) in
    let whole : x / 10 * 10 + x % 10 ≡ x = omega arith in
    let zero-first : 0 * 10 + x ≡ x = omega arith in
    by-test (ltb x 10)
    (λ y. rw (y, digit_read 0 x (ltb-true x 10 y), zero-first))
    (λ m. rw (m, digits-behind 0 (decimal_digits n (x / 10)) ((x % 10 + 0x30) ∷ []), ih, digit_read (x / 10) (x % 10) (omega arith), whole))

-- a number above 0 starts with another digit
digits-there : (n x : ℕ) → 0 < length (decimal_digits (suc n) x)
unfolding decimal_digits
digits-there n x =
    by-test (ltb x 10)
    (λ y. rw y (omega arith))
    (λ m. rw (m, length-append (decimal_digits n (x / 10)) ((x % 10 + 0x30) ∷ [])) (omega arith))

no-zero-first : (n x : ℕ) → 0 < x → x < 10 ^ n → get_or (decimal_digits n x) 0 0 ≡ 0x30 → ⊥
unfolding decimal_digits
no-zero-first zero x p l e = omega arith
no-zero-first (suc zero) x p l e = let h : x < 10 = omega arith in let z : x + 0x30 ≡ 0x30 = rw (lt-ltb x 10 h) at e in omega arith
no-zero-first (suc (suc n)) x p l e =
    by-test (ltb x 10)
    (λ y. let z : x + 0x30 ≡ 0x30 = rw y at e in omega arith)
    (λ m.
    let h = ltb-false x 10 m in
    no-zero-first (suc n) (x / 10) (omega arith) ((div-lt_iff_lt-mul (zero-lt-suc 9)).1 (rw (pow-suc 10 (suc n)) at l))
    (sym (get_or-append (decimal_digits (suc n) (x / 10)) ((x % 10 + 0x30) ∷ []) 0 0 (digits-there n (x / 10))) ∙ rw m at e))

pub decimal_again : (x : ℕ) → x < 2 ^ 64 → Some x ≡ number_in (decimal_text x)
unfolding decimal_digits decimal_of digits_from digit_value bounded
decimal_again x l =
    by-test (eqb x 0)
    (λ y. rw (eqb-true x 0 y))
    (λ n.
    let p : 0 < x = omega (arith, eqb-false x 0 n) in
    let h : x < 10 ^ 20 = lt_of_lt_of_le l (lit≤ tt) in
    decimal_digits_lem (decimal_text x) (λ e. omega (arith, digits-there 19 x)) (no-zero-first 20 x p h) (rw (digits-read 20 x h, lt-ltb x (2 ^ 64) l)))

-- ---- an answer fits

-- the numbers of an answer are those of its types
abbrev pub Typed : Content → Type 0
Typed Content.Plain = Unit {0}
Typed (Content.Checked step offset) = (step.0 < 2 ^ 64) × (offset.0 < 2 ^ 16)
Typed (Content.Queried status) = (status.state < 2 ^ 8) × ((status.errors < 2 ^ 8) × (status.last_use.0 < 2 ^ 64))

abbrev pub AnswerTyped : Answer → Type 0
AnswerTyped (Ok success) = Typed success.content
AnswerTyped (Err refusal) = Unit {0}

-- an offset has a sign and up to five digits
offset-fits : (offset : Offset) → offset.0 < 2 ^ 16 → length (signed_text (signed_of offset)) ≤ 5
unfolding signed_of
offset-fits offset l =
    by-test (leb farthest offset.0)
    (λ y. rw y (decimal_few 4 (offset.0 - farthest) (omega arith)))
    (λ m. let h = leb-false farthest offset.0 m in let few = decimal_few 2 (farthest - offset.0) (omega arith) in rw m (omega arith))

content-fits : (content : Content) → Typed content → length (values_text (values_of content)) ≤ 36
unfolding values_of values_text
content-fits Content.Plain h = omega arith
content-fits (Content.Checked step offset) h =
    let a = decimal_few 19 step.0 (lt_of_lt_of_le h.0 (lit≤ tt)) in
    let b = offset-fits offset h.1 in
    rw (length-append (decimal_text step.0) (comma ∷ (signed_text (signed_of offset) ++ [])), length-append (signed_text (signed_of offset)) []) (omega arith)
content-fits (Content.Queried status) h =
    let a = decimal_few 2 status.state (omega arith) in
    let b = decimal_few 2 status.errors (omega arith) in
    let c = decimal_few 19 status.last_use.0 (lt_of_lt_of_le h.1.1 (lit≤ tt)) in
    rw (
      length-append (decimal_text status.state) (comma ∷ (decimal_text status.errors ++ (comma ∷ (decimal_text status.last_use.0 ++ [])))),
      length-append (decimal_text status.errors) (comma ∷ (decimal_text status.last_use.0 ++ [])),
      length-append (decimal_text status.last_use.0) [],
    ) (omega arith)

pub answer-fits : (answer : Answer) → AnswerTyped answer → length (answer_text answer) ≤ 40
unfolding answer_text code_text values_text
answer-fits (Ok success) h = let few = content-fits success.content h in omega arith
answer-fits (Err refusal) h = omega arith
