-- What each branch of a line's call returns.
use Rattle.token.specs.Answers.{Answer}
use Rattle.std.specs.Prelude.{ℕ, ◌^◌, ◌≤◌, ◌<◌, ◌≡◌, Bool, List, [], ◌∷◌, leb, ltb, length, Option, Some, None}
use Rattle.std.proofs.Math.Path.{refl}
use Rattle.std.proofs.Common.{sym, ◌∙◌, arith}
use Rattle.std.proofs.Math.Bool.{true, false}
use borrow.Author.Tests.{le-ltb, lt-leb, le-leb, leb-false, ltb-false, ne_eqb}
use Rattle.words.specs.Lists.{same_bytes}
use Rattle.words.specs.BoolLaws.{by-test, and_false, impossible}
use Rattle.otp.specs.Password.{challenge_ok}
use Rattle.row.specs.Row.{row_bytes}
use Rattle.text.specs.Text.{decoded, decoded_of, bounded, hex_of, fields_of}
use Rattle.window.specs.PasswordAt.{PasswordRule}
use Rattle.token.specs.declared.answers.Refusal.{Refusal}
use Rattle.desk.specs.declared.Particulars.{Particulars}
use Rattle.desk.specs.Requests.{DeskCall, challenge_call, table_ok, challenge_given, request_ok}
use Rattle.desk.specs.Desk.{Result, result_of, refused, desk_after}
use Rattle.desk.specs.Reads.{Reads, read_after}
use Rattle.desk.proofs.LoadLaws.{long-key-bad}
use Rattle.call_lines.specs.Line.{field_of, given, below, not_made, particulars_of, load_line, challenge_line, call_line, message_word, is_message, message_line, reads_of, code_text, values_text, answer_text, line_after, left}

-- ---- numbers

-- a number of 64 bits
pub number-is : (o : Option ℕ) → bounded o ≡ below (2 ^ 64) o
unfolding bounded
number-is None = refl
number-is (Some v) = refl

-- and one of fewer
pub number_narrowed : (limit : ℕ) (o : Option ℕ) → limit ≤ 2 ^ 64 → below limit (below (2 ^ 64) o) ≡ below limit o
number_narrowed limit None l = refl
number_narrowed limit (Some v) l =
    by-test (ltb v (2 ^ 64))
    (λ t. rw t)
    (λ f. let h = ltb-false v (2 ^ 64) f in rw (f, le-ltb v limit (omega arith)))

-- ---- what is read

module _ (passwords : PasswordRule) (s : List ℕ) where
  -- what is not so made, or a call with a bad argument
  abbrev pub TurnedDown : Reads → Type 0
  TurnedDown r = refused Refusal.BadArgument s ≡ read_after passwords r s

  pub read_none : {r : Reads} → r ≡ not_made → TurnedDown r
  unfolding read_after
  read_none e = rw e

  pub read_as : {r t : Reads} {after : Result} → after ≡ read_after passwords t s → r ≡ t → after ≡ read_after passwords r s
  read_as m e = rw e m

  pub read-call : {r : Reads} {call : DeskCall} {after : Result} → after ≡ desk_after passwords call s → r ≡ Reads.serves call → after ≡ read_after passwords r s
  unfolding read_after
  read-call m e = rw e m

-- ---- a key or a challenge of more than 32 bytes is a bad argument

module _ (passwords : PasswordRule) (s : List ℕ) where
  pub long-key : (p : Particulars) (key : List ℕ) → 32 < length key → desk_after passwords (DeskCall.load p key) s ≡ refused Refusal.BadArgument s
  unfolding desk_after
  long-key p key l = rw (← long-key-bad p key l, and_false (table_ok row_bytes s))

  pub long-challenge : (challenge password : List ℕ) (serial clock : ℕ) → 32 < length challenge
      → desk_after passwords (challenge_call challenge password serial clock) s ≡ refused Refusal.BadArgument s
  unfolding desk_after request_ok challenge_given challenge_ok
  long-challenge challenge password serial clock l =
      rw (ne_eqb (length challenge) 0 (λ e. omega arith), lt-leb (length challenge) 32 l, and_false, and_false, and_false, and_false)

-- digits that are not right, or too many
hex_bad : (Q : Option (List ℕ) → Type 0) → Q None → ((b : List ℕ) → 32 < length b → Q (Some b)) → (o : Option (List ℕ)) → decoded o ≡ None → Q o
unfolding decoded
hex_bad Q q h None e = q
hex_bad Q q h (Some b) e =
    by-test (leb (length b) 32)
    (λ t. let z : Some b ≡ None = rw t at e in impossible (cc))
    (λ t. h b (leb-false (length b) 32 t))

-- ---- the calls with arguments that are read

module _ (passwords : PasswordRule) (s : List ℕ) (fields : List (List ℕ)) (serial clock : ℕ) where
  pub challenge-bad : decoded_of (field_of fields 2) ≡ None → TurnedDown passwords s (challenge_line fields serial clock)
  unfolding challenge_line read_after
  challenge-bad e =
      hex_bad
      (λ o. TurnedDown passwords s (given o not_made (λ challenge. Reads.serves (challenge_call challenge (field_of fields 3) serial clock))))
      refl
      (λ q l. rw (long-challenge passwords s q (field_of fields 3) serial clock l))
      (hex_of (field_of fields 2))
      e

  pub load-bad : {p : Particulars} → particulars_of fields serial clock ≡ Some p → decoded_of (field_of fields 7) ≡ None
      → TurnedDown passwords s (load_line fields serial clock)
  unfolding load_line read_after
  load-bad {p} read e =
      rw read
      (hex_bad (λ o. TurnedDown passwords s (given o not_made (λ k. Reads.serves (DeskCall.load p k)))) refl
      (λ k l. rw (long-key passwords s p k l)) (hex_of (field_of fields 7)) e)

-- ---- the line

-- a line not so made prints 9005, and changes nothing
pub not_made_lem : (passwords : PasswordRule) (line s : List ℕ) → reads_of line ≡ not_made
    → line_after passwords line s ≡ record { text = 0x39 ∷ 0x30 ∷ 0x30 ∷ 0x35 ∷ []; table = s }
unfolding line_after read_after answer_text code_text values_text
not_made_lem passwords line s e = rw e

module _ (line : List ℕ) where
  pub line-long : 4096 < length line → reads_of line ≡ not_made
  unfolding reads_of
  line-long l = rw (lt-leb (length line) 4096 l)

  module _ (short : length line ≤ 4096) {field : List ℕ} {right : Bool} (first : field ≡ field_of (fields_of line) 0) (named : right ≡ same_bytes field message_word) where
    pub line-message : right ≡ true → reads_of line ≡ message_line (fields_of line)
    unfolding reads_of
    line-message t = let is : is_message (fields_of line) ≡ true = rw (← first) (sym named ∙ t) in rw (le-leb (length line) 4096 short, is)

    pub line-call : right ≡ false → reads_of line ≡ call_line (fields_of line)
    unfolding reads_of
    line-call f = let is : is_message (fields_of line) ≡ false = rw (← first) (sym named ∙ f) in rw (le-leb (length line) 4096 short, is)

-- the answer's text is printed, and the table is as the call left it
pub line-left : (passwords : PasswordRule) (line s : List ℕ) {answer : Answer} {after : List ℕ}
    → result_of answer after ≡ read_after passwords (reads_of line) s → left (answer_text answer) after ≡ line_after passwords line s
unfolding line_after
line-left passwords line s m = rw (← m)
