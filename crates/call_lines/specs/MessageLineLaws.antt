-- What each branch of a message's line returns.
use Rattle.std.specs.Prelude.{ℕ, zero, suc, ◌≤◌, ◌≡◌, List, [], ◌∷◌, length, take, replicate, Option, Some, None}
use native.Mathlib.Omega.{arith}
use Rattle.std.proofs.Math.ListN.{length-replicate}
use Rattle.text.specs.Text.{hex_left, hex_into, fields_of, sum_lengths}
use Rattle.text.specs.TextLaws.{into_bytes, into_bad, length_fields}
use Rattle.message_calls.specs.Serving.{message_reads}
use Rattle.call_lines.specs.Line.{field_of, not_made, message_in}

-- a field is no longer than its line
field_sum : (fields : List (List ℕ)) (i : ℕ) → length (field_of fields i) ≤ sum_lengths fields
unfolding sum_lengths
field_sum [] i = omega arith
field_sum (f ∷ fields) zero = omega arith
field_sum (f ∷ fields) (suc i) = let h = field_sum fields i in omega arith

pub field_short : (line : List ℕ) (i : ℕ) {field : List ℕ} → length line ≤ 4096 → field ≡ field_of (fields_of line) i → length field ≤ 4096
field_short line i l e = rw e (let h = field_sum (fields_of line) i in omega (arith, length_fields line))

-- the digits, for whose bytes there is room
module _ (digits : List ℕ) (clock : ℕ) {r : Option ℕ} {bytes : List ℕ} (read : hex_left r bytes ≡ hex_into digits (replicate 2048 0)) where
  pub message-wrong : length digits ≤ 4096 → r ≡ None → message_in digits clock ≡ not_made
  unfolding message_in
  message-wrong short e = rw (into_bad digits (replicate 2048 0) read (omega (arith, length-replicate {A = ℕ} 2048 0)) e)

  pub message-read : {n : ℕ} → r ≡ Some n → (message_in digits clock ≡ message_reads (take n bytes) clock) × (n ≤ length bytes)
  unfolding message_in
  message-read e = let h = into_bytes digits (replicate 2048 0) read e in (rw h.0, h.1)
