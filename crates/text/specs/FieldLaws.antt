-- What `first_field` returns, over what `find` ensures.
use Rattle.std.specs.Prelude.{◌≡◌, ℕ, ◌+◌, ◌-◌, ◌<◌, ◌≤◌, List, [], ◌∷◌, length, take, drop, ◌≢◌}
use native.Mathlib.Omega.{arith}
use borrow.Author.Tests.{lt-ltb, le-ltb}
use Rattle.std.proofs.Math.ListN.{length-drop}
use Rattle.std.proofs.Math.Seq.{take_all, take-length}
use Rattle.words.specs.Search.{index_of, slice}
use Rattle.text.specs.Text.{comma, fields_of}
use Rattle.text.specs.TextLaws.{fields-first}

module _ (line : List ℕ) {end : ℕ} (found : end ≡ 0 + index_of comma (slice 0 (length line) line)) where
  end-is : end ≡ index_of comma line
  unfolding slice
  end-is = rw (found, take-length line) (omega arith)

  -- without a comma the line is one field
  pub first-last : end ≡ length line → fields_of line ≡ line ∷ []
  first-last e =
      let at : index_of comma line ≡ length line = omega (arith, end-is) in
      rw (fields-first line, at, le-ltb (length line) (length line) (omega arith), take-length line)

  -- else the other fields stand behind it
  pub first-comma : (end ≢ length line) → end ≤ length line → fields_of line ≡ take end line ∷ fields_of (take (length line - (end + 1)) (drop (end + 1) line))
  first-comma n l =
      let m : end < length line = omega arith in
      let behind : length (drop (end + 1) line) ≤ length line - (end + 1) = rw length-drop (omega arith) in
      rw (take_all (length line - (end + 1)) (drop (end + 1) line) behind, fields-first line, ← end-is, lt-ltb end (length line) m)
