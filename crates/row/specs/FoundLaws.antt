-- What a search finds: a row that passes, within the table, and no earlier one.
use Prim.Native.Nat.{ℕ, zero, suc, ◌+◌, ◌*◌, ◌/◌, ◌≤◌, ◌<◌}
use Rattle.std.specs.Prelude.{◌≡◌, ◌⊎◌, Bool, true, false, List, length, Some, None}
use Rattle.std.proofs.Common.{subst, ◌∙◌, inl, inr, ⊎_elim, zero-add, mul-le-mul_right, div-mul-le_self, not-suc-le-zero}
use Rattle.std.proofs.Math.Nat.{suc-mul}
use native.Mathlib.Omega.{arith}
use Rattle.words.specs.BoolLaws.{by-test, clash, impossible}
use Rattle.window.proofs.CheckLaws.{order}
use Rattle.row.specs.Row.{row_bytes}
use Rattle.row.specs.Table.{is_empty, has_serial, first_row, find_row, find_empty}

module _ (width : ℕ) (test : ℕ → Bool) where
  first-has : (count at place : ℕ) → first_row width test count at ≡ Some place → test place ≡ true
  unfolding first_row
  first-has zero at place e = cc
  first-has (suc count) at place e =
      by-test (test at)
      (λ t. let f = rw t at e in let p : at ≡ place = cc in rw (← p) t)
      (λ t. first-has count (at + width) place (rw t at e))

  first-within : (count at place : ℕ) → first_row width test count at ≡ Some place → place + width ≤ at + count * width
  unfolding first_row
  first-within zero at place e = impossible (cc)
  first-within (suc count) at place e =
      let m = suc-mul count width in
      by-test (test at)
      (λ t. let f = rw t at e in let p : at ≡ place = cc in omega arith)
      (λ t. let l = first-within count (at + width) place (rw t at e) in omega arith)

  -- the place of row j counted from the next row
  next_row : (at j : ℕ) → at + suc j * width ≡ at + width + j * width
  next_row at j = let m = suc-mul j width in omega arith

  -- no earlier row passes
  first-first : (count at place : ℕ) → first_row width test count at ≡ Some place → (j : ℕ) → at + j * width < place → test (at + j * width) ≡ false
  unfolding first_row
  first-first zero at place e j l = cc
  first-first (suc count) at place e zero l =
      by-test (test at)
      (λ t. let f = rw t at e in let p : at ≡ place = cc in absurd (omega arith))
      (λ t. let z : at + 0 * width ≡ at = omega arith in rw z t)
  first-first (suc count) at place e (suc j) l =
      let n = next_row at j in
      by-test (test at)
      (λ t. let f = rw t at e in let p : at ≡ place = cc in absurd (omega arith))
      (λ t. rw n (first-first count (at + width) place (rw t at e) j (omega arith)))

  nowhere-passes : (count at : ℕ) → first_row width test count at ≡ None → (j : ℕ) → j < count → test (at + j * width) ≡ false
  unfolding first_row
  nowhere-passes zero at e j l = absurd (not-suc-le-zero l)
  nowhere-passes (suc count) at e zero l =
      by-test (test at) (λ t. let f = rw t at e in cc) (λ t. let z : at + 0 * width ≡ at = omega arith in rw z t)
  nowhere-passes (suc count) at e (suc j) l =
      by-test (test at) (λ t. let f = rw t at e in cc) (λ t. rw (next_row at j) (nowhere-passes count (at + width) (rw t at e) j (omega arith)))

  -- what is found stands a number of rows on
  first-row : (count at place : ℕ) → first_row width test count at ≡ Some place → (j : ℕ) × (place ≡ at + j * width)
  unfolding first_row
  first-row zero at place e = impossible (cc)
  first-row (suc count) at place e =
      by-test (test at)
      (λ t. let f = rw t at e in let p : at ≡ place = cc in (0, omega arith))
      (λ t.
      let l = first-row count (at + width) place (rw t at e) in
      let p = l.1 in
      let n = next_row at l.0 in
      (suc l.0, omega arith))

-- ---- from the table's start

-- a row before another ends where that begins
row_before : (width i j : ℕ) → i < j → i * width + width ≤ j * width
row_before width i j l = let m = mul-le-mul_right width l in let n = suc-mul i width in omega arith

module _ (width : ℕ) (test : ℕ → Bool) (s : List ℕ) where
  whole-within : (at : ℕ) → first_row width test (length s / width) 0 ≡ Some at → at + width ≤ length s
  whole-within at e =
      let l = first-within width test (length s / width) 0 at e in
      let d = div-mul-le_self (length s) width in
      omega arith

  whole-first : (at : ℕ) → first_row width test (length s / width) 0 ≡ Some at → (j : ℕ) → j * width < at → test (j * width) ≡ false
  whole-first at e j l = subst (λ (i : ℕ). test i ≡ false) (zero-add (j * width)) (first-first width test (length s / width) 0 at e j (omega arith))

  whole-nowhere : first_row width test (length s / width) 0 ≡ None → (j : ℕ) → j < length s / width → test (j * width) ≡ false
  whole-nowhere e j l = subst (λ (i : ℕ). test i ≡ false) (zero-add (j * width)) (nowhere-passes width test (length s / width) 0 e j l)

  -- a row that does not pass lies wholly before or behind the one found
  whole_apart : (at : ℕ) → first_row width test (length s / width) 0 ≡ Some at → (i : ℕ) → test (i * width) ≡ false → (i * width + width ≤ at) ⊎ (at + width ≤ i * width)
  whole_apart at e i fails =
      let found = first-row width test (length s / width) 0 at e in
      let j = found.0 in
      let p = found.1 in
      ⊎_elim (λ (h : i < j). let l = row_before width i j h in inl (omega arith))
      (λ (h : j ≤ i).
      ⊎_elim (λ (k : j < i). let l = row_before width j i k in inr (omega arith))
      (λ (k : i ≤ j).
      let q : i ≡ j = omega arith in
      let here : at ≡ i * width = rw q (p ∙ zero-add (j * width)) in
      clash (first-has width test (length s / width) 0 at e) (rw here fails))
      (order j i))
      (order i j)

module _ (width : ℕ) (s : List ℕ) (serial : ℕ) where
  pub found-has : (at : ℕ) → find_row width s serial ≡ Some at → has_serial s serial at ≡ true
  unfolding find_row
  found-has at e = first-has width (has_serial s serial) (length s / width) 0 at e

  pub found_within : row_bytes ≤ width → (at : ℕ) → find_row width s serial ≡ Some at → at + row_bytes ≤ length s
  unfolding find_row
  found_within long at e = let l = whole-within width (has_serial s serial) s at e in omega arith

  pub found_first : (at : ℕ) → find_row width s serial ≡ Some at → (j : ℕ) → j * width < at → has_serial s serial (j * width) ≡ false
  unfolding find_row
  found_first = whole-first width (has_serial s serial) s

  pub found_nowhere : find_row width s serial ≡ None → (j : ℕ) → j < length s / width → has_serial s serial (j * width) ≡ false
  unfolding find_row
  found_nowhere = whole-nowhere width (has_serial s serial) s

  pub found-apart : (at : ℕ) → find_row width s serial ≡ Some at → (i : ℕ) → has_serial s serial (i * width) ≡ false → (i * width + width ≤ at) ⊎ (at + width ≤ i * width)
  unfolding find_row
  found-apart = whole_apart width (has_serial s serial) s

module _ (width : ℕ) (s : List ℕ) where
  pub empty-has : (at : ℕ) → find_empty width s ≡ Some at → is_empty s at ≡ true
  unfolding find_empty
  empty-has at e = first-has width (is_empty s) (length s / width) 0 at e

  pub empty-within : row_bytes ≤ width → (at : ℕ) → find_empty width s ≡ Some at → at + row_bytes ≤ length s
  unfolding find_empty
  empty-within long at e = let l = whole-within width (is_empty s) s at e in omega arith

  pub empty-first : (at : ℕ) → find_empty width s ≡ Some at → (j : ℕ) → j * width < at → is_empty s (j * width) ≡ false
  unfolding find_empty
  empty-first = whole-first width (is_empty s) s

  pub empty-nowhere : find_empty width s ≡ None → (j : ℕ) → j < length s / width → is_empty s (j * width) ≡ false
  unfolding find_empty
  empty-nowhere = whole-nowhere width (is_empty s) s

  pub empty-apart : (at : ℕ) → find_empty width s ≡ Some at → (i : ℕ) → is_empty s (i * width) ≡ false → (i * width + width ≤ at) ⊎ (at + width ≤ i * width)
  unfolding find_empty
  empty-apart = whole_apart width (is_empty s) s
