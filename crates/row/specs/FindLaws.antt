-- Laws of the search as the code makes it: the rows that are left give what all give, and rows without the serial are passed over by fours.
use Rattle.std.specs.Prelude.{ℕ, zero, suc, ◌+◌, ◌-◌, ◌*◌, ◌/◌, ◌^◌, ◌≤◌, ◌<◌, ◌≡◌, Bool, true, false, not, ◌&&◌, ◌||◌, List, leb, Some, None}
use Rattle.std.proofs.Math.Path.{refl}
use Rattle.std.proofs.Common.{sym, ap, ◌∙◌, add-one}
use Rattle.std.proofs.Math.Nat.{sub-zero, div-eq_of_lt, div-eq-sub-div}
use native.Mathlib.Omega.{arith}
use borrow.Author.Tests.{leb-true, lt-leb, le-leb, not-true}
use Rattle.std.proofs.Math.ListN.{length}
use Rattle.words.specs.Bytes.{AreBytes, swap_bytes}
use Rattle.words.specs.BoolLaws.{and_false, and_left, and_right, or_left, or_right}
use Rattle.words.specs.SwapLaws.{swapped_same}
use Rattle.row.specs.declared.finding.Wanted.TheVariants.{Serial, Empty}
use Rattle.row.specs.Row.{row_bytes}
use Rattle.row.specs.Table.{Place, is_empty, has_serial, first_row, find_row, find_empty}
use Rattle.row.specs.Finding.{serial_is, passes, first_from, four_lack}

-- ---- one row after the other

-- one row more is left at a place than behind it
one_more : (n width at next : ℕ) → 0 < width → at + width ≡ next → next ≤ n → (n - at) / width ≡ suc ((n - next) / width)
one_more n width at next some e h =
    let l : width ≤ n - at = omega arith in
    let m : n - at - width ≡ n - next = omega arith in
    div-eq-sub-div some l ∙ rw (m, add-one)

module _ (width : ℕ) (test : ℕ → Bool) (s : List ℕ) (some : row_bytes ≤ width) (at : ℕ) where
  pub none_left : length s < at + width → None ≡ first_from width test s at
  unfolding first_from first_row
  none_left h =
      let l : length s - at < width = omega arith in
      rw (div-eq_of_lt l)

  pub first_passes : at + width ≤ length s → test at ≡ true → Some at ≡ first_from width test s at
  unfolding first_from first_row
  first_passes h t = rw (one_more (length s) width at (at + width) (omega arith) refl h, t)

  pub first_fails : (next : ℕ) → at + width ≡ next → next ≤ length s → test at ≡ false → first_from width test s next ≡ first_from width test s at
  unfolding first_from first_row
  first_fails next e h t = rw (one_more (length s) width at next (omega arith) e h, t, e)

-- ---- rows passed over by fours

module _ (width : ℕ) (s : List ℕ) (wanted at : ℕ) where
  pub few-left : length s < at + 4 * width → false ≡ four_lack width s wanted at
  unfolding four_lack
  few-left h = rw (lt-leb (at + 4 * width) (length s) h)

  pub four-left : {a b c d : Bool} → at + 4 * width ≤ length s
      → a ≡ serial_is s wanted at → b ≡ serial_is s wanted (at + width) → c ≡ serial_is s wanted (at + 2 * width) → d ≡ serial_is s wanted (at + 3 * width)
      → not (((a || b) || c) || d) ≡ four_lack width s wanted at
  unfolding four_lack
  four-left h p q r t = rw (le-leb (at + 4 * width) (length s) h, p, q, r, t)

  pub enough-left : four_lack width s wanted at ≡ true → at + 4 * width ≤ length s
  unfolding four_lack
  enough-left t = leb-true (at + 4 * width) (length s) (and_left _ _ t)

-- a row without the serial does not pass
lacks : (s : List ℕ) (wanted at : ℕ) → serial_is s wanted at ≡ false → passes s (Serial wanted) at ≡ false
lacks s wanted at t = rw t (and_false (not (is_empty s at)))

pub four-passed : (width : ℕ) (s : List ℕ) (wanted at : ℕ) → row_bytes ≤ width → four_lack width s wanted at ≡ true
    → first_from width (passes s (Serial wanted)) s (at + 4 * width) ≡ first_from width (passes s (Serial wanted)) s at
unfolding four_lack
four-passed width s wanted at some t =
    let a = serial_is s wanted at in
    let b = serial_is s wanted (at + width) in
    let c = serial_is s wanted (at + 2 * width) in
    let d = serial_is s wanted (at + 3 * width) in
    let none : ((a || b) || c) || d ≡ false = not-true (((a || b) || c) || d) (and_right (leb (at + 4 * width) (length s)) _ t) in
    let three : (a || b) || c ≡ false = or_left ((a || b) || c) d none in
    let two : a || b ≡ false = or_left (a || b) c three in
    let h = enough-left width s wanted at t in
    passed (at + 3 * width) (at + 4 * width) (omega arith) (omega arith) (or_right ((a || b) || c) d none)
    ∙ passed (at + 2 * width) (at + 3 * width) (omega arith) (omega arith) (or_right (a || b) c three)
    ∙ passed (at + width) (at + 2 * width) (omega arith) (omega arith) (or_right a b two)
    ∙ passed at (at + width) refl (omega arith) (or_left a b two)
  where
    passed : (by next : ℕ) → by + width ≡ next → next ≤ length s → serial_is s wanted by ≡ false
        → first_from width (passes s (Serial wanted)) s next ≡ first_from width (passes s (Serial wanted)) s by
    passed by next e h l = first_fails width (passes s (Serial wanted)) s some by next e h (lacks s wanted by l)

-- ---- from the table's start

first-same : (width : ℕ) (test other : ℕ → Bool) → ((at : ℕ) → test at ≡ other at) → (count at : ℕ) → first_row width test count at ≡ first_row width other count at
unfolding first_row
first-same width test other e zero at = refl
first-same width test other e (suc count) at = rw (e at, first-same width test other e count (at + width))

-- a serial is found by its bytes in the other order
pub found_swapped : (width : ℕ) (s : List ℕ) (serial : ℕ) {wanted : ℕ} {r : Place} → AreBytes s → serial < 2 ^ 64 → wanted ≡ swap_bytes 8 serial
    → r ≡ first_from width (passes s (Serial wanted)) s 0 → r ≡ find_row width s serial
unfolding first_from find_row has_serial
found_swapped width s serial bytes l w e =
    rw (w, sub-zero) at e
    ∙ first-same width (passes s (Serial (swap_bytes 8 serial))) (has_serial s serial)
    (λ at. ap (λ (b : Bool). not (is_empty s at) && b) (sym (swapped_same 8 s (at + 8) serial bytes l))) (length s / width) 0

pub found-empty : (width : ℕ) (s : List ℕ) {r : Place} → r ≡ first_from width (passes s Empty) s 0 → r ≡ find_empty width s
unfolding first_from find_empty
found-empty width s e = rw sub-zero at e
