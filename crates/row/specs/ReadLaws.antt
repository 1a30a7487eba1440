-- The tests of a row as the code makes them: of its numbers one after the other, and of its zeros as numbers.
use Rattle.std.specs.Prelude.{ℕ, ◌+◌, ◌-◌, ◌≤◌, ◌≡◌, refl, Bool, true, false, ◌&&◌, List, [], ◌∷◌, ◌++◌, Some, eqb, leb, length, get_or, take, drop}
use Rattle.std.proofs.Common.{ap, sym, ◌∙◌, arith, length-drop, length-take-le, take-add, drop_at, drop-drop}
use Rattle.std.specs.Ordering.{partial_le, nat_cmp}
use Rattle.std.specs.Range.{range_inclusive_start, range_inclusive_end, range_inclusive_exhausted, range_inclusive_contains}
use Rattle.std.specs.declared.ops.RangeInclusive.{RangeInclusive}
use Rattle.std.proofs.lemmas.Bool.Decides.{nat_tests}
use Rattle.words.specs.Bytes.{AreBytes, be_at, le_at, swap_bytes}
use Rattle.words.specs.Lists.{all_zero}
use Rattle.words.specs.BoolLaws.{and_true, and_assoc}
use Rattle.words.specs.SwapLaws.{swapped_same, zero_number}
use Rattle.row.specs.Row.{row_bytes, key_bytes, key_at, all_of, zeros_ok}

-- ---- numbers

-- the tests as they are made, one after the other
abbrev in_order : Bool → List Bool → Bool
in_order b [] = b
in_order b (d ∷ bs) = in_order (b && d) bs

abbrev pub all_made : List Bool → Bool
all_made [] = true
all_made (b ∷ bs) = in_order b bs

in_order_lem : (b : Bool) (bs : List Bool) → in_order b bs ≡ b && all_of bs
in_order_lem b [] = sym (and_true b)
in_order_lem b (d ∷ bs) = in_order_lem (b && d) bs ∙ and_assoc b d (all_of bs)

pub all_made_lem : (bs : List Bool) → all_made bs ≡ all_of bs
all_made_lem [] = refl
all_made_lem (b ∷ bs) = in_order_lem b bs

-- what a range of numbers contains
numbered : (a b : ℕ) → partial_le (λ x y. Some (nat_cmp x y)) a b ≡ leb a b
numbered a b = grind (arith, nat_tests)

pub within-range : {r : RangeInclusive ℕ} {b : Bool} {low high : ℕ} (x : ℕ) → range_inclusive_start r ≡ low → range_inclusive_end r ≡ high → range_inclusive_exhausted r ≡ false
    → b ≡ range_inclusive_contains (λ x y. Some (nat_cmp x y)) r x → b ≡ leb low x && leb x high
within-range {low = low} {high = high} x l h e t = t ∙ rw (l, h, e, numbered low x, numbered x high)

-- ---- zeros

-- the bytes behind the key
behind-key : (s : List ℕ) (at n : ℕ) → n ≤ key_bytes → at + 48 ≤ length s → take (at + 48 - (at + 16 + n)) (drop (at + 16 + n) s) ≡ drop n (key_at s at)
behind-key s at n h room =
    let e : key_bytes ≡ n + (key_bytes - n) = omega arith in
    let m : at + 48 - (at + 16 + n) ≡ key_bytes - n = omega arith in
    let l : length (take n (drop (at + 16) s)) ≡ n = length-take-le n (drop (at + 16) s) (rw length-drop (omega arith)) in
    let whole : key_at s at ≡ take n (drop (at + 16) s) ++ take (key_bytes - n) (drop n (drop (at + 16) s)) =
    ap (λ (k : ℕ). take k (drop (at + 16) s)) e ∙ take-add n (key_bytes - n) (drop (at + 16) s) in
    let rest = drop_at (take n (drop (at + 16) s)) (take (key_bytes - n) (drop n (drop (at + 16) s))) n l in
    rw (m, whole, rest, drop-drop n (at + 16) s)

pub zeros_read : (s : List ℕ) (at : ℕ) {behind : Bool} {gap spare : ℕ} → AreBytes s → at + row_bytes ≤ length s → get_or s (at + 7) 0 ≤ key_bytes
    → behind ≡ all_zero (take (at + 48 - (at + 16 + get_or s (at + 7) 0)) (drop (at + 16 + get_or s (at + 7) 0) s))
    → gap ≡ be_at 2 s (at + 58)
    → spare ≡ le_at 8 s (at + 88)
    → (behind && eqb gap 0) && eqb spare 0 ≡ zeros_ok s at
unfolding zeros_ok swap_bytes
zeros_read s at bytes room h p q r =
    let two : eqb (be_at 2 s (at + 58)) 0 ≡ all_zero (take 2 (drop (at + 58) s)) =
    swapped_same 2 s (at + 58) 0 bytes (omega arith) ∙ zero_number 2 s (at + 58) (omega arith) in
    let eight = zero_number 8 s (at + 88) (omega arith) in
    rw (p, q, r, behind-key s at (get_or s (at + 7) 0) h (omega arith), two, eight)
