-- The ways through the locating of a row, and what each of its answers says.
use Rattle.std.specs.Prelude.{ℕ, ◌+◌, ◌≤◌, ◌≡◌, refl, Bool, List, get_or, Some, None, Ok, Err}
use Rattle.std.proofs.Math.Path.{sym}
use Rattle.std.proofs.Common.{◌∙◌}
use Rattle.std.proofs.Math.Bool.{true, false}
use Rattle.words.specs.BoolLaws.{by-test, impossible}
use Rattle.row.specs.declared.Row.{Row}
use Rattle.row.specs.declared.reading.Located.{Located}
use Rattle.row.specs.declared.reading.Unserved.TheVariants.{Unknown, Damaged}
use Rattle.row.specs.Row.{key_bytes, row_at, numbers_ok, zeros_ok, well_formed}
use Rattle.row.specs.RangeLaws.{length_in_range}
use Rattle.row.specs.Table.{Place, find_row, located_at, located}

-- ---- the ways through

module _ (width highest : ℕ) (s : List ℕ) (serial : ℕ) {p : Place} (found : p ≡ find_row width s serial) where
  pub not_found : p ≡ None → Err Unknown ≡ located width highest s serial
  unfolding located
  not_found e = rw (sym found ∙ e)

  module _ (at : ℕ) (here : p ≡ Some at) where
    found_here : find_row width s serial ≡ Some at
    found_here = sym found ∙ here

    module _ {r : Row} {b : Bool} (row : r ≡ row_at s at) (test : b ≡ numbers_ok highest r) where
      pub out_of_range : b ≡ false → Err Damaged ≡ located width highest s serial
      unfolding located well_formed
      out_of_range t = let e : numbers_ok highest (row_at s at) ≡ false = rw (← row, ← test) t in rw (found_here, e)

      module _ (passed : b ≡ true) where
        in_range : numbers_ok highest (row_at s at) ≡ true
        in_range = rw (← row, ← test) passed

        pub key-within : get_or s (at + 7) 0 ≤ key_bytes
        unfolding row_at
        key-within = (length_in_range highest (row_at s at) in_range).1

        module _ {z : Bool} (zeros : z ≡ zeros_ok s at) where
          pub zeros_lacking : z ≡ false → Err Damaged ≡ located width highest s serial
          unfolding located well_formed
          zeros_lacking t = let e : zeros_ok s at ≡ false = sym zeros ∙ t in rw (found_here, in_range, e)

          pub row-formed : z ≡ true → Ok (record { at = at; row = r }) ≡ located width highest s serial
          unfolding located well_formed
          row-formed t = let e : zeros_ok s at ≡ true = sym zeros ∙ t in rw (found_here, in_range, e, row)

-- ---- what the answers say

module _ (highest : ℕ) (s : List ℕ) where
  at-formed : (p : Place) (x : Located) → located_at highest s p ≡ Ok x → (p ≡ Some x.at) × ((well_formed highest s x.at ≡ true) × (x.row ≡ row_at s x.at))
  at-formed (Some by) x e =
      by-test (well_formed highest s by)
      (λ t.
      let f = rw t at e in
      let found : record { at = by; row = row_at s by } ≡ x = cc in
      rw (← found) (refl, (t, refl)))
      (λ t. let f = rw t at e in impossible (cc))
  at-formed None x e = impossible (cc)

  unknown-nowhere : (p : Place) → located_at highest s p ≡ Err Unknown → p ≡ None
  unknown-nowhere (Some by) e = by-test (well_formed highest s by) (λ t. let f = rw t at e in impossible (cc)) (λ t. let f = rw t at e in impossible (cc))
  unknown-nowhere None e = refl

  damaged_not_formed : (p : Place) → located_at highest s p ≡ Err Damaged → (at : ℕ) × ((p ≡ Some at) × (well_formed highest s at ≡ false))
  damaged_not_formed (Some by) e = by-test (well_formed highest s by) (λ t. let f = rw t at e in impossible (cc)) (λ t. (by, (refl, t)))
  damaged_not_formed None e = impossible (cc)

module _ (width highest : ℕ) (s : List ℕ) (serial : ℕ) where
  pub located-at : (x : Located) → located width highest s serial ≡ Ok x
      → (find_row width s serial ≡ Some x.at) × ((well_formed highest s x.at ≡ true) × (x.row ≡ row_at s x.at))
  unfolding located
  located-at = at-formed highest s (find_row width s serial)

  pub located-unknown : located width highest s serial ≡ Err Unknown → find_row width s serial ≡ None
  unfolding located
  located-unknown = unknown-nowhere highest s (find_row width s serial)

  pub located-damaged : located width highest s serial ≡ Err Damaged → (at : ℕ) × ((find_row width s serial ≡ Some at) × (well_formed highest s at ≡ false))
  unfolding located
  located-damaged = damaged_not_formed highest s (find_row width s serial)
