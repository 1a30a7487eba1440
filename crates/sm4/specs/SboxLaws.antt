-- The S-box holds bytes, and each of the 256 once: tests that are computed over the table, carried to each entry.
use Rattle.std.specs.Prelude.{ℕ, ◌<◌, ◌≡◌, refl, Bool, true, ◌&&◌, ltb, eqb, length}
use Rattle.std.proofs.Common.{sym, ap, ◌∙◌, ltb-true, eqb-true}
use Rattle.words.specs.BoolLaws.{and_left, and_right}
use Rattle.words.specs.Entries.{every, entry_rule}
use Rattle.sm4.specs.declared.parameters.TheConstants.{SBOX}
use Rattle.sm4.specs.Sbox.{sbox, substitute, place_in, place, HeldOnce}

-- the code's table is the standard's
pub table-sbox : SBOX ≡ sbox
unfolding sbox
table-sbox = refl

pub sbox-length : length sbox ≡ 256
unfolding sbox
sbox-length = refl

-- the entry at place i is a byte, which stands first at i
entry_test : ℕ → ℕ → Bool
entry_test i x = ltb x 256 && eqb (place x) i

-- the place of the byte v is one of the table's, and v stands there
place-test : ℕ → ℕ → Bool
place-test v _ = ltb (place v) 256 && eqb (substitute (place v)) v

entries_pass : every entry_test 0 sbox ≡ true
unfolding entry_test sbox place_in place
entries_pass = refl

places_pass : every place-test 0 sbox ≡ true
unfolding place-test sbox substitute place_in place
places_pass = refl

module _ (i : ℕ) (h : i < 256) where
  entry_passes : ltb (substitute i) 256 && eqb (place (substitute i)) i ≡ true
  unfolding substitute entry_test
  entry_passes = entry_rule entry_test sbox entries_pass i (rw sbox-length h)

  pub sbox-byte : substitute i < 256
  sbox-byte = ltb-true (substitute i) 256 (and_left _ _ entry_passes)

  pub place_of_entry : place (substitute i) ≡ i
  place_of_entry = eqb-true (place (substitute i)) i (and_right (ltb (substitute i) 256) _ entry_passes)

module _ (v : ℕ) (h : v < 256) where
  place-passes : ltb (place v) 256 && eqb (substitute (place v)) v ≡ true
  unfolding place-test
  place-passes = entry_rule place-test sbox places_pass v (rw sbox-length h)

  -- each byte stands in the S-box once
  pub sbox-once : HeldOnce v (place v)
  sbox-once = record {
    within = ltb-true (place v) 256 (and_left _ _ place-passes);
    held = eqb-true (substitute (place v)) v (and_right (ltb (place v) 256) _ place-passes);
    alone = λ j l e. sym (place_of_entry j l) ∙ ap place e;
  }
