-- What is read of a row and stored in it is a matter of the row's own bytes, wherever it stands.
use Rattle.std.specs.Prelude.{ℕ, zero, suc, ◌+◌, ◌≤◌, ◌<◌, ◌≡◌, refl, List, [], ◌∷◌, length, get_or, take, drop}
use Rattle.std.proofs.Common.{sym, ◌∙◌, add_assoc, arith, get_or-take, get_or-drop, take-take, drop-drop}
use Rattle.std.proofs.Math.Path.{ap}
use Rattle.std.proofs.Math.Dec.{eqb}
use Rattle.words.specs.Bytes.{be_at}
use Rattle.words.specs.BytesLaws.{be_at-agree}
use Rattle.row.specs.declared.Row.{Row}
use Rattle.row.specs.Row.{row_bytes, key_bytes, row_at, zeros_ok, well_formed}
use Rattle.row.specs.Table.{bytes_at, is_empty, has_serial, store_row, wipe_key}
use Rattle.row.specs.OutsideLaws.{stored_bytes, wiped_bytes}

-- ---- what is read is read of the row's own bytes

part_of_part : (k n m : ℕ) (s : List ℕ) → n + k ≤ m → take k (drop n (take m s)) ≡ take k (drop n s)
part_of_part k zero m s h = take-take k m s (omega arith)
part_of_part k (suc n) zero s h = absurd (omega arith)
part_of_part k (suc n) (suc m) [] h = refl
part_of_part k (suc n) (suc m) (x ∷ s) h = part_of_part k n m s (omega arith)

module _ (s : List ℕ) (at : ℕ) where
  byte-own : (i : ℕ) → i < row_bytes → get_or s (at + i) 0 ≡ get_or (bytes_at s at) i 0
  byte-own i h = sym (get_or-take row_bytes (drop at s) i 0 h ∙ get_or-drop at s i 0)

  number-own : (k n : ℕ) → n + k ≤ row_bytes → be_at k s (at + n) ≡ be_at k (bytes_at s at) n
  number-own k n h = be_at-agree k s (bytes_at s at) (at + n) n (λ i l. rw (add_assoc at n i) (byte-own (n + i) (omega arith)))

  part-own : (k n : ℕ) → n + k ≤ row_bytes → take k (drop (at + n) s) ≡ take k (drop n (bytes_at s at))
  part-own k n h = ap (take k) (sym (drop-drop n at s)) ∙ sym (part_of_part k n row_bytes (drop at s) h)

  row-own : row_at s at ≡ row_at (bytes_at s at) 0
  unfolding row_at
  row-own =
      rw (
        byte-own 0 (omega arith),
        byte-own 1 (omega arith),
        byte-own 2 (omega arith),
        byte-own 3 (omega arith),
        byte-own 4 (omega arith),
        byte-own 5 (omega arith),
        byte-own 6 (omega arith),
        byte-own 7 (omega arith),
        number-own 8 8 (omega arith),
        number-own 8 48 (omega arith),
        number-own 2 56 (omega arith),
        number-own 4 60 (omega arith),
        number-own 8 64 (omega arith),
        number-own 8 72 (omega arith),
        number-own 8 80 (omega arith),
      )

  zeros_own : zeros_ok s at ≡ zeros_ok (bytes_at s at) 0
  unfolding zeros_ok
  zeros_own = rw (byte-own 7 (omega arith), part-own key_bytes 16 (omega arith), part-own 2 58 (omega arith), part-own 8 88 (omega arith))

  serial-own : (serial : ℕ) → has_serial s serial at ≡ has_serial (bytes_at s at) serial 0
  unfolding has_serial
  serial-own serial = rw (byte-own 0 (omega arith), number-own 8 8 (omega arith))

module _ (s t : List ℕ) (at by : ℕ) (same : bytes_at s at ≡ bytes_at t by) where
  pub row_at_local : row_at s at ≡ row_at t by
  row_at_local = row-own s at ∙ ap (λ (b : List ℕ). row_at b 0) same ∙ sym (row-own t by)

  zeros_local : zeros_ok s at ≡ zeros_ok t by
  zeros_local = zeros_own s at ∙ ap (λ (b : List ℕ). zeros_ok b 0) same ∙ sym (zeros_own t by)

  pub formed_local : (highest : ℕ) → well_formed highest s at ≡ well_formed highest t by
  unfolding well_formed
  formed_local highest = rw (row_at_local, zeros_local)

  pub part_local : (k n : ℕ) → n + k ≤ row_bytes → take k (drop (at + n) s) ≡ take k (drop (by + n) t)
  part_local k n h = part-own s at k n h ∙ ap (λ (b : List ℕ). take k (drop n b)) same ∙ sym (part-own t by k n h)

  -- the key without the zeros behind it
  pub secret_local : (row_at s at).key_length ≤ key_bytes → take (row_at s at).key_length (drop (at + 16) s) ≡ take (row_at t by).key_length (drop (by + 16) t)
  secret_local h = rw (← row_at_local) (part_local (row_at s at).key_length 16 (omega arith))

  pub serial_local : (serial : ℕ) → has_serial s serial at ≡ has_serial t serial by
  serial_local serial = serial-own s at serial ∙ ap (λ (b : List ℕ). has_serial b serial 0) same ∙ sym (serial-own t by serial)

  pub empty_local : is_empty s at ≡ is_empty t by
  unfolding row_at
  empty_local = ap (λ (r : Row). eqb r.state 0) row_at_local

-- ---- so is what is stored

module _ (s t : List ℕ) (at by : ℕ) (same : bytes_at s at ≡ bytes_at t by) (room : at + row_bytes ≤ length s) (space : by + row_bytes ≤ length t) where
  pub store_local : (r : Row) → bytes_at (store_row s at r) at ≡ bytes_at (store_row t by r) by
  store_local r = stored_bytes s at room r ∙ ap (λ (b : List ℕ). store_row b 0 r) same ∙ sym (stored_bytes t by space r)

  pub wipe_local : bytes_at (wipe_key s at) at ≡ bytes_at (wipe_key t by) by
  wipe_local = wiped_bytes s at room ∙ ap (λ (b : List ℕ). wipe_key b 0) same ∙ sym (wiped_bytes t by space)
