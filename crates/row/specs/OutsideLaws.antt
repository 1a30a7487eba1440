-- A store changes the bytes of its row: every byte outside of it stays, and inside stands what is stored in the row's own bytes.
use Rattle.std.specs.Prelude.{ℕ, zero, suc, ◌+◌, ◌≤◌, ◌<◌, ◌%◌, ◌/◌, ◌≡◌, refl, ◌⊎◌, List, ◌++◌, length, get_or, set, take, drop, replicate}
use Rattle.std.proofs.Common.{sym, ap, ◌∙◌, inl, inr, ⊎_elim, append_assoc, add_assoc, arith, length-set, length-drop, length-take-le, get_or-take, get_or-drop, take_at, drop_at, ext_get_or}
use Rattle.std.proofs.lemmas.List.{take-append-le, drop-append-le, set-append_left}
use Rattle.std.proofs.Math.Seq.{take-append-add, drop-append-add}
use Rattle.words.specs.Bytes.{put_be}
use Rattle.words.specs.BytesLaws.{length-put_be}
use Rattle.words.specs.PutLaws.{put-length, get_or-put}
use Rattle.row.specs.declared.Row.{Row}
use Rattle.row.specs.Row.{row_bytes, key_bytes, render}
use Rattle.row.specs.RowLaws.{row-whole, length-render}
use Rattle.row.specs.Table.{bytes_at, store_row, wipe_key, zero_filled, write_row}
use Rattle.row.specs.WriteLaws.{length-zero_filled}
use Rattle.row.specs.StoreLaws.{length_store, store_behind}

-- t has the bytes of s outside of the row at a place
pub record Outside (s t : List ℕ) (at : ℕ) : Type 0 where
  pub sized : length t ≡ length s
  pub stays : (i : ℕ) → (i < at) ⊎ (at + row_bytes ≤ i) → get_or t i 0 ≡ get_or s i 0

pub outside_itself : (s : List ℕ) (at : ℕ) → Outside s s at
outside_itself s at = record { sized = refl; stays = λ i apart. refl }

pub outside-next : {s t u : List ℕ} {at : ℕ} → Outside s t at → Outside t u at → Outside s u at
outside-next p q = record { sized = q.sized ∙ p.sized; stays = λ i apart. q.stays i apart ∙ p.stays i apart }

-- n bytes elsewhere, another row's, are what they were
pub elsewhere-stays : {s t : List ℕ} {at : ℕ} → Outside s t at → (n by : ℕ) → (by + n ≤ at) ⊎ (at + row_bytes ≤ by) → by + n ≤ length s
    → take n (drop by t) ≡ take n (drop by s)
elsewhere-stays {s} {t} {at} out n by apart room =
    let e = out.sized in
    let l : length (take n (drop by t)) ≡ n = length-take-le n (drop by t) (rw length-drop (omega arith)) in
    let m : length (take n (drop by s)) ≡ n = length-take-le n (drop by s) (rw length-drop (omega arith)) in
    ext_get_or 0 (take n (drop by t)) (take n (drop by s)) (l ∙ sym m) (λ i h. byte i (rw l at h))
  where
    byte : (i : ℕ) → i < n → get_or (take n (drop by t)) i 0 ≡ get_or (take n (drop by s)) i 0
    byte i h =
        rw (get_or-take n (drop by t) i 0 h, get_or-take n (drop by s) i 0 h, get_or-drop by t i 0, get_or-drop by s i 0)
        (out.stays (by + i) (⊎_elim (λ (p : by + n ≤ at). inl (omega arith)) (λ (p : at + row_bytes ≤ by). inr (omega arith)) apart))

-- a table with these bytes in the row at a place
abbrev with_row : List ℕ → ℕ → List ℕ → List ℕ
with_row s at b = take at s ++ (b ++ drop (at + row_bytes) s)

module _ (s : List ℕ) (at : ℕ) (room : at + row_bytes ≤ length s) where
  row_sized : length (bytes_at s at) ≡ row_bytes
  row_sized = length-take-le row_bytes (drop at s) (rw length-drop (omega arith))

  front-sized : length (take at s) ≡ at
  front-sized = length-take-le at s (omega arith)

  module _ (b : List ℕ) (long : length b ≡ row_bytes) where
    with_bytes : bytes_at (with_row s at b) at ≡ b
    with_bytes = rw (drop_at (take at s) (b ++ drop (at + row_bytes) s) at front-sized) (take_at b (drop (at + row_bytes) s) row_bytes long)

    with_outside : Outside s (with_row s at b) at
    with_outside =
        let h : at + length b ≤ length s = omega arith in
        record { sized = rw long at (put-length s at b h); stays = λ i apart. rw long at (get_or-put s at b i h (rw long apart)) }

-- ---- what is stored is stored in the row's own bytes

put_be-front : (k : ℕ) (p q : List ℕ) (n x : ℕ) → n + k ≤ length p → put_be k (p ++ q) n x ≡ put_be k p n x ++ q
unfolding put_be
put_be-front zero p q n x h = refl
put_be-front (suc k) p q n x h =
    rw (set-append_left p q (n + k) (x % 256) (omega arith)) (put_be-front k (set p (n + k) (x % 256)) q n (x / 256) (rw length-set (omega arith)))

store_front : (p q : List ℕ) (r : Row) → row_bytes ≤ length p → store_row (p ++ q) 0 r ≡ store_row p 0 r ++ q
unfolding store_row
store_front p q r h =
    let p₁ = set p 0 r.state in
    let p₂ = set p₁ 6 r.errors in
    let p₃ = put_be 8 p₂ 48 r.track.next.0 in
    let p₄ = put_be 2 p₃ 56 r.track.offset.0 in
    let p₅ = put_be 8 p₄ 72 r.locked_at.0 in
    rw (
      set-append_left p q 0 r.state (omega arith),
      set-append_left p₁ q 6 r.errors (rw length-set (omega arith)),
      put_be-front 8 p₂ q 48 r.track.next.0 (simp length-set (omega arith)),
      put_be-front 2 p₃ q 56 r.track.offset.0 (simp (length-put_be, length-set) (omega arith)),
      put_be-front 8 p₄ q 72 r.locked_at.0 (simp (length-put_be, length-set) (omega arith)),
      put_be-front 8 p₅ q 80 r.last_use.0 (simp (length-put_be, length-set) (omega arith)),
    )

wipe_between : (a p q : List ℕ) → row_bytes ≤ length p → wipe_key (a ++ (p ++ q)) (length a) ≡ a ++ (wipe_key p 0 ++ q)
unfolding wipe_key
wipe_between a p q h =
    rw (
      add_assoc (length a) 16 key_bytes,
      take-append-add a (p ++ q) 16,
      drop-append-add a (p ++ q) 48,
      take-append-le 16 p q (omega arith),
      drop-append-le 48 p q (omega arith),
    )
    (simp append_assoc)

module _ (s : List ℕ) (at : ℕ) (room : at + row_bytes ≤ length s) where
  store_own : (r : Row) → store_row s at r ≡ with_row s at (store_row (bytes_at s at) 0 r)
  store_own r =
      let p = bytes_at s at in
      let q = drop (at + row_bytes) s in
      let l = row_sized s at room in
      ap (λ (t : List ℕ). store_row t at r) (row-whole s at)
      ∙ store_behind (take at s) (p ++ q) at r (front-sized s at room)
      ∙ ap (λ (t : List ℕ). take at s ++ t) (store_front p q r (omega arith))

  wipe_own : wipe_key s at ≡ with_row s at (wipe_key (bytes_at s at) 0)
  wipe_own =
      let p = bytes_at s at in
      let q = drop (at + row_bytes) s in
      let l = row_sized s at room in
      ap (λ (t : List ℕ). wipe_key t at) (row-whole s at)
      ∙ ap (λ (n : ℕ). wipe_key (take at s ++ (p ++ q)) n) (sym (front-sized s at room))
      ∙ wipe_between (take at s) p q (omega arith)

  stored-sized : (r : Row) → length (store_row (bytes_at s at) 0 r) ≡ row_bytes
  stored-sized r = length_store (bytes_at s at) 0 r ∙ row_sized s at room

  wiped_sized : length (wipe_key (bytes_at s at) 0) ≡ row_bytes
  unfolding wipe_key
  wiped_sized = let l = row_sized s at room in put-length (bytes_at s at) 16 (replicate key_bytes 0) (omega arith) ∙ l

  pub store_outside : (r : Row) → Outside s (store_row s at r) at
  store_outside r = rw (store_own r) (with_outside s at room (store_row (bytes_at s at) 0 r) (stored-sized r))

  pub wipe_outside : Outside s (wipe_key s at) at
  wipe_outside = rw wipe_own (with_outside s at room (wipe_key (bytes_at s at) 0) wiped_sized)

  pub write_outside : (r : Row) (key : List ℕ) → length key ≤ key_bytes → Outside s (write_row s at r key) at
  unfolding write_row
  write_outside r key short = with_outside s at room (render r (zero_filled key)) (length-render r (zero_filled key) (length-zero_filled key short))

  pub stored_bytes : (r : Row) → bytes_at (store_row s at r) at ≡ store_row (bytes_at s at) 0 r
  stored_bytes r = rw (store_own r) (with_bytes s at room (store_row (bytes_at s at) 0 r) (stored-sized r))

  pub wiped_bytes : bytes_at (wipe_key s at) at ≡ wipe_key (bytes_at s at) 0
  wiped_bytes = rw wipe_own (with_bytes s at room (wipe_key (bytes_at s at) 0) wiped_sized)

  pub written-bytes : (r : Row) (key : List ℕ) → length key ≤ key_bytes → bytes_at (write_row s at r key) at ≡ render r (zero_filled key)
  unfolding write_row
  written-bytes r key short = with_bytes s at room (render r (zero_filled key)) (length-render r (zero_filled key) (length-zero_filled key short))
