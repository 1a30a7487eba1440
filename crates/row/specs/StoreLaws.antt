-- What a store of the numbers that calls change leaves of the row.
use Rattle.std.specs.Prelude.{ℕ, ◌+◌, ◌≤◌, ◌≡◌, true, take, drop}
use Rattle.std.proofs.Math.Path.{sym}
use Rattle.std.proofs.Common.{ap, ◌∙◌, arith, length-set, length-append, length-drop, length-take-le}
use mathlib.Core.List.{List, ◌++◌, append_assoc}
use Rattle.std.proofs.Math.ListN.{length, set}
use Rattle.std.proofs.lemmas.List.{set-get_or}
use Rattle.words.specs.Bytes.{AreBytes, be_bytes, put_be}
use Rattle.words.specs.BytesLaws.{length-put_be, set-behind, put_be-behind, put_be-be_at}
use Rattle.row.specs.declared.Row.{Row}
use Rattle.row.specs.Row.{row_bytes, key_bytes, row_at, key_at, before_key, step_bytes, time_bytes, render, well_formed}
use Rattle.row.specs.RowLaws.{row-whole, length-before_key, render_parse}
use Rattle.row.specs.Table.{store_row}

pub length_store : (s : List ℕ) (at : ℕ) (r : Row) → length (store_row s at r) ≡ length s
unfolding store_row
length_store s at r = simp (length-put_be, length-set)

-- the row as it stands, stored, changes nothing
pub store_same : (s : List ℕ) (at : ℕ) → AreBytes s → store_row s at (row_at s at) ≡ s
unfolding store_row row_at
store_same s at bytes =
    rw (
      set-get_or s (at + 0) 0,
      set-get_or s (at + 6) 0,
      put_be-be_at 8 s (at + 48) bytes,
      put_be-be_at 2 s (at + 56) bytes,
      put_be-be_at 8 s (at + 72) bytes,
      put_be-be_at 8 s (at + 80) bytes,
    )

-- what load gives and no other call changes
pub record SameParticulars (r q : Row) : Type 0 where
  pub scheme : r.track.scheme ≡ q.track.scheme
  pub period : r.track.period ≡ q.track.period
  pub limit : r.limit ≡ q.limit
  pub key_length : r.key_length ≡ q.key_length
  pub serial : r.serial ≡ q.serial
  pub wait : r.wait ≡ q.wait
  pub expiry : r.expiry ≡ q.expiry

pub store_behind : (a s : List ℕ) (at : ℕ) (r : Row) → length a ≡ at → store_row (a ++ s) at r ≡ a ++ store_row s 0 r
unfolding store_row
store_behind a s at r e = simp (set-behind, put_be-behind)

module _ (q r : Row) (same : SameParticulars r q) where
  head-stored : (t : List ℕ) → set (set (before_key q ++ t) 0 r.state) 6 r.errors ≡ before_key r ++ t
  unfolding before_key
  head-stored t = rw (same.scheme, same.period, same.limit, same.key_length, same.serial)

  rest-stored : (t : List ℕ)
      → put_be 8 (put_be 8 (put_be 2 (put_be 8 (step_bytes q ++ (time_bytes q ++ t)) 0 r.track.next.0) 8 r.track.offset.0) 24 r.locked_at.0) 32 r.last_use.0
      ≡ step_bytes r ++ (time_bytes r ++ t)
  unfolding step_bytes time_bytes be_bytes put_be
  rest-stored t = rw (same.wait, same.expiry)

  pub row-stored : (key t : List ℕ) → length key ≡ key_bytes → store_row (render q key ++ t) 0 r ≡ render r key ++ t
  unfolding store_row render
  row-stored key t l =
      let front = before_key r ++ key in
      let f : length front ≡ 48 = rw (length-append, length-before_key r, l) in
      let y = step_bytes q ++ (time_bytes q ++ t) in
      let whole : (before_key q ++ (key ++ (step_bytes q ++ time_bytes q))) ++ t ≡ before_key q ++ (key ++ y) = simp append_assoc in
      let begun : set (set ((before_key q ++ (key ++ (step_bytes q ++ time_bytes q))) ++ t) 0 r.state) 6 r.errors ≡ front ++ y =
      rw whole (head-stored (key ++ y) ∙ sym (append_assoc (before_key r) key y)) in
      let y₁ = put_be 8 y 0 r.track.next.0 in
      let y₂ = put_be 2 y₁ 8 r.track.offset.0 in
      let y₃ = put_be 8 y₂ 24 r.locked_at.0 in
      rw (
        begun,
        put_be-behind 8 front y 0 r.track.next.0 f,
        put_be-behind 2 front y₁ 8 r.track.offset.0 f,
        put_be-behind 8 front y₂ 24 r.locked_at.0 f,
        put_be-behind 8 front y₃ 32 r.last_use.0 f,
        rest-stored t,
      )
      (simp append_assoc)

-- a well_formed_lem row with its particulars kept is stored whole
pub store_renders : (highest : ℕ) (s : List ℕ) (at : ℕ) (r : Row) → AreBytes s → at + row_bytes ≤ length s → well_formed highest s at ≡ true → SameParticulars r (row_at s at)
    → store_row s at r ≡ take at s ++ (render r (key_at s at) ++ drop (at + row_bytes) s)
store_renders highest s at r bytes room ok same =
    let a = take at s in
    let b = drop (at + row_bytes) s in
    let key = key_at s at in
    let k : length key ≡ key_bytes = length-take-le key_bytes (drop (at + 16) s) (rw length-drop (omega arith)) in
    let parsed = render_parse s at bytes room highest ok in
    let whole : s ≡ a ++ (render (row_at s at) key ++ b) = row-whole s at ∙ ap (λ (t : List ℕ). a ++ (t ++ b)) (sym parsed) in
    ap (λ (t : List ℕ). store_row t at r) whole
    ∙ store_behind a (render (row_at s at) key ++ b) at r (length-take-le at s (omega arith))
    ∙ ap (λ (t : List ℕ). a ++ t) (row-stored (row_at s at) r same key b k)
