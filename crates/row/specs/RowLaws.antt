-- Laws of a row: its bytes are the render of its numbers and its key.
use Rattle.std.specs.Prelude.{ℕ, zero, suc, ◌+◌, ◌^◌, ◌≤◌, ◌<◌, ◌≡◌, true, ◌&&◌, eqb, length, get_or, take, drop, replicate}
use Rattle.std.proofs.Math.Path.{refl}
use Rattle.std.proofs.Common.{sym, ap, ap₂, ◌∙◌, add-suc, zero-add, arith, eqb-true, length-append, length-drop, take-append-drop, length-take-le, drop-cons, take-add, take_at, drop_at, drop-drop, get_or-drop}
use mathlib.Core.List.{List, [], ◌∷◌, ◌++◌, append_assoc}
use Rattle.std.proofs.Math.Nat.{add-zero}
use Rattle.std.proofs.Math.Seq.{drop-append_seam}
use Rattle.words.specs.Bytes.{AreBytes, be_at, be_bytes}
use Rattle.words.specs.BytesLaws.{length-be_bytes, be_at-agree, be_at-be_bytes, be_bytes-be_at}
use Rattle.words.specs.Lists.{all_zero}
use Rattle.words.specs.BoolLaws.{and_left, and_right}
use Rattle.row.specs.declared.Row.{Row}
use Rattle.row.specs.Row.{row_bytes, key_bytes, row_at, key_at, first_bytes, before_key, step_bytes, time_bytes, render, numbers_ok, zeros_ok, well_formed}

-- ---- the lengths of its parts

pub length-before_key : (r : Row) → length (before_key r) ≡ 16
unfolding before_key be_bytes
length-before_key r = refl

pub length-step_bytes : (r : Row) → length (step_bytes r) ≡ 12
unfolding step_bytes be_bytes
length-step_bytes r = refl

pub length-time_bytes : (r : Row) → length (time_bytes r) ≡ 36
unfolding time_bytes be_bytes
length-time_bytes r = refl

pub length-render : (r : Row) (key : List ℕ) → length key ≡ key_bytes → length (render r key) ≡ row_bytes
unfolding render
length-render r key l = rw (length-append, length-before_key r, length-append, l, length-append, length-step_bytes r, length-time_bytes r)

-- ---- the bytes of a row

-- the n bytes of s from at + i on, one by one
abbrev bytes_from : ℕ → ℕ → List ℕ → ℕ → List ℕ
bytes_from zero i s at = []
bytes_from (suc n) i s at = get_or s (at + i) 0 ∷ bytes_from n (suc i) s at

bytes-from : (n i : ℕ) (s : List ℕ) (at : ℕ) → at + i + n ≤ length s → bytes_from n i s at ≡ take n (drop (at + i) s)
bytes-from zero i s at h = refl
bytes-from (suc n) i s at h =
    let l : at + i < length s = omega arith in
    rw (drop-cons s (at + i) 0, ← add-suc at i) (ap (λ (t : List ℕ). get_or s (at + i) 0 ∷ t) (bytes-from n (suc i) s at (omega arith)))

-- a table is what stands before a row, the row, and what stands behind it
pub row-whole : (s : List ℕ) (at : ℕ) → s ≡ take at s ++ (take row_bytes (drop at s) ++ drop (at + row_bytes) s)
row-whole s at = sym (rw (← drop-drop row_bytes at s, take-append-drop row_bytes (drop at s)) (take-append-drop at s))

-- two parts side by side
beside : (s : List ℕ) {a b : List ℕ} (n m at mid : ℕ) → a ≡ take n (drop at s) → b ≡ take m (drop mid s) → at + n ≡ mid → a ++ b ≡ take (n + m) (drop at s)
beside s n m at mid p q e = ap₂ ◌++◌ p q ∙ rw (← e, ← drop-drop n at s) (sym (take-add n m (drop at s)))

zeros_are : (l : List ℕ) → all_zero l ≡ true → replicate (length l) 0 ≡ l
unfolding all_zero
zeros_are [] t = refl
zeros_are (x ∷ l) t =
    ap₂ (λ (y : ℕ) (u : List ℕ). y ∷ u) (sym (eqb-true x 0 (and_left _ _ t))) (zeros_are l (and_right (eqb x 0) _ t))

zero-part : (k : ℕ) (s : List ℕ) (at : ℕ) → at + k ≤ length s → all_zero (take k (drop at s)) ≡ true → replicate k 0 ≡ take k (drop at s)
zero-part k s at h t =
    let l : length (take k (drop at s)) ≡ k = length-take-le k (drop at s) (rw length-drop (omega arith)) in
    rw l at (zeros_are (take k (drop at s)) t)

module _ (s : List ℕ) (at : ℕ) (bytes : AreBytes s) (room : at + row_bytes ≤ length s) where
  before_parse : before_key (row_at s at) ≡ take 16 (drop (at + 0) s)
  unfolding before_key row_at
  before_parse = beside s 8 8 (at + 0) (at + 8) (bytes-from 8 0 s at (omega arith)) (be_bytes-be_at 8 s (at + 8) bytes (omega arith)) (omega arith)

  number : (k n : ℕ) → n + k ≤ row_bytes → be_bytes k (be_at k s (at + n)) ≡ take k (drop (at + n) s)
  number k n h = be_bytes-be_at k s (at + n) bytes (omega arith)

  steps_parse : all_zero (take 2 (drop (at + 58) s)) ≡ true → step_bytes (row_at s at) ≡ take 12 (drop (at + 48) s)
  unfolding step_bytes row_at
  steps_parse gap =
      beside s 8 4 (at + 48) (at + 56) (number 8 48 (omega arith))
      (beside s 2 2 (at + 56) (at + 58) (number 2 56 (omega arith)) (zero-part 2 s (at + 58) (omega arith) gap) (omega arith))
      (omega arith)

  times_parse : all_zero (take 8 (drop (at + 88) s)) ≡ true → time_bytes (row_at s at) ≡ take 36 (drop (at + 60) s)
  unfolding time_bytes row_at
  times_parse spare =
      beside s 4 32 (at + 60) (at + 64) (number 4 60 (omega arith))
      (beside s 8 24 (at + 64) (at + 72) (number 8 64 (omega arith))
      (beside s 8 16 (at + 72) (at + 80) (number 8 72 (omega arith))
      (beside s 8 8 (at + 80) (at + 88) (number 8 80 (omega arith)) (zero-part 8 s (at + 88) (omega arith) spare) (omega arith))
      (omega arith))
      (omega arith))
      (omega arith)

  -- a well_formed_lem row's bytes are the render of its numbers and its key
  pub render_parse : (highest : ℕ) → well_formed highest s at ≡ true → render (row_at s at) (key_at s at) ≡ take row_bytes (drop at s)
  unfolding render well_formed zeros_ok
  render_parse highest ok =
      let zeros = and_right (numbers_ok highest (row_at s at)) _ ok in
      let key = all_zero (drop (get_or s (at + 7) 0) (key_at s at)) in
      let gap = all_zero (take 2 (drop (at + 58) s)) in
      let spare = all_zero (take 8 (drop (at + 88) s)) in
      let g = and_right key _ (and_left _ _ zeros) in
      let p = and_right (key && gap) _ zeros in
      let behind = beside s 12 36 (at + 48) (at + 60) (steps_parse g) (times_parse p) (omega arith) in
      rw add-zero at (beside s 16 80 (at + 0) (at + 16) before_parse (beside s key_bytes 48 (at + 16) (at + 48) refl behind (omega arith)) (omega arith))

-- ---- what is read of a rendered row

-- the numbers fit the bytes that they stand in
pub record InWidths (r : Row) : Type 0 where
  pub serial : r.serial < 2 ^ 64
  pub next : r.track.next.0 < 2 ^ 64
  pub offset : r.track.offset.0 < 2 ^ 16
  pub wait : r.wait < 2 ^ 32
  pub expiry : r.expiry.0 < 2 ^ 64
  pub locked_at : r.locked_at.0 < 2 ^ 64
  pub last_use : r.last_use.0 < 2 ^ 64

-- behind a part stands what follows it
following : (s : List ℕ) {q : List ℕ} (f : List ℕ) (at n mid : ℕ) → drop at s ≡ f ++ q → length f ≡ n → at + n ≡ mid → drop mid s ≡ q
following s {q} f at n mid d l e = rw (← e, ← drop-drop n at s, d) (drop_at f q n l)

number-here : (s q : List ℕ) (k at x : ℕ) → drop at s ≡ be_bytes k x ++ q → x < 256 ^ k → be_at k s at ≡ x
number-here s q k at x d h =
    be_at-agree k s (be_bytes k x ++ q) at 0 (λ i l. sym (get_or-drop at s i 0) ∙ ap (λ (t : List ℕ). get_or t i 0) d ∙ rw zero-add)
    ∙ be_at-be_bytes k [] q 0 x refl h

-- rendered, a row is read as it was
module _ (s : List ℕ) (at : ℕ) (r : Row) (key rest : List ℕ) (stands : drop at s ≡ render r key ++ rest) (long : length key ≡ key_bytes) where
  behind_key : List ℕ
  behind_key = step_bytes r ++ (time_bytes r ++ rest)

  before_here : drop at s ≡ before_key r ++ (key ++ behind_key)
  unfolding render behind_key
  before_here = stands ∙ simp append_assoc

  serial-here : drop (at + 8) s ≡ be_bytes 8 r.serial ++ (key ++ behind_key)
  unfolding before_key
  serial-here =
      following s (first_bytes r) at 8 (at + 8) before_here refl refl

  key_here : drop (at + 16) s ≡ key ++ behind_key
  key_here = following s (be_bytes 8 r.serial) (at + 8) 8 (at + 16) serial-here (length-be_bytes 8 r.serial) (omega arith)

  pub key_parsed : key_at s at ≡ key
  key_parsed = rw key_here (take_at key behind_key key_bytes long)

  next_here : drop (at + 48) s ≡ be_bytes 8 r.track.next.0 ++ (be_bytes 2 r.track.offset.0 ++ (replicate 2 0 ++ (time_bytes r ++ rest)))
  unfolding behind_key step_bytes
  next_here = following s key (at + 16) key_bytes (at + 48) key_here long (omega arith) ∙ simp append_assoc

  offset-here : drop (at + 56) s ≡ be_bytes 2 r.track.offset.0 ++ (replicate 2 0 ++ (time_bytes r ++ rest))
  offset-here = following s (be_bytes 8 r.track.next.0) (at + 48) 8 (at + 56) next_here (length-be_bytes 8 r.track.next.0) (omega arith)

  gap_here : drop (at + 58) s ≡ replicate 2 0 ++ (time_bytes r ++ rest)
  gap_here = following s (be_bytes 2 r.track.offset.0) (at + 56) 2 (at + 58) offset-here (length-be_bytes 2 r.track.offset.0) (omega arith)

  wait-here : drop (at + 60) s ≡ be_bytes 4 r.wait ++ (be_bytes 8 r.expiry.0 ++ (be_bytes 8 r.locked_at.0 ++ (be_bytes 8 r.last_use.0 ++ (replicate 8 0 ++ rest))))
  unfolding time_bytes
  wait-here = following s (replicate 2 0) (at + 58) 2 (at + 60) gap_here refl (omega arith) ∙ simp append_assoc

  expiry-here : drop (at + 64) s ≡ be_bytes 8 r.expiry.0 ++ (be_bytes 8 r.locked_at.0 ++ (be_bytes 8 r.last_use.0 ++ (replicate 8 0 ++ rest)))
  expiry-here = following s (be_bytes 4 r.wait) (at + 60) 4 (at + 64) wait-here (length-be_bytes 4 r.wait) (omega arith)

  locked_here : drop (at + 72) s ≡ be_bytes 8 r.locked_at.0 ++ (be_bytes 8 r.last_use.0 ++ (replicate 8 0 ++ rest))
  locked_here = following s (be_bytes 8 r.expiry.0) (at + 64) 8 (at + 72) expiry-here (length-be_bytes 8 r.expiry.0) (omega arith)

  used-here : drop (at + 80) s ≡ be_bytes 8 r.last_use.0 ++ (replicate 8 0 ++ rest)
  used-here = following s (be_bytes 8 r.locked_at.0) (at + 72) 8 (at + 80) locked_here (length-be_bytes 8 r.locked_at.0) (omega arith)

  byte-here : (i : ℕ) → get_or s (at + i) 0 ≡ get_or (before_key r ++ (key ++ behind_key)) i 0
  byte-here i = sym (get_or-drop at s i 0) ∙ rw before_here

  pub numbers_parsed : InWidths r → row_at s at ≡ r
  unfolding row_at before_key
  numbers_parsed w =
      rw (
        byte-here 0,
        byte-here 1,
        byte-here 2,
        byte-here 3,
        byte-here 4,
        byte-here 5,
        byte-here 6,
        byte-here 7,
        number-here s _ 8 (at + 8) r.serial serial-here w.serial,
        number-here s _ 8 (at + 48) r.track.next.0 next_here w.next,
        number-here s _ 2 (at + 56) r.track.offset.0 offset-here w.offset,
        number-here s _ 4 (at + 60) r.wait wait-here w.wait,
        number-here s _ 8 (at + 64) r.expiry.0 expiry-here w.expiry,
        number-here s _ 8 (at + 72) r.locked_at.0 locked_here w.locked_at,
        number-here s _ 8 (at + 80) r.last_use.0 used-here w.last_use,
      )

-- in a table
pub parse_render : (a b : List ℕ) (r : Row) (key : List ℕ) → length key ≡ key_bytes → InWidths r
    → (row_at (a ++ (render r key ++ b)) (length a) ≡ r) × (key_at (a ++ (render r key ++ b)) (length a) ≡ key)
parse_render a b r key long w =
    let s = a ++ (render r key ++ b) in
    let stands = drop-append_seam a (render r key ++ b) in
    (numbers_parsed s (length a) r key b stands long w, key_parsed s (length a) r key b stands long)
