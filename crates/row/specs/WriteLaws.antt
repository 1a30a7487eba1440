-- What the writing of a whole row leaves, part after part.
use Rattle.std.specs.Prelude.{ℕ, suc, ◌+◌, ◌-◌, ◌≤◌, ◌≡◌, set, take, drop, replicate}
use Rattle.std.proofs.Math.Path.{refl}
use Rattle.std.proofs.Common.{ap, ◌∙◌, arith, length-set, length-append, length-drop, length-take-le, drop-drop}
use mathlib.Core.List.{List, [], ◌∷◌, ◌++◌, append_assoc}
use Rattle.std.proofs.Math.Nat.{add-zero}
use Rattle.std.proofs.Math.ListN.{length}
use Rattle.std.proofs.lemmas.List.{length-replicate}
use Rattle.words.specs.Bytes.{be_bytes, put, put_be}
use Rattle.words.specs.BytesLaws.{put_be-put}
use Rattle.words.specs.PutLaws.{put_nothing, put-length, put_on, put-part, set-put}
use Rattle.row.specs.declared.Row.{Row}
use Rattle.row.specs.Row.{row_bytes, key_bytes, first_bytes, before_key, step_bytes, time_bytes, render}
use Rattle.row.specs.RowLaws.{length-before_key, length-step_bytes, length-time_bytes}
use Rattle.row.specs.Table.{steps_stored, readings_stored, wipe_key, zero_filled, write_row}

pub length-zero_filled : (key : List ℕ) → length key ≤ key_bytes → length (zero_filled key) ≡ key_bytes
length-zero_filled key h = rw (length-append, length-replicate {A = ℕ} (key_bytes - length key) 0) (omega arith)

-- ---- zeros over a part

-- a part of a lent table, cleared and given back
pub cleared : (s : List ℕ) (at n end : ℕ) {part : List ℕ} → at + n ≡ end → end ≤ length s → part ≡ replicate (length (take (end - at) (drop at s))) 0
    → take at s ++ (part ++ drop (end - at) (drop at s)) ≡ put s at (replicate n 0)
cleared s at n end e h p =
    let m : end - at ≡ n = omega arith in
    let l : length (take n (drop at s)) ≡ n = length-take-le n (drop at s) (rw length-drop (omega arith)) in
    rw (p, m, l, length-replicate {A = ℕ} n 0, drop-drop n at s)

-- ---- parts put one behind the other

-- the elements vs stored one by one from at + i on
abbrev sets_from : ℕ → List ℕ → ℕ → List ℕ → List ℕ
sets_from i s at [] = s
sets_from i s at (v ∷ vs) = sets_from (suc i) (set s (at + i) v) at vs

module _ (s t : List ℕ) (at mid : ℕ) (a : List ℕ) (n : ℕ) (first : t ≡ put s at a) (long : length a ≡ n) (place : at + n ≡ mid) where
  -- a part put where another ends
  behind : {u : List ℕ} (b : List ℕ) → u ≡ put t mid b → mid ≤ length s → u ≡ put s at (a ++ b)
  behind b q h = q ∙ rw (first, ← place, ← long) (put_on s at a b (rw long (omega arith)))

  kept : mid ≤ length s → length t ≡ length s
  kept h = ap length first ∙ put-length s at a (rw long (omega arith))

  number_behind : {u : List ℕ} (k x : ℕ) → u ≡ put_be k t mid x → mid + k ≤ length s → u ≡ put s at (a ++ be_bytes k x)
  number_behind k x q h = behind (be_bytes k x) (q ∙ put_be-put k t mid x (rw (kept (omega arith)) h)) (omega arith)

  zeros_behind : {u part : List ℕ} (k end : ℕ) → u ≡ take mid t ++ (part ++ drop (end - mid) (drop mid t)) → mid + k ≡ end → end ≤ length s
      → part ≡ replicate (length (take (end - mid) (drop mid t))) 0 → u ≡ put s at (a ++ replicate k 0)
  zeros_behind k end q e h p = behind (replicate k 0) (q ∙ cleared t mid k end e (rw (kept (omega arith)) h) p) (omega arith)

sets_put : (i : ℕ) (s : List ℕ) (at : ℕ) (vs : List ℕ) → at + i + length vs ≤ length s → sets_from i s at vs ≡ put s (at + i) vs
sets_put i s at [] h = put_nothing s (at + i)
sets_put i s at (v ∷ vs) h =
    behind s (set s (at + i) v) (at + i) (at + suc i) (v ∷ []) 1 (set-put s (at + i) v (omega arith)) refl (omega arith) vs
    (sets_put (suc i) (set s (at + i) v) at vs (rw length-set (omega arith))) (omega arith)

-- ---- the row

module _ (s : List ℕ) (at : ℕ) (room : at + row_bytes ≤ length s) where
  pub key_wiped : {part : List ℕ} → part ≡ replicate (length (take (at + 48 - (at + 16)) (drop (at + 16) s))) 0
      → take (at + 16) s ++ (part ++ drop (at + 48 - (at + 16)) (drop (at + 16) s)) ≡ wipe_key s at
  unfolding wipe_key
  key_wiped = cleared s (at + 16) key_bytes (at + 48) (omega arith) (omega arith)

  pub head-written : (r : Row) {t : List ℕ}
      → t ≡ put_be 8 (sets_from 0 s at (first_bytes r)) (at + 8) r.serial
      → t ≡ put s at (before_key r)
  unfolding before_key
  head-written r e =
      rw add-zero at (number_behind s (sets_from 0 s at (first_bytes r)) (at + 0) (at + 8) (first_bytes r) 8 (sets_put 0 s at (first_bytes r) (omega arith)) refl (omega arith) 8 r.serial e (omega arith))

  pub key-written : (key : List ℕ) {t part rest : List ℕ} → length key ≤ key_bytes
      → part ≡ key ++ drop (length key) (take (at + 16 + length key - (at + 16)) (drop (at + 16) s))
      → t ≡ take (at + 16) s ++ (part ++ drop (at + 16 + length key - (at + 16)) (drop (at + 16) s))
      → rest ≡ replicate (length (take (at + 48 - (at + 16 + length key)) (drop (at + 16 + length key) t))) 0
      → take (at + 16 + length key) t ++ (rest ++ drop (at + 48 - (at + 16 + length key)) (drop (at + 16 + length key) t)) ≡ put s (at + 16) (zero_filled key)
  key-written key {t} h p q z =
      zeros_behind s t (at + 16) (at + 16 + length key) key (length key) (q ∙ put-part s (at + 16) key (omega arith) p) refl refl
      (key_bytes - length key) (at + 48) refl (omega arith) (omega arith) z

  pub steps-written : (r : Row) {t gap : List ℕ} → t ≡ steps_stored s at r
      → gap ≡ replicate (length (take (at + 60 - (at + 58)) (drop (at + 58) t))) 0
      → take (at + 58) t ++ (gap ++ drop (at + 60 - (at + 58)) (drop (at + 58) t)) ≡ put s (at + 48) (step_bytes r)
  unfolding step_bytes be_bytes
  steps-written r {t} e g =
      let next = be_bytes 8 r.track.next.0 in
      let offset = next ++ be_bytes 2 r.track.offset.0 in
      let p₁ = put_be-put 8 s (at + 48) r.track.next.0 (omega arith) in
      let p₂ = number_behind s (put_be 8 s (at + 48) r.track.next.0) (at + 48) (at + 56) next 8 p₁ refl (omega arith) 2 r.track.offset.0 e (omega arith) in
      zeros_behind s t (at + 48) (at + 58) offset 10 p₂ refl (omega arith) 2 (at + 60) refl (omega arith) (omega arith) g

  pub times_written : (r : Row) {s₁ s₂ t spare : List ℕ} → s₁ ≡ put_be 4 s (at + 60) r.wait → s₂ ≡ put_be 8 s₁ (at + 64) r.expiry.0
      → t ≡ readings_stored s₂ at r
      → spare ≡ replicate (length (take (at + row_bytes - (at + 88)) (drop (at + 88) t))) 0
      → take (at + 88) t ++ (spare ++ drop (at + row_bytes - (at + 88)) (drop (at + 88) t)) ≡ put s (at + 60) (time_bytes r)
  unfolding time_bytes be_bytes
  times_written r {s₁} {s₂} {t} e₁ e₂ e z =
      let s₃ = put_be 8 s₂ (at + 72) r.locked_at.0 in
      let wait = be_bytes 4 r.wait in
      let expiry = wait ++ be_bytes 8 r.expiry.0 in
      let locked = expiry ++ be_bytes 8 r.locked_at.0 in
      let used = locked ++ be_bytes 8 r.last_use.0 in
      let p₁ : s₁ ≡ put s (at + 60) wait = e₁ ∙ put_be-put 4 s (at + 60) r.wait (omega arith) in
      let p₂ = number_behind s s₁ (at + 60) (at + 64) wait 4 p₁ refl (omega arith) 8 r.expiry.0 e₂ (omega arith) in
      let p₃ = number_behind s s₂ (at + 60) (at + 72) expiry 12 p₂ refl (omega arith) 8 r.locked_at.0 refl (omega arith) in
      let p₄ = number_behind s s₃ (at + 60) (at + 80) locked 20 p₃ refl (omega arith) 8 r.last_use.0 e (omega arith) in
      zeros_behind s t (at + 60) (at + 88) used 28 p₄ refl (omega arith) 8 (at + row_bytes) refl (omega arith) (omega arith) z

  pub row_written : (r : Row) (key : List ℕ) {s₁ s₂ s₃ s₄ : List ℕ} → length key ≤ key_bytes
      → s₁ ≡ put s at (before_key r) → s₂ ≡ put s₁ (at + 16) (zero_filled key)
      → s₃ ≡ put s₂ (at + 48) (step_bytes r) → s₄ ≡ put s₃ (at + 60) (time_bytes r)
      → s₄ ≡ write_row s at r key
  unfolding write_row render
  row_written r key {s₁} {s₂} {s₃} {s₄} h p₁ e₂ e₃ e₄ =
      let front = before_key r ++ zero_filled key in
      let f : length front ≡ 48 = rw (length-append, length-before_key r, length-zero_filled key h) in
      let g : length (front ++ step_bytes r) ≡ 60 = rw (length-append, f, length-step_bytes r) in
      let n : length ((front ++ step_bytes r) ++ time_bytes r) ≡ row_bytes = rw (length-append, g, length-time_bytes r) in
      let p₂ = behind s s₁ at (at + 16) (before_key r) 16 p₁ (length-before_key r) refl (zero_filled key) e₂ (omega arith) in
      let p₃ = behind s s₂ at (at + 48) front 48 p₂ f refl (step_bytes r) e₃ (omega arith) in
      let p₄ = behind s s₃ at (at + 60) (front ++ step_bytes r) 60 p₃ g refl (time_bytes r) e₄ (omega arith) in
      rw n at p₄ ∙ simp append_assoc
