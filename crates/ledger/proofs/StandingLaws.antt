-- A token whose row stands in a table between other bytes: what is read of it, and what a request leaves.
use Rattle.std.specs.Prelude.{ℕ, ◌+◌, ◌^◌, ◌<◌, ◌≡◌, true, false, eqb, length, get_or, drop, replicate, Some}
use Rattle.std.proofs.Common.{sym, ◌∙◌, ne_eqb, length-append, take_at, drop_at, take-take}
use Rattle.std.proofs.Math.Path.{ap}
use mathlib.Core.List.{List, ◌++◌, append_assoc}
use native.Mathlib.Omega.{arith}
use Rattle.std.proofs.Math.ListN.{take}
use Rattle.std.proofs.Math.Seq.{drop-drop}
use Rattle.words.specs.Lists.{all_zero}
use Rattle.words.specs.Bytes.{be_bytes}
use Rattle.window.specs.PasswordAt.{PasswordRule}
use Rattle.row.specs.declared.Row.{Row}
use Rattle.row.specs.Row.{key_bytes, last_state, row_at, key_at, before_key, step_bytes, time_bytes, render, zeros_ok, well_formed}
use Rattle.row.specs.RowLaws.{numbers_parsed, key_parsed, length-before_key}
use Rattle.row.specs.RangeLaws.{length_in_range}
use Rattle.row.specs.StoreLaws.{SameParticulars, store_behind}
use Rattle.row.specs.StoreLaws as stores
use Rattle.row.specs.Table.{has_serial, is_empty, located_at, store_row, wipe_key}
use Rattle.token.specs.declared.deciding.Left.{Left}
use Rattle.desk.specs.Requests.{Request, valued, challenge_of}
use Rattle.desk.specs.Desk.{secret_at, left_at, served_at, served_from}
use Rattle.ledger.specs.Tokens.{Token, decided_on, kept, Serviceable}
use Rattle.ledger.proofs.RangeLaws.{live-fits}
use Rattle.ledger.proofs.DecidedLaws.{LeavesBy}
use Rattle.ledger.proofs.ServiceableLaws.{token-leaves}

-- ---- any row with a key

module _ (s : List ℕ) (at : ℕ) (r : Row) (key before behind : List ℕ) (stands : s ≡ before ++ (render r key ++ behind)) (place : length before ≡ at) (long : length key ≡ key_bytes) where
  whole_here : s ≡ (before ++ before_key r) ++ (key ++ (step_bytes r ++ (time_bytes r ++ behind)))
  unfolding render
  whole_here = stands ∙ simp append_assoc

  length_front : length (before ++ before_key r) ≡ at + 16
  length_front = rw (length-append, place, length-before_key r)

  rest-here : drop (at + 48) s ≡ step_bytes r ++ (time_bytes r ++ behind)
  rest-here =
      let e : at + 48 ≡ at + 16 + 32 = omega arith in
      let rest = step_bytes r ++ (time_bytes r ++ behind) in
      rw (e, whole_here, ← drop-drop 32 (at + 16), drop_at (before ++ before_key r) (key ++ rest) (at + 16) length_front) (drop_at key rest 32 long)

  row_here : drop at s ≡ render r key ++ behind
  row_here = rw stands (drop_at before (render r key ++ behind) at place)

  gap_here : take 2 (drop (at + 58) s) ≡ replicate 2 0
  unfolding step_bytes be_bytes
  gap_here = let e : at + 58 ≡ at + 48 + 10 = omega arith in rw (e, ← drop-drop 10 (at + 48) s, rest-here)

  spare_here : take 8 (drop (at + 88) s) ≡ replicate 8 0
  unfolding step_bytes time_bytes be_bytes
  spare_here = let e : at + 88 ≡ at + 48 + 40 = omega arith in rw (e, ← drop-drop 40 (at + 48) s, rest-here)

  row-stored : (q : Row) → SameParticulars q r → store_row s at q ≡ before ++ (render q key ++ behind)
  row-stored q same =
      ap (λ (t : List ℕ). store_row t at q) stands ∙ store_behind before (render r key ++ behind) at q place
      ∙ ap (λ (t : List ℕ). before ++ t) (stores.row-stored r q same key behind long)

  key_wiped : wipe_key s at ≡ before ++ (render r (replicate key_bytes 0) ++ behind)
  unfolding wipe_key render
  key_wiped =
      let e : at + 16 + key_bytes ≡ at + 48 = omega arith in
      let front : take (at + 16) s ≡ before ++ before_key r =
      rw whole_here (take_at (before ++ before_key r) (key ++ (step_bytes r ++ (time_bytes r ++ behind))) (at + 16) length_front) in
      rw (front, e, rest-here) (simp append_assoc)

-- ---- a token that the desk goes on with

abbrev pub between : List ℕ → Token → List ℕ → List ℕ
between before t behind = before ++ (render t.row t.key ++ behind)

module _ (s : List ℕ) (at : ℕ) (t : Token) (before behind : List ℕ) (stands : s ≡ between before t behind) (place : length before ≡ at) (good : Serviceable t) where
  row_read : row_at s at ≡ t.row
  row_read = numbers_parsed s at t.row t.key behind (row_here s at t.row t.key before behind stands place good.long) good.long (live-fits t.row good.live good.serial)

  key-read : key_at s at ≡ t.key
  key-read = key_parsed s at t.row t.key behind (row_here s at t.row t.key before behind stands place good.long) good.long

  length-read : get_or s (at + 7) 0 ≡ t.row.key_length
  unfolding row_at
  length-read = ap (λ (x : Row). x.key_length) row_read

  pub taken-read : is_empty s at ≡ false
  unfolding row_at
  taken-read = let h = good.live.taken in rw (ap (λ (x : Row). x.state) row_read) (ne_eqb t.row.state 0 (λ e. omega arith))

  pub serial-read : (serial : ℕ) → has_serial s serial at ≡ eqb t.row.serial serial
  unfolding has_serial row_at
  serial-read serial = rw (taken-read, ap (λ (x : Row). x.serial) row_read)

  formed-read : well_formed last_state s at ≡ true
  unfolding well_formed zeros_ok all_zero
  formed-read =
      rw (
        row_read,
        length-read,
        key-read,
        gap_here s at t.row t.key before behind stands place good.long,
        spare_here s at t.row t.key before behind stands place good.long,
        good.live.numbers,
        good.filled,
      )

  secret-read : secret_at s at ≡ take t.row.key_length t.key
  secret-read =
      let l = (length_in_range last_state t.row good.live.numbers).1 in
      rw row_read (sym (take-take t.row.key_length key_bytes (drop (at + 16) s) l) ∙ rw key-read)

  left-stands : (left : Left) → LeavesBy t.row left → left_at s at left ≡ between before (kept t left) behind
  left-stands Left.Same leaves = stands
  left-stands (Left.Stored x) leaves = row-stored s at t.row t.key before behind stands place good.long x leaves.same
  left-stands (Left.Voided x) leaves =
      key_wiped (store_row s at x) at x t.key before behind
      (row-stored s at t.row t.key before behind stands place good.long x leaves.same) place good.long

  pub request_served : (passwords : PasswordRule) (request : Request) (clock : ℕ) → clock < 2 ^ 40
      → served_from passwords (valued request) (challenge_of request) clock s (located_at last_state s (Some at))
      ≡ record { answer = (decided_on passwords request clock t).answer; table = between before (kept t (decided_on passwords request clock t).left) behind }
  unfolding served_at
  request_served passwords request clock h =
      rw (formed-read, secret-read, row_read, left-stands (decided_on passwords request clock t).left (token-leaves passwords request clock h t good))
