-- A row that is stored or written, and what happens to it, by the changes of `Demand1Bytes`.
use Rattle.std.specs.Prelude.{ℕ, ◌+◌, ◌-◌, ◌/◌, ◌≤◌, ◌<◌, ◌≡◌, Bool, ◌&&◌, ◌||◌, cond, leb, length, set}
use Rattle.std.proofs.Math.Path.{refl}
use Rattle.std.proofs.Common.{sym, ap, ◌∙◌, add-zero, length-set}
use Rattle.std.proofs.Math.Bool.{true, false}
use mathlib.Core.List.{List, [], ◌∷◌, ◌++◌}
use native.Mathlib.Omega.{arith}
use borrow.Author.Tests.{eqb-true, leb-true}
use Rattle.std.proofs.Math.Dec.{eqb}
use Rattle.words.specs.Bytes.{be_bytes, put, put_be}
use Rattle.words.specs.BytesLaws.{length-put_be, put_be-put}
use Rattle.words.specs.PutLaws.{set-put}
use Rattle.words.specs.BoolLaws.{by-test, and_left, and_right}
use Rattle.window.specs.declared.Seconds.{Seconds}
use Rattle.row.specs.declared.Row.{Row}
use Rattle.row.specs.Row.{row_bytes, before_key, step_bytes, time_bytes, render}
use Rattle.row.specs.Table.{store_row, zero_filled, write_row}
use Rattle.row.specs.WriteLaws.{length-zero_filled}
use Rattle.row.specs.RowLaws.{length-render}
use Rattle.token.specs.Lines.{locked_by_errors}
use Rattle.token.specs.States.{changed, locked_after, with_state, accepted, errors_after}
use Rattle.desk.specs.declared.Particulars.{Particulars}
use Rattle.desk.specs.Requests.{loaded_row}
use Rattle.desk.specs.Demand1Bytes.{Change, laid, state, errors, next, offset, locked_at, last_use, loaded}
use Rattle.desk.proofs.LaidLaws.{replaced_by, replaces_all, laid-append, laid_replacing, laid_stacked}

-- the numbers that calls change, each at its offset
abbrev pub numbers_of : Row → List Change
numbers_of r =
    state r.state
    ∷ errors r.errors
    ∷ next r.track.next.0
    ∷ offset r.track.offset.0
    ∷ locked_at r.locked_at.0
    ∷ last_use r.last_use.0
    ∷ []

module _ (s : List ℕ) (at : ℕ) (room : at + row_bytes ≤ length s) where
  byte_on : (t : List ℕ) {u : List ℕ} (n x : ℕ) → length t ≡ length s → n < row_bytes → t ≡ u → set t (at + n) x ≡ put u (at + n) (x ∷ [])
  byte_on t n x l h e = set-put t (at + n) x (omega arith) ∙ ap (λ (z : List ℕ). put z (at + n) (x ∷ [])) e

  number_on : (k : ℕ) (t : List ℕ) {u : List ℕ} (n x : ℕ) → length t ≡ length s → n + k ≤ row_bytes → t ≡ u → put_be k t (at + n) x ≡ put u (at + n) (be_bytes k x)
  number_on k t n x l h e = put_be-put k t (at + n) x (omega arith) ∙ ap (λ (z : List ℕ). put z (at + n) (be_bytes k x)) e

  pub store_laid : (r : Row) → store_row s at r ≡ laid s at (numbers_of r)
  unfolding store_row
  store_laid r =
      number_on 8 _ 80 r.last_use.0 (simp (length-set, length-put_be)) (omega arith)
      (number_on 8 _ 72 r.locked_at.0 (simp (length-set, length-put_be)) (omega arith)
      (number_on 2 _ 56 r.track.offset.0 (simp (length-set, length-put_be)) (omega arith)
      (number_on 8 _ 48 r.track.next.0 (simp length-set) (omega arith)
      (byte_on _ 6 r.errors (simp length-set) (omega arith) (byte_on _ 0 r.state refl (omega arith) refl)))))

  -- changes laid over a stored row store another
  pub stored-over : (w r : Row) (cs : List Change) → replaces_all (numbers_of w) cs ≡ true → replaced_by (numbers_of w) cs ≡ numbers_of r
      → laid (store_row s at w) at cs ≡ store_row s at r
  stored-over w r cs t e = rw (store_laid w, laid_replacing at s (numbers_of w) cs room t, e) (sym (store_laid r))

-- ---- what happens to a row, by the changes that it makes in the stored one

abbrev pub seconds : ℕ → Seconds
seconds x = record { 0 = x }

module _ (s : List ℕ) (at clock : ℕ) (room : at + row_bytes ≤ length s) where
  -- changes laid over the row w
  abbrev pub over : Row → List Change → List ℕ
  over w cs = laid (store_row s at w) at cs

  -- used or wrong; b tells whether that locks
  pub failed-laid : (w : Row) (b : Bool)
      → over w (errors (errors_after w) ∷ cond b (state 3 ∷ locked_at clock ∷ []) [])
      ≡ store_row s at
      (cond b (changed w locked_by_errors (errors_after w) w.track (seconds clock) w.last_use) (changed w w.state (errors_after w) w.track w.locked_at w.last_use))
  unfolding be_bytes
  failed-laid w true = stored-over s at room w _ (errors (errors_after w) ∷ state 3 ∷ locked_at clock ∷ []) refl refl
  failed-laid w false = stored-over s at room w _ (errors (errors_after w) ∷ []) refl refl

  -- the row in another state, from the state n, which is not 3
  pub moved-laid : (w : Row) (n after : ℕ) → leb n w.state && leb w.state n ≡ true → eqb n 3 ≡ false → over w (state after ∷ []) ≡ store_row s at (with_state w after)
  unfolding be_bytes with_state
  moved-laid w n after t f =
      let low = leb-true n w.state (and_left _ _ t) in
      let high = leb-true w.state n (and_right (leb n w.state) _ t) in
      let e : w.state ≡ n = omega arith in
      let z : eqb w.state locked_by_errors ≡ false = rw e f in
      rw z (stored-over s at room w (changed w after w.errors w.track w.locked_at w.last_use) (state after ∷ []) refl refl)

  -- from any state, if `locked at` is 0 unless it is 3
  pub left_laid : (w : Row) (after : ℕ) → eqb after 3 ≡ false → eqb w.state 3 || eqb w.locked_at.0 0 ≡ true
      → over w (state after ∷ locked_at 0 ∷ []) ≡ store_row s at (with_state w after)
  unfolding be_bytes with_state
  left_laid w after f t =
      let e : locked_after w after ≡ seconds 0 = by-test (eqb w.state 3) (λ b. rw (b, f)) (λ b. rw b (ap seconds (eqb-true w.locked_at.0 0 (rw b at t)))) in
      rw e (stored-over s at room w (changed w after w.errors w.track (seconds 0) w.last_use) (state after ∷ locked_at 0 ∷ []) refl refl)

  -- an accepted step a
  abbrev pub marks : Row → ℕ → List Change
  marks w a = next (a + 1) ∷ errors 0 ∷ last_use clock ∷ cond (eqb w.track.scheme.kind 0) (offset (a + 600 - clock / w.track.period) ∷ []) []

  pub marked-laid : (w : Row) (a : ℕ) → over w (marks w a) ≡ store_row s at (accepted w clock a)
  unfolding be_bytes accepted
  marked-laid w a =
      let cs = next (a + 1) ∷ errors 0 ∷ last_use clock ∷ [] in
      let d = a + 600 - clock / w.track.period in
      by-test (eqb w.track.scheme.kind 0) (λ t. rw t (stored-over s at room w _ (cs ++ (offset d ∷ [])) refl refl)) (λ t. rw t (stored-over s at room w _ cs refl refl))

  -- and a state that follows
  pub followed-laid : (w : Row) (after : ℕ) (cs : List Change) (a : ℕ) → over w cs ≡ store_row s at (with_state w after)
      → over w (cs ++ marks w a) ≡ store_row s at (with_state (accepted w clock a) after)
  unfolding with_state accepted
  followed-laid w after cs a h = laid-append at (store_row s at w) cs (marks w a) ∙ rw h (marked-laid (with_state w after) a)

-- ---- a row that is written, by all its bytes

pub load-laid : (p : Particulars) (key s : List ℕ) (at : ℕ) → length key ≤ 32 → at + row_bytes ≤ length s → laid s at (loaded p key) ≡ write_row s at (loaded_row p key) key
unfolding be_bytes write_row render before_key step_bytes time_bytes
load-laid p key s at short room =
    let k = length-zero_filled key short in
    let whole = length-render (loaded_row p key) (zero_filled key) k in
    let behind : 48 ≡ 16 + length (zero_filled key) = omega arith in
    laid_stacked s at 0 (loaded p key) (refl, (refl, (refl, (behind, (refl, (refl, (refl, (refl, (refl, tt))))))))) (omega arith)
    ∙ rw (whole, add-zero at)
