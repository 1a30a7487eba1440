-- What each branch of a load returns.
use Rattle.token.specs.Answers.{successful}
use Rattle.std.specs.Prelude.{ℕ, ◌+◌, ◌^◌, ◌≤◌, ◌<◌, ◌≡◌, refl, is_some, Bool, true, false, not, ◌&&◌, List, ltb, length, Some, None}
use Rattle.std.proofs.Common.{sym, ◌∙◌, arith}
use borrow.Author.Tests.{lt-ltb, ltb-true, not-true, not-false}
use Rattle.words.specs.BoolLaws.{and_left, and_right, by-test}
use Rattle.window.specs.PasswordAt.{PasswordRule}
use Rattle.row.specs.declared.Row.{Row}
use Rattle.row.specs.Row.{row_bytes, key_bytes, last_state, numbers_ok}
use Rattle.row.specs.RangeLaws.{length_in_range}
use Rattle.row.specs.Table.{Place, find_row, find_empty, write_row}
use Rattle.row.specs.FoundLaws.{empty-within}
use Rattle.token.specs.declared.answers.Content.{Content}
use Rattle.token.specs.declared.answers.Refusal.{Refusal}
use Rattle.desk.specs.declared.Particulars.{Particulars}
use Rattle.desk.specs.Requests.{DeskCall, table_ok, loaded_row, load_ok}
use Rattle.desk.specs.Desk.{result_of, refused, loaded_beside, desk_after}

module _ (p : Particulars) (key : List ℕ) where
  pub load-tested : {r : Row} {b : Bool} → p.serial < 2 ^ 64 → r ≡ loaded_row p key → b ≡ numbers_ok last_state r → b ≡ load_ok p key
  unfolding load_ok
  load-tested h e t = rw (lt-ltb p.serial (2 ^ 64) h, ← e) t

  module _ (ok : load_ok p key ≡ true) where
    pub loaded-serial-fits : p.serial < 2 ^ 64
    unfolding load_ok
    loaded-serial-fits = ltb-true p.serial (2 ^ 64) (and_left _ _ ok)

    pub loaded-numbers : numbers_ok last_state (loaded_row p key) ≡ true
    unfolding load_ok
    loaded-numbers = and_right (ltb p.serial (2 ^ 64)) _ ok

    pub loaded-key-short : length key ≤ key_bytes
    loaded-key-short = (length_in_range last_state (loaded_row p key) loaded-numbers).1

  pub load-right : (b c : Bool) → not (b && c) ≡ false → c ≡ load_ok p key → load_ok p key ≡ true
  load-right b c t values = rw (← values) (and_right b _ (not-false (b && c) t))

  pub long-key-bad : key_bytes < length key → false ≡ load_ok p key
  long-key-bad l = by-test (load_ok p key) (λ t. let n = loaded-key-short t in absurd (omega arith)) (λ t. sym t)

-- a place that there is not
nowhere : (x : Place) → is_some x ≡ false → x ≡ None
nowhere (Some at) h = cc
nowhere None h = refl

module _ (passwords : PasswordRule) (p : Particulars) (key s : List ℕ) {b c : Bool} (lent : b ≡ table_ok row_bytes s) (values : c ≡ load_ok p key) where
  pub load-unfit : not (b && c) ≡ true → refused Refusal.BadArgument s ≡ desk_after passwords (DeskCall.load p key) s
  unfolding desk_after
  load-unfit t = rw (← lent, ← values, not-true (b && c) t)

  module _ (t : not (b && c) ≡ false) {x : Place} (e : x ≡ find_row row_bytes s p.serial) where
    pub load_known : is_some x ≡ true → refused Refusal.AlreadyLoaded s ≡ desk_after passwords (DeskCall.load p key) s
    unfolding desk_after
    load_known n = rw (← lent, ← values, not-false (b && c) t, ← e) (beside x n)
      where
        beside : (y : Place) → is_some y ≡ true → refused Refusal.AlreadyLoaded s ≡ loaded_beside p key s y
        beside (Some at) h = refl
        beside None h = cc

    module _ (absent : is_some x ≡ false) {y : Place} (g : y ≡ find_empty row_bytes s) where
      pub load_full : y ≡ None → refused Refusal.TableFull s ≡ desk_after passwords (DeskCall.load p key) s
      unfolding desk_after
      load_full m = rw (← lent, ← values, not-false (b && c) t, ← e, nowhere x absent, ← g, m)

      pub load-made : {at : ℕ} {r : Row} {after : List ℕ} → y ≡ Some at → r ≡ loaded_row p key → after ≡ write_row s at r key
          → result_of (successful 0x0140 Content.Plain) after ≡ desk_after passwords (DeskCall.load p key) s
      unfolding desk_after
      load-made m q w = rw (← lent, ← values, not-false (b && c) t, ← e, nowhere x absent, ← g, m, ← q, w)

pub empty-within-table : (s : List ℕ) {y : Place} {at : ℕ} → y ≡ find_empty row_bytes s → y ≡ Some at → at + row_bytes ≤ length s
empty-within-table s {y} {at} g m = empty-within row_bytes s (omega arith) at (sym g ∙ m)
