-- A call naming a token changes no other token's row: on any table, damaged rows included.
use Rattle.std.specs.Prelude.{ℕ, ◌+◌, ◌*◌, ◌≤◌, ◌≡◌, ◌⊎◌, true, false, ◌&&◌, List, length, take, drop, Some, None}
use Rattle.std.proofs.Math.Path.{refl}
use Rattle.std.proofs.Common.{inl, inr, ⊎_elim, mul_comm, arith}
use borrow.Author.Tests.{eqb-true}
use Rattle.words.specs.BoolLaws.{either}
use Rattle.window.specs.PasswordAt.{PasswordRule}
use Rattle.row.specs.Row.{row_bytes, last_state, well_formed}
use Rattle.row.specs.Table.{Place, Sought, is_empty, has_serial, find_row, located_at, located}
use Rattle.row.specs.FoundLaws.{found_within, found-apart, empty-within, empty-apart}
use Rattle.row.specs.OutsideLaws.{Outside, write_outside, elsewhere-stays}
use Rattle.desk.specs.Requests.{Request, DeskCall, table_ok, clock_ok, request_ok, valued, challenge_of, loaded_row}
use Rattle.desk.specs.Desk.{Result, served_from, desk_after}
use Rattle.desk.proofs.LoadLaws.{loaded-key-short}
use Rattle.desk.proofs.BranchLaws.{load-holds}
use Rattle.desk.proofs.ServedLocalLaws.{served-outside}
use Rattle.ledger.specs.Ledger.{names}
use Rattle.ledger.specs.Demand3.{OtherRowsStay}

module _ (passwords : PasswordRule) (s : List ℕ) (i : ℕ) (room : row_bytes * i + row_bytes ≤ length s) where
  abbrev Stays : Result → Type 0
  Stays x = take row_bytes (drop (row_bytes * i) x.table) ≡ take row_bytes (drop (row_bytes * i) s)

  long : row_bytes ≤ row_bytes
  long = omega arith

  -- row i lies wholly before or behind the one that changes
  row_stays : {t : List ℕ} {at : ℕ} → Outside s t at → (i * row_bytes + row_bytes ≤ at) ⊎ (at + row_bytes ≤ i * row_bytes)
      → take row_bytes (drop (row_bytes * i) t) ≡ take row_bytes (drop (row_bytes * i) s)
  row_stays {at = at} out apart =
      elsewhere-stays out row_bytes (row_bytes * i)
      (⊎_elim (λ (h : i * row_bytes + row_bytes ≤ at). inl (omega arith)) (λ (h : at + row_bytes ≤ i * row_bytes). inr (omega arith)) apart) room

  served-stays : (request : Request) (serial clock : ℕ) → has_serial s serial (i * row_bytes) ≡ false → (place : Place) → find_row row_bytes s serial ≡ place
      → Stays (served_from passwords (valued request) (challenge_of request) clock s (located_at last_state s place))
  served-stays request serial clock other (Some at) e =
      either (λ (x : Sought). Stays (served_from passwords (valued request) (challenge_of request) clock s x)) (well_formed last_state s at)
      (row_stays (served-outside passwords (valued request) (challenge_of request) clock s at (found_within row_bytes s serial long at e)) (found-apart row_bytes s serial at e i other)) refl
  served-stays request serial clock other None e = refl

  desk_stays : (call : DeskCall) (serial : ℕ) → names call serial ≡ true → is_empty s (i * row_bytes) ≡ false → has_serial s serial (i * row_bytes) ≡ false
      → Stays (desk_after passwords call s)
  unfolding desk_after located
  desk_stays (DeskCall.load p key) serial named taken other =
      load-holds passwords s Stays p key
      (record {
        bad = λ t. refl;
        taken = λ fit at e. refl;
        full = λ fit none e. refl;
        made = λ fit none at e.
            row_stays (write_outside s at (empty-within row_bytes s long at e) (loaded_row p key) key (loaded-key-short p key fit.values)) (empty-apart row_bytes s at e i taken);
      })
  desk_stays (DeskCall.named request known clock) serial named taken other =
      let e = eqb-true known serial named in
      either Stays (table_ok row_bytes s && (clock_ok clock && request_ok request)) (served-stays request known clock (rw e other) (find_row row_bytes s known) refl) refl

pub other-rows_stay : OtherRowsStay
other-rows_stay passwords call serial named s i room taken other =
    let e = mul_comm i row_bytes in
    desk_stays passwords s i room call serial named (rw e taken) (rw e other)
