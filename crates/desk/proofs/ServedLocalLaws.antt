-- What a request does with a row depends on that row's bytes only, wherever it stands, and changes no others.
use Rattle.std.specs.Prelude.{ℕ, ◌+◌, ◌≤◌, ◌≡◌, true, List, length}
use Rattle.std.proofs.Math.Path.{ap}
use Rattle.std.proofs.Common.{◌∙◌}
use Rattle.window.specs.PasswordAt.{PasswordRule}
use Rattle.row.specs.Row.{row_bytes, row_at, well_formed}
use Rattle.row.specs.Table.{bytes_at, store_row}
use Rattle.row.specs.RangeLaws.{length_in_range}
use Rattle.row.specs.StoreLaws.{length_store}
use Rattle.row.specs.OutsideLaws.{Outside, outside_itself, outside-next, store_outside, wipe_outside}
use Rattle.row.specs.LocalLaws.{row_at_local, secret_local, store_local, wipe_local}
use Rattle.token.specs.declared.lines.Request.{Request as Valued}
use Rattle.token.specs.declared.deciding.Left.{Left}
use Rattle.token.specs.Deciding.{decided}
use Rattle.desk.specs.Desk.{Result, secret_at, left_at, served_at}
use Rattle.desk.proofs.ServingLaws.{numbers_of}

-- two results say the same and leave the same bytes in the rows at two places
pub record Alike (at by : ℕ) (x y : Result) : Type 0 where
  pub answer : x.answer ≡ y.answer
  pub bytes : bytes_at x.table at ≡ bytes_at y.table by

left-outside : (s : List ℕ) (at : ℕ) → at + row_bytes ≤ length s → (left : Left) → Outside s (left_at s at left) at
left-outside s at room Left.Same = outside_itself s at
left-outside s at room (Left.Stored r) = store_outside s at room r
left-outside s at room (Left.Voided r) = outside-next (store_outside s at room r) (wipe_outside (store_row s at r) at (rw (length_store s at r) room))

pub served-outside : (passwords : PasswordRule) (request : Valued) (challenge : List ℕ) (clock : ℕ) (s : List ℕ) (at : ℕ) → at + row_bytes ≤ length s
    → Outside s (served_at passwords request challenge clock s at (row_at s at)).table at
unfolding served_at
served-outside passwords request challenge clock s at room =
    left-outside s at room (decided passwords request (row_at s at) (secret_at s at) clock challenge).left

module _ (s t : List ℕ) (at by : ℕ) (same : bytes_at s at ≡ bytes_at t by) (room : at + row_bytes ≤ length s) (space : by + row_bytes ≤ length t) where
  left_local : (left : Left) → bytes_at (left_at s at left) at ≡ bytes_at (left_at t by left) by
  left_local Left.Same = same
  left_local (Left.Stored r) = store_local s t at by same room space r
  left_local (Left.Voided r) =
      wipe_local (store_row s at r) (store_row t by r) at by (store_local s t at by same room space r) (rw (length_store s at r) room) (rw (length_store t by r) space)

  pub served_local : (highest : ℕ) → well_formed highest s at ≡ true → (passwords : PasswordRule) (request : Valued) (challenge : List ℕ) (clock : ℕ)
      → Alike at by (served_at passwords request challenge clock s at (row_at s at)) (served_at passwords request challenge clock t by (row_at t by))
  unfolding served_at
  served_local highest ok passwords request challenge clock =
      let key : secret_at s at ≡ secret_at t by = secret_local s t at by same (length_in_range highest (row_at s at) (numbers_of highest s at ok)).1 in
      let d = decided passwords request (row_at s at) (secret_at s at) clock challenge in
      let e : d ≡ decided passwords request (row_at t by) (secret_at t by) clock challenge = rw (key, row_at_local s t at by same) in
      record { answer = ap (λ x. x.answer) e; bytes = left_local d.left ∙ ap (λ x. bytes_at (left_at t by x.left) by) e }
