-- One call, over bytes and over tokens: on the table that renders serviceable tokens, the desk gives the tokens' answer and the table of the tokens after.
use Rattle.std.specs.Prelude.{ℕ, ◌+◌, ◌-◌, ◌*◌, ◌/◌, ◌^◌, ◌≤◌, ◌<◌, ◌≡◌, true, ◌&&◌, cond, replicate, Some, None}
use Rattle.std.proofs.Math.Path.{refl}
use Rattle.std.proofs.Common.{sym, ◌∙◌, zero-add, length-append}
use mathlib.Core.List.{List, [], ◌∷◌, ◌++◌}
use Rattle.std.proofs.Math.Nat.{add-mul, mul-div_cancel, mul-mod_left}
use native.Mathlib.Omega.{arith}
use borrow.Author.Tests.{le-leb, lt-ltb, le-ltb, ltb-true, ltb-false}
use Rattle.std.proofs.Math.Dec.{ltb}
use Rattle.std.proofs.Math.ListN.{length, length-replicate}
use Rattle.words.specs.BoolLaws.{by-test, and_left}
use Rattle.window.specs.PasswordAt.{PasswordRule}
use Rattle.row.specs.Row.{row_bytes, last_state}
use Rattle.row.specs.Table.{find_row, find_empty, located, write_row}
use Rattle.desk.specs.declared.Particulars.{Particulars}
use Rattle.desk.specs.Requests.{Request, DeskCall, table_ok, clock_ok, request_ok, valued, challenge_of, loaded_row, load_ok}
use Rattle.desk.specs.Desk.{served_from, desk_after}
use Rattle.ledger.specs.Tokens.{Token, served_among, has_token, loaded_token, tokens_after, rendered, table_with, AllServiceable}
use Rattle.ledger.proofs.ServiceableLaws.{length-served}
use Rattle.ledger.proofs.RenderedLaws.{length-rendered, rendered_more, served-among, loaded-among, empty-among, written_behind}

-- ---- the table in rows of a width

module _ (width : ℕ) (long : row_bytes ≤ width) (rows : ℕ) where
  -- other tokens, as many, in the table
  table-after : (us : List Token) {k : ℕ} → length us ≡ k → table_with width rows us ≡ rendered width us ++ replicate ((rows - k) * width) 0
  unfolding table_with
  table-after us e = rw e

  module _ (ts : List Token) (room : length ts ≤ rows) (all : AllServiceable ts) where
    length-table : length (table_with width rows ts) ≡ rows * width
    unfolding table_with
    length-table =
        let e : length ts + (rows - length ts) ≡ rows = omega arith in
        rw (length-append, length-rendered width long ts all, length-replicate {A = ℕ} ((rows - length ts) * width) 0, ← add-mul (length ts) (rows - length ts) width, e)

    table-ok : 1 ≤ rows → rows ≤ 256 → table_ok width (table_with width rows ts) ≡ true
    unfolding table_ok
    table-ok some few = rw (length-table, mul-mod_left rows width, mul-div_cancel rows {n = width} (omega arith), le-leb 1 rows some, le-leb rows 256 few)

    count-rows : length (table_with width rows ts) / width ≡ length ts + (rows - length ts)
    count-rows = rw (length-table, mul-div_cancel rows {n = width} (omega arith)) (omega arith)

    table-stands : table_with width rows ts ≡ [] ++ (rendered width ts ++ replicate ((rows - length ts) * width) 0)
    unfolding table_with
    table-stands = refl

    found-serves : (passwords : PasswordRule) (request : Request) (serial clock : ℕ) → clock < 2 ^ 40
        → served_from passwords (valued request) (challenge_of request) clock (table_with width rows ts) (located width last_state (table_with width rows ts) serial)
        ≡ record {
          answer = (served_among passwords request serial clock ts).answer;
          table = table_with width rows (served_among passwords request serial clock ts).tokens;
        }
    unfolding located find_row
    found-serves passwords request serial clock h =
        rw (count-rows, table-after (served_among passwords request serial clock ts).tokens (length-served passwords request clock serial ts))
        (served-among width long passwords request serial clock h (table_with width rows ts) ((rows - length ts) * width) (rows - length ts) ts [] 0 table-stands refl all)

    -- the table with one more token, if there is room
    loaded-table : (p : Particulars) (key : List ℕ) → length ts < rows
        → write_row (table_with width rows ts) (0 + length ts * width) (loaded_row p key) key ≡ table_with width rows (ts ++ (loaded_token p key ∷ []))
    loaded-table p key l =
        let t = loaded_token p key in
        let n = (rows - length ts) * width in
        let left : n - width ≡ (rows - (length ts + 1)) * width = one_less in
        let room : width ≤ n = one-fits in
        rw (table-after (ts ++ (t ∷ [])) (length-append ts (t ∷ [])), rendered_more width long ts t, ← left)
        (written_behind width long (table_with width rows ts) (rendered width ts) n (0 + length ts * width) t key refl table-stands
        (length-rendered width long ts all ∙ sym (zero-add (length ts * width))) room)
      where
        one_more : (rows - length ts) * width ≡ (rows - (length ts + 1)) * width + width
        one_more =
            let e : rows - length ts ≡ (rows - (length ts + 1)) + 1 = omega arith in
            let m = add-mul (rows - (length ts + 1)) 1 width in
            rw e (omega arith)

        one_less : (rows - length ts) * width - width ≡ (rows - (length ts + 1)) * width
        one_less = let m = one_more in omega arith

        one-fits : width ≤ (rows - length ts) * width
        one-fits = let m = one_more in omega arith

    empty-found : find_empty width (table_with width rows ts) ≡ cond (ltb (length ts) rows) (Some (0 + length ts * width)) None
    unfolding find_empty
    empty-found =
        let e : ltb 0 (rows - length ts) ≡ ltb (length ts) rows =
        by-test (ltb (length ts) rows)
        (λ t. let l = ltb-true (length ts) rows t in rw t (lt-ltb 0 (rows - length ts) (omega arith)))
        (λ t. let l = ltb-false (length ts) rows t in rw t (le-ltb 0 (rows - length ts) (omega arith))) in
        rw (count-rows, ← e) (empty-among width long (table_with width rows ts) ((rows - length ts) * width) (rows - length ts) ts [] 0 table-stands refl all)

-- ---- the desk's rows have the layout's bytes

module _ (passwords : PasswordRule) (rows : ℕ) (some : 1 ≤ rows) (few : rows ≤ 256) (ts : List Token) (room : length ts ≤ rows) (all : AllServiceable ts) where
  long : row_bytes ≤ row_bytes
  long = omega arith

  pub bytes-step : (call : DeskCall) → desk_after passwords call (table_with row_bytes rows ts)
      ≡ record { answer = (tokens_after passwords rows call ts).answer; table = table_with row_bytes rows (tokens_after passwords rows call ts).tokens }
  unfolding desk_after tokens_after find_row
  bytes-step (DeskCall.named request serial clock) =
      rw (table-ok row_bytes long rows ts room all some few)
      (by-test (clock_ok clock && request_ok request)
      (λ ok. rw ok (found-serves row_bytes long rows ts room all passwords request serial clock (ltb-true clock (2 ^ 40) (and_left _ _ ok))))
      (λ bad. rw bad))
  bytes-step (DeskCall.load p key) =
      rw (
        table-ok row_bytes long rows ts room all some few,
        count-rows row_bytes long rows ts room all,
        loaded-among row_bytes long p key (table_with row_bytes rows ts) ((rows - length ts) * row_bytes) (rows - length ts) ts [] 0 (table-stands row_bytes long rows ts room all) refl all,
        empty-found row_bytes long rows ts room all,
      )
      (by-test (load_ok p key)
      (λ ok.
      rw ok
      (by-test (has_token p.serial ts)
      (λ has. rw has)
      (λ lacks.
      rw lacks
      (by-test (ltb (length ts) rows)
      (λ l. rw (l, loaded-table row_bytes long rows ts room all p key (ltb-true (length ts) rows l)))
      (λ full. rw full)))))
      (λ bad. rw bad))
