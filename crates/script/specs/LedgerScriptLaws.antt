-- The proof that a script prints what the ledger machine answers: line by line, from the third demand's law of one call.
use Rattle.std.specs.Prelude.{ℕ, ◌≤◌, ◌≡◌, false, Some}
use Rattle.std.proofs.Math.Path.{refl}
use Rattle.std.proofs.Common.{ap, ◌∙◌}
use mathlib.Core.List.{List, [], ◌∷◌}
use Rattle.words.specs.BoolLaws.{by-test}
use Rattle.window.specs.PasswordAt.{PasswordRule}
use Rattle.desk.specs.Reads.{Reads, read_after}
use Rattle.ledger.specs.Ledger.{Entry, table_of}
use Rattle.ledger.proofs.Demand3Laws.{Faithful, start_faithful, start-table, call_step, faithful_step}
use Rattle.call_lines.specs.Line.{reads_of, line_after}
use Rattle.script.specs.Script.{rows_of, is_table, serves, later_line, served, served_all, start, output_of}
use Rattle.script.specs.RowsLaws.{rows_bounds}
use Rattle.script.specs.LedgerScript.{ledger_answer, ledger_history, ledger_text, ScriptIsLedger}

-- ---- line by line

module _ (passwords : PasswordRule) (rows : ℕ) (some-rows : 1 ≤ rows) (few : rows ≤ 256) where
  -- the desk on the machine's table, for a line that is no `table`
  line_step : (history : List Entry) (r : Reads) → Faithful passwords rows history
      → read_after passwords r (table_of passwords rows history)
      ≡ record { answer = ledger_answer passwords rows history r; table = table_of passwords rows (ledger_history passwords rows history r) }
  unfolding read_after
  line_step history (Reads.serves call) faithful = call_step passwords rows history call faithful some-rows few
  line_step history (Reads.refuses refusal) faithful = refl

  faithful_line : (history : List Entry) (r : Reads) → Faithful passwords rows history → Faithful passwords rows (ledger_history passwords rows history r)
  faithful_line history (Reads.serves call) faithful = faithful_step passwords rows history call faithful
  faithful_line history (Reads.refuses refusal) faithful = faithful

  lines_from : (history : List Entry) (lines : List (List ℕ)) → Faithful passwords rows history
      → (served_all passwords lines (record { fresh = false; table = table_of passwords rows history })).text ≡ ledger_text passwords rows history lines
  unfolding served_all served later_line line_after ledger_text
  lines_from history [] faithful = refl
  lines_from history (line ∷ lines) faithful =
      by-test (is_table line)
      (λ t. rw (t, lines_from history lines faithful))
      (λ f. let r = reads_of line in
      rw (f, line_step history r faithful, lines_from (ledger_history passwords rows history r) lines (faithful_line history r faithful)))

-- ---- the first line

first-served : (passwords : PasswordRule) (first : List ℕ) (rows : ℕ) → rows_of first ≡ Some rows → served passwords first start ≡ serves [] (table_of passwords rows [])
unfolding served
first-served passwords first rows right = rw (right, start-table passwords rows)

pub script_is-ledger : ScriptIsLedger
unfolding output_of served_all
script_is-ledger passwords input first lines rows split right =
    let bounds = rows_bounds first right in
    ap (λ (ls : List (List ℕ)). (served_all passwords ls start).text) split
    ∙ rw (first-served passwords first rows right) (lines_from passwords rows bounds.0 bounds.1 [] lines (start_faithful passwords rows))
