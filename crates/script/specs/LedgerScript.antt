-- What a script prints is the ledger machine's: its answers to the script's calls and, for a line `table`, its table. This page has the statement;
-- `LedgerScriptLaws` has the proof.
use Rattle.token.specs.Answers.{Answer}
use Rattle.std.specs.Prelude.{ℕ, ◌≡◌, cond, List, [], ◌∷◌, ◌++◌, Err, Some}
use Rattle.lines.specs.Lines.{line_feed, lines_of}
use Rattle.window.specs.PasswordAt.{PasswordRule}
use Rattle.desk.specs.Reads.{Reads}
use Rattle.ledger.specs.Ledger.{Entry, answer_to, table_of}
use Rattle.call_lines.specs.Line.{reads_of, answer_text}
use Rattle.script.specs.Script.{table_text, rows_of, is_table, output_of}

-- the machine's answer to a call; what is refused before there is one is no call
abbrev pub ledger_answer : PasswordRule → ℕ → List Entry → Reads → Answer
ledger_answer passwords rows history (Reads.serves call) = answer_to passwords rows history call
ledger_answer passwords rows history (Reads.refuses refusal) = Err refusal

-- calls alone enter its history
abbrev pub ledger_history : PasswordRule → ℕ → List Entry → Reads → List Entry
ledger_history passwords rows history (Reads.serves call) = record { call = call; answer = answer_to passwords rows history call } ∷ history
ledger_history passwords rows history (Reads.refuses refusal) = history

-- what the machine has printed for the lines behind `rows,N`
unfoldable pub ledger_text : PasswordRule → ℕ → List Entry → List (List ℕ) → List ℕ
ledger_text passwords rows history [] = []
ledger_text passwords rows history (line ∷ lines) =
    cond (is_table line)
    (table_text (table_of passwords rows history) ++ ledger_text passwords rows history lines)
    ((answer_text (ledger_answer passwords rows history (reads_of line)) ++ (line_feed ∷ [])) ++ ledger_text passwords rows (ledger_history passwords rows history (reads_of line)) lines)

-- every input whose first line is a right `rows` line
abbrev pub ScriptIsLedger : Type 0
ScriptIsLedger =
    (passwords : PasswordRule) (input first : List ℕ) (lines : List (List ℕ)) (rows : ℕ) → lines_of input ≡ first ∷ lines → rows_of first ≡ Some rows
    → output_of passwords input ≡ ledger_text passwords rows [] lines
