-- A list of what is read into calls or refused before (document 02, Ask 1), each on the table as the last one left it.
use Rattle.token.specs.Answers.{Answer}
use Rattle.std.specs.Prelude.{ℕ, List, [], ◌∷◌, Err}
use Rattle.window.specs.PasswordAt.{PasswordRule}
use Rattle.desk.specs.Requests.{DeskCall}
use Rattle.desk.specs.Desk.{Run, preceded}
use Rattle.desk.specs.Reads.{Reads, read_after}

unfoldable pub run_reads : PasswordRule → List Reads → List ℕ → Run
run_reads passwords [] s = record { answers = []; table = s }
run_reads passwords (r ∷ asked) s = preceded (read_after passwords r s).answer (run_reads passwords asked (read_after passwords r s).table)

-- the calls that are served: what the ledger machine is fed
abbrev pub calls_in : List Reads → List DeskCall
calls_in [] = []
calls_in (Reads.serves call ∷ asked) = call ∷ calls_in asked
calls_in (Reads.refuses refusal ∷ asked) = calls_in asked

-- the answers to these calls, with the refusals of the others in their places
unfoldable pub in_place : List Reads → List Answer → List Answer
in_place [] answers = []
in_place (Reads.refuses refusal ∷ asked) answers = Err refusal ∷ in_place asked answers
in_place (Reads.serves call ∷ asked) [] = []
in_place (Reads.serves call ∷ asked) (answer ∷ answers) = answer ∷ in_place asked answers

abbrev pub with_refusals : List Reads → Run → Run
with_refusals asked r = record { answers = in_place asked r.answers; table = r.table }
