use Rattle.std.proofs.Common.{◌≡◌, false, is_ok, rules}
use Rattle.lines.specs.TurnLaws.{on_ok, from_ok}
use Rattle.window.specs.PasswordAt.{password_at}
use Rattle.desk_lines.specs.InputLaws.{input_stopped, input-ended}
use Rattle.desk_lines.specs.PassLaws.{passes_all}
use Rattle.desk_lines.proofs.input.serve_input.Goals as goal

pub returns-in_err-serve_pieces-clause-serves_input : goal.returns-in_err-serve_pieces-clause-serves_input
returns-in_err-serve_pieces-clause-serves_input g c =
    let failed : is_ok c.from_residual.result ≡ false = search rules in
    rw failed (input_stopped password_at c.serve_pieces.ensures.leaves)

pub returns-clause-serves_input : goal.returns-clause-serves_input
returns-clause-serves_input g c = input-ended password_at (is_ok c.write_all.result) c.serve_pieces.ensures.leaves c.finish-end.ensures.by_index

pub returns-clause-serves_all : goal.returns-clause-serves_all
returns-clause-serves_all g c =
    let served = c.in_ok-serve_pieces.ensures in
    on_ok c.write_all.result
    (λ done.
    passes_all password_at (g.W.Write.contents c.write_all.new.self) served.passes served.end c.finish-end.ensures.by_index
    (from_ok c.write_all.result c.write_all.ensures.bytes done))
