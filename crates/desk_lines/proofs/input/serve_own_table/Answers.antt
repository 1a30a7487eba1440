use Rattle.lines.specs.TurnLaws.{on_ok, from_ok}
use Rattle.window.specs.PasswordAt.{password_at}
use Rattle.script.specs.Script.{stage_of}
use Rattle.desk_lines.specs.PassLaws.{output_printed}
use Rattle.desk_lines.proofs.input.serve_own_table.Goals as goal

pub returns-clause-output : goal.returns-clause-output
returns-clause-output g c =
    let served = c.serve_input in
    on_ok served.result
    (λ ok.
    output_printed password_at (g.R.Read.remaining c.args.input.now) (g.W.Write.contents c.args.to.now) (g.W.Write.contents served.new.to)
    (stage_of served.new.table) (from_ok served.result served.ensures.serves_all ok))
