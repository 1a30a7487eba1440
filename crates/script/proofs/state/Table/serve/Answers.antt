use Rattle.std.proofs.Common.{arith}
use Rattle.window.specs.PasswordAt.{password_at}
use Rattle.script.specs.LineLaws.{rows_made, line_made}
use Rattle.script.proofs.state.Table.serve.Goals as goal

pub returns-in-Some-clause-serves : goal.returns-in-Some-clause-serves
returns-in-Some-clause-serves c =
    rows_made password_at c.args.self.now.stage.fresh c.args.self.now.stage.rows c.args.line.now c.args.self.now.bytes c.asked_rows.ensures.value
    c.args.out.now c.args.at c.in-Some.is (omega arith) c.clear.ensures

pub returns-clause-serves : goal.returns-clause-serves
returns-clause-serves c =
    line_made password_at c.args.self.now.stage.fresh c.args.self.now.stage.rows c.args.line.now c.args.self.now.bytes c.asked_rows.ensures.value
    c.in_default.is (omega arith) c.serve_later.auto.table c.serve_later.ensures.put c.serve_later.ensures.table_after
