use Rattle.window.specs.PasswordAt.{password_at}
use Rattle.script.specs.LineLaws.{table-printed, call-printed}
use Rattle.script.proofs.serving.serve_later.Goals as goal

pub returns-then-same-clause-put : goal.returns-then-same-clause-put
returns-then-same-clause-put c =
    (table-printed password_at c.args.line.now c.args.table.now c.args.rows c.requires.rows_value c.same.ensures c.if-same.true c.put_rows.ensures.put).0

pub returns-then-same-clause-table_after : goal.returns-then-same-clause-table_after
returns-then-same-clause-table_after c =
    (table-printed password_at c.args.line.now c.args.table.now c.args.rows c.requires.rows_value c.same.ensures c.if-same.true c.put_rows.ensures.put).1

pub returns-clause-put : goal.returns-clause-put
returns-clause-put c =
    (call-printed password_at c.args.line.now c.args.table.now c.args.rows c.requires.rows_value c.same.ensures c.if-same.false c.put_answer.ensures.put
    c.put_answer.ensures.table_after).0

pub returns-clause-table_after : goal.returns-clause-table_after
returns-clause-table_after c =
    (call-printed password_at c.args.line.now c.args.table.now c.args.rows c.requires.rows_value c.same.ensures c.if-same.false c.put_answer.ensures.put
    c.put_answer.ensures.table_after).1
