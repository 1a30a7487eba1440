use Rattle.std.proofs.Common.{◌∙◌}
use Rattle.window.specs.PasswordAt.{password_at}
use Rattle.script.specs.LineLaws.{pending-long, pending-short}
use Rattle.script.proofs.serving.serve_pending.Goals as goal

pub returns-in-Some-clause-serves : goal.returns-in-Some-clause-serves
returns-in-Some-clause-serves c = λ p held. pending-short password_at p (c.in-Some.ensures.value ∙ held) c.serve.ensures.serves

pub returns-in-None-clause-serves : goal.returns-in-None-clause-serves
returns-in-None-clause-serves c = λ p held.
    pending-long password_at p (c.in-None.ensures.value ∙ held) c.args.table.now.stage.fresh c.args.table.now.stage.rows c.args.table.now.bytes c.put.ensures
