use Rattle.std.proofs.Common.{rules}
use Rattle.words.specs.BoolLaws.{clash}
use Rattle.window.specs.PasswordAt.{password_at}
use Rattle.script.specs.Script.{stage_of}
use Rattle.script.specs.LineLaws.{end_none, end_line}
use Rattle.script.proofs.stream.finish.Goals as goal

pub returns-then-is_empty-clause-by_index : goal.returns-then-is_empty-clause-by_index
returns-then-is_empty-clause-by_index c = λ p held.
    end_none password_at (stage_of c.args.table.now) c.args.out.now p held (c.is_empty.ensures.0 (search rules))

pub returns-clause-by_index : goal.returns-clause-by_index
returns-clause-by_index c = λ p held.
    end_line password_at p held (λ e. let t = c.is_empty.ensures.1 e in clash t c.if-is_empty.false) (c.serve_pending.ensures.serves p held)
