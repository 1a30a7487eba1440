use Rattle.std.proofs.Common.{sym, ◌∙◌, rules}
use Rattle.words.specs.BoolLaws.{clash}
use Rattle.otp_lines.specs.FeedLaws.{finish_none, finish_line}
use Rattle.otp_lines.proofs.stream.finish.Goals as goal

pub returns-then-is_empty-clause-printed : goal.returns-then-is_empty-clause-printed
returns-then-is_empty-clause-printed c = λ p h. finish_none p (sym (c.is_empty.ensures.0 (search rules)) ∙ h)

pub returns-clause-printed : goal.returns-clause-printed
returns-clause-printed c = λ p h. finish_line c.args.out.now p h (λ e. let t = c.is_empty.ensures.1 e in clash t c.if-is_empty.false) (c.put_pending.ensures.put p h)
