use Rattle.call_lines.specs.LineLaws.{read_none, read_as, line-long, line-message, line-call}
use Rattle.call_lines.proofs.line_answer.Goals as goal

pub returns-then-line-gt-LONGEST : goal.returns-then-line-gt-LONGEST
returns-then-line-gt-LONGEST c = read_none _ _ (line-long _ c.if-line-gt-LONGEST.true)

pub returns-then-same : goal.returns-then-same
returns-then-same c = read_as _ _ c.message_line.ensures (line-message _ c.if-line-gt-LONGEST.false c.field.ensures c.same.ensures c.if-same.true)

pub returns : goal.returns
returns c = read_as _ _ c.call_line.ensures (line-call _ c.if-line-gt-LONGEST.false c.field.ensures c.same.ensures c.if-same.false)
