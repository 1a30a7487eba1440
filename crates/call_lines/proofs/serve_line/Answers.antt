use Rattle.call_lines.specs.LineLaws.{line-left}
use Rattle.call_lines.proofs.serve_line.Goals as goal

pub returns-clause-table_after : goal.returns-clause-table_after
returns-clause-table_after c = rw c.answer_text.ensures (line-left _ _ _ c.line_answer.ensures)
