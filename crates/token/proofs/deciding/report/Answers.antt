use Rattle.token.proofs.deciding.report.Goals as goal

pub returns : goal.returns
returns c = rw (c.telling.ensures, c.line_of.ensures, c.waited.ensures)
