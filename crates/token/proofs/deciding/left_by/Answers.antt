use Rattle.token.proofs.deciding.left_by.Goals as goal

pub returns-in-Voided : goal.returns-in-Voided
returns-in-Voided c = rw (c.in-Voided.is, c.with_state-in-Voided.ensures)
