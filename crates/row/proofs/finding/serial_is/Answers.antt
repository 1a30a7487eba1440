use Rattle.row.proofs.finding.serial_is.Goals as goal

pub returns : goal.returns
returns c = rw c.le_eight.ensures
