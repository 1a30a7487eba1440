use Rattle.desk.proofs.arguments.lent_ok.Goals as goal

pub returns : goal.returns
returns c = rw c.table_ok.ensures
