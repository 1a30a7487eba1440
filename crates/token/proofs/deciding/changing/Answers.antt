use Rattle.token.proofs.deciding.changing.Goals as goal

pub returns : goal.returns
returns c = rw c.left_by.ensures
