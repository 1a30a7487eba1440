use Rattle.token.proofs.states.repeated.Goals as goal

pub returns-then-forgives : goal.returns-then-forgives
returns-then-forgives c = rw c.if-forgives.true

pub returns : goal.returns
returns c = rw c.if-forgives.false c.failed.ensures
