use Rattle.window.proofs.checks.counts_right.Goals as goal

pub returns-in-One : goal.returns-in-One
returns-in-One c = rw c.in-One.is

pub returns-in-Challenged : goal.returns-in-Challenged
returns-in-Challenged c = rw c.in-Challenged.is

pub returns-in-Two : goal.returns-in-Two
returns-in-Two c = rw c.in-Two.is
