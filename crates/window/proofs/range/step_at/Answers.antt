use Rattle.window.proofs.range.step_at.Goals as goal

pub returns-then-period-eq30 : goal.returns-then-period-eq30
returns-then-period-eq30 c = rw c.if-period-eq30.true

pub returns-then-period-eq60 : goal.returns-then-period-eq60
returns-then-period-eq60 c = rw c.if-period-eq60.true
