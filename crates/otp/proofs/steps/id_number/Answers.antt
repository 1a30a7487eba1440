use Rattle.otp.proofs.steps.id_number.Goals as goal

pub returns-else-timed : goal.returns-else-timed
returns-else-timed c = rw c.if-timed.false
