use Rattle.otp.specs.StepCuts.{step_block}
use Rattle.otp.proofs.cuts.block_of.Goals as goal

pub returns-then-timed : goal.returns-then-timed
unfolding step_block
returns-then-timed c = rw c.if-timed.true

pub returns-else-timed : goal.returns-else-timed
unfolding step_block
returns-else-timed c = rw c.if-timed.false
