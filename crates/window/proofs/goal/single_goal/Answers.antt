use Rattle.window.specs.Goal.{single_goal}
use Rattle.window.specs.GoalLaws.{ten_above}
use Rattle.std.proofs.Common.{arith}
use Rattle.window.proofs.goal.single_goal.Goals as goal

pub nonzero_rem-result : goal.nonzero_rem-result
nonzero_rem-result c = let above = ten_above c.args.p.digits c.ten_to-modulus.ensures in omega arith

pub returns : goal.returns
unfolding single_goal
returns c = rw c.ten_to-modulus.ensures
