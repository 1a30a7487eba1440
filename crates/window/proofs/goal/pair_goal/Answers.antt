use Rattle.window.specs.Goal.{pair_goal}
use Rattle.window.specs.GoalLaws.{ten_above}
use Rattle.std.proofs.Common.{arith}
use Rattle.window.proofs.goal.pair_goal.Goals as goal

pub nonzero_rem-result : goal.nonzero_rem-result
nonzero_rem-result c = let above = ten_above c.args.p.digits c.ten_to-modulus.ensures in omega arith

pub nonzero_rem-result-2 : goal.nonzero_rem-result-2
nonzero_rem-result-2 c = let above = ten_above c.args.p.digits c.ten_to-modulus.ensures in omega arith

pub returns : goal.returns
unfolding pair_goal
returns c = rw c.ten_to-modulus.ensures
