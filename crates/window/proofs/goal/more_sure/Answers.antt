use Rattle.std.proofs.Common.{arith}
use Rattle.window.proofs.goal.more_sure.Goals as goal

pub returns-then-left-begins : goal.returns-then-left-begins
returns-then-left-begins c = record { value = rw (← c.begins.ensures, c.if-left-begins.true); lower_bound = omega arith; upper_bound = omega arith }

pub returns-else-left-begins : goal.returns-else-left-begins
returns-else-left-begins c = record { value = rw (← c.begins.ensures, c.if-left-begins.false); lower_bound = omega arith; upper_bound = omega arith }
