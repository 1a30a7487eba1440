use Rattle.sm3.specs.PaddingLaws.{last_blocks_one, last_blocks_two}
use Rattle.sm3.proofs.padding.last_blocks.Goals as goal

pub returns-then-len-lt56 : goal.returns-then-len-lt56
returns-then-len-lt56 c = last_blocks_one c.args.len c.if-len-lt56.true

pub returns-else-len-lt56 : goal.returns-else-len-lt56
returns-else-len-lt56 c = last_blocks_two c.args.len c.if-len-lt56.false
