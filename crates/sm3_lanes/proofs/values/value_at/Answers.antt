use Rattle.sm3_lanes.specs.FourLaws.{value-at}
use Rattle.sm3_lanes.proofs.values.value_at.Goals as goal

pub returns : goal.returns
returns c = value-at c.args.l c.args.s.now
