use Rattle.sm3_lanes.specs.FourLaws.{starts_spread}
use Rattle.sm3_lanes.proofs.values.spread.Goals as goal

pub returns : goal.returns
returns c = starts_spread c.args.v
