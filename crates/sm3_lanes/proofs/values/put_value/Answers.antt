use Rattle.std.proofs.Common.{refl, arith}
use Rattle.sm3_lanes.specs.FourLaws.{put_eight}
use Rattle.sm3_lanes.proofs.values.put_value.Goals as goal

pub returns : goal.returns
returns c = put_eight c.args.s.now c.args.l c.args.r c.requires (omega arith) refl refl refl refl refl refl refl refl
