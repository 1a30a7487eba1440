use Rattle.std.proofs.Common.{◌*◌, arith}
use Rattle.sm3_lanes.specs.FourLaws.{part_none, part_more, part-all}
use Rattle.sm3_lanes.proofs.rounds.four_lanes.Goals as goal

pub loop-l-init : goal.loop-l-init
loop-l-init g c = part_none (4 * c.args.k) c.args.s.now c.args.w.now

pub loop-l-preserved : goal.loop-l-preserved
loop-l-preserved g c = part_more _ _ _ _ _ _ _ _ c.loop-l-test.true c.loop-l.invariant c.four_rounds.ensures

pub returns : goal.returns
returns g c = part-all _ _ _ _ _ _ (omega arith) c.loop-l.invariant
