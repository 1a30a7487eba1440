use Rattle.std.proofs.Common.{arith}
use Rattle.sm4.specs.Sm4.{linear, step}
use Rattle.sm4_lanes.specs.LanesLaws.{map_at}
use Rattle.sm4_lanes.proofs.rounds.step_each.Goals as goal

pub loop-l-preserved : goal.loop-l-preserved
loop-l-preserved g c = map_at (step linear c.args.key) c.args.blocks c.loop-l.s c.loop-l.l _ (omega arith) c.loop-l.invariant c.step.ensures
