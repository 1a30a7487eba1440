use Rattle.sm3_lanes.specs.FourLaws.{all_none, all_more}
use Rattle.sm3_lanes.proofs.rounds.rounds.Goals as goal

pub loop-k-init : goal.loop-k-init
loop-k-init g c = all_none c.args.first c.args.s.now c.args.w.now

pub loop-k-preserved : goal.loop-k-preserved
loop-k-preserved g c = all_more c.args.first c.loop-k.k _ _ _ _ _ _ c.loop-k.auto.k c.loop-k.invariant c.four_lanes.ensures
