use Rattle.sm3_lanes.specs.FourLaws.{round_lane}
use Rattle.sm3_lanes.proofs.rounds.lane_round.Goals as goal

pub returns : goal.returns
returns g c = round_lane c.args.j c.args.l c.args.w.now c.args.r c.requires.j_bound c.round.ensures
